use Rattle.page_control.proofs.Prelude.{inl, inr, refl, rules}
use Rattle.page_control.proofs.Calls.{not_zero}
use Rattle.page_control.proofs.pages.Pages.leave.Goals as goal

pub returns-then-is_zero-clause-left : goal.returns-then-is_zero-clause-left
returns-then-is_zero-clause-left g c =
    record {
      zeros = (λ _. c.is_zero.ensures.zero.0 c.if-is_zero.true, λ _. refl);
      effect = search rules;
      word = search rules;
      long = c.is_zero.ensures.size;
      within = search rules;
    }

pub returns-in-Err-clause-left : goal.returns-in-Err-clause-left
returns-in-Err-clause-left g c =
    record {
      zeros = (λ same. cc, λ all. absurd (not_zero _ c.is_zero.ensures.zero c.if-is_zero.false all));
      effect = search rules;
      word = refl;
      long = c.is_zero.ensures.size;
      within = search rules;
    }

pub returns-clause-left : goal.returns-clause-left
returns-clause-left g c =
    record {
      zeros = (λ same. cc, λ all. absurd (not_zero _ c.is_zero.ensures.zero c.if-is_zero.false all));
      effect = search rules;
      word = search rules;
      long = c.is_zero.ensures.size;
      within = search rules;
    }

pub returns-in-Err-clause-no_call : goal.returns-in-Err-clause-no_call
returns-in-Err-clause-no_call g c = λ need. elim need [
  | inl all ↦ absurd (not_zero _ c.is_zero.ensures.zero c.if-is_zero.false all)
  | inr off ↦ (let sure = c.save.ensures.sure off in search rules)
]

pub returns-clause-no_call : goal.returns-clause-no_call
returns-clause-no_call g c = λ need. elim need [
  | inl all ↦ absurd (not_zero _ c.is_zero.ensures.zero c.if-is_zero.false all)
  | inr off ↦ (let same = c.save.ensures.no_call off in search rules)
]
