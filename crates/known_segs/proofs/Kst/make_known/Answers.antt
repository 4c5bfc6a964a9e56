use Rattle.known_segs.proofs.Prelude.{◌≡◌, subst, sym, ◌∙◌, List, ℕ, Option, Some, None, length-set, number_of, least_free}
use Rattle.known_segs.proofs.Numbers.{known_stays, known_is_some, given_is_some, none_is_full, once_given, free_some, number_none, kept_given}
use Rattle.known_segs.proofs.Kst.make_known.Goals as goal

pub returns-in-Some-clause-places : goal.returns-in-Some-clause-places
returns-in-Some-clause-places c = known_stays _ (rw (← c.self.view_is) c.in-Some.ensures.number)

pub returns-in-Some-clause-full : goal.returns-in-Some-clause-full
returns-in-Some-clause-full c =
    known_is_some _ _ _ 256 (subst (λ (kst : List (Option ℕ)). Some c.in-Some.number ≡ number_of kst c.args.uid)
    c.self.view_is c.in-Some.ensures.number)

pub returns-in_err-number-clause-full : goal.returns-in_err-number-clause-full
returns-in_err-number-clause-full c =
    let unknown : None ≡ number_of c.self.inside.places c.args.uid = sym c.in_default.is ∙ c.number_of.ensures.number in
    let full : None ≡ least_free c.self.inside.places = sym c.in_err-number.was ∙ c.least_free.ensures.number in
    (none_is_full _ c.from_residual.ensures (rw (← c.self.view_is) c.self.invariant.0) (rw (← c.self.view_is) unknown)
    (rw (← c.self.view_is) full))

pub invariant_of-self : goal.invariant_of-self
invariant_of-self c =
    let unknown : None ≡ number_of c.self.inside.places c.args.uid = sym c.in_default.is ∙ c.number_of.ensures.number in
    let least = sym c.in_ok-number.was ∙ c.least_free.ensures.number in
    rw c.set.ensures (
      length-set _ _ _ ∙ c.self.invariant.0,
      once_given _ _ c.self.invariant.1 (free_some _ _ (sym least)).0 (number_none _ (sym unknown)),
    )

pub returns-clause-full : goal.returns-clause-full
returns-clause-full c =
    let least = sym c.in_ok-number.was ∙ c.least_free.ensures.number in
    given_is_some _ _ _ (rw (← c.self.view_is) c.self.invariant.0)
    (subst (λ (kst : List (Option ℕ)). Some c.in_ok-number.number ≡ least_free kst) c.self.view_is least)

pub returns-clause-once : goal.returns-clause-once
returns-clause-once c = (invariant_of-self c).1

pub returns-clause-kept : goal.returns-clause-kept
returns-clause-kept c =
    let least = sym c.in_ok-number.was ∙ c.least_free.ensures.number in
    let empty = (free_some _ _ (sym least)).1 in
    rw (c.set.ensures, ← c.self.view_is) (kept_given c.self.inside.places c.in_ok-number.number c.args.uid empty)
