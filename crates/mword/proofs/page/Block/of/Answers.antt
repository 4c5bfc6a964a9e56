use Rattle.mword.proofs.Prelude.{length, ap, subst, sym, ◌∙◌, AreWords}
use Rattle.mword.proofs.page.Block.of.Goals as goal

pub invariant_of-result : goal.invariant_of-result
invariant_of-result c = subst AreWords (sym (c.in-Some.ensures.cases.same ∙ c.deref.ensures.value)) c.page.invariant.1

pub returns-clause-words : goal.returns-clause-words
returns-clause-words c =
    let a = c.in-Some.ensures.cases.same in let b = c.deref.ensures.value in let d = c.page.view_is in cc

pub returns-clause-size : goal.returns-clause-size
returns-clause-size c = ap length c.in-Some.ensures.cases.same ∙ c.in-Some.ensures.cases.long
