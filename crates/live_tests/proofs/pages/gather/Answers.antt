use Rattle.live_tests.proofs.Prelude.{AreAll, IfSome_then, List, PagesModel, PassModel, [], arith, subst, sym, ◌∙◌, ◌∷◌, ◌≡◌, ◌≢◌}
use mathlib.Core.Logic.{dite}
use native.Mathlib.Decide.{ℕ_discrete}
use Rattle.live_tests.proofs.pages.gather.Goals as goal

two_are_all : (pages : PagesModel) (zero one : PassModel) (items : List PassModel)
    → pages.cpus ≡ 2 → zero.walker.walk.cpu ≡ 0 → one.walker.walk.cpu ≡ 1 → items ≡ zero ∷ one ∷ [] → AreAll pages items
two_are_all pages zero one items two a b is = subst (AreAll pages)
    (sym is) (λ cpu inside. dite (ℕ_discrete cpu 0) (λ (here : cpu ≡ 0). (0, omega arith, λ d. a ∙ sym here))
    (λ (other : cpu ≢ 0). let at : 1 ≡ cpu = omega arith in (1, omega arith, λ d. b ∙ at)))

pub returns-clause-all : goal.returns-clause-all
returns-clause-all c = IfSome_then c.row.result c.row.ensures (λ v is.
    two_are_all c.args.pages.now c.args.zero c.args.one v.items c.requires.count c.requires.cpus.0 c.requires.cpus.1 is)
