use Rattle.live_tests.proofs.Prelude.{All, IfSome_then, List, PagesModel, PassModel, [], ap, arith, first_passes, first_walker, get_or, length, refl, subst, sym, ℕ, ◌<◌, ◌∙◌, ◌≡◌}
use Rattle.live_pages.specs.Models.{IsPassOf}
use Rattle.live_tests.proofs.pages.first_two.Goals as goal

first_is : (pages : PagesModel) (items : List PassModel) → items ≡ first_passes pages 2
    → All (IsPassOf pages) items → (x : PassModel) (k cpu : ℕ) → k < 2 → get_or (first_passes pages 2) k x ≡ record {
      table = pages.table;
      walker =
          first_walker pages.frames pages.cpus cpu;
    } → x ≡ get_or items k x
    → IsPassOf pages x × (x.walker.made ≡ []) × (x.walker.walk.cpu ≡ cpu)
first_is pages items is all x k cpu inside new at =
    let count : length items ≡ 2 = ap (λ (l : List PassModel). length l) is in
    let e : x ≡ record { table = pages.table; walker = first_walker pages.frames pages.cpus cpu } = at
    ∙ ap (λ l. get_or l k x) is ∙ new in
    (subst (IsPassOf pages) (sym at) (all k x (omega arith)), ap (λ p. p.walker.made) e, ap (λ p. p.walker.walk.cpu) e)

pub returns-clause-zero : goal.returns-clause-zero
returns-clause-zero c = IfSome_then c.both.result c.both.ensures (λ x at.
    first_is c.args.pages.now c.args.passes.items c.requires.first c.requires.of x.0 0 0 (omega arith) refl (at x.0).0)

pub returns-clause-one : goal.returns-clause-one
returns-clause-one c = IfSome_then c.both.result c.both.ensures (λ x at.
    first_is c.args.pages.now c.args.passes.items c.requires.first c.requires.of x.1 1 1 (omega arith) refl (at x.1).1)
