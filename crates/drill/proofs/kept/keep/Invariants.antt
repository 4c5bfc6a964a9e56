use Rattle.drill.proofs.Prelude.{IsKept, ◌≡◌}
use Rattle.drill.proofs.kept.keep.Given as goal

abbrev pub invariant-loop-r : goal.invariant-loop-r
invariant-loop-r g l = IsKept l.pages l.kept × (l.kept.keeper.holder.watch.request ≡ l.r)
