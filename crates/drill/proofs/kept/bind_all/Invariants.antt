use Rattle.drill.proofs.Prelude.{IsKept, slice_index, ℕ, ◌<◌, ◌≡◌, ◌≤◌}
use Rattle.drill.proofs.kept.bind_all.Given as goal

abbrev pub invariant-loop-f : goal.invariant-loop-f
invariant-loop-f l = IsKept l.pages l.kept × (l.kept.keeper.holder.watch.request ≡ 0)
    × (l.kept.bindings ≡ l.f) × ((g : ℕ) → l.f ≤ g → g < l.frames → slice_index l.kept.keeper.holder.watch.doors g ≡ 1)
