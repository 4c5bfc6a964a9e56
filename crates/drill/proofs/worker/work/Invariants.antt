use Rattle.drill.proofs.Prelude.{IsPassOf, deed, done, map, state_after, ◌+◌, ◌≡◌, ◌≤◌}
use Rattle.drill.proofs.worker.work.Given as goal

abbrev pub invariant-loop-i : goal.invariant-loop-i
invariant-loop-i g l = IsPassOf l.pages l.worker.pass × (l.worker.cpu ≡ l.fn.worker.cpu)
    × (l.worker.pass.walker.walk.cpu ≡ l.worker.cpu)
    × (l.worker.done ≡ l.i) × (map deed l.worker.pass.walker.made ≡ done l.frames (l.seed + l.worker.cpu) l.i)
    × (l.draws.state ≡ state_after l.i (l.seed + l.worker.cpu)) × (l.i ≤ l.adds)
