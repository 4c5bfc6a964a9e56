use Rattle.drill.proofs.Prelude.{IsPassOf, ◌≡◌}
use Rattle.drill.proofs.worker.try_add.Given as goal

abbrev pub invariant-loop : goal.invariant-loop
invariant-loop l = IsPassOf l.pages l.pass × (l.pass.walker.walk.cpu ≡ l.fn.pass.walker.walk.cpu)
    × (l.pass.walker.made ≡ l.fn.pass.walker.made)
