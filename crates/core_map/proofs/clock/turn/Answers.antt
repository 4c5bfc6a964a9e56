use Rattle.core_map.proofs.Turning.{bound_after}
use Rattle.core_map.proofs.clock.turn.Goals as goal

pub first_from-requires-clause-bound : goal.first_from-requires-clause-bound
first_from-requires-clause-bound c = rw c.deref.ensures.value (bound_after c.requires.bound c.in_default.ensures
    c.in_default-pass.ensures)
