use Rattle.machine.proofs.Prelude.{over_complete}
use Rattle.machine.proofs.Laws.{over_ended, over_still}
use Rattle.machine.proofs.machine.Machine.ended.Goals as goal

pub returns-clause-ended : goal.returns-clause-ended
returns-clause-ended g c = rw (c.is_over.ensures, ← c.self.view_is) (over_ended _ c.self.invariant.keeps)

pub returns-clause-complete : goal.returns-clause-complete
returns-clause-complete g c = rw (c.is_over.ensures, ← c.self.view_is) (over_complete _ c.self.invariant.keeps)

pub returns-clause-still : goal.returns-clause-still
returns-clause-still g c = rw (c.is_over.ensures, ← c.self.view_is) (over_still c.self.invariant)
