use Rattle.known_segs.proofs.Prelude.{arith}
use Rattle.known_segs.proofs.PlaceLaws.{free_is_kept, free_is_next, free_is_none, size_is}
use Rattle.known_segs.proofs.places.Places.least_free.Goals as goal

pub returns-in-Some-clause-number : goal.returns-in-Some-clause-number
returns-in-Some-clause-number c = free_is_kept c.self.view_is c.deref.ensures.value c.in-Some.ensures.number

pub returns-in-Some-clause-size : goal.returns-in-Some-clause-size
returns-in-Some-clause-size c = size_is _ _ c.self.view_is (omega arith)

pub returns-in-None-clause-number : goal.returns-in-None-clause-number
returns-in-None-clause-number c = free_is_next c.self.view_is c.deref.ensures.value c.in-None.ensures.number
    (omega arith) (omega arith)

pub returns-in-None-clause-size : goal.returns-in-None-clause-size
returns-in-None-clause-size c = size_is _ _ c.self.view_is (omega arith)

pub returns-in-None-2-clause-number : goal.returns-in-None-2-clause-number
returns-in-None-2-clause-number c = free_is_none c.self.view_is c.deref.ensures.value c.in-None-2.ensures.number
    (omega arith)

pub returns-in-None-2-clause-size : goal.returns-in-None-2-clause-size
returns-in-None-2-clause-size c = size_is _ _ c.self.view_is (omega arith)
