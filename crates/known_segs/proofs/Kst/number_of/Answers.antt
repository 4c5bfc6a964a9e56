use Rattle.known_segs.proofs.Prelude.{subst, HasOneNumberEach}
use Rattle.known_segs.proofs.Numbers.{numbered, unknown_is}
use Rattle.known_segs.proofs.Kst.number_of.Goals as goal

pub returns-clause-only : goal.returns-clause-only
returns-clause-only c = numbered _ _ _ (subst HasOneNumberEach c.self.view_is c.self.invariant.1)
    (rw (← c.self.view_is) c.number_of.ensures.number)

pub returns-clause-unknown : goal.returns-clause-unknown
returns-clause-unknown c = unknown_is _ _ _ (rw (← c.self.view_is) c.number_of.ensures.number)
