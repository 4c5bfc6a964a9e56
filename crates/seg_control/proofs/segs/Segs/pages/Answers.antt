use Rattle.seg_control.proofs.Under.{now_is, parts_rest, under_way}
use Rattle.seg_control.proofs.segs.Segs.pages.Goals as goal

pub returns-clause-pages : goal.returns-clause-pages
returns-clause-pages g c = rw (← c.self.view_is) (now_is c.self.invariant)

pub returns-clause-parts : goal.returns-clause-parts
returns-clause-parts g c =
    rw (← c.self.view_is) (parts_rest c.self.invariant (rw c.volumes.ensures.volumes at c.promise.ensures.parts))

pub returns-clause-moving : goal.returns-clause-moving
returns-clause-moving g c = rw (← c.self.view_is) (under_way c.self.invariant)
