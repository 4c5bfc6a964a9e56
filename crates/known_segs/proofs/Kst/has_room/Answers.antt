use Rattle.known_segs.proofs.Numbers.{room_is}
use Rattle.known_segs.proofs.Kst.has_room.Goals as goal

pub returns : goal.returns
returns c = room_is c.args.self.now c.least_free.result _ (rw (← c.self.view_is) c.self.invariant.0)
    (rw (← c.self.view_is) c.least_free.ensures.number) c.is_some.ensures
