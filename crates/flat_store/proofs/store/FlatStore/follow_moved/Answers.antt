use Rattle.flat_store.proofs.FollowLaws.{held_shown}
use Rattle.flat_store.proofs.MoveLaws.{awaited, room_there}
use Rattle.flat_store.proofs.store.FlatStore.follow_moved.Goals as goal

pub returns : goal.returns
returns c = λ p s k h may.
    let shown = rw (← c.self.view_is) at h in
    held_shown shown (c.rehome.ensures p s shown.shown.holds
    (awaited p s k c.args.uid shown.shown.holds.flat may.awaits) (room_there may))
