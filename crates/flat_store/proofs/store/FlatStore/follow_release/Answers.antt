use Rattle.flat_store.proofs.FollowLaws.{held_shown}
use Rattle.flat_store.proofs.store.FlatStore.follow_release.Goals as goal

pub returns : goal.returns
returns c = λ p s h may.
    let shown = rw (← c.self.view_is) at h in
    held_shown shown (c.release.ensures p s shown.shown.holds may)
