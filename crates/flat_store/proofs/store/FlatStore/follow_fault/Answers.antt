use Rattle.flat_store.proofs.FollowLaws.{fault_shown}
use Rattle.flat_store.proofs.store.FlatStore.follow_fault.Goals as goal

pub returns-in-Some : goal.returns-in-Some
returns-in-Some c = λ p s h may. rw c.in-Some.is
    (fault_shown c.in-Some.process (rw (← c.self.view_is) at h) c.fault.ensures (rw c.in-Some.is at may))
