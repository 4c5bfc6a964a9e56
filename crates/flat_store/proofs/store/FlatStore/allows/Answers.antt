use Rattle.std.proofs.lemmas.Grind.{common_steps}
use Rattle.flat_store.proofs.Prelude.{arith, nat_tests, IsLawful}
use Rattle.flat_store.proofs.FollowLaws.{quiet_lawful}
use Rattle.flat_store.proofs.store.FlatStore.allows.Goals as goal

pub returns-in-Do : goal.returns-in-Do
unfolding IsLawful
returns-in-Do c = λ s h. rw c.in-Do.is (c.allows_do.ensures s h)

pub returns-in-Release : goal.returns-in-Release
unfolding IsLawful
returns-in-Release c = λ s h.
    rw c.in-Release.is (c.may_release.ensures c.args.script.now s (rw (← c.self.view_is) at h).shown.holds)

pub returns-in-Fault : goal.returns-in-Fault
unfolding IsLawful
returns-in-Fault c = λ s h. rw c.in-Fault.is (c.allows_fault.ensures c.args.script.now s h)

pub returns-in-Moved : goal.returns-in-Moved
unfolding IsLawful
returns-in-Moved c = λ s h. rw c.in-Moved.is (c.allows_moved.ensures s h)

pub returns-in_default : goal.returns-in_default
returns-in_default c = grind (arith, nat_tests, common_steps, quiet_lawful)
