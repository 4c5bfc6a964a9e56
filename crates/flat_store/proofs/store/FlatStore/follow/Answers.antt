use Rattle.std.proofs.lemmas.Grind.{common_steps}
use Rattle.flat_store.proofs.Prelude.{arith, nat_tests, on_ok, IsLawful, after_entry}
use Rattle.flat_store.proofs.FollowLaws.{quiet}
use Rattle.flat_store.proofs.store.FlatStore.follow.Goals as goal

pub returns-in-Some-clause-ok : goal.returns-in-Some-clause-ok
unfolding IsLawful after_entry
returns-in-Some-clause-ok c = on_ok c.follow_do.result _ _ (λ f s h lawful. rw (c.in-Do.is, c.in-Some.ensures.some)
    (f s c.in-Do.place h c.in-Some.ensures.some (rw c.in-Do.is at lawful))) c.follow_do.ensures.ok

pub returns-in-None-clause-ok : goal.returns-in-None-clause-ok
unfolding after_entry
returns-in-None-clause-ok c = λ s h lawful. rw (c.in-Do.is, c.in-None.ensures.none) h

pub returns-in-Release-clause-ok : goal.returns-in-Release-clause-ok
unfolding IsLawful after_entry
returns-in-Release-clause-ok c = λ s h lawful.
    rw c.in-Release.is (c.follow_release.ensures c.args.script.now s h (rw c.in-Release.is at lawful))

pub returns-in-Fault-clause-ok : goal.returns-in-Fault-clause-ok
unfolding IsLawful after_entry
returns-in-Fault-clause-ok c = λ s h lawful.
    rw c.in-Fault.is (c.follow_fault.ensures c.args.script.now s h (rw c.in-Fault.is at lawful))

pub returns-in-Moved-clause-ok : goal.returns-in-Moved-clause-ok
unfolding IsLawful after_entry
returns-in-Moved-clause-ok c = λ s h lawful. rw c.in-Moved.is
    (c.follow_moved.ensures c.args.script.now s c.in-Moved.process h (rw c.in-Moved.is at lawful))

pub returns-in_default : goal.returns-in_default
returns-in_default c = grind (arith, nat_tests, common_steps, quiet)
