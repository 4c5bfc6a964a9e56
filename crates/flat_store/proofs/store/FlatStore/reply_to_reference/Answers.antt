use Rattle.flat_store.proofs.Prelude.{◌≡◌, ℕ, Option, refl, sym, arith, numbers_of, uid_of, reply_to_reference, Store, IsShown, numbers_at}
use Rattle.flat_store.proofs.StoreLaws.{nobody_knows}
use Rattle.flat_store.proofs.store.FlatStore.reply_to_reference.Goals.{After-deref}
use Rattle.flat_store.proofs.store.FlatStore.reply_to_reference.Goals as goal

pub returns-then-process-processes : goal.returns-then-process-processes
unfolding reply_to_reference
returns-then-process-processes c = λ s h. rw (nobody_knows h c.args.process c.args.reference.now.number
    (omega (arith, c.processes.ensures.count, c.if-process-processes.true))) refl

-- what the number stands for
uid : (c : After-deref) (s : Store) → IsShown c.args.script.now c.args.self.now s → {o : Option ℕ}
    → o ≡ uid_of (numbers_at c.deref.result.now c.args.process) c.args.reference.now.number
    → uid_of (numbers_of s c.args.process) c.args.reference.now.number ≡ o
uid c s h is = rw (h.known, ← c.self.view_is, ← c.deref.ensures.value) (sym is)

pub returns-in-Some : goal.returns-in-Some
unfolding reply_to_reference
returns-in-Some c = λ s h. rw (uid (goal.at.returns-in-Some c).After-deref s h c.in-Some.ensures.uid)
    (c.reply_at.ensures c.args.script.now s c.args.process (rw (← c.self.view_is) at h).holds c.who-who.ensures)

pub returns-in-None : goal.returns-in-None
unfolding reply_to_reference
returns-in-None c = λ s h. rw (uid (goal.at.returns-in-None c).After-deref s h c.in-None.ensures.uid) refl
