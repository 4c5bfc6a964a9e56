use Rattle.flat_store.proofs.Prelude.{◌≡◌, ℕ, cond, Option, is_some, refl, Plan, uid_of, terminate_reply, Store, IsShown, numbers_at}
use Rattle.book.specs.declared.replies.Reply.TheVariants as reply
use Rattle.flat_store.proofs.store.FlatStore.terminate_reply.Goals.{After-deref}
use Rattle.flat_store.proofs.store.FlatStore.terminate_reply.Goals as goal

-- the reply, by what the number stands for
told : (c : After-deref) (s : Store) {p : Plan} → IsShown p c.args.self.now s → {uid : Option ℕ}
    → uid ≡ uid_of (numbers_at c.deref.result.now c.args.process) c.args.number
    → cond (is_some uid) reply.Done reply.Unknown ≡ terminate_reply s c.args.process c.args.number
unfolding terminate_reply
told c s h is = rw (h.known, ← c.self.view_is, ← c.deref.ensures.value, ← is) refl

pub returns-in-Some : goal.returns-in-Some
returns-in-Some c = λ p s h. told (goal.at.returns-in-Some c).After-deref s h c.in-Some.ensures.uid

pub returns-in-None : goal.returns-in-None
returns-in-None c = λ p s h. told (goal.at.returns-in-None c).After-deref s h c.in-None.ensures.uid
