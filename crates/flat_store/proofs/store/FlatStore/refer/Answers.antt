use Rattle.std.proofs.lemmas.Grind.{common_steps}
use Rattle.flat_store.proofs.Prelude.{arith, nat_tests, ◌≡◌, ℕ, Option, sym, Plan, numbers_of, uid_of, reply_to_reference, after_reference, written_keeps, Store, IsShown, numbers_at}
use Rattle.flat_store.proofs.StoreLaws.{effect_shown}
use Rattle.flat_store.proofs.store.FlatStore.refer.Goals.{After-deref}
use Rattle.flat_store.proofs.store.FlatStore.refer.Goals as goal

-- what the number stands for
uid : (c : After-deref) (s : Store) {p : Plan} → IsShown p c.args.self.now s → {o : Option ℕ}
    → o ≡ uid_of (numbers_at c.deref.result.now c.args.process) c.args.reference.now.number
    → uid_of (numbers_of s c.args.process) c.args.reference.now.number ≡ o
uid c s h is = rw (h.known, ← c.self.view_is, ← c.deref.ensures.value) (sym is)

pub returns-in_ok-refer-clause-ok : goal.returns-in_ok-refer-clause-ok
unfolding after_reference reply_to_reference
returns-in_ok-refer-clause-ok c = grind (arith, nat_tests, common_steps, uid, effect_shown, written_keeps)

pub returns-in_default-clause-ok : goal.returns-in_default-clause-ok
unfolding after_reference
returns-in_default-clause-ok c = λ p s h effect held.
    rw (uid (goal.at.returns-in_default-clause-ok c).After-deref s h c.in_default.ensures.uid) h
