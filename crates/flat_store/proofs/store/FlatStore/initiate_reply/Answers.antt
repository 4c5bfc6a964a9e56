use Rattle.std.proofs.lemmas.Grind.{common_steps}
use Rattle.flat_store.proofs.Prelude.{arith, nat_tests, ◌≡◌, ℕ, Option, Plan, number_for, initiate_reply, known_or_full, Store, IsShown, numbers_at}
use Rattle.flat_store.proofs.store.FlatStore.initiate_reply.Goals.{After-deref}
use Rattle.flat_store.proofs.store.FlatStore.initiate_reply.Goals as goal

-- the number of the segment, if there is one, and the reply by it
told : (c : After-deref) (s : Store) {p : Plan} → IsShown p c.args.self.now s → {number : Option ℕ}
    → number ≡ number_for (numbers_at c.deref.result.now c.args.process) c.in-Ok.node.now.uid
    → known_or_full number ≡ initiate_reply s c.args.process c.args.path.now
unfolding initiate_reply
told c s h is = grind (arith, nat_tests, common_steps)

pub returns-in-Some : goal.returns-in-Some
returns-in-Some c = λ p s h. told (goal.at.returns-in-Some c).After-deref s h c.in-Some.ensures

pub returns-in-None : goal.returns-in-None
returns-in-None c = λ p s h. told (goal.at.returns-in-None c).After-deref s h c.in-None.ensures

pub returns-in-Err : goal.returns-in-Err
unfolding initiate_reply
returns-in-Err c = grind (arith, nat_tests, common_steps)
