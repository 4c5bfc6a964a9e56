use Rattle.storage_ops.proofs.Prelude.{rules, w32, to_z-of_z}
use Rattle.storage_ops.proofs.store.Store.commit_move.Goals as goal

pub returns-clause-answer : goal.returns-clause-answer
returns-clause-answer g c = λ p s h.
    cc (c.move_quota.ensures.answer p s h, to_z-of_z w32 c.args.amount.now (search rules))

pub returns-clause-effect : goal.returns-clause-effect
returns-clause-effect g c = λ p s h.
    rw (← to_z-of_z w32 c.args.amount.now (search rules)) (c.move_quota.ensures.effect p s h)
