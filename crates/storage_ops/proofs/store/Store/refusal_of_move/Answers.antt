use Rattle.storage_ops.proofs.Prelude.{rules, w32, to_z-of_z}
use Rattle.storage_ops.proofs.store.Store.refusal_of_move.Goals as goal

pub returns : goal.returns
returns g c = λ p s h. cc (c.move_refusal.ensures p s h, to_z-of_z w32 c.args.amount.now (search rules))
