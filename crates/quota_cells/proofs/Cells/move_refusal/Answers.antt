use Rattle.quota_cells.proofs.Prelude.{w32, to_z-of_z}
use Rattle.quota_cells.proofs.Cells.move_refusal.Goals as goal

pub returns-clause-answer : goal.returns-clause-answer
returns-clause-answer c =
    let back = to_z-of_z w32 c.args.amount c.ranges.amount in
    rw (rw back at c.is_positive.ensures, rw back at c.unsigned_abs.ensures.value) at c.refusal.ensures
