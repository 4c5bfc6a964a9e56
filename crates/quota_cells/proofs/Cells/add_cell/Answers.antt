use Rattle.quota_cells.proofs.Prelude.{true, false, both_maps}
use Rattle.quota_cells.proofs.EnterLaws.{table_entered}
use Rattle.quota_cells.proofs.Cells.add_cell.Goals as goal

pub invariant_of-self : goal.invariant_of-self
invariant_of-self c =
    rw c.enter.ensures (table_entered (both_maps c.self.inside.directories c.self.inside.segments)
    c.self.invariant c.args.uid (rw (← c.self.view_is) at c.requires.absent) true)

pub invariant_of-self-else-dir : goal.invariant_of-self-else-dir
invariant_of-self-else-dir c =
    rw c.enter-else-dir.ensures.numbers (table_entered (both_maps c.self.inside.directories c.self.inside.segments)
    c.self.invariant c.args.uid (rw (← c.self.view_is) at c.requires.absent) false)
