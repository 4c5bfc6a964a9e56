use Rattle.quota_cells.proofs.Prelude.{look_absent}
use Rattle.quota_cells.proofs.Cells.quota.Goals as goal

pub returns-clause-pages : goal.returns-clause-pages
returns-clause-pages c =
    rw (← c.self.view_is) (look_absent c.self.inside.segments.uids c.self.inside.segments.values c.args.d
    (c.self.invariant.apart c.args.d (rw (← c.self.view_is) at c.requires)))
