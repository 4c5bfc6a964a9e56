use Rattle.quota_cells.proofs.Prelude.{both_ways, false_from_ne_true, has, look_absent}
use Rattle.quota_cells.proofs.Cells.stored.Goals as goal

pub returns-clause-quota : goal.returns-clause-quota
returns-clause-quota c =
    rw (← c.self.view_is) (look_absent c.self.inside.directories.directories c.self.inside.directories.quotas c.args.seg
    (false_from_ne_true _ (λ is. both_ways (has c.self.inside.segments.uids c.args.seg)
    (c.self.invariant.apart c.args.seg is) (rw (← c.self.view_is) at c.requires))))
