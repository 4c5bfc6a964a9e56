use Rattle.quota_cells.proofs.Prelude.{arith, common_steps, nat_tests}
use Rattle.quota_cells.proofs.PadLaws.{padded_long, padded_put, padded_set}
use Rattle.quota_cells.proofs.by_uid.ByUid.put.Goals as goal

pub returns-then-uid-len-clause-number : goal.returns-then-uid-len-clause-number
returns-then-uid-len-clause-number c =
    cc (padded_set c.self.inside.held.items c.args.uid c.args.number (grind (arith, common_steps)))

pub returns-then-uid-len-clause-size : goal.returns-then-uid-len-clause-size
returns-then-uid-len-clause-size c = cc (padded_long c.self.inside.held.items
    (omega (arith, c.self.invariant.0, c.self.inside.held.ok.0)))

pub returns-else-uid-len-clause-number : goal.returns-else-uid-len-clause-number
returns-else-uid-len-clause-number c = grind (arith, nat_tests, common_steps, padded_put)

pub returns-else-uid-len-clause-size : goal.returns-else-uid-len-clause-size
returns-else-uid-len-clause-size c = cc (padded_long c.self.inside.held.items
    (omega (arith, c.self.invariant.0, c.self.inside.held.ok.0)))
