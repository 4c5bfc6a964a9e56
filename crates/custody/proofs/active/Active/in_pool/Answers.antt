use Rattle.custody.proofs.LookLaws.{pool_count}
use Rattle.custody.proofs.active.Active.in_pool.Goals as goal

pub returns : goal.returns
returns c = pool_count c.self.view_is c.self.invariant c.args.pool c.at-count.ensures
