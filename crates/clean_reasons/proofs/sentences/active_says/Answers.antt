use Rattle.clean_reasons.proofs.RowLaws.{pool_decides}
use Rattle.clean_reasons.proofs.sentences.active_says.Goals as goal

pub returns-in-Pool : goal.returns-in-Pool
returns-in-Pool c = λ p s shown nodes. pool_decides s c.args.custody.now c.in-Pool.pool c.in-Pool.places
    c.in_pool.result
    c.args.reason c.in-Pool.is c.in_pool.ensures nodes
