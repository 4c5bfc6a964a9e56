use Rattle.machine_tables.proofs.ActiveLaws.{search_tells}
use Rattle.machine_tables.proofs.chains.is_active.Goals as goal

pub returns : goal.returns
returns c = cc (search_tells c.args.ast.now c.args.uid c.search.result c.search.ensures.only)
