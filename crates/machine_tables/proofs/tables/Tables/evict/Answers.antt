use Rattle.machine_tables.proofs.Prelude.{rules}
use Rattle.machine_tables.proofs.ChoiceLaws.{chosen_here}
use Rattle.machine_tables.proofs.tables.Tables.evict.Goals as goal

pub take_one-requires-clause-here : goal.take_one-requires-clause-here
take_one-requires-clause-here g c = chosen_here c.args.self.now.state.store c.choose-f.new.self.state.store
    c.choose-f.result c.requires.here (search rules) (search rules) (search rules)
