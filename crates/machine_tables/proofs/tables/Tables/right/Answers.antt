use Rattle.machine_tables.proofs.Prelude.{rules}
use Rattle.machine_tables.proofs.RightLaws.{right_is}
use Rattle.machine_tables.proofs.tables.Tables.right.Goals as goal

pub returns-clause-mode : goal.returns-clause-mode
returns-clause-mode g c = (right_is c.args.self.now.state.store.accounts.nodes c.args.self.now.state.store.whos
    c.args.process c.args.uid c.right.result.0 c.right.result.1 (search rules) (search rules)).0
