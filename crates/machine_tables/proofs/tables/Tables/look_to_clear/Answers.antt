use Rattle.machine_tables.proofs.Prelude.{◌∙◌}
use Rattle.machine_tables.proofs.ChangeLooks.{changes_length}
use Rattle.machine_tables.proofs.tables.Tables.look_to_clear.Goals as goal

pub returns-in-Length : goal.returns-in-Length
returns-in-Length g c = λ i. (c.look_at_length.ensures c.args.process ∙ changes_length c.args.self.now.state.store
    c.args.process c.in-Length.path c.in-Length.pages c.args.command.now c.in-Length.is c.uid_of_command-uid.result _
    c.uid_of_command-uid.ensures) i
