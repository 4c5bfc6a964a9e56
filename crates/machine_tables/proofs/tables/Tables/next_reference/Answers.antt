use Rattle.machine_tables.proofs.Prelude.{rules, run_at}
use Rattle.machine_tables.proofs.CommandLaws.{next_number}
use Rattle.machine_tables.proofs.tables.Tables.next_reference.Goals as goal

pub returns-clause-number : goal.returns-clause-number
returns-clause-number g c =
    next_number c.args.self.now.state.plan c.args.process (run_at c.args.self.now.state.runs c.args.process).place
    c.reference.result c.next_command.ensures.plan (search rules)
