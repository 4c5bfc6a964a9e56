use Rattle.machine_tables.proofs.Prelude.{rules}
use Rattle.machine_tables.proofs.FailedLaws.{failed_outcome}
use Rattle.machine_tables.proofs.tables.Tables.finish_page.Goals as goal

pub returns-in-Err-clause-state : goal.returns-in-Err-clause-state
returns-in-Err-clause-state g c = failed_outcome c.args.self.now c.let_go-gone.new.self c.return_all.new.self c.args.c
    c.let_go-gone.new.self.state.faults c.let_go-gone.new.self.drives _ c.let_go-gone.result c.in-Err.field-0
    (search rules) (search rules) c.return_all.ensures
