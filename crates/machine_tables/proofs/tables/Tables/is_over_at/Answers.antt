use Rattle.machine_tables.proofs.Prelude.{rules, sym}
use Rattle.machine_tables.proofs.RuleLaws.{busy_goes_on}
use Rattle.machine_tables.proofs.tables.Tables.is_over_at.Goals as goal

pub returns-then-has_process : goal.returns-then-has_process
returns-then-has_process g c = sym (busy_goes_on c.args.self.now.state c.args.c (search rules))
