use Rattle.machine_tables.proofs.Prelude.{rules}
use Rattle.machine_tables.proofs.RuleLaws.{over_rule, stopped_rule, work_rule}
use Rattle.machine_tables.proofs.tables.Tables.action.Goals as goal

pub returns-then-self : goal.returns-then-self
returns-then-self g c = stopped_rule c.args.self.now.state c.args.c (search rules)

pub returns-then-is_over_at : goal.returns-then-is_over_at
returns-then-is_over_at g c = over_rule c.args.self.now.state c.args.c (search rules) (search rules)

pub returns-else-is_over_at : goal.returns-else-is_over_at
returns-else-is_over_at g c = cc (work_rule c.args.self.now.state c.args.c (search rules) (search rules))
