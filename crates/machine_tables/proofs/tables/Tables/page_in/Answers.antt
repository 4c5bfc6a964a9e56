use Rattle.machine_tables.proofs.Prelude.{rules}
use Rattle.machine_tables.proofs.LinkLaws.{active_in}
use Rattle.machine_tables.proofs.tables.Tables.page_in.Goals as goal

pub returns-clause-active : goal.returns-clause-active
returns-clause-active g c = active_in _ _ _ c.args.f _ c.in-Some.page.1 c.segs-segs.ensures.kept (search rules)
