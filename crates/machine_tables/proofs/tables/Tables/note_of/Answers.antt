use Rattle.machine_tables.proofs.Prelude.{rules}
use Rattle.machine_tables.proofs.LinkLaws.{leads_within}
use Rattle.machine_tables.proofs.tables.Tables.note_of.Goals as goal

pub uid_at-requires : goal.uid_at-requires
uid_at-requires g c = rw c.ast.ensures.ast (leads_within _ _ c.args.process c.args.number c.in-Present.aste
    c.descriptors.ensures.linked (search rules))
