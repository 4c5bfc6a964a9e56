use Rattle.machine_tables.proofs.Prelude.{rules}
use Rattle.machine_tables.proofs.LinkLaws.{leads_within}
use Rattle.machine_tables.proofs.tables.Tables.fill_seg.Goals as goal

pub held_seg-held-requires : goal.held_seg-held-requires
held_seg-held-requires g c = λ aste pages mode e. rw c.ast.ensures.ast
    (leads_within _ _ c.args.process c.args.number aste c.descriptors.ensures.linked (search rules))
