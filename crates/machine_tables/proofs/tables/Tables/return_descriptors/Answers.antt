use Rattle.machine_tables.proofs.Prelude.{rules}
use Rattle.machine_tables.proofs.Laws.{relinks_next, JobLaws_cut_smaller as cut_smaller, going}
use Rattle.machine_tables.proofs.tables.Tables.return_descriptors.Goals as goal

pub loop-cut-preserved : goal.loop-cut-preserved
loop-cut-preserved g c = going (relinks_next _ _ _ c.in-Some.cut c.loop-cut.invariant.on
    c.in-Some.ensures.first (search rules) (search rules)) (search rules)

pub loop-cut-smaller : goal.loop-cut-smaller
loop-cut-smaller g c = cut_smaller c.note.new.self c.loop-cut.invariant c.in-Some.ensures.first (search rules)
