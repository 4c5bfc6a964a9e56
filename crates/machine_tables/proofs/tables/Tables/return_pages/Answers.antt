use Rattle.machine_tables.proofs.Prelude.{rules}
use Rattle.machine_tables.proofs.Laws.{backs_next, frame_smaller, going}
use Rattle.machine_tables.proofs.tables.Tables.return_pages.Goals as goal

pub loop-frame-preserved : goal.loop-frame-preserved
loop-frame-preserved g c = going (backs_next _ _ _ c.in-Some.frame c.loop-frame.invariant.on
    c.in-Some.ensures.first (search rules) (search rules)) (search rules)

pub loop-frame-smaller : goal.loop-frame-smaller
loop-frame-smaller g c = frame_smaller c.note.new.self c.loop-frame.invariant c.in-Some.ensures.first (search rules)
