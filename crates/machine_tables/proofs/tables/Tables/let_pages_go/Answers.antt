use Rattle.machine_tables.proofs.Prelude.{rules}
use Rattle.machine_tables.proofs.Laws.{frame_smaller, pages_next, going}
use Rattle.machine_tables.proofs.tables.Tables.let_pages_go.Goals as goal

pub loop-frame-preserved : goal.loop-frame-preserved
loop-frame-preserved g c = going (pages_next _ _ _ c.args.kept c.in-Some.frame c.loop-frame.invariant.on
    c.in-Some.ensures.first (search rules)) (search rules)

pub loop-frame-smaller : goal.loop-frame-smaller
loop-frame-smaller g c = frame_smaller c.note.new.self c.loop-frame.invariant c.in-Some.ensures.first (search rules)
