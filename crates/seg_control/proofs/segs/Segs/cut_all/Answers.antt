use Rattle.seg_control.proofs.Cutting.{cut_smaller, cut_step}
use Rattle.seg_control.proofs.segs.Segs.cut_all.Goals as goal

pub loop-process-smaller : goal.loop-process-smaller
loop-process-smaller g c =
    cut_smaller c.loop-process.self c.cut_one.new.self c.args.aste c.in-Some.process c.in-Some.number
    c.first_trailer.ensures.linked c.in-Some.ensures.first c.cut_one.ensures.effect

pub loop-process-preserved : goal.loop-process-preserved
loop-process-preserved g c =
    let step =
    cut_step c.args.self.now c.in-Some.process c.in-Some.number c.in-Some.ensures.first c.loop-process.invariant.cut
    c.loop-process.invariant.rest c.cut_one.ensures.effect in
    assumption
