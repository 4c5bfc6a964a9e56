use Rattle.seg_control.proofs.Choosing.{framed_end, framed_more, framed_start, length, rules, ◌≤◌}
use Rattle.seg_control.proofs.moving.framed_pages.Goals as goal

pub loop-p-init : goal.loop-p-init
loop-p-init c = framed_start c.args.table.now

pub loop-p-preserved : goal.loop-p-preserved
loop-p-preserved c = framed_more c.is_framed.result c.loop-p.invariant (search rules) (search rules)

pub returns-clause-framed : goal.returns-clause-framed
returns-clause-framed c =
    let past : length c.args.table.now ≤ c.loop-p.p = search rules in
    framed_end c.loop-p.invariant past
