use Rattle.seg_control.proofs.Taking.{ap, gone, length, length-set, ptw_at, rules, set, sym, taken_end, taken_skip, taken_step, ◌<◌, ◌∙◌, ◌≡◌, ◌≤◌}
use Rattle.seg_control.proofs.segs.take_from.Goals as goal
use Rattle.seg_control.proofs.segs.take_from.Goals.{in-Here, in_default}

pub loop-p-preserved : goal.loop-p-preserved
loop-p-preserved c =
    let within : c.loop-p.p < length c.loop-p.table = search rules in
    let step : c.match-get.table ≡ set c.loop-p.table c.loop-p.p (gone (ptw_at c.loop-p.table c.loop-p.p)) =
    elim c.match-get.branch [
      | in-Here w ↦ w.table-is ∙ w.set.ensures ∙ ap (set c.loop-p.table c.loop-p.p)
          (ap gone (sym w.in-Here.is ∙ c.get.ensures))
      | in_default w ↦ w.table-is ∙ taken_skip c.loop-p.p c.loop-p.table (search rules)
    ] in
    assumption (
      taken_step c.loop-p.p c.loop-p.table c.match-get.table within step ∙ c.loop-p.invariant.all,
      ap length step ∙ length-set c.loop-p.table c.loop-p.p (gone (ptw_at c.loop-p.table c.loop-p.p))
          ∙ c.loop-p.invariant.long,
    )

pub returns : goal.returns
returns c =
    let past : length c.loop-p.table ≤ c.loop-p.p = search rules in
    cc (taken_end c.loop-p.p c.loop-p.table past)
