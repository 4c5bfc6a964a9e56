use Rattle.seg_control.proofs.Resting.{kept_still, length, rules, still_kept, ◌<◌}
use Rattle.seg_control.proofs.Taking.{kept_taken}
use Rattle.seg_control.proofs.segs.Segs.take_all.Goals as goal

pub invariant_of-self : goal.invariant_of-self
invariant_of-self g c =
    let still = rw (← c.self.view_is) at c.requires.still in
    let k = kept_still still c.self.invariant in
    let within : c.args.aste < length c.self.inside.ast.entries = search rules in
    let taken = rw c.table_mut.ensures.value at c.take_from.ensures in
    still_kept still (rw taken (kept_taken c.args.aste c.args.from k within))
