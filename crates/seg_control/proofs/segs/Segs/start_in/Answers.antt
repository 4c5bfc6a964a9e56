use Rattle.seg_control.proofs.Frames.{none_started, same_records, same_vtocs}
use Rattle.seg_control.proofs.Resting.{kept_paged, kept_still, paged_started, still_kept}
use Rattle.seg_control.proofs.segs.Segs.start_in.Goals as goal

pub invariant_of-self : goal.invariant_of-self
invariant_of-self g c =
    let still = rw (← c.self.view_is) at c.requires.still in
    let k = kept_still still c.self.invariant in
    let out = rw (← c.self.view_is) at c.requires.out in
    let first = rw (← c.self.view_is) at c.requires.first in
    still_kept still (kept_paged k (paged_started k.paged c.start_in.ensures.bindings
    (same_vtocs _ _ c.start_in.ensures.volumes) (same_records _ _ c.start_in.ensures.volumes) c.start_in.ensures.ties
    c.args.f c.place_in-place.result c.args.uid c.args.p c.place_in-place.ensures.at
    (cc) (none_started first) c.start_in.ensures.reads))
