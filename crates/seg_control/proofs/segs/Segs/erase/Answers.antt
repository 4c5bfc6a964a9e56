use Rattle.seg_control.proofs.Homes.{kept_erased}
use Rattle.seg_control.proofs.Resting.{kept_still, still_kept}
use Rattle.seg_control.proofs.segs.Segs.erase.Goals as goal

pub invariant_of-self : goal.invariant_of-self
invariant_of-self g c =
    let still = rw (← c.self.view_is) at c.requires.still in
    let k = kept_still still c.self.invariant in
    let only = rw (← c.self.view_is, still) at c.requires.home in
    still_kept still (kept_erased k only c.erase.ensures.effect c.erase.ensures.home c.erase.ensures.uids
    c.erase.ensures.records c.erase.ensures.ties)
