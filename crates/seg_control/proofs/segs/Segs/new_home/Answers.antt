use Rattle.seg_control.proofs.Homes.{kept_homed}
use Rattle.seg_control.proofs.Resting.{kept_still, still_kept}
use Rattle.seg_control.proofs.segs.Segs.new_home.Goals as goal

pub invariant_of-self : goal.invariant_of-self
invariant_of-self g c =
    let still = rw (← c.self.view_is) at c.requires.still in
    let k = kept_still still c.self.invariant in
    let idle = rw (← c.self.view_is) at c.requires.inactive in
    still_kept still (kept_homed c.new_home.result c.args.volume k idle c.new_home.ensures.least
    c.new_home.ensures.effect c.new_home.ensures.home c.new_home.ensures.homes c.new_home.ensures.uids
    c.new_home.ensures.tie c.new_home.ensures.ties c.new_home.ensures.records)
