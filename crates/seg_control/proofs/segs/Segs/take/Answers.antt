use Rattle.seg_control.proofs.Making.{moved_word}
use Rattle.seg_control.proofs.Resting.{Here, Leaving, kept_still, refl, rules, still_kept}
use Rattle.seg_control.proofs.segs.Segs.take.Goals as goal

pub invariant_of-self : goal.invariant_of-self
invariant_of-self g c =
    let still = rw (← c.self.view_is) at c.requires.still in
    let k = kept_still still c.self.invariant in
    still_kept still (moved_word g.D.Drive.pages c.args.f (Here c.args.f) (Leaving c.args.f) k c.take.ensures.same
    (search rules) (search rules) refl c.place_in-place.ensures.at c.place_in-place.ensures.within
    c.place_in-place.ensures.is c.table_mut.ensures.value c.take.ensures.word c.take.ensures.table c.take.ensures.tie)
