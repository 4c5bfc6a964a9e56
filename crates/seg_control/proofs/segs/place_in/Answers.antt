use Rattle.seg_control.proofs.Places.{place_is, refl, sym}
use Rattle.seg_control.proofs.segs.place_in.Goals as goal

pub returns-clause-is : goal.returns-clause-is
returns-clause-is c = sym (place_is _ _ _ c.in-Some.ensures.tree ((c.in-Some.ensures.only _).0 refl))
