use Rattle.known_segs.proofs.PlaceLaws.{nothing_known}
use Rattle.known_segs.proofs.Kst.new.Goals as goal

pub invariant_of-result : goal.invariant_of-result
invariant_of-result c = nothing_known c.in_ok-places.ensures
