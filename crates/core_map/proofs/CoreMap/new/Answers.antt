use Rattle.core_map.proofs.Frames.{arith, tied_new}
use Rattle.core_map.proofs.CoreMap.new.Goals as goal

pub invariant_of-result : goal.invariant_of-result
invariant_of-result c = tied_new _ _ c.args.frames (omega arith) c.in_ok-taken.ensures
    (c.in_ok-frames.ensures.items_if_clones_equal (λ y e. e))
