use Rattle.bitmap.proofs.Full.{arith, flags_full, levels_full}
use Rattle.bitmap.proofs.Bitmap.all_used.Goals as goal

pub invariant_of-result : goal.invariant_of-result
invariant_of-result c =
    levels_full _ _ c.args.size _ (omega arith) c.in_ok-words.ensures (omega (arith, c.div_ceil.ensures))
    c.in_ok-full.ensures

pub returns : goal.returns
returns c = flags_full c.args.size c.in_ok-words.ensures
