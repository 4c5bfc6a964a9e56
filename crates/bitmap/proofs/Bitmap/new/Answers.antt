use Rattle.bitmap.proofs.Fresh.{arith, flags_clear, levels_clear}
use Rattle.bitmap.proofs.Bitmap.new.Goals as goal

pub invariant_of-result : goal.invariant_of-result
invariant_of-result c = levels_clear _ _ c.args.size _ (omega arith) c.in_ok-words.ensures c.in_ok-full.ensures
    (omega (arith, c.div_ceil.ensures))

pub returns : goal.returns
returns c = flags_clear c.in_ok-words.ensures
