use Rattle.mword.proofs.Prelude.{◌*◌, take, AreZero}
use Rattle.mword.proofs.page.blocks_are_zero.Given as goal

abbrev pub invariant-loop-block : goal.invariant-loop-block
invariant-loop-block l = AreZero (take (32 * l.block) l.words)
