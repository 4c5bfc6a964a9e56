use Rattle.mword.proofs.Prelude.{IsTrue, refl, arith, common_steps, AreZero}
use Rattle.mword.proofs.ZeroLanes.{zero_blocks_more, zero_blocks_all}
use Rattle.mword.proofs.page.blocks_are_zero.Goals as goal

pub loop-block-preserved : goal.loop-block-preserved
loop-block-preserved c =
    let here : IsTrue c.block_is_zero.result = grind (arith, common_steps) in
    zero_blocks_more c.loop-block.block c.args.words.now c.loop-block.invariant (c.block_is_zero.ensures.0 here)

pub returns : goal.returns
returns c =
    let all : AreZero c.args.words.now = zero_blocks_all c.loop-block.block c.args.words.now (omega arith)
    (omega arith) c.loop-block.invariant in
    (λ _. all, λ _. refl)
