use Rattle.listing.proofs.TrailLaws.{trail_end}
use Rattle.listing.proofs.summing.trail.Goals as goal

pub returns : goal.returns
returns c = trail_end _ c.args.uid c.chain-chain.result.items _ c.loop-step.step-index _ c.look.ensures c.requires
    c.chain-chain.ensures.chain (cc) c.loop-step-test.false c.loop-step.invariant
