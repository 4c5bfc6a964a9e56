use Rattle.volumes.proofs.CorePages.{arith, length, reach_more, ◌∙◌, ◌≤◌}
use Rattle.volumes.proofs.core_pages.reach.Goals as goal

pub loop-preserved : goal.loop-preserved
loop-preserved c =
    let past : length c.args.written.now.items ≤ c.loop.counter = c.loop.invariant.2 in (
      reach_more _ c.loop.counter c.loop.invariant.0 past c.push_reserved.ensures.items c.zero.ensures,
      c.push_reserved.ensures.capacity ∙ c.loop.invariant.1,
      omega (arith, past),
    )
