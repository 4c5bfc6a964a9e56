use Rattle.listing.proofs.LineLaws.{names_more}
use Rattle.listing.proofs.lines.push_names.Goals as goal

pub loop-name-preserved : goal.loop-name-preserved
loop-name-preserved c = names_more _ _ _ c.name-item.result _ _ c.loop-name-test.true c.name-item.is
    c.loop-name.invariant c.in_ok-write.ensures.bytes
