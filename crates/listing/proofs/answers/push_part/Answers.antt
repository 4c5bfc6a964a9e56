use Rattle.listing.proofs.Prelude.{arith, ap, length}
use Rattle.listing.proofs.LineLaws.{lines_end}
use Rattle.listing.proofs.answers.push_part.Goals as goal

pub returns : goal.returns
returns c = lines_end _ _ _ _ c.loop-entry.entry-index _ (omega (arith, ap length c.entries-entry-items.ensures))
    c.loop-entry.invariant
