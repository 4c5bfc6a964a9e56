use Rattle.listing.proofs.Prelude.{take}
use Rattle.listing.proofs.TrailLaws.{HasTrail}
use Rattle.listing.proofs.summing.trail.Given as goal

-- the names of the nodes so far
abbrev pub invariant-loop-step : goal.invariant-loop-step
invariant-loop-step l = HasTrail l.accounts.nodes (take l.step-index l.step-items) l.names.items
