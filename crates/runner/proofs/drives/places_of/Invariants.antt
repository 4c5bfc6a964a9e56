use Rattle.runner.proofs.Prelude.{◌≡◌, drop, places_in}
use Rattle.runner.proofs.drives.places_of.Given as goal

-- none of the lines gone over is the volume's
abbrev pub invariant-loop-bulk : goal.invariant-loop-bulk
invariant-loop-bulk l = places_in (drop l.bulk-index l.bulks) l.volume ≡ places_in l.bulks l.volume
