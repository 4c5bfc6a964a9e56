use Rattle.volumes.proofs.Prelude.{HaveFewFaults, HaveFull, None, false, length, map, replicate, ◌+◌, ◌≡◌}
use Rattle.volumes.proofs.volumes.Volumes.new.Given as goal

abbrev pub invariant-loop-part : goal.invariant-loop-part
invariant-loop-part g l = (l.drives.items ≡ map (λ part. part.drive) l.yielded) × (l.records.items
    ≡ map (λ part. replicate (length (g.D.Drive.pages part.drive)) false) l.yielded) × (l.vtocs.items ≡ map (λ part.
    replicate part.entries None) l.yielded) × (length l.yielded + l.part-iterator.rest.len ≡ length l.fn.parts.items)
    × HaveFewFaults g.D.Drive.plan g.D.Drive.faults l.drives.items × HaveFull g.D.Drive.pages l.drives.items
