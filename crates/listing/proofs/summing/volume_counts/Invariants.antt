use Rattle.listing.proofs.Prelude.{◌≡◌, length, take, Store, uses_of, volumes_of}
use Rattle.listing.proofs.summing.volume_counts.Given as goal

-- the volumes so far
abbrev pub invariant-loop-volume : goal.invariant-loop-volume
invariant-loop-volume l = (s : Store) → l.uses ≡ uses_of s (length l.volumes) → l.counts.items
    ≡ volumes_of s 0 (take (length l.yielded) l.volumes)
