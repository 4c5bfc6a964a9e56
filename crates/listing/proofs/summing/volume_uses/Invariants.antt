use Rattle.listing.proofs.Prelude.{◌≡◌, Plan, Store, Shows, uses_of}
use Rattle.listing.proofs.summing.volume_uses.Given as goal

-- the volumes so far
abbrev pub invariant-loop-v : goal.invariant-loop-v
invariant-loop-v l = (p : Plan) (s : Store) → Shows p l.store s → l.uses.items ≡ uses_of s l.v
