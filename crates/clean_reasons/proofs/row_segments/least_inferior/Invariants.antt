use Rattle.clean_reasons.proofs.Prelude.{◌≡◌, ◌≢◌, ◌<◌, ℕ, true, Some, Plan, node_in, Store, Shows, superior_in, custody_of}
use Rattle.clean_reasons.proofs.row_segments.least_inferior.Given as goal

-- none so far is an active inferior
abbrev pub invariant-loop-place : goal.invariant-loop-place
invariant-loop-place l = (p : Plan) (s : Store) → Shows p l.store s → (v : ℕ) → v < l.place
    → (custody_of l.custody).active v ≡ true → superior_in (node_in s.nodes v) ≢ Some l.uid
