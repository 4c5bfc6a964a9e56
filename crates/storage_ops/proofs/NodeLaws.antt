-- What is read of a node that is there.
use Rattle.storage_ops.proofs.Prelude.{Option, is_some, true, ◌≡◌, ℕ, List, [], ◌∷◌, Some, None, eqb, inl, inr, refl, cases_Bool, is_there, Node, node_in, has_segment}

-- where a node lies that is there
pub found_there : (ns : List Node) (u : ℕ) → is_there ns u ≡ true → (n : Node) × (node_in ns u ≡ Some n)
found_there ns u t = by (node_in ns u) refl t
  where
    by : (o : Option Node) → node_in ns u ≡ o → is_some o ≡ true → (n : Node) × (node_in ns u ≡ Some n)
    by None e t = cc
    by (Some n) e t = (n, e)

-- a segment is there
pub segment_there : (ns : List Node) (u : ℕ) → has_segment ns u ≡ true → is_there ns u ≡ true
segment_there [] u seg = cc
segment_there (n ∷ ns) u seg = elim (cases_Bool (eqb n.uid u)) [
  | inl is ↦ rw is refl
  | inr isnt ↦ rw isnt (segment_there ns u (rw isnt at seg))
]
