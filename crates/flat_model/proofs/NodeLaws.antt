-- What is read of a node that is there.
use Rattle.flat_model.proofs.Prelude.{◌≡◌, ℕ, Bool, true, false, not, eqb, List, [], ◌∷◌, Some, None, refl, inl, inr, cases_Bool, Node, has_directory, node_in, volume_in, has_segment}
use Rattle.flat_model.proofs.FieldLaws.{field_found, field_none}

pub volume_found : (ns : List Node) (u : ℕ) (n : Node) → node_in ns u ≡ Some n → n.volume ≡ volume_in ns u
volume_found ns u n = field_found (λ (xs : List Node). volume_in xs u) (λ (x : Node). x.volume) u (λ m xs. refl) ns n

pub no_volume : (ns : List Node) (u : ℕ) → node_in ns u ≡ None → volume_in ns u ≡ 0
no_volume ns u = field_none (λ (xs : List Node). volume_in xs u) (λ (x : Node). x.volume) u (λ m xs. refl) ns

-- a segment is no directory
pub no_directory : (ns : List Node) (u : ℕ) → has_segment ns u ≡ true → has_directory ns u ≡ false
no_directory [] u is = cc
no_directory (n ∷ ns) u is = elim (cases_Bool (eqb n.uid u)) [
  | inl here ↦ rw here (back n.directory (rw here at is))
  | inr there ↦ rw there (no_directory ns u (rw there at is))
]
  where
    back : (z : Bool) → not z ≡ true → z ≡ false
    back true e = cc
    back false e = refl
