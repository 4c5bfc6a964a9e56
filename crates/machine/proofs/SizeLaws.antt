-- Each drive has as many records as the script gives its volume.
use Rattle.machine.proofs.Prelude.{◌≡◌, ℕ, zero, suc, Bool, length, map, List, ◌∷◌, get_or, Option, Some, slice_get, Plan, records_of, HasParts, size, map_list, HaveSizes, []}

size_at : {D : Type 0} (pages : D → List (List ℕ)) (drives : List D) (v : ℕ) (d : D) → slice_get drives v ≡ Some d
    → get_or (map length (map pages drives)) v 0 ≡ length (pages d)
size_at pages [] v d e = cc
size_at pages (x ∷ xs) zero d e = let same : x ≡ d = cc in cc
size_at pages (x ∷ xs) (suc v) d e = size_at pages xs v d e

pub drive_size : {D : Type 0} (pages : D → List (List ℕ)) (drives : List D) (p : Plan) (records : List (List Bool))
    (vtocs : List (List (Option _))) → ((v : ℕ) → records_of p v ≡ size records v)
    → HasParts (map pages drives) records vtocs → HaveSizes pages drives p
drive_size pages drives p records vtocs same parts v d e = cc (
  size_at pages drives v d e,
  map_list length records v [],
  same v,
)
