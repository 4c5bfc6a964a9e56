-- How much of each volume is used: one volume after the other, and the counts of the volumes that it gives.
use Rattle.listing.proofs.Prelude.{◌≡◌, ℕ, suc, zero, ◌+◌, ◌<◌, ◌≤◌, List, ◌∷◌, [], ◌++◌, length, refl, sym, ap, ◌∙◌, arith, get_or, take, add-one, inl, inr, min, cases_eq, get_or_append_left, get_or_push, length_push, take_all, VolumeLine, Store, VolumeUse, VolumeCount, use_of, uses_of, volumes_of}
use Rattle.listing.proofs.CountLaws.{volumes_more}

-- a loop's step
pub uses_more : (s : Store) (v : ℕ) {items new : List VolumeUse} {u : VolumeUse} → items ≡ uses_of s v → u ≡ use_of s v
    → new ≡ items ++ u ∷ [] → new ≡ uses_of s (v + 1)
uses_more s v {u} h is add = add ∙ ap (λ (xs : List VolumeUse). xs ++ u ∷ []) h
    ∙ ap (λ (x : VolumeUse). uses_of s v ++ x ∷ []) is ∙ sym (rw add-one refl)

length_uses : (s : Store) (n : ℕ) → length (uses_of s n) ≡ n
length_uses s zero = refl
length_uses s (suc n) = length_push (uses_of s n) _ ∙ (rw (length_uses s n, add-one) refl)

use_at : (s : Store) (n i : ℕ) (d : VolumeUse) → i < n → get_or (uses_of s n) i d ≡ use_of s i
use_at s zero i d lt = absurd (omega arith)
use_at s (suc n) i d lt = elim (cases_eq i n) [
  | inl e ↦ rw e (get_or_push (uses_of s n) (use_of s n) d n (length_uses s n))
  | inr ne ↦ (let short : i < length (uses_of s n) = rw length_uses (omega arith) in
      get_or_append_left (uses_of s n) _ d i short ∙ use_at s n i d (omega arith))
]

-- the volume of a line, of which so much is used
abbrev pub count_with : VolumeLine → VolumeUse → VolumeCount
count_with x u = record { volume = x; taken = u.records; used = u.entries }

pub counts_more : (s : Store) (xs : List VolumeLine) (us : List VolumeUse) (i : ℕ) (x : VolumeLine) (u : VolumeUse)
    (c : VolumeCount) (items new : List VolumeCount) → i < length xs → x ≡ get_or xs i x → u ≡ get_or us i u → us
    ≡ uses_of s (length xs) → items ≡ volumes_of s 0 (take i xs) → c ≡ count_with x u → new ≡ items ++ c ∷ [] → new
    ≡ volumes_of s 0 (take (i + 1) xs)
counts_more s xs us i x u c items new lt at used uses h made add =
    let is : u ≡ use_of s i = used ∙ ap (λ (ys : List VolumeUse). get_or ys i u) uses ∙ use_at s (length xs) i u lt in
    volumes_more s xs i i x c items new lt refl at h (made ∙ ap (count_with x) is) add

pub counts_end : (s : Store) (xs : List VolumeLine) (us : List VolumeUse) (n : ℕ) (items : List VolumeCount) → n
    ≡ min (length xs) (length us) → us ≡ uses_of s (length xs)
    → items ≡ volumes_of s 0 (take n xs) → items ≡ volumes_of s 0 xs
counts_end s xs us n items n_is uses h =
    let size : length us ≡ length xs = ap (λ (ys : List VolumeUse). length ys) uses ∙ length_uses s (length xs) in
    let whole : length xs ≤ n = omega arith in
    h ∙ ap (volumes_of s 0) (take_all n xs whole)
