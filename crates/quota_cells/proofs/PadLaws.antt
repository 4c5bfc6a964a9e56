-- A number for each uid, of which the first are held and all others are 0.
use Rattle.quota_cells.proofs.Prelude.{common_steps, ◌≡◌, ℕ, suc, zero, ◌+◌, ◌-◌, ◌<◌, ◌≤◌, List, [], ◌∷◌, ◌++◌, length, replicate, get_or, set, refl, sym, arith, append_assoc, replicate-append-replicate, length-append, length-replicate, length-set, padded, nat_tests}

-- ---- blanks

-- one blank more at the end
pub blanks_next : {X : Type 0} (xs ys : List X) (n : ℕ) (blank : X)
    → ys ≡ xs ++ replicate (n - length xs) blank → length xs ≤ n
    → ys ++ blank ∷ [] ≡ xs ++ replicate (n + 1 - length xs) blank
blanks_next {X} xs ys n blank is le = grind (arith, nat_tests, common_steps, append_assoc, replicate-append-replicate)

-- ---- zeros

abbrev zeros : ℕ → List ℕ
zeros n = replicate n 0

abbrev alone : ℕ → List ℕ
alone v = v ∷ []

many_zeros : (n : ℕ) → length (zeros n) ≡ n
many_zeros n = length-replicate {A = ℕ} n 0

zero_at : (n i : ℕ) → get_or (zeros n) i 0 ≡ 0
zero_at zero i = refl
zero_at (suc n) zero = refl
zero_at (suc n) (suc i) = zero_at n i

past_zeros : (xs : List ℕ) (n i : ℕ) → get_or (xs ++ zeros n) i 0 ≡ get_or xs i 0
past_zeros [] n i = zero_at n i
past_zeros (x ∷ xs) n zero = refl
past_zeros (x ∷ xs) n (suc i) = past_zeros xs n i

-- ---- what is held is changed

set_front : (xs ys : List ℕ) (i v : ℕ) → i < length xs → set (xs ++ ys) i v ≡ set xs i v ++ ys
set_front [] ys i v lt = absurd (omega arith)
set_front (x ∷ xs) ys zero v lt = refl
set_front (x ∷ xs) ys (suc i) v lt = cc (set_front xs ys i v (omega (arith, lt)))

pub set_end : {X : Type 0} (xs : List X) (p : ℕ) (blank v : X) → p ≡ length xs
    → set (xs ++ blank ∷ []) p v ≡ xs ++ v ∷ []
set_end [] zero blank v e = refl
set_end [] (suc p) blank v e = absurd (omega arith)
set_end (x ∷ xs) zero blank v e = absurd (omega arith)
set_end {X} (x ∷ xs) (suc p) blank v e = cc (set_end xs p blank v (omega (arith, e)))

pub padded_long : (held : List ℕ) → length held ≤ 100003 → length (padded held) ≡ 100003
unfolding padded
padded_long held le = rw (length-append held (zeros (100003 - length held)), many_zeros (100003 - length held))
    (omega arith)

pub padded_read : (held : List ℕ) (i : ℕ) → get_or (padded held) i 0 ≡ get_or held i 0
unfolding padded
padded_read held i = past_zeros held (100003 - length held) i

pub padded_more : (held : List ℕ) (k : ℕ) → length held + k ≤ 100003 → padded (held ++ zeros k) ≡ padded held
unfolding padded
padded_more held k le =
    grind (arith, nat_tests, common_steps, append_assoc, replicate-append-replicate, length-append, many_zeros)

-- a number that is held
pub padded_set : (held : List ℕ) (i v : ℕ) → i < length held → padded (set held i v) ≡ set (padded held) i v
unfolding padded
padded_set held i v lt = rw (length-set held i v) (sym (set_front held (zeros (100003 - length held)) i v lt))

-- a number after those that are held
pub padded_put : (held front : List ℕ) (p v : ℕ) → length held ≤ p → p < 100003
    → front ≡ held ++ zeros (p - length held) → padded (front ++ alone v) ≡ set (padded held) p v
padded_put held front p v past lt is = cc (
  set_end front p 0 v (sym long),
  padded_set (front ++ alone 0) p v inside,
  padded_more front 1 (omega (arith, long, lt)),
  padded_more held (p - length held) (omega (arith, past, lt)),
)
  where
    long : length front ≡ p
    long = rw (is, length-append held (zeros (p - length held)), many_zeros (p - length held)) (omega arith)

    inside : p < length (front ++ alone 0)
    inside = omega (arith, length-append front (alone 0), long)
