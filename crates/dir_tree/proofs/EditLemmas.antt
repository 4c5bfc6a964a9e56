-- What holds of each element of a list after one more at its end, or one less.
use Rattle.dir_tree.proofs.Prelude.{common_steps, ◌≡◌, ◌≢◌, ℕ, ◌+◌, ◌-◌, ◌<◌, List, [], ◌∷◌, ◌++◌, length, sym, subst, arith, get_or, inl, inr, leb, if◌then◌else◌, remove, cases_lt, le-leb, lt-leb, get_or_append_left, get_or_push, length_push, length-remove, get_or-remove_below, get_or-remove_above, nat_tests}

pub each_pushed : {X : Type 0} (xs : List X) (y d : X) (P : X → Type 0) → ((i : ℕ) → i < length xs → P (get_or xs i d))
    → P y → (i : ℕ) → i < length (xs ++ y ∷ []) → P (get_or (xs ++ y ∷ []) i d)
each_pushed xs y d P old new i lt = grind (arith, nat_tests, common_steps, get_or_append_left, get_or_push, length_push)

-- the place in the longer list of what stands k-th once the i-th is out
abbrev pub was : ℕ → ℕ → ℕ
was i k = if leb i k then k + 1 else k

pub was_other : (i k : ℕ) → was i k ≢ i
was_other i k e = grind (arith, nat_tests, common_steps)

pub was_up : (i a b : ℕ) → a < b → was i a < was i b
was_up i a b lt = grind (arith, nat_tests, common_steps)

-- and where it stands then
abbrev pub now : ℕ → ℕ → ℕ
now i j = if leb i j then j - 1 else j

pub was_now : (i j : ℕ) → j ≢ i → was i (now i j) ≡ j
was_now i j ne = grind (arith, nat_tests, common_steps)

module _ {X : Type 0} (xs : List X) (i : ℕ) (within : i < length xs) where
  pub at_was : (k : ℕ) (d : X) → get_or (remove xs i) k d ≡ get_or xs (was i k) d
  at_was k d = grind (arith, nat_tests, common_steps, get_or-remove_below, get_or-remove_above)

  pub fewer : length (remove xs i) + 1 ≡ length xs
  fewer = length-remove xs i within

  pub was_within : (k : ℕ) → k < length (remove xs i) → was i k < length xs
  was_within k lt = (let n = fewer in elim (cases_lt k i)
      [ inl x ↦ rw (lt-leb i k x) (omega arith) | inr x ↦ rw (le-leb i k x) (omega arith) ])

  pub now_within : (j : ℕ) → j < length xs → j ≢ i → now i j < length (remove xs i)
  now_within j lt ne = (let n = fewer in elim (cases_lt j i)
      [ inl x ↦ rw (lt-leb i j x) (omega arith) | inr x ↦ rw (le-leb i j x) (omega arith) ])

  pub each_left : (d : X) (P : X → Type 0) → ((j : ℕ) → j < length xs → j ≢ i → P (get_or xs j d)) → (k : ℕ)
      → k < length (remove xs i) → P (get_or (remove xs i) k d)
  each_left d P all k lt = subst P (sym (at_was k d)) (all (was i k) (was_within k lt) (was_other i k))
