-- What is found first in a list, by its place.
use Rattle.machine_tables.proofs.Prelude.{◌≡◌, ℕ, ◌<◌, Bool, true, false, List, length, get_or, position, Some, None, arith, find, position_or_len, le-ltb, lt-ltb, position_or_len_is}
use Rattle.std.proofs.lemmas.List.Folds.{find_at}
use Rattle.std.proofs.lemmas.Option.{slice_get-get_or, slice_get_past}

module _ {X : Type 0} (p : X → Bool) (d : X) (xs : List X) where
  -- nothing before a place passes
  abbrev FailsTo : ℕ → Type 0
  FailsTo n = (j : ℕ) → j < n → p (get_or xs j d) ≡ false

  place_none : FailsTo (length xs) → position_or_len p xs ≡ length xs
  place_none off = position_or_len_is p xs (length xs) d (omega arith) off (λ lt. absurd (omega arith))

  pub find_first : (i : ℕ) → i < length xs → p (get_or xs i d) ≡ true → FailsTo i → find p xs ≡ Some (get_or xs i d)
  find_first i lt here before = grind (arith, find_at, position_or_len_is, slice_get-get_or)

  pub find_none : FailsTo (length xs) → find p xs ≡ None
  find_none off = cc (find_at p xs, place_none off, slice_get_past xs (length xs) (omega arith))

  pub position_first : (i : ℕ) → i < length xs → p (get_or xs i d) ≡ true → FailsTo i → position p xs ≡ Some i
  position_first i lt here before = grind (arith, position_or_len_is, lt-ltb)

  pub position_not : FailsTo (length xs) → position p xs ≡ None
  position_not off = rw (place_none off, le-ltb (length xs) (length xs) (omega arith))
