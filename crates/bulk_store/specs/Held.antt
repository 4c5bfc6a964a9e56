-- The list of the records that a fast store holds, the oldest first (own).
use Rattle.std.specs.Prelude.{◌≡◌, ◌≢◌, ◌<◌, ℕ, Bool, ◌||◌, is_some, List, [], ◌∷◌, ◌++◌, drop, length, nat_lt, ◌==◌, if◌then◌else◌, Option, None, Some, MatchOption, MatchBool}
use Rattle.bulk_store.specs.declared.index.Held.{Held}

-- the place of record r, if it is held
abbrev pub place_of : List Held → ℕ → Option ℕ
place_of [] r = None
place_of (h ∷ held) r = if h.number == r then Some h.place else place_of held r

-- the oldest of a list that isn't empty
abbrev pub oldest_of : List Held → Held
oldest_of [] = record { number = 0; place = 0 }
oldest_of (h ∷ held) = h

-- the list after record r came in at the end, with place p
abbrev pub with_newest : List Held → ℕ → ℕ → List Held
with_newest held r p = held ++ (record { number = r; place = p }) ∷ []

-- whether a write of record r is the fast store's alone, in a store with so many places: r is held, or a place is free
abbrev pub is_fast_write : ℕ → List Held → ℕ → Bool
is_fast_write places held r = is_some (place_of held r) || nat_lt (length held) places

-- no record has place p, and each lesser place is a record's
pub record IsLeastFreePlace (held : List Held) (p : ℕ) : Type 0 where
  pub free : (r : ℕ) → place_of held r ≢ Some p
  pub least : (q : ℕ) → q < p → (r : ℕ) × (place_of held r ≡ Some q)

-- what a list of a store with so many places is after a done write of record r: as before where r was held; longer by
-- r, in the least free place, where a place was free; else without the oldest, and longer by r in the oldest's place
abbrev pub BulkAfter : ℕ → List Held → ℕ → List Held → Type 0
BulkAfter places held r now =
    MatchOption (place_of held r)
    (MatchBool (nat_lt (length held) places)
    ((p : ℕ) × IsLeastFreePlace held p × (now ≡ with_newest held r p))
    (now ≡ with_newest (drop 1 held) r (oldest_of held).place))
    (λ p. now ≡ held)
