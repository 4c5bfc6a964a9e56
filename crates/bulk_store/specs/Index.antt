-- The list of what is held, with an index by record (own).
use Rattle.std.specs.Prelude.{◌≡◌, ◌≢◌, ◌<◌, ◌≤◌, ◌+◌, ℕ, max, List, [], ◌∷◌, drop, length, replicate, slice_index_or, slice_set, Option, None, Some}
use Rattle.bulk_store.specs.declared.index.Held.{Held}
use Rattle.bulk_store.specs.Held.{place_of, oldest_of, with_newest}

-- the list, the oldest first; how many places there are; the place of each record, if it is held; the least free place,
-- which is the number of places where none is free; and how many places, the first ones, were ever used
pub record Holdings : Type 0 where
  pub held : List Held
  pub room : ℕ
  pub places : List (Option ℕ)
  pub free : ℕ
  pub used : ℕ

-- so many places for so many records, with nothing held
abbrev pub empty_index : ℕ → ℕ → Holdings
empty_index room records = record { held = []; room = room; places = replicate records None; free = 0; used = 0 }

-- how many places were ever used, once the least free one is
abbrev pub used_more : Holdings → ℕ
used_more t = max t.used (t.free + 1)

-- record r came in, in the least free place
abbrev pub with_record : Holdings → ℕ → Holdings
with_record t r = record t {
  held = with_newest t.held r t.free;
  places = slice_set t.places r (Some t.free);
  free = used_more t;
  used = used_more t;
}

-- the oldest is taken out, and its place is free
abbrev pub without_oldest : Holdings → Holdings
without_oldest t = record t {
  held = drop 1 t.held;
  places = slice_set t.places (oldest_of t.held).number None;
  free = (oldest_of t.held).place;
}

-- no record stands twice in a list
abbrev pub NoneTwice : List Held → Type 0
NoneTwice [] = Unit {0}
NoneTwice (h ∷ held) = (place_of held h.number ≡ None) × NoneTwice held

-- the index tells what the list does, and the places are given out from the least on, each to one record
pub record IsIndexed (t : Holdings) : Type 0 where
  pub found : (r : ℕ) → slice_index_or t.places r None ≡ place_of t.held r
  pub once : NoneTwice t.held
  pub apart : (r s p : ℕ) → place_of t.held r ≡ Some p → place_of t.held s ≡ Some p → r ≡ s
  pub free : (r : ℕ) → place_of t.held r ≢ Some t.free
  pub below : (r p : ℕ) → place_of t.held r ≡ Some p → p < t.used
  pub taken : (p : ℕ) → p < t.used → p ≢ t.free → (r : ℕ) × (place_of t.held r ≡ Some p)
  pub free_used : t.free ≤ t.used
  pub used_room : t.used ≤ t.room
  pub all_used : t.free ≡ t.used → length t.held ≡ t.used
  pub but_one : t.free < t.used → length t.held + 1 ≡ t.used
