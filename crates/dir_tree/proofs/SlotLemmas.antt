-- Entries that stand in the slots of their places.
use Rattle.dir_tree.proofs.Prelude.{common_steps, ◌≡◌, ◌≢◌, ℕ, ◌+◌, ◌<◌, List, [], ◌∷◌, ◌++◌, length, set, get_or, sym, ◌∙◌, arith, inl, inr, remove, cases_lt, ext_get_or, get_or-map, get_or-set_same, get_or-set_other, get_or_append_left, get_or_push, length-map, length-set, length_push, map-append, Entry, no_entry, entry_at, listed, IsListed, refl, nat_tests}
use Rattle.dir_tree.proofs.EditLemmas.{was, was_up, was_within, at_was, each_left, each_pushed, fewer}

pub listed_at : (slots : List Entry) (order : List ℕ) (i : ℕ) → i < length order → entry_at (listed slots order) i
    ≡ entry_at slots (get_or order i 0)
listed_at slots order i lt = get_or-map (entry_at slots) order i 0 no_entry lt

pub length_listed : (slots : List Entry) (order : List ℕ) → length (listed slots order) ≡ length order
length_listed slots order = length-map order (entry_at slots)

-- the place of an entry is that which stands there
pub place_listed : {slots : List Entry} {order : List ℕ} → IsListed slots order → (i : ℕ) → i < length order
    → (entry_at (listed slots order) i).place ≡ get_or order i 0
place_listed {slots} {order} l i lt = rw (listed_at slots order i lt) (l.places i lt)

-- an entry changed, but for its place
module _ {slots : List Entry} {order : List ℕ} (l : IsListed slots order) (i : ℕ) (lt : i < length order) (e : Entry)
    (place : e.place ≡ get_or order i 0) where
  abbrev p : ℕ
  p = get_or order i 0

  slot : p < length slots
  slot = (omega (arith, l.within i lt))

  elsewhere : (j : ℕ) → j < length order → j ≢ i → entry_at (set slots p e) (get_or order j 0)
      ≡ entry_at slots (get_or order j 0)
  elsewhere j in_j ne = get_or-set_other slots p (get_or order j 0) e no_entry (l.apart j i in_j lt ne)

  pub set_listed : listed (set slots p e) order ≡ set (listed slots order) i e
  set_listed = ext_get_or no_entry _ _ (length_listed (set slots p e) order
      ∙ sym (length-set (listed slots order) i e ∙ length_listed slots order))
      (λ j in_j. at j (omega (arith, length_listed (set slots p e) order)))
    where
      at : (j : ℕ) → j < length order → entry_at (listed (set slots p e) order) j
          ≡ entry_at (set (listed slots order) i e) j
      at j in_j = grind (arith, nat_tests, common_steps, listed_at, slot, length_listed, elsewhere)

  pub still_listed : IsListed (set slots p e) order
  still_listed = grind (arith, nat_tests, common_steps, length-set, get_or-set_same, slot, elsewhere)

-- one entry more, in a place that no other has
module _ {slots : List Entry} {order : List ℕ} (l : IsListed slots order) (e : Entry) (room : e.place < 4097)
    (new : (i : ℕ) → i < length (listed slots order) → (entry_at (listed slots order) i).place ≢ e.place) where
  room_there : e.place < length slots
  room_there = (omega arith)

  other : (i : ℕ) → i < length order → get_or order i 0 ≢ e.place
  other i lt same = new i (omega (arith, length_listed slots order)) (place_listed l i lt ∙ same)

  unmoved : (i : ℕ) → i < length order → entry_at (set slots e.place e) (get_or order i 0)
      ≡ entry_at slots (get_or order i 0)
  unmoved i lt = get_or-set_other slots e.place (get_or order i 0) e no_entry (other i lt)

  rest : listed (set slots e.place e) order ≡ listed slots order
  rest = ext_get_or no_entry _ _ (length_listed (set slots e.place e) order ∙ sym (length_listed slots order))
      (λ i in_i. (let n = length_listed (set slots e.place e) order in let lt : i < length order =
      omega arith in listed_at (set slots e.place e) order i lt ∙ unmoved i lt ∙ sym (listed_at slots order i lt)))

  pub push_listed : listed (set slots e.place e) (order ++ e.place ∷ []) ≡ listed slots order ++ e ∷ []
  push_listed = map-append (entry_at (set slots e.place e)) order (e.place ∷ [])
      ∙ rw (rest, get_or-set_same slots e.place e no_entry room_there) refl

  abbrev order' : List ℕ
  order' = order ++ e.place ∷ []

  old_at : (i : ℕ) → i < length order → get_or order' i 0 ≡ get_or order i 0
  old_at i lt = get_or_append_left order (e.place ∷ []) 0 i lt

  last_at : (i : ℕ) → length order ≡ i → get_or order' i 0 ≡ e.place
  last_at i is = get_or_push order e.place 0 i is

  size : length order' ≡ length order + 1
  size = length_push order e.place

  pub more_listed : IsListed (set slots e.place e) (order ++ e.place ∷ [])
  more_listed = record {
    size = length-set slots e.place e ∙ l.size;
    within = each_pushed order e.place 0 (λ q. q < 4097) l.within room;
    places = each_pushed order e.place 0 (λ q. (entry_at (set slots e.place e) q).place ≡ q)
        (λ i lt. rw (unmoved i lt) (l.places i lt)) (rw (get_or-set_same slots e.place e no_entry room_there) refl);
    apart = λ i j in_i in_j ne same. (let n = size in elim (cases_lt i (length order)) [
      | inl before_i ↦ elim (cases_lt j (length order)) [
        | inl before_j ↦ l.apart i j before_i before_j ne (sym (old_at i before_i) ∙ same ∙ old_at j before_j)
        | inr last_j ↦ other i before_i (sym (old_at i before_i) ∙ same ∙ last_at j (omega arith))
      ]
      | inr last_i ↦ elim (cases_lt j (length order)) [
        | inl before_j ↦ other j before_j (cc (old_at j before_j, last_at i (omega arith)))
        | inr last_j ↦ ne (omega arith)
      ]
    ]);
  }

-- one entry less
module _ {slots : List Entry} {order : List ℕ} (l : IsListed slots order) (i : ℕ) (lt : i < length order) where
  pub remove_listed : listed slots (remove order i) ≡ remove (listed slots order) i
  remove_listed = ext_get_or no_entry _ _ (let a = length_listed slots (remove order i) in let b =
      length_listed slots order in let c = fewer order i lt in
      let d = fewer (listed slots order) i (omega arith) in omega arith)
      (λ j in_j. at j (omega (arith, length_listed slots (remove order i))))
    where
      at : (j : ℕ) → j < length (remove order i) → entry_at (listed slots (remove order i)) j
          ≡ entry_at (remove (listed slots order) i) j
      at j in_j = grind (arith, nat_tests, common_steps, length_listed, listed_at, at_was, was_within)

  pub less_listed : IsListed slots (remove order i)
  less_listed = record {
    size = l.size;
    within = each_left order i lt 0 (λ q. q < 4097) (λ j in_j ne. l.within j in_j);
    places = each_left order i lt 0 (λ q. (entry_at slots q).place ≡ q) (λ j in_j ne. l.places j in_j);
    apart = λ a b in_a in_b ne same. l.apart (was i a) (was i b) (was_within order i lt a in_a)
        (was_within order i lt b in_b) (was_apart a b ne) (sym (at_was order i lt a 0) ∙ same ∙ at_was order i lt b 0);
  }
    where
      was_apart : (a b : ℕ) → a ≢ b → was i a ≢ was i b
      was_apart a b ne same = grind (arith, nat_tests, common_steps, was_up)
