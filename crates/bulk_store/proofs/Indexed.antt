-- The index tells what the list does, before and after each change.
pub use Rattle.bulk_store.proofs.Places.{Held, Holdings, IsIndexed, List, None, NoneTwice, Some, [], ap, arith, below_or_past, cases_eq, get_or, get_or-set_other, get_or-set_same, get_or_past, inl, inr, length, length-append, length-set, max, none_twice-newest, place_of, place_of-first, place_of-newest, place_of-others, place_of-rest, set, sym, with_newest, with_record, without_oldest, ℕ, ◌+◌, ◌<◌, ◌∙◌, ◌∷◌, ◌≡◌, ◌≢◌, ◌⊎◌}

-- the place of a record after record r came in is the new one, and the record is r, or it is as before
place_cases : (held : List Held) (r p s : ℕ) {q : ℕ} → place_of held r ≡ None
    → place_of (with_newest held r p) s ≡ Some q → ((s ≡ r) × (p ≡ q)) ⊎ ((s ≢ r) × (place_of held s ≡ Some q))
place_cases held r p s {q} none is = elim (cases_eq s r) [
  | inl e ↦ (let new = place_of-newest held r {p = p} none in
      let at : place_of (with_newest held r p) r ≡ Some q = ap (λ (x : ℕ). place_of (with_newest held r p) x) (sym e)
      ∙ is in
      inl (e, (cc)))
  | inr n ↦ inr (n, sym (place_of-others held r p s n) ∙ is)
]

-- record r comes in
pub with_record-indexed : {t : Holdings} (r : ℕ) → IsIndexed t → place_of t.held r ≡ None → t.free < t.room
    → r < length t.places → IsIndexed (with_record t r)
with_record-indexed {t} r k none room within = record {
  found = λ s. elim (cases_eq s r) [
    | inl e ↦ rw e (get_or-set_same t.places r (Some t.free) None within ∙ sym (place_of-newest t.held r none))
    | inr n ↦ get_or-set_other t.places r s (Some t.free) None n ∙ k.found s ∙ sym (place_of-others t.held r t.free s n)
  ];
  once = none_twice-newest t.held r t.free none k.once;
  apart = λ s u p is too. elim (place_cases t.held r t.free s none is) [
    | inl a ↦ elim (place_cases t.held r t.free u none too) [
      | inl b ↦ a.0 ∙ sym b.0
      | inr b ↦ absurd (k.free u (cc))
    ]
    | inr a ↦ elim (place_cases t.held r t.free u none too) [
      | inl b ↦ absurd (k.free s (cc))
      | inr b ↦ k.apart s u p a.1 b.1
    ]
  ];
  free = λ s is. elim (place_cases t.held r t.free s none is) [
    | inl a ↦ absurd (omega arith)
    | inr a ↦ absurd (omega (arith, k.below s _ a.1))
  ];
  below = λ s p is. elim (place_cases t.held r t.free s none is) [
    | inl a ↦ omega arith
    | inr a ↦ (omega (arith, k.below s p a.1))
  ];
  taken = λ p below not_free. elim (cases_eq p t.free) [
    | inl e ↦ (r, rw e (place_of-newest t.held r none))
    | inr n ↦ (let before : p < t.used = omega arith in let old = k.taken p before n in
        elim (cases_eq old.0 r) [
          | inl e ↦ (let at = old.1 in let same : place_of t.held r ≡ Some p =
              ap (λ (x : ℕ). place_of t.held x) (sym e) ∙ at in cc)
          | inr other ↦ (old.0, place_of-others t.held r t.free old.0 other ∙ old.1)
        ])
  ];
  free_used = omega arith;
  used_room = (omega arith);
  all_used = λ _. (let more = length-append t.held ((record { number = r; place = t.free }) ∷ []) in grown more);
  but_one = λ lt. absurd (omega (arith, lt));
}
  where
    grown : length (with_newest t.held r t.free) ≡ length t.held + 1 → length (with_newest t.held r t.free)
        ≡ max t.used (t.free + 1)
    grown more = elim (cases_eq t.free t.used) [
      | inl e ↦ (omega (arith, k.all_used e))
      | inr n ↦ (let lt : t.free < t.used = omega arith in omega (arith, k.but_one lt))
    ]

-- the place of a record of the rest is its place in the whole list, and the record isn't the oldest
pub rest_places : (h : Held) (held : List Held) (r : ℕ) {p : ℕ} → NoneTwice (h ∷ held) → place_of held r ≡ Some p
    → (r ≢ h.number) × (place_of (h ∷ held) r ≡ Some p)
rest_places h held r {p} once is = (other, place_of-rest h held r (λ e. other (sym e)) ∙ is)
  where
    other : r ≢ h.number
    other e = (let none = once.0 in let here : place_of held h.number ≡ Some p =
        ap (λ (x : ℕ). place_of held x) (sym e) ∙ is in cc)

-- where all places are taken, the least free one is past all that were ever used
pub full_free : {t : Holdings} → IsIndexed t → length t.held ≡ t.room → t.free ≡ t.used
full_free {t} k full = elim (cases_eq t.free t.used) [
  | inl e ↦ e
  | inr n ↦ (let lt : t.free < t.used = omega arith in absurd (omega (arith, k.but_one lt)))
]

-- where a place is free, the least free one is a place
pub free_place-within : {t : Holdings} → IsIndexed t → length t.held < t.room → t.free < t.room
free_place-within {t} k room = elim (cases_eq t.free t.used) [
  | inl e ↦ omega (arith, k.all_used e)
  | inr n ↦ omega arith
]

-- the oldest is taken out of a list that fills all places
rest_indexed : (h : Held) (t : Holdings) (all : IsIndexed (record t { held = h ∷ t.held })) → t.free ≡ t.used
    → IsIndexed (record t { places = set t.places h.number None; free = h.place })
rest_indexed h t k full = record {
  found = λ s. elim (cases_eq s h.number) [
    | inl e ↦ rw e (set_none ∙ sym k.once.0)
    | inr n ↦ get_or-set_other t.places h.number s None None n ∙ k.found s ∙ place_of-rest h t.held s (λ e. n (sym e))
  ];
  once = k.once.1;
  apart = λ r s p is too. k.apart r s p (rest_places h t.held r k.once is).1 (rest_places h t.held s k.once too).1;
  free = λ r is. (let at = rest_places h t.held r k.once is in at.0
      (k.apart r h.number h.place at.1 (place_of-first h t.held)));
  below = λ r p is. k.below r p (rest_places h t.held r k.once is).1;
  taken = λ p below other. (let old = k.taken p below (λ e. omega arith) in
      (old.0, sym (place_of-rest h t.held old.0 (λ e. other (same old.0 p e old.1))) ∙ old.1));
  free_used = (omega (arith, k.below h.number h.place (place_of-first h t.held)));
  used_room = k.used_room;
  all_used = λ e. (let b = k.below h.number h.place (place_of-first h t.held) in absurd (omega arith));
  but_one = λ _. (omega (arith, k.all_used full));
}
  where
    set_none : get_or (set t.places h.number None) h.number None ≡ None
    set_none = elim (below_or_past h.number (length t.places)) [
      | inl lt ↦ get_or-set_same t.places h.number None None lt
      | inr ge ↦ get_or_past (set t.places h.number None) h.number None
          (omega (arith, length-set t.places h.number None))
    ]

    same : (r p : ℕ) → h.number ≡ r → place_of (h ∷ t.held) r ≡ Some p → p ≡ h.place
    same r p e is = (let at = place_of-first h t.held in let there : place_of (h ∷ t.held) h.number ≡ Some p =
        ap (λ (x : ℕ). place_of (h ∷ t.held) x) e ∙ is in
        let both : Some p ≡ Some h.place = sym there ∙ at in cc)

pub without_oldest-indexed : {t : Holdings} → IsIndexed t → length t.held ≡ t.room → 0 < t.room
    → IsIndexed (without_oldest t)
without_oldest-indexed {t} k full some = go t.held k full (full_free k full)
  where
    go : (held : List Held) → IsIndexed (record t { held = held }) → length held ≡ t.room → t.free ≡ t.used
        → IsIndexed (without_oldest (record t { held = held }))
    go [] all is free = absurd (omega arith)
    go (h ∷ held) all is free = rest_indexed h (record t { held = held }) all free
