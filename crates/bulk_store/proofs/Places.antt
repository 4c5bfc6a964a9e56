-- The place of a record in a list that changes at an end.
pub use Rattle.bulk_store.proofs.Prelude.{Held, Holdings, IsIndexed, List, None, NoneTwice, Some, [], ap, arith, below_or_past, cases_eq, eqb_tells, get_or, get_or-set_other, get_or-set_same, get_or_past, inl, inr, length, length-append, length-set, max, place_of, refl, set, sym, with_newest, with_record, without_oldest, ℕ, ◌+◌, ◌<◌, ◌∙◌, ◌∷◌, ◌≡◌, ◌≢◌, ◌⊎◌}

-- the first of a list has its own place
pub place_of-first : (h : Held) (held : List Held) → place_of (h ∷ held) h.number ≡ Some h.place
place_of-first h held = elim (eqb_tells h.number h.number) [ inl e ↦ rw e.0 refl | inr e ↦ absurd (e.1 refl) ]

-- and every other record the place that the rest says
pub place_of-rest : (h : Held) (held : List Held) (r : ℕ) → h.number ≢ r → place_of (h ∷ held) r ≡ place_of held r
place_of-rest h held r other = elim (eqb_tells h.number r) [ inl e ↦ absurd (other e.1) | inr e ↦ rw e.0 refl ]

-- a record that came in last has its place
pub place_of-newest : (held : List Held) (r : ℕ) {p : ℕ} → place_of held r ≡ None
    → place_of (with_newest held r p) r ≡ Some p
place_of-newest [] r {p} none = place_of-first (record { number = r; place = p }) []
place_of-newest (h ∷ held) r {p} none = elim (eqb_tells h.number r) [
  | inl e ↦ (let bad = rw e.0 at none in cc)
  | inr e ↦ rw e.0 (place_of-newest held r (rw e.0 at none))
]

-- and every other record the place that it had
pub place_of-others : (held : List Held) (r p s : ℕ) → s ≢ r → place_of (with_newest held r p) s ≡ place_of held s
place_of-others [] r p s other = place_of-rest (record { number = r; place = p }) [] s (λ e. other (sym e))
place_of-others (h ∷ held) r p s other = elim (eqb_tells h.number s) [
  | inl e ↦ rw e.0 refl
  | inr e ↦ rw e.0 (place_of-others held r p s other)
]

-- a record that wasn't held comes in: none stands twice
pub none_twice-newest : (held : List Held) (r p : ℕ) → place_of held r ≡ None → NoneTwice held
    → NoneTwice (with_newest held r p)
none_twice-newest [] r p none once = (refl, tt)
none_twice-newest (h ∷ held) r p none once = elim (eqb_tells h.number r) [
  | inl e ↦ (let bad = rw e.0 at none in cc)
  | inr e ↦ (place_of-others held r p h.number e.1 ∙ once.0, none_twice-newest held r p (rw e.0 at none) once.1)
]
