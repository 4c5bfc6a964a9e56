pub use Rattle.vtoc.proofs.Prelude.{Bool, IsTrue, List, None, Option, Some, [], ap, arith, eqb_tells, false, get_or, get_or-map, inl, inr, length, list_all, map, map-set, no_records, record_of, records_of, refl, replicate, set, suc, sym, true, zero, ℕ, ◌&&◌, ◌<◌, ◌==◌, ◌↔◌, ◌∙◌, ◌∷◌, ◌≡◌, ◌≢◌}

-- a place by its code
pub read_code : (codes : List ℕ) (p : ℕ) {code : ℕ} → p < length codes → get_or codes p 0 ≡ code
    → get_or (records_of codes) p None ≡ record_of code
unfolding records_of
read_code codes p inside is = cc (get_or-map record_of codes p 0 None inside)

pub read_none : (codes : List ℕ) (p : ℕ) {code : ℕ} → p < length codes → get_or codes p 0 ≡ code → code ≡ 65535 → None
    ≡ get_or (records_of codes) p None
read_none codes p {code} inside is none = sym (read_code codes p inside is ∙ rw none refl)

pub read_some : (codes : List ℕ) (p : ℕ) {code : ℕ} → p < length codes → get_or codes p 0 ≡ code → code ≢ 65535
    → Some code ≡ get_or (records_of codes) p None
read_some codes p {code} inside is other = sym (read_code codes p inside is ∙
    elim (eqb_tells code 65535) [ inl h ↦ absurd (other h.1) | inr h ↦ rw h.0 refl ])

-- a place after its code is written
pub write_code : (codes : List ℕ) (p code : ℕ) {r : Option ℕ} → record_of code ≡ r → records_of (set codes p code)
    ≡ set (records_of codes) p r
unfolding records_of
write_code codes p code is = cc (map-set record_of codes p code)

map_none : (n : ℕ) → records_of (replicate n 65535) ≡ replicate n None
unfolding records_of
map_none zero = refl
map_none (suc n) = cc (map_none n)

-- codes of the highest number name no record
pub codes_of_none : records_of (replicate 256 65535) ≡ no_records
unfolding no_records
codes_of_none = map_none 256

-- a map names no record where each code is the highest
none_step : (none rest : Bool) (code : ℕ) (places : List (Option ℕ)) → none ≡ (code == 65535)
    → (IsTrue rest ↔ ((p : ℕ) → get_or places p None ≡ None))
    → (IsTrue (none && rest) ↔ ((p : ℕ) → get_or (record_of code ∷ places) p None ≡ None))
none_step true rest code places is ih = rw (← is) (λ t. at t, λ h. ih.1 (λ p. h (suc p)))
  where
    at : IsTrue rest → (p : ℕ) → get_or (None ∷ places) p None ≡ None
    at t zero = refl
    at t (suc p) = ih.0 t p
none_step false rest code places is ih = rw (← is) (λ t. cc, λ h. absurd (let no = h 0 in cc))

pub none_is : (codes : List ℕ)
    → (IsTrue (list_all (λ code. code == 65535) codes) ↔ ((p : ℕ) → get_or (records_of codes) p None ≡ None))
unfolding records_of
none_is [] = (λ t p. refl, λ h. refl)
none_is (code ∷ codes) = none_step (code == 65535) _ code (map record_of codes) refl (none_is codes)

pub names_none : (codes : List ℕ) (places : List (Option ℕ)) (none : Bool) → records_of codes ≡ places
    → none ≡ list_all (λ code. code == 65535) codes → (IsTrue none ↔ ((p : ℕ) → get_or places p None ≡ None))
names_none codes places none view is = rw (is, ← view) (none_is codes)
