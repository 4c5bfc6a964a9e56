-- Laws of the fields of a line (own).
use Rattle.text_model.proofs.Prelude.{◌≡◌, ◌≢◌, ℕ, suc, zero, ◌+◌, ◌-◌, ◌<◌, ◌≤◌, false, eqb, List, [], ◌∷◌, length, refl, sym, ap, ◌∙◌, arith, get_or, take, drop, nat_tests, common_steps, none_left, fields_of, onto_field}
use Rattle.text_model.proofs.LineSteps.{all_left, drop_at}

-- spaces before a field
fields_space : (b : ℕ) (bs : List ℕ) → b ≡ 32 → fields_of (b ∷ bs) ≡ fields_of bs
unfolding fields_of
fields_space b bs e = rw e refl

fields_byte : (b : ℕ) (bs : List ℕ) → b ≢ 32 → fields_of (b ∷ bs) ≡ onto_field b bs (fields_of bs)
unfolding fields_of
fields_byte b bs ne = let z : eqb b 32 ≡ false = grind (arith, nat_tests) in rw z refl

pub fields_nil : fields_of [] ≡ []
unfolding fields_of
fields_nil = refl

pub space_passed : (bs : List ℕ) (i : ℕ) → i < length bs → get_or bs i 0 ≡ 32 → fields_of (drop i bs) ≡ fields_of bs
    → fields_of (drop (i + 1) bs) ≡ fields_of bs
space_passed bs i lt e h = sym (ap fields_of (drop_at bs i lt) ∙ fields_space (get_or bs i 0) (drop (i + 1) bs) e) ∙ h

pub field_starts : (bs : List ℕ) (i : ℕ) → fields_of (drop i bs) ≡ fields_of bs
    → fields_of (take (length bs - i) (drop i bs)) ≡ fields_of bs
field_starts bs i h = rw (all_left bs i) h

pub all_spaces : (bs : List ℕ) (i : ℕ) → length bs ≤ i → fields_of (drop i bs) ≡ fields_of bs → fields_of []
    ≡ fields_of bs
all_spaces bs i le h = sym (ap fields_of (none_left bs i le)) ∙ h

-- the first field ends before a space
onto_space : (b c : ℕ) (cs : List ℕ) (fs : List (List ℕ)) → c ≡ 32 → onto_field b (c ∷ cs) fs ≡ (b ∷ []) ∷ fs
onto_space b c cs [] e = refl
onto_space b c cs (f ∷ fs) e = rw e refl

onto_byte : (b c : ℕ) (cs : List ℕ) (f : List ℕ) (fs : List (List ℕ)) → c ≢ 32 → onto_field b (c ∷ cs) (f ∷ fs)
    ≡ (b ∷ f) ∷ fs
onto_byte b c cs f fs ne = let z : eqb c 32 ≡ false = grind (arith, nat_tests) in rw z refl

-- no space stands before i
abbrev pub NoSpaceBefore : ℕ → List ℕ → Type 0
NoSpaceBefore i bs = (k : ℕ) → k < i → get_or bs k 0 ≢ 32

-- a space stands at i, or the line ends there
abbrev Stops : ℕ → List ℕ → Type 0
Stops i bs = (i < length bs → get_or bs i 0 ≡ 32) × (i ≤ length bs)

-- the first field of a line, and the fields after it
split_at : (bs : List ℕ) (i : ℕ) → NoSpaceBefore (suc i) bs → Stops (suc i) bs → fields_of bs ≡ take (suc i) bs
    ∷ fields_of (drop (suc i) bs)
split_at [] i clear stop = absurd (omega (arith, stop.1))
split_at (b ∷ []) zero clear stop = fields_byte b [] (clear 0 (omega arith)) ∙ rw fields_nil refl
split_at (b ∷ c ∷ cs) zero clear stop =
    fields_byte b (c ∷ cs) (clear 0 (omega arith)) ∙ onto_space b c cs (fields_of (c ∷ cs)) (stop.0 (omega arith))
split_at (b ∷ []) (suc i) clear stop = absurd (omega (arith, stop.1))
split_at (b ∷ c ∷ cs) (suc i) clear stop =
    fields_byte b (c ∷ cs) (clear 0 (omega arith))
    ∙ ap (onto_field b (c ∷ cs)) (split_at (c ∷ cs) i (λ k h. clear (suc k) (omega arith))
    (λ h. stop.0 (omega arith), omega (arith, stop.1)))
    ∙ onto_byte b c cs (take (suc i) (c ∷ cs)) (fields_of (drop (suc i) (c ∷ cs))) (clear 1 (omega arith))

pub field_split : (bs : List ℕ) (i : ℕ) → 0 < i → NoSpaceBefore i bs → i < length bs → get_or bs i 0 ≡ 32
    → fields_of bs ≡ take i bs ∷ fields_of (take (length bs - i) (drop i bs))
field_split bs zero pos clear lt e = absurd (omega arith)
field_split bs (suc i) pos clear lt e = rw (all_left bs (suc i)) (split_at bs i clear (λ h. e, omega arith))

pub field_last : (bs : List ℕ) → 0 < length bs → NoSpaceBefore (length bs) bs → fields_of bs ≡ bs ∷ []
field_last [] pos clear = absurd (omega arith)
field_last (b ∷ bs) pos clear =
    split_at (b ∷ bs) (length bs) (λ k h. clear k (omega arith)) (λ h. absurd (omega arith), omega arith)
    ∙ rw (whole, rest, fields_nil) refl
  where
    whole : take (suc (length bs)) (b ∷ bs) ≡ b ∷ bs
    whole = grind (arith, common_steps)

    rest : drop (suc (length bs)) (b ∷ bs) ≡ []
    rest = grind (arith, common_steps)

pub fields_empty : (bs : List ℕ) → length bs ≡ 0 → fields_of bs ≡ []
fields_empty [] e = fields_nil
fields_empty (b ∷ bs) e = absurd (omega arith)

-- what a walk over spaces goes by
pub ruleset spaces_skipped = (space_passed, field_starts, all_spaces)

-- and the first field of a line
pub ruleset field_taken = (field_split, field_last, fields_nil, fields_empty)
