-- Lines of an input, one after the other.
use Rattle.reasons.proofs.Prelude.{◌≡◌, ◌≤◌, ℕ, Bool, true, false, if◌then◌else◌, List, ◌∷◌, [], length, arith, refl, sym, ap, ◌∙◌, ◌+◌, ◌==◌, subst, lines_nil, lines_of, onto_piece, list_any, first_of}

pub any_later : (P : List ℕ → Bool) (lines more : List (List ℕ)) (line : List ℕ) → lines ≡ line ∷ more
    → P line ≡ false → list_any P lines ≡ list_any P more
any_later P lines more line is other = ap (list_any P) is ∙ rw other refl

pub any_here : (P : List ℕ → Bool) (lines more : List (List ℕ)) (line : List ℕ) → lines ≡ line ∷ more
    → P line ≡ true → list_any P lines ≡ true
any_here P lines more line is yes_ = ap (list_any P) is ∙ rw yes_ refl

pub first_is : (lines more : List (List ℕ)) (line : List ℕ) → lines ≡ line ∷ more → line ≡ first_of lines
first_is lines more line is = ap first_of (sym is)

pub first_none : (bytes : List ℕ) → length bytes ≡ 0 → bytes ≡ first_of (lines_of bytes)
first_none [] none = rw lines_nil refl
first_none (b ∷ bs) none = absurd (omega (arith, none))

pub no_line : (P : List ℕ → Bool) (bytes rest : List ℕ) → list_any P (lines_of bytes) ≡ list_any P (lines_of rest)
    → length rest ≡ 0 → false ≡ list_any P (lines_of bytes)
no_line P bytes [] is none = sym (is ∙ ap (list_any P) lines_nil)
no_line P bytes (b ∷ bs) is none = absurd (omega (arith, none))

-- the first line of some bytes is no longer than they are
onto_short : (b : ℕ) (lines : List (List ℕ)) → length (first_of (onto_piece b lines)) ≤ length (first_of lines) + 1
onto_short b [] = omega arith
onto_short b (line ∷ lines) = omega arith

first_short : (bytes : List ℕ) → length (first_of (lines_of bytes)) ≤ length bytes
unfolding lines_of
first_short [] = omega arith
first_short (b ∷ bs) = each (b == 10) (first_short bs)
  where
    each : (z : Bool) → length (first_of (lines_of bs)) ≤ length bs
        → length (first_of (if z then [] ∷ lines_of bs else onto_piece b (lines_of bs))) ≤ length (b ∷ bs)
    each true later = omega arith
    each false later = let one = onto_short b (lines_of bs) in omega (arith, one, later)

pub first_fits : (bytes line : List ℕ) (more : List (List ℕ)) → lines_of bytes ≡ line ∷ more
    → length line ≤ length bytes
first_fits bytes line more is = subst (λ (l : List ℕ). length l ≤ length bytes) (sym (first_is (lines_of bytes)
    more line is))
    (first_short bytes)

pub ruleset first_steps = (first_is, first_none, first_fits)

pub ruleset book_steps = (any_later, any_here)
