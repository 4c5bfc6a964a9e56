-- How many lines of two texts are the same (own).
use Rattle.book_check.proofs.Prelude.{◌≡◌, ◌≢◌, ℕ, ◌+◌, Bool, true, false, cond, eqb, List, [], ◌∷◌, length, refl, sym, ap, ◌∙◌, arith, bytes_eq, bytes_eq-Decides, no_lines, lines_of, onto_piece, same_lines}

-- so many lines at the front of two lists are the same, and these are left of both
pub record AreSame (all due left wanted : List (List ℕ)) (n : ℕ) : Type 0 where
  pub count : same_lines all due ≡ n + same_lines left wanted
  pub forth : all ≡ due → left ≡ wanted
  pub back : left ≡ wanted → all ≡ due

both_same : (line other : List ℕ) (more others : List (List ℕ)) → bytes_eq line other ≡ true
    → same_lines (line ∷ more) (other ∷ others) ≡ 1 + same_lines more others
both_same line other more others e = rw e refl

both_other : (line other : List ℕ) (more others : List (List ℕ)) → bytes_eq line other ≡ false
    → same_lines (line ∷ more) (other ∷ others) ≡ 0
both_other line other more others e = rw e refl

module _ (all due left wanted : List (List ℕ)) (n : ℕ) (is : AreSame all due left wanted n) where
  module _ (more due_more : List (List ℕ)) (line due_line : List ℕ) (cut : left ≡ line ∷ more)
      (due_cut : wanted ≡ due_line ∷ due_more) where
    pub same_next : bytes_eq line due_line ≡ true → AreSame all due more due_more (n + 1)
    same_next e =
        let same : line ≡ due_line = (bytes_eq-Decides line due_line).0 e in
        let step : same_lines left wanted ≡ 1 + same_lines more due_more =
        ap (λ (t : List (List ℕ)). same_lines t wanted) cut
        ∙ ap (λ (t : List (List ℕ)). same_lines (line ∷ more) t) due_cut ∙ both_same line due_line more due_more e in
        record {
          count = omega (arith, is.count, step);
          forth = λ f. let whole : line ∷ more ≡ due_line ∷ due_more = sym cut ∙ is.forth f ∙ due_cut in cc;
          back = λ f. is.back (cut ∙ ap (λ (l : List ℕ). l ∷ more) same ∙ ap (λ (t : List (List ℕ)). due_line ∷ t) f
              ∙ sym due_cut);
        }

    pub other_line : bytes_eq line due_line ≡ false → (all ≢ due) × (n ≡ same_lines all due)
    other_line e =
        let step : same_lines left wanted ≡ 0 = ap (λ (t : List (List ℕ)). same_lines t wanted) cut
        ∙ ap (λ (t : List (List ℕ)). same_lines (line ∷ more) t) due_cut ∙ both_other line due_line more due_more e in (
          λ f.
              let whole : line ∷ more ≡ due_line ∷ due_more = sym cut ∙ is.forth f ∙ due_cut in
              let same : line ≡ due_line = cc in
              let clash : false ≡ true = sym e ∙ (bytes_eq-Decides line due_line).1 same in
              cc,
          omega (arith, is.count, step),
        )

  pub left_ends : left ≡ [] → wanted ≢ [] → (all ≢ due) × (n ≡ same_lines all due)
  left_ends e more =
      let step : same_lines left wanted ≡ 0 = ap (λ (t : List (List ℕ)). same_lines t wanted) e in
      (λ f. more (sym (is.forth f) ∙ e), omega (arith, is.count, step))

  pub wanted_ends : wanted ≡ [] → left ≢ [] → (all ≢ due) × (n ≡ same_lines all due)
  wanted_ends e more =
      let step : same_lines left wanted ≡ 0 = ap (same_lines left) e ∙ none left in
      (λ f. more (is.forth f ∙ e), omega (arith, is.count, step))
    where
      none : (xs : List (List ℕ)) → same_lines xs [] ≡ 0
      none [] = refl
      none (x ∷ xs) = refl

some_line : (bytes : List ℕ) → length bytes ≢ 0 → lines_of bytes ≢ []
unfolding lines_of
some_line [] some e = absurd (some refl)
some_line (b ∷ bs) some e = each (eqb b 10) e
  where
    onto : (lines : List (List ℕ)) → onto_piece b lines ≡ [] → ⊥
    onto [] f = cc
    onto (line ∷ lines) f = cc

    each : (z : Bool) → cond z ([] ∷ lines_of bs) (onto_piece b (lines_of bs)) ≡ [] → ⊥
    each true f = cc
    each false f = onto (lines_of bs) f

module _ (given due left wanted : List ℕ) (n : ℕ) (is : AreSame (lines_of given) (lines_of due) (lines_of left)
    (lines_of wanted) n) where
  pub due_ends : length wanted ≡ 0 → length left ≢ 0 → (lines_of given ≢ lines_of due)
      × (n ≡ same_lines (lines_of given) (lines_of due))
  due_ends e some = wanted_ends (lines_of given) (lines_of due) (lines_of left) (lines_of wanted) n is
      (no_lines wanted e) (some_line left some)

  pub given_ends : length left ≡ 0 → length wanted ≢ 0 → (lines_of given ≢ lines_of due)
      × (n ≡ same_lines (lines_of given) (lines_of due))
  given_ends e some = left_ends (lines_of given) (lines_of due) (lines_of left) (lines_of wanted) n is (no_lines left e)
      (some_line wanted some)
