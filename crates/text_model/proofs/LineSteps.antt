-- Lines byte by byte, for what goes through a text line by line (own).
use Rattle.text_model.proofs.Prelude.{◌≡◌, ◌≢◌, ℕ, suc, ◌+◌, ◌-◌, ◌<◌, false, eqb, List, [], ◌∷◌, length, refl, ap, ◌∙◌, arith, get_or, take, drop, drop-cons, add-one, nat_tests, common_steps, lines_of, onto_piece}

pub drop_at : (xs : List ℕ) (i : ℕ) → i < length xs → drop i xs ≡ get_or xs i 0 ∷ drop (i + 1) xs
drop_at xs i h = rw (add-one, drop-cons xs i 0) refl

pub all_left : (xs : List ℕ) (i : ℕ) → take (length xs - i) (drop i xs) ≡ drop i xs
all_left xs i = grind (arith, common_steps)

-- no line feed stands before i
abbrev pub NoFeedBefore : ℕ → List ℕ → Type 0
NoFeedBefore i bs = (k : ℕ) → k < i → get_or bs k 0 ≢ 10

pub lines_nil : lines_of [] ≡ []
unfolding lines_of
lines_nil = refl

pub no_lines : (bytes : List ℕ) → length bytes ≡ 0 → lines_of bytes ≡ []
no_lines [] e = lines_nil
no_lines (b ∷ bs) e = absurd (omega arith)

pub line_feed : (b : ℕ) (bs : List ℕ) → b ≡ 10 → lines_of (b ∷ bs) ≡ [] ∷ lines_of bs
unfolding lines_of
line_feed b bs e = rw e refl

pub line_byte : (b : ℕ) (bs : List ℕ) → b ≢ 10 → lines_of (b ∷ bs) ≡ onto_piece b (lines_of bs)
unfolding lines_of
line_byte b bs ne = let z : eqb b 10 ≡ false = grind (arith, nat_tests) in rw z refl

-- the last line may lack its line feed
lines_last : (b : ℕ) (bs : List ℕ) → NoFeedBefore (suc (length bs)) (b ∷ bs) → lines_of (b ∷ bs) ≡ (b ∷ bs) ∷ []
lines_last b [] clear = line_byte b [] (clear 0 (omega arith)) ∙ rw lines_nil refl
lines_last b (c ∷ cs) clear =
    line_byte b (c ∷ cs) (clear 0 (omega arith)) ∙ ap (onto_piece b)
    (lines_last c cs (λ k h. clear (suc k) (omega arith)))

pub line_last : (bs : List ℕ) → NoFeedBefore (length bs) bs → 0 < length bs → lines_of bs ≡ bs ∷ lines_of []
line_last [] clear some = absurd (omega arith)
line_last (b ∷ bs) clear some = rw lines_nil (lines_last b bs clear)
