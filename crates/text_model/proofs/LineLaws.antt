-- Laws of the first line of a text (own).
use Rattle.text_model.proofs.Prelude.{◌≡◌, ℕ, suc, zero, ◌+◌, ◌-◌, ◌<◌, ◌≤◌, List, [], ◌∷◌, ◌++◌, length, refl, ap, ◌∙◌, arith, get_or, take, drop, add-one, length_left, rest_last, Closes, lines_of, onto_piece}
use Rattle.text_model.proofs.LineSteps.{NoFeedBefore, all_left, line_byte, line_feed, line_last}

-- the first line ends before a line feed
lines_split : (bs : List ℕ) (i : ℕ) → NoFeedBefore i bs → i < length bs → get_or bs i 0 ≡ 10 → lines_of bs ≡ take i bs
    ∷ lines_of (drop (suc i) bs)
lines_split [] i clear lt e = absurd (omega arith)
lines_split (b ∷ bs) zero clear lt e = line_feed b bs e
lines_split (b ∷ bs) (suc i) clear lt e =
    line_byte b bs (clear 0 (omega arith)) ∙ ap (onto_piece b)
    (lines_split bs i (λ k h. clear (suc k) (omega arith)) (omega arith) e)

pub line_found : (bs : List ℕ) (i : ℕ) → NoFeedBefore i bs → i < length bs → get_or bs i 0 ≡ 10 → lines_of bs
    ≡ take i bs ∷ lines_of (take (length bs - (i + 1)) (drop (i + 1) bs))
line_found bs i clear lt e = rw (all_left bs (i + 1), add-one) (lines_split bs i clear lt e)

-- no line feed stands in all of it
pub line_unfed : (bs : List ℕ) (i : ℕ) → NoFeedBefore i bs → length bs ≤ i → 0 < length bs
    → lines_of bs ≡ bs ∷ lines_of []
line_unfed bs i clear end some = line_last bs (λ k lt. clear k (omega (arith, lt, end))) some

-- the bytes up to the first line feed are a line, whatever follows
closes_at : (bs : List ℕ) (i : ℕ) → NoFeedBefore i bs → i < length bs → get_or bs i 0 ≡ 10
    → Closes (take (suc i) bs) (take i bs)
closes_at [] i clear lt e rest = absurd (omega arith)
closes_at (b ∷ bs) zero clear lt e rest = line_feed b rest e
closes_at (b ∷ bs) (suc i) clear lt e rest =
    line_byte b (take (suc i) bs ++ rest) (clear 0 (omega arith))
    ∙ ap (onto_piece b) (closes_at bs i (λ k h. clear (suc k) (omega arith)) (omega arith) e rest)

pub rest_cut : (bs : List ℕ) (i : ℕ) → i < length bs
    → take (length bs - (i + 1)) (drop (i + 1) bs) ≡ drop
    (length bs - length (take (length bs - (i + 1)) (drop (i + 1) bs))) bs
rest_cut bs i lt = rw (all_left bs (i + 1), length_left bs (i + 1) (omega arith)) refl

pub front_closes : (bs : List ℕ) (i : ℕ) → NoFeedBefore i bs → i < length bs → get_or bs i 0 ≡ 10
    → Closes (take (length bs - length (take (length bs - (i + 1)) (drop (i + 1) bs))) bs) (take i bs)
front_closes bs i clear lt e rest =
    let place : length bs - length (take (length bs - (i + 1)) (drop (i + 1) bs)) ≡ suc i =
    ap (λ (t : List ℕ). length bs - length t) (all_left bs (i + 1)) ∙ length_left bs (i + 1) (omega arith)
    ∙ omega arith in
    ap (λ (n : ℕ). lines_of (take n bs ++ rest)) place ∙ closes_at bs i clear lt e rest

-- what the proof of `next_line` is given
pub ruleset next_line_steps = (line_found, line_last, rest_cut, rest_last, front_closes)
