-- Laws of the spaces before a word (own).
use Rattle.book_check.proofs.Prelude.{◌≡◌, ◌≢◌, ℕ, ◌+◌, ◌-◌, ◌<◌, ◌≤◌, false, eqb, List, [], ◌∷◌, length, refl, sym, ap, ◌∙◌, arith, get_or, take, drop, nat_tests, common_steps, all_left, drop_at, after_spaces}

after_space : (b : ℕ) (bs : List ℕ) → b ≡ 32 → after_spaces (b ∷ bs) ≡ after_spaces bs
after_space b bs e = rw e refl

after_word : (b : ℕ) (bs : List ℕ) → b ≢ 32 → after_spaces (b ∷ bs) ≡ b ∷ bs
after_word b bs ne = let z : eqb b 32 ≡ false = grind (arith, nat_tests) in rw z refl

pub space_passed : (bs : List ℕ) (i : ℕ) → i < length bs → get_or bs i 0 ≡ 32 → after_spaces (drop i bs)
    ≡ after_spaces bs → after_spaces (drop (i + 1) bs) ≡ after_spaces bs
space_passed bs i lt e h = sym (ap after_spaces (drop_at bs i lt) ∙ after_space (get_or bs i 0) (drop (i + 1) bs) e) ∙ h

pub word_starts : (bs : List ℕ) (i : ℕ) → i < length bs → get_or bs i 0 ≢ 32 → after_spaces (drop i bs)
    ≡ after_spaces bs → take (length bs - i) (drop i bs) ≡ after_spaces bs
word_starts bs i lt ne h = all_left bs i
    ∙ sym (sym h ∙ ap after_spaces (drop_at bs i lt) ∙ after_word (get_or bs i 0) (drop (i + 1) bs) ne
    ∙ sym (drop_at bs i lt))

pub all_spaces : (bs : List ℕ) (i : ℕ) → length bs ≤ i → after_spaces (drop i bs) ≡ after_spaces bs → []
    ≡ after_spaces bs
all_spaces bs i le h = let none : drop i bs ≡ [] = grind (arith, common_steps) in sym (ap after_spaces none) ∙ h

-- what the proof of `after_spaces` is given
pub ruleset after_spaces_steps = (space_passed, word_starts, all_spaces)
