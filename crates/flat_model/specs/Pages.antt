-- Words and stored pages. A page has 1024 words; a page of zeros costs nothing (Bensoussan, Clingen and Daley 1972).
use Rattle.std.specs.Prelude.{◌≡◌, ℕ, zero, suc, ◌+◌, ◌*◌, Bool, true, false, not, ◌&&◌, ◌||◌, ◌==◌, nat_le, if◌then◌else◌, List, [], ◌∷◌}
use Rattle.std.specs.List.{filter}

-- the word at each offset of each segment, by its uid; 0 where none was written
abbrev pub Words : Type 0
Words = ℕ → ℕ → ℕ

-- the words once one is written
abbrev pub with_word : Words → ℕ → ℕ → ℕ → Words
with_word words uid offset w = λ u o. if u == uid && o == offset then w else words u o

-- the words once those of a segment from an offset on are 0
abbrev pub without_words : Words → ℕ → ℕ → Words
without_words words uid from = λ u o. if u == uid && nat_le from o then 0 else words u o

-- a test holds of each number below one
abbrev pub all_below : (ℕ → Bool) → ℕ → Bool
all_below test zero = true
all_below test (suc n) = test n && all_below test n

-- each word of a page is 0
unfoldable pub is_zero_page : Words → ℕ → ℕ → Bool
is_zero_page words uid page = all_below (λ i. words uid (1024 * page + i) == 0) 1024

-- The stored pages are a list of pairs of a uid and a page, each once.

abbrev pub is_page : ℕ → ℕ → ℕ × ℕ → Bool
is_page uid page x = x.0 == uid && x.1 == page

abbrev pub is_stored : List (ℕ × ℕ) → ℕ → ℕ → Bool
is_stored [] uid page = false
is_stored (x ∷ xs) uid page = is_page uid page x || is_stored xs uid page

-- the pages once one is stored
unfoldable pub with_stored : List (ℕ × ℕ) → ℕ → ℕ → List (ℕ × ℕ)
with_stored xs uid page = if is_stored xs uid page then xs else (uid, page) ∷ xs

-- the pages once those of a segment that pass a test are stored no more
unfoldable pub without_stored : List (ℕ × ℕ) → ℕ → (ℕ → Bool) → List (ℕ × ℕ)
without_stored xs uid test = filter (λ x. not (x.0 == uid && test x.1)) xs

-- a page of a segment is stored whose number is this one or above
abbrev pub is_stored_from : List (ℕ × ℕ) → ℕ → ℕ → Bool
is_stored_from [] uid page = false
is_stored_from (x ∷ xs) uid page = (x.0 == uid && nat_le page x.1) || is_stored_from xs uid page

-- each page is listed once
abbrev pub IsOnce : List (ℕ × ℕ) → Type 0
IsOnce [] = Unit {0}
IsOnce (x ∷ xs) = (is_stored xs x.0 x.1 ≡ false) × IsOnce xs
