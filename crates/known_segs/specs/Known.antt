-- What a contract sees of a known segment table: the list of its 256 places, where place n has the uid that segment
-- number n stands for (Bensoussan, Clingen and Daley 1972; the 256 places and the least free number are own).
use Rattle.std.specs.Prelude.{◌≡◌, ◌≢◌, ℕ, ◌==◌, Bool, false, List, Option, Some, None, count_by, is_some, is_none, position, slice_index_or, slice_set, ◌++◌, ◌-◌, length, replicate}

-- the uid that number n stands for, if it is known
abbrev pub uid_of : List (Option ℕ) → ℕ → Option ℕ
uid_of kst n = slice_index_or kst n None

-- the 256 places of which these are the first, and the others stand for nothing
unfoldable pub padded : List (Option ℕ) → List (Option ℕ)
padded kept = kept ++ replicate (256 - length kept) None

-- whether a place stands for this uid
abbrev pub stands_for : ℕ → Option ℕ → Bool
stands_for uid None = false
stands_for uid (Some u) = u == uid

-- the number of a uid, if it is known
abbrev pub number_of : List (Option ℕ) → ℕ → Option ℕ
number_of kst uid = position (stands_for uid) kst

-- the least number that stands for nothing, if there is one
abbrev pub least_free : List (Option ℕ) → Option ℕ
least_free kst = position is_none kst

-- the first of two answers that there is
abbrev pub first_of_two : Option ℕ → Option ℕ → Option ℕ
first_of_two None other = other
first_of_two (Some n) other = Some n

-- the number under which a uid is known from now on: the one that it has, else the least free one
abbrev pub number_for : List (Option ℕ) → ℕ → Option ℕ
number_for kst uid = first_of_two (number_of kst uid) (least_free kst)

-- the table where that number, if there is one, stands for the uid
abbrev pub with_number : List (Option ℕ) → ℕ → Option ℕ → List (Option ℕ)
with_number kst uid None = kst
with_number kst uid (Some n) = slice_set kst n (Some uid)

-- the table in which number n stands for nothing
abbrev pub without_number : List (Option ℕ) → ℕ → List (Option ℕ)
without_number kst n = slice_set kst n None

-- no number stands for the uid
abbrev pub IsUnknown : List (Option ℕ) → ℕ → Type 0
IsUnknown kst uid = (n : ℕ) → uid_of kst n ≢ Some uid

-- how many numbers are known
abbrev pub known_count : List (Option ℕ) → ℕ
known_count kst = count_by is_some kst

-- no uid has two numbers
abbrev pub HasOneNumberEach : List (Option ℕ) → Type 0
HasOneNumberEach kst = (n m uid : ℕ) → uid_of kst n ≡ Some uid → uid_of kst m ≡ Some uid → n ≡ m
