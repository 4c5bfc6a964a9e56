-- Counts by a number (own).
use Rattle.std.specs.Prelude.{◌≡◌, ◌<◌, ◌^◌, ℕ, ◌+◌, ◌-◌, ◌==◌, if◌then◌else◌, slice_index_or, length, List, Option, Some, None}

abbrev pub Counted : Type 0
Counted = List ℕ

-- what is counted at a number, 0 where nothing is
abbrev pub count_at : Counted → ℕ → ℕ
count_at counts a = slice_index_or counts a 0

-- all counts are as they were
abbrev pub Keeps : Counted → Counted → Type 0
Keeps old new = (x : ℕ) → count_at new x ≡ count_at old x

-- ---- what is counted under at most one key

-- whether a key is this one, as a number
abbrev pub key_bit : Option ℕ → ℕ → ℕ
key_bit None x = 0
key_bit (Some k) x = if k == x then 1 else 0

-- the key has its place
abbrev pub HasPlace : Counted → Option ℕ → Type 0
HasPlace counts None = Unit {0}
HasPlace counts (Some k) = k < length counts

-- something that was counted under one key is counted under another from now on
abbrev pub Shifts : Counted → Counted → Option ℕ → Option ℕ → Type 0
Shifts old new from to = (x : ℕ) → count_at new x ≡ count_at old x + key_bit to x - key_bit from x

-- no count is near the most that one takes
abbrev pub AreFew : Counted → Type 0
AreFew counts = (x : ℕ) → count_at counts x < 2 ^ 33
