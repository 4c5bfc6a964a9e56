use Rattle.std.specs.Prelude.{◌≡◌, ℕ, zero, suc, ◌+◌, ◌-◌, ◌*◌, ◌/◌, ◌%◌, ◌^◌, ◌<◌, ◌≤◌, ◌==◌, Bool, true, false, if◌then◌else◌, List, [], ◌∷◌, ◌++◌, length, slice_index, slice_set, count_by, bit_and, bit_or}
use Rattle.std.specs.Int.{bit_at, bit_not, w64}

-- whether bit r is on in words of 64 bits: bit r % 64 of word r / 64 (own)
unfoldable pub bit_on : List ℕ → ℕ → Bool
bit_on words r = bit_at (slice_index words (r / 64)) (r % 64) == 1

-- the words with bit r turned on, and with bit r turned off (own)
unfoldable pub with_bit : List ℕ → ℕ → List ℕ
with_bit words r = slice_set words (r / 64) (bit_or (slice_index words (r / 64)) (1 * 2 ^ (r % 64) % 2 ^ 64))

unfoldable pub without_bit : List ℕ → ℕ → List ℕ
without_bit words r =
    slice_set words (r / 64) (bit_and (slice_index words (r / 64)) (bit_not w64 (1 * 2 ^ (r % 64) % 2 ^ 64)))

-- the upper level after word w of the lower one got a bit on (own)
abbrev pub full_after : List ℕ → List ℕ → ℕ → List ℕ
full_after words full w = if slice_index words w == 2 ^ 64 - 1 then with_bit full w else full

-- the first n bits, as flags (own)
unfoldable pub flags_of : List ℕ → ℕ → List Bool
flags_of words zero = []
flags_of words (suc n) = flags_of words n ++ bit_on words n ∷ []

-- r is the first bit that is off in the words (own)
pub record IsFirstOff (words : List ℕ) (r : ℕ) : Type 0 where
  pub within : r < 64 * length words
  pub off : bit_on words r ≡ false
  pub before : (k : ℕ) → k < r → bit_on words k ≡ true

-- words for `count` bits that are off, with every bit past them on (own)
pub record IsClear (words : List ℕ) (count : ℕ) : Type 0 where
  pub long : length words ≡ (count + 63) / 64
  pub off : (k : ℕ) → k < count → bit_on words k ≡ false
  pub padding : (k : ℕ) → count ≤ k → k < 64 * length words → bit_on words k ≡ true

-- What ties the two levels of a map of `size` numbers together (own). Bits past the last number and past the last
-- word are on, so that no search finds them; bit w of `full` says whether word w has no bit off.
pub record HasTwoLevels (words full : List ℕ) (size used : ℕ) : Type 0 where
  pub fits : size < 2 ^ 32
  pub covers : size ≤ 64 * length words
  pub short : length words < 2 ^ 32
  pub padding : (r : ℕ) → size ≤ r → r < 64 * length words → bit_on words r ≡ true
  pub full_covers : length words ≤ 64 * length full
  pub full_short : length full < 2 ^ 32
  pub full_padding : (w : ℕ) → length words ≤ w → w < 64 * length full → bit_on full w ≡ true
  pub full_is : (w : ℕ) → w < length words → bit_on full w ≡ (slice_index words w == 2 ^ 64 - 1)
  pub counted : used ≡ count_by (λ in_use. in_use) (flags_of words size)
