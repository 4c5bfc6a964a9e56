-- The four pools of the table, whose places follow one another (own).
use Rattle.std.specs.Prelude.{◌≡◌, ℕ, ◌+◌, ◌<◌, ◌≤◌, List, length, take, sum, slice_index}

-- the first place of a pool
abbrev pub first_of : List ℕ → ℕ → ℕ
first_of sizes pool = sum (take pool sizes)

-- how many places a pool has
abbrev pub size_of : List ℕ → ℕ → ℕ
size_of sizes pool = slice_index sizes pool

-- the place is one of the pool's
pub record IsInPool (sizes : List ℕ) (pool place : ℕ) : Type 0 where
  pub from : first_of sizes pool ≤ place
  pub to : place < first_of sizes pool + size_of sizes pool

-- the place is the pool's, so far from its first
pub record IsPlaced (sizes : List ℕ) (place pool offset : ℕ) : Type 0 where
  pub known : pool < 4
  pub within : offset < size_of sizes pool
  pub is : place ≡ first_of sizes pool + offset

-- four pools, together of at most 1024 places, each hand in its pool
pub record HasPools (sizes hands : List ℕ) : Type 0 where
  pub four : length sizes ≡ 4
  pub few : sum sizes ≤ 1024
  pub hand_count : length hands ≡ 4
  pub inside : (pool : ℕ) → pool < 4 → 0 < size_of sizes pool → slice_index hands pool < size_of sizes pool
