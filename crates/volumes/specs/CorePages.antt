-- The pages that a drive in core holds (own).
use Rattle.std.specs.Prelude.{ℕ, ◌-◌, ◌≤◌, ◌<◌, ◌^◌, List, ◌++◌, length, replicate}
use Rattle.volumes.specs.FullPages.{HaveFullPages}

-- so many pages, of which the first are held, and the rest are zeros
unfoldable pub pages_of : List (List ℕ) → ℕ → List (List ℕ)
pages_of held size = held ++ replicate (size - length held) (replicate 1024 0)

-- the held pages are at most all, are whole, and there is room for all
pub record AreHeld (held : List (List ℕ)) (size room : ℕ) : Type 0 where
  pub within : length held ≤ size
  pub roomy : size ≤ room
  pub short : size < 2 ^ 32
  pub full : HaveFullPages held
