-- A number for each uid that a tree can have.
use Rattle.std.specs.Prelude.{ℕ, ◌-◌, ◌++◌, List, length, replicate}

-- the numbers that are held, from uid 0 on, and 0 for each uid after these
unfoldable pub padded : List ℕ → List ℕ
padded held = held ++ replicate (100003 - length held) 0
