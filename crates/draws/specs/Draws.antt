-- Numbers that are drawn from a state of 64 bits. (Knuth; that the upper bits are taken is own)
use Rattle.std.specs.Prelude.{ℕ, ◌+◌, ◌*◌, ◌/◌, ◌%◌, ◌^◌}

-- the state after a draw
unfoldable pub next_state : ℕ → ℕ
next_state x = (x * 6364136223846793005 + 1442695040888963407) % 2 ^ 64

-- the number below a bound that a draw gives which left this state
unfoldable pub drawn : ℕ → ℕ → ℕ
drawn bound x = x / 2 ^ 33 % bound
