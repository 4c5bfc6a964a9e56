-- A law of what is drawn.
use Rattle.std.proofs.Common.{ℕ, ◌<◌, arith}
use Rattle.draws.specs.Draws.{drawn}

-- a number that is drawn lies below its bound
pub drawn_below : (bound state : ℕ) → 0 < bound → drawn bound state < bound
unfolding drawn
drawn_below bound state some = omega arith
