-- When a failure may be answered. Each source, sink and drive has a count of its faults, and a
-- failure comes only where that count rose. (own)
use Rattle.std.specs.Prelude.{ℕ, ◌+◌, ◌-◌, ◌^◌, ◌≤◌, min, Result, OnErr}

-- the count is greater after the call, or is 2 ^ 63 or more: a counter of 64 bits stops at its end
abbrev pub Rose : ℕ → ℕ → Type 0
Rose before now = min (before + 1) (2 ^ 63) ≤ now

-- a call's error has its cause: the count didn't fall, and where the call failed it rose
pub record HasCause {T E : Type 0} (before now : ℕ) (result : Result T E) : Type 0 where
  pub later : before ≤ now
  pub failed : OnErr result (Rose before now)

-- a counter of 64 bits after one more: it stops at its greatest number
abbrev pub counted : ℕ → ℕ
counted count = min (count + 1) (2 ^ 64 - 1)
