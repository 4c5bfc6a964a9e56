-- The failures that a drive is told to make, and the ones that it made (own).
use Rattle.std.specs.Prelude.{◌≡◌, ℕ, suc, zero, ◌+◌, ◌-◌, ◌^◌, ◌<◌, ◌≤◌, ◌==◌, nat_le, nat_lt, ◌&&◌, if◌then◌else◌, Bool, false, List, length, Option, None, Some}
use Rattle.std.specs.Bool.{beq}
use Rattle.std.specs.List.{list_any}
use Rattle.volumes.specs.declared.drive.FailLine.{FailLine}

-- whether a line names the call of this kind and number, counted from 1
abbrev pub names : Bool → ℕ → FailLine → Bool
names write number line = beq line.write write && (if line.onward then nat_le line.number number
    else line.number == number)

-- whether some line names the call that comes after so many of its kind; calls are counted to 2 ^ 64 - 1, and no line
-- names a call that isn't counted
abbrev pub names_next : List FailLine → Bool → ℕ → Bool
names_next lines write before = nat_lt before (2 ^ 64 - 1) && list_any (names write (before + 1)) lines

-- how many of the first calls of a kind the lines name
unfoldable pub named_calls : List FailLine → Bool → ℕ → ℕ
named_calls lines write zero = 0
named_calls lines write (suc before) = named_calls lines write before +
    (if list_any (names write (suc before)) lines then 1 else 0)

-- one failure more was counted, where the count isn't at its end, which is 2 ^ 63 at the least
abbrev pub IsOneMore : ℕ → ℕ → Type 0
IsOneMore before now = before < 2 ^ 63 → now ≡ before + 1

-- where a plan is told and no line of it is onward, there are at most as many faults as lines
abbrev pub HasFewFaults : Option (List FailLine) → ℕ → Type 0
HasFewFaults None faults = Unit {0}
HasFewFaults (Some lines) faults = list_any (λ line. line.onward) lines ≡ false → faults ≤ length lines
