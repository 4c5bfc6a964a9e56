use Rattle.script.proofs.Prelude.{◌-◌, ◌≤◌, length, IsPrintableTo}
use Rattle.script.proofs.lines.printable_front.Given as goal

-- all bytes before it are printable
abbrev pub invariant-loop-at : goal.invariant-loop-at
invariant-loop-at l = record { within : l.at ≤ length l.bytes; front : IsPrintableTo l.bytes l.at }

abbrev pub decreases-loop-at : goal.decreases-loop-at
decreases-loop-at l = length l.bytes - l.at
