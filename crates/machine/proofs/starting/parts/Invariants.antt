use Rattle.machine.proofs.Prelude.{◌≡◌, ◌+◌, length, parts_of}
use Rattle.machine.proofs.starting.parts.Given as goal

abbrev pub invariant-loop-drive : goal.invariant-loop-drive
invariant-loop-drive g l = (l.parts.items ≡ parts_of l.fn.lines l.yielded) × (length l.parts.items ≡ length l.yielded)
    × (length l.yielded + l.drive-iterator.rest.len ≡ length l.fn.drives.items)
