use Rattle.std.proofs.Common.{◌≡◌, drop}
use Rattle.std.specs.List.{find}
use Rattle.assoc_mem.specs.Held.{is_number}
use Rattle.assoc_mem.proofs.find_seg.Given as goal

abbrev pub invariant-loop-entry : goal.invariant-loop-entry
invariant-loop-entry l = find (is_number l.number) (drop l.entry-index l.held) ≡ find (is_number l.number) l.held
