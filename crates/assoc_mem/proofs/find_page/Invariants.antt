use Rattle.std.proofs.Common.{◌≡◌, drop}
use Rattle.std.specs.List.{find}
use Rattle.assoc_mem.specs.Held.{is_page}
use Rattle.assoc_mem.proofs.find_page.Given as goal

abbrev pub invariant-loop-entry : goal.invariant-loop-entry
invariant-loop-entry l = find (is_page l.uid l.page) (drop l.entry-index l.held) ≡ find (is_page l.uid l.page) l.held
