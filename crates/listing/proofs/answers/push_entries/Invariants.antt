use Rattle.listing.proofs.Prelude.{take, string_bytes, full_line}
use Rattle.listing.proofs.LineLaws.{HasEach}
use Rattle.listing.proofs.answers.push_entries.Given as goal

-- the lines of the entries so far are written
abbrev pub invariant-loop-entry : goal.invariant-loop-entry
invariant-loop-entry l = HasEach full_line (string_bytes l.fn.out) (take l.entry-index l.entries) (string_bytes l.out)
