use Rattle.listing.proofs.Prelude.{take, string_bytes, own_line}
use Rattle.listing.proofs.LineLaws.{HasEach}
use Rattle.listing.proofs.answers.push_part.Given as goal

-- the lines of the entries so far are written
abbrev pub invariant-loop-entry : goal.invariant-loop-entry
invariant-loop-entry l = HasEach (own_line l.book.script l.k) (string_bytes l.fn.out)
    (take l.entry-index l.book.entries) (string_bytes l.out)
