use Rattle.listing.proofs.Prelude.{string_bytes}
use Rattle.listing.proofs.LineLaws.{HasProcesses}
use Rattle.listing.proofs.answers.push_processes.Given as goal

-- the lines of the processes so far are written
abbrev pub invariant-loop-k : goal.invariant-loop-k
invariant-loop-k l = HasProcesses (string_bytes l.fn.out) l.book.script l.book.entries l.k (string_bytes l.out)
