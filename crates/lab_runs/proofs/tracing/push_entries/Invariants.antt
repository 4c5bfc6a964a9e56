use Rattle.lab_runs.proofs.Prelude.{HasEach, entry_line, string_bytes, take}
use Rattle.lab_runs.proofs.tracing.push_entries.Given as goal

-- the lines of the entries so far
abbrev pub invariant-loop-entry : goal.invariant-loop-entry
invariant-loop-entry l = HasEach entry_line (string_bytes l.fn.out) (take l.entry-index l.entries) (string_bytes l.out)
