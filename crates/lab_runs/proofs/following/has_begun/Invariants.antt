use Rattle.lab_runs.proofs.Prelude.{entry_begins, false, list_any, take, ◌≡◌}
use Rattle.lab_runs.proofs.following.has_begun.Given as goal

-- none of those so far begins so
abbrev pub invariant-loop-entry : goal.invariant-loop-entry
invariant-loop-entry l = list_any (entry_begins l.text) (take l.entry-index l.entries) ≡ false
