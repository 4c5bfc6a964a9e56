use Rattle.book_check.proofs.Prelude.{◌≡◌, ◌+◌, ◌≤◌, length, lines_of, IsReached}
use Rattle.book_check.proofs.judge.Judge.accept_entries.Given as goal

-- the lines so far were accepted, and those that are left are judged as all are
abbrev pub invariant-loop-line : goal.invariant-loop-line
invariant-loop-line l = record {
  reached : IsReached l.self l.first (lines_of l.lines) (lines_of l.rest);
  fewer : l.self.entries + length l.rest ≤ length l.lines;
  script : l.self.script ≡ l.fn.self.script;
}

abbrev pub decreases-loop-line : goal.decreases-loop-line
decreases-loop-line l = length l.rest
