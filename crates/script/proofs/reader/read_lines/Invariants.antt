use Rattle.script.proofs.Prelude.{◌≡◌, ◌+◌, ◌≤◌, length, fold, Ok, lines_of, numbered}
use Rattle.script.proofs.reader.read_lines.Given as goal

-- the lines that are left, after those so far, give what all give
abbrev pub invariant-loop-rest : goal.invariant-loop-rest
invariant-loop-rest l = record {
  reads : fold numbered (Ok (l.number, l.draft)) (lines_of l.rest)
      ≡ fold numbered (Ok (1, l.fn.draft)) (lines_of l.bytes);
  few : l.number + length l.rest ≤ length l.bytes + 1;
}

abbrev pub decreases-loop-rest : goal.decreases-loop-rest
decreases-loop-rest l = length l.rest
