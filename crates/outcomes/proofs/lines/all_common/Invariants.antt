use Rattle.outcomes.proofs.Prelude.{◌≡◌, length, list_all, lines_of, is_common}
use Rattle.outcomes.proofs.lines.all_common.Given as goal

-- all lines are common where those are that are left
abbrev pub invariant-loop-rest : goal.invariant-loop-rest
invariant-loop-rest l =
    list_all (is_common l.texts) (lines_of l.rest) ≡ list_all (is_common l.texts) (lines_of l.text)

abbrev pub decreases-loop-rest : goal.decreases-loop-rest
decreases-loop-rest l = length l.rest
