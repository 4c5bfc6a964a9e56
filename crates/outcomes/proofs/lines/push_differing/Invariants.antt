use Rattle.outcomes.proofs.Prelude.{◌≡◌, ◌++◌, length, differing_in}
use Rattle.outcomes.proofs.lines.push_differing.Given as goal

-- the text so far, and that of the lines that are left
abbrev pub invariant-loop-rest : goal.invariant-loop-rest
invariant-loop-rest l =
    l.out.items ++ differing_in l.texts l.rest ≡ l.fn.out.items ++ differing_in l.texts l.text

abbrev pub decreases-loop-rest : goal.decreases-loop-rest
decreases-loop-rest l = length l.rest
