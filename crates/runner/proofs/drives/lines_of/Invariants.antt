use Rattle.runner.proofs.Prelude.{◌≡◌, take, lines_in}
use Rattle.runner.proofs.drives.lines_of.Given as goal

-- the lines of the volume among those gone over
abbrev pub invariant-loop-fail : goal.invariant-loop-fail
invariant-loop-fail l = l.lines.items ≡ lines_in (take l.fail-index l.fails) l.volume
