use Rattle.drill.proofs.Prelude.{drop, string_bytes, sum_lines, ◌++◌, ◌≡◌}
use Rattle.drill.proofs.text.push_sums.Given as goal

abbrev pub invariant-loop-cpu : goal.invariant-loop-cpu
invariant-loop-cpu l = string_bytes l.out ++ sum_lines l.adds l.cpu (drop l.cpu l.sums) ≡ string_bytes l.fn.out
    ++ sum_lines l.adds 0 l.sums
