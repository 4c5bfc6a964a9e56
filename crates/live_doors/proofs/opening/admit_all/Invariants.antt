use Rattle.live_doors.proofs.Prelude.{first_passes, ◌≡◌, ◌≤◌}
use Rattle.live_doors.proofs.opening.admit_all.Given as goal

abbrev pub invariant-loop-cpu : goal.invariant-loop-cpu
invariant-loop-cpu l = (l.keeper ≡ record l.fn.keeper { watch = record l.fn.keeper.watch { made = l.cpu } })
    × (l.passes.items ≡ first_passes l.fn.doors l.cpu) × (l.cpu ≤ l.fn.doors.cpus)
