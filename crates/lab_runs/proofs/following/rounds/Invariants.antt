use Rattle.lab_runs.proofs.Prelude.{rounds, ◌≡◌}
use Rattle.lab_runs.proofs.following.rounds.Given as goal

abbrev pub invariant-loop-round : goal.invariant-loop-round
invariant-loop-round l = l.cpus.items ≡ rounds l.processors l._round
