use Rattle.lab_runs.proofs.Prelude.{drawn_cpus, state_after, ◌≡◌}
use Rattle.lab_runs.proofs.following.drawn.Given as goal

abbrev pub invariant-loop-draw : goal.invariant-loop-draw
invariant-loop-draw l = record {
  state : l.draws.state ≡ state_after l.seed l._draw;
  cpus : l.cpus.items ≡ drawn_cpus l.processors l.seed l._draw;
}
