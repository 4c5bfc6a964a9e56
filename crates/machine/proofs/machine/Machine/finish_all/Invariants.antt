use Rattle.machine.proofs.Prelude.{◌≡◌, None, all_rank, outline_of, HasGone}
use Rattle.machine.proofs.machine.Machine.finish_all.Given as goal

abbrev pub invariant-loop-self : goal.invariant-loop-self
invariant-loop-self g l = record {
  gone : HasGone g.D.Drive.plan g.D.Drive.places g.D.Drive.faults l.fn.self l.self;
  free : l.self.state.owner ≡ None;
}

abbrev pub decreases-loop-self : goal.decreases-loop-self
decreases-loop-self g l = all_rank (outline_of l.self.state)
