use Rattle.runner.proofs.Prelude.{◌≡◌, ◌≤◌, ◌-◌, true, any_places, is_over, Grows, KeepsParts, faults_in, plan_of}
use Rattle.runner.proofs.ending.visit_frames.Given as goal

-- what stands before each visit
abbrev pub invariant-loop-machine : goal.invariant-loop-machine
invariant-loop-machine l = record {
  over : is_over l.machine.state ≡ true;
  room : 320 ≤ l.machine.state.spare;
  kept : KeepsParts plan_of any_places faults_in l.fn.machine l.machine;
  grows : Grows l.fn.machine.state.entries l.machine.state.entries;
}

-- the frames that weren't visited
abbrev pub decreases-loop-machine : goal.decreases-loop-machine
decreases-loop-machine l = l.machine.state.plan.frames - l.machine.state.visited
