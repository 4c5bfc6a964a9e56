use Rattle.std.proofs.Common.{◌≡◌, ◌<◌, ℕ, All, length}
use Rattle.cases.proofs.steps.ends.run_times.Given as goal

-- each number so far is the processor's, and there are as many as were counted
abbrev pub invariant-loop-step : goal.invariant-loop-step
invariant-loop-step l =
    All (λ (c : ℕ). c < l.machine.state.plan.processors) l.cpus.items × (length l.cpus.items ≡ l._step)
