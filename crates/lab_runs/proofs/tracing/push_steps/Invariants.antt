use Rattle.lab_runs.proofs.Prelude.{drop, entries_in, length, steps_text, string_bytes, ◌++◌, ◌≡◌, ◌≤◌}
use Rattle.lab_runs.proofs.tracing.push_steps.Given as goal

-- the text so far, and that of the steps that are left with the entries that are left
abbrev pub invariant-loop-step : goal.invariant-loop-step
invariant-loop-step l = record {
  text : string_bytes l.out ++ steps_text (drop l.step-index l.steps) l.rest
      ≡ string_bytes l.fn.out ++ steps_text l.steps l.entries;
  few : entries_in (drop l.step-index l.steps) ≤ length l.rest;
}
