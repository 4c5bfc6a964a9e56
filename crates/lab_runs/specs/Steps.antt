-- Steps that are made one after the other (own).
use Rattle.std.specs.Prelude.{◌≡◌, ◌+◌, ◌++◌, ℕ, List, [], ◌∷◌, length, map, sum_by}
use Rattle.bulk_store.specs.AnyDrive.{any_places}
use Rattle.machine.specs.Schedules.{HasRun, IsRound, is_moved, tally}
use Rattle.runner.specs.Drives.{faults_in, plan_of}
use Rattle.runner.specs.Runs.{Machine}
use Rattle.lab_runs.specs.declared.steps.Step.{Step}

-- the processors of a list made their steps in order, of which so many moved
abbrev pub Runs : Machine → Machine → List ℕ → ℕ → Type 0
Runs = HasRun plan_of any_places faults_in

abbrev pub processor_of : Step → ℕ
processor_of step = step.processor

-- 1 where a step moved, 0 where it didn't
abbrev pub moves_of : Step → ℕ
moves_of step = tally (is_moved step.answer)

-- A processor made its step, with room for its entries; this is what it was answered, and how many it appended.
pub record IsMade (old new : Machine) (step : Step) : Type 0 where
  pub round : IsRound plan_of any_places faults_in old new step.processor (moves_of step)
  pub answer : round.answer ≡ step.answer
  pub entries : length new.state.entries ≡ length old.state.entries + step.entries

-- these steps were made, one after the other
abbrev pub AreMade : Machine → Machine → List Step → Type 0
AreMade old new [] = new ≡ old
AreMade old new (step ∷ steps) = (mid : Machine) × IsMade old mid step × AreMade mid new steps

-- The processors of a list made their steps, which were added to those that were made before.
pub record MakesAll (old new : Machine) (before after : List Step) (cpus : List ℕ) : Type 0 where
  pub steps : List Step
  pub made : AreMade old new steps
  pub added : after ≡ before ++ steps
  pub cpus_are : map processor_of steps ≡ cpus

-- how many entries some steps appended
abbrev pub entries_in : List Step → ℕ
entries_in steps = sum_by (λ step. step.entries) steps
