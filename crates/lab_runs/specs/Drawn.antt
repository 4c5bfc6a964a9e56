-- What a machine does by a schedule that is drawn from a seed until all processes have ended (own).
use Rattle.std.specs.Prelude.{◌≡◌, ◌⊎◌, ◌≤◌, ◌++◌, ℕ, zero, suc, Bool, true, false, List, [], ◌∷◌, drop, length, map, sum_by}
use Rattle.std.specs.List.{list_any}
use Rattle.book.specs.Books.{is_answer}
use Rattle.book.specs.declared.entries.Entry.{Entry}
use Rattle.draws.specs.Draws.{drawn, next_state}
use Rattle.runner.specs.Runs.{IsBooted, Machine}
use Rattle.script.specs.Plans.{Plan}
use Rattle.machine.specs.declared.turn.Turn.TheVariants as turn
use Rattle.lab_runs.specs.Orders.{CameTo, drawn_cpus, is_end, state_after}
use Rattle.lab_runs.specs.Runs.{IsEnded}
use Rattle.lab_runs.specs.Steps.{AreMade, IsMade, Runs, moves_of, processor_of}
use Rattle.lab_runs.specs.declared.following.Trial.{Trial}
use Rattle.lab_runs.specs.declared.following.Trial.TheVariants as trial
use Rattle.lab_runs.specs.declared.steps.Step.{Step}

-- whether one of the entries that were appended answers a command
abbrev pub answers : Machine → Machine → Bool
answers old new = list_any is_answer (drop (length old.state.entries) new.state.entries)

-- One of p processors was drawn, by the state of the generator before and after it, and made a step; this came of it.
pub record DrawsOne (p : ℕ) (old new : Machine) (before after : ℕ) (t : Trial) : Type 0 where
  pub step : Step
  pub made : IsMade old new step
  pub state : after ≡ next_state before
  pub its : step.processor ≡ drawn p after
  pub came : CameTo t (answers old new) step.answer

-- These steps were made by processors of p that were drawn one after the other.
pub record Draws (p : ℕ) (old new : Machine) (before after : ℕ) (steps : List Step) : Type 0 where
  pub made : AreMade old new steps
  pub cpus_are : map processor_of steps ≡ drawn_cpus p before (length steps)
  pub state : after ≡ state_after before (length steps)

-- whether one of some steps found all processes ended
abbrev pub found_end : List Step → Bool
found_end steps = list_any (λ step. is_end step.answer) steps

-- Steps that answered no command and found no end, and so many at the most.
pub record AreQuiet (old new : Machine) (steps : List Step) (most : ℕ) : Type 0 where
  pub made : AreMade old new steps
  pub quiet : answers old new ≡ false
  pub going : found_end steps ≡ false
  pub few : length steps ≤ most

-- Of some steps, 100,000 at the most, the last alone is of note: those before it are quiet, and this is so of it.
pub record AreTo (P : Machine → Machine → Step → Type 0) (old new : Machine) (steps : List Step) : Type 0 where
  pub before : List Step
  pub last : Step
  pub steps_are : steps ≡ before ++ last ∷ []
  pub mid : Machine
  pub quiet : AreQuiet old mid before 99999
  pub made : IsMade mid new last
  pub so : P mid new last

-- a step answered a command; one answered none, and found all processes ended
abbrev pub IsAnswering : Machine → Machine → Step → Type 0
IsAnswering old new step = answers old new ≡ true

abbrev pub IsEnding : Machine → Machine → Step → Type 0
IsEnding old new step = (answers old new ≡ false) × (step.answer ≡ turn.Ended)

-- what came of some steps: the last answered a command; or the last found all processes ended; or 100,000 did neither
abbrev pub ComesTo : Trial → Machine → Machine → List Step → Type 0
ComesTo trial.Seen old new steps = AreTo IsAnswering old new steps
ComesTo trial.Ended old new steps = AreTo IsEnding old new steps
ComesTo trial.Missed old new steps = AreQuiet old new steps 100000 × (length steps ≡ 100000)

-- Drawn processors made steps, and this came of them.
pub record DrawsUntil (p : ℕ) (old new : Machine) (before after : ℕ) (t : Trial) : Type 0 where
  pub steps : List Step
  pub draws : Draws p old new before after steps
  pub came : ComesTo t old new steps

-- some steps are so many rows, in each of which the last alone answered a command
abbrev pub AreAnswered : ℕ → Machine → Machine → List Step → Type 0
AreAnswered zero old new steps = (new ≡ old) × (steps ≡ [])
AreAnswered (suc rows) old new steps = (mid : Machine) × (before : List Step) × (last : List Step)
    × (steps ≡ before ++ last) × AreAnswered rows old mid before × AreTo IsAnswering mid new last

-- the last of some rows: it ends with a step that found all processes ended, or is 100,000 steps that did nothing of
-- note
abbrev pub AreLast : Machine → Machine → List Step → Type 0
AreLast old new steps = AreTo IsEnding old new steps ⊎ (AreQuiet old new steps 100000 × (length steps ≡ 100000))

-- Steps stop in time: as soon as one finds all processes ended, or 100,000 in a row have answered no command.
pub record StopInTime (old new : Machine) (steps : List Step) : Type 0 where
  pub rows : ℕ
  pub mid : Machine
  pub before : List Step
  pub last : List Step
  pub steps_are : steps ≡ before ++ last
  pub answered : AreAnswered rows old mid before
  pub stop : AreLast mid new last

-- Drawn processors made steps until all processes had ended, or 100,000 in a row had answered no command.
pub record DrawsOut (p seed : ℕ) (old new : Machine) : Type 0 where
  pub steps : List Step
  pub after : ℕ
  pub draws : Draws p old new seed after steps
  pub in_time : StopInTime old new steps

-- The machine of a script, as it was booted, has made the steps of the schedule that is drawn from a seed, until all
-- processes had ended, or 100,000 steps in a row had answered no command; then it was finished and shut down.
pub record HasDrawn (p : Plan) (seed : ℕ) (m : Machine) : Type 0 where
  pub booted : Machine
  pub stepped : Machine
  pub finished : Machine
  pub script : m.state.plan ≡ p
  pub boot : IsBooted p booted
  pub steps : List Step
  pub made : AreMade booted stepped steps
  pub run : Runs booted stepped (drawn_cpus p.processors seed (length steps)) (sum_by moves_of steps)
  pub in_time : StopInTime booted stepped steps
  pub ended : IsEnded stepped finished m
