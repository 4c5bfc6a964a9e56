-- What a run of a script by a schedule leaves (own).
use Rattle.std.specs.Prelude.{◌≡◌, ◌≤◌, ℕ, List, None, length, map, sum_by}
use Rattle.bulk_store.specs.AnyDrive.{any_places}
use Rattle.machine.specs.Schedules.{Grows}
use Rattle.machine.specs.Turns.{KeepsParts}
use Rattle.runner.specs.Drives.{faults_in, plan_of}
use Rattle.runner.specs.Runs.{IsBooted, IsRun, IsShutDown, Machine}
use Rattle.schedule.specs.declared.orders.Line.{Line}
use Rattle.schedule.specs.declared.refusals.Refused.{Refused}
use Rattle.script.specs.Plans.{Plan}
use Rattle.lab_runs.specs.Orders.{AreFollowed, StraysAt}
use Rattle.lab_runs.specs.Steps.{AreMade, Runs, entries_in, moves_of, processor_of}
use Rattle.lab_runs.specs.declared.following.Astray.{Astray}
use Rattle.lab_runs.specs.declared.following.Astray.TheVariants as astray
use Rattle.lab_runs.specs.declared.running.Ran.{Ran}
use Rattle.lab_runs.specs.declared.steps.Step.{Step}

-- Processors made steps in some order until all processes had ended, and the machine was shut down: each frame was
-- visited. Its book goes on from the one before, and all that a run promises holds of it.
pub record IsEnded (stepped finished new : Machine) : Type 0 where
  pub cpus : List ℕ
  pub moved : ℕ
  pub finish : Runs stepped finished cpus moved
  pub shutdown : Grows finished.state.entries new.state.entries
  pub kept : KeepsParts plan_of any_places faults_in finished new
  pub run : IsRun new
  pub down : IsShutDown new
  pub rest : new.state.store.moving ≡ None

-- a machine was finished and shut down; its book had so many entries before, and so many at the end of all processes
pub record EndsBy (stepped new : Machine) (before after : ℕ) : Type 0 where
  pub finished : Machine
  pub ended : IsEnded stepped finished new
  pub script : new.state.plan ≡ stepped.state.plan
  pub stepped_is : before ≡ length stepped.state.entries
  pub finished_is : after ≡ length finished.state.entries

-- what is left of a machine that had made these steps, once it was finished and shut down
pub record EndsRan (stepped : Machine) (steps : List Step) (r : Ran) : Type 0 where
  pub finished : Machine
  pub ended : IsEnded stepped finished r.machine
  pub script : r.machine.state.plan ≡ stepped.state.plan
  pub steps_are : r.steps.items ≡ steps
  pub stepped_is : r.stepped ≡ length stepped.state.entries
  pub finished_is : r.finished ≡ length finished.state.entries

-- The machine of a script, as it was booted, has made the steps that the lines of a schedule mean, and no others; then
-- it was finished and shut down. After the steps, and at the end of all processes, its book had so many entries.
pub record HasRunBy (p : Plan) (lines : List Line) (r : Ran) : Type 0 where
  pub booted : Machine
  pub stepped : Machine
  pub finished : Machine
  pub script : r.machine.state.plan ≡ p
  pub boot : IsBooted p booted
  pub followed : AreFollowed p.processors lines booted stepped r.steps.items
  pub made : AreMade booted stepped r.steps.items
  pub steps : Runs booted stepped (map processor_of r.steps.items) (sum_by moves_of r.steps.items)
  pub ended : IsEnded stepped finished r.machine
  pub stepped_is : r.stepped ≡ length stepped.state.entries
  pub finished_is : r.finished ≡ length finished.state.entries

-- The machine of a script, as it was booted, has followed the lines of a schedule up to one that it can't follow.
pub record GoesAstray (p : Plan) (lines : List Line) (r : Refused) : Type 0 where
  pub booted : Machine
  pub boot : IsBooted p booted
  pub stray : StraysAt p.processors lines booted r

-- what is left where a schedule couldn't be followed
abbrev pub RunsAstray : Plan → List Line → Astray → Type 0
RunsAstray p lines (astray.Refused r) = GoesAstray p lines r
RunsAstray p lines astray.Memory = Unit {0}

-- What a trace needs: the steps appended the first entries of the book, the rest stand after them, and no segment
-- moves.
pub record IsTraceable (r : Ran) : Type 0 where
  pub rest : r.machine.state.store.moving ≡ None
  pub steps : entries_in r.steps.items ≡ r.stepped
  pub finished : r.stepped ≤ r.finished
  pub all : r.finished ≤ length r.machine.state.entries
