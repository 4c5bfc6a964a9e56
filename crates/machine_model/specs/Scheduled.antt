-- Which processes run and which are ready: a process that goes on is at one processor, or once in the ready list, or
-- waits for the initializer to end (Corbató 1968; own).
use Rattle.std.specs.Prelude.{◌≡◌, ◌⊎◌, ◌<◌, ℕ, true, false, length, List, Some}
use Rattle.script.specs.Plans.{Plan}
use Rattle.custody_model.specs.Custody.{has}
use Rattle.machine_model.specs.Custodial.{AreDistinct}
use Rattle.machine_model.specs.Reads.{cpu_at, run_at}
use Rattle.machine_model.specs.State.{State}
use Rattle.machine_model.specs.declared.Processor.{Processor}
use Rattle.machine_model.specs.declared.Run.{Run}

-- where the first process is the initializer, no other one runs before it has ended
abbrev pub HasTurn : Plan → List Run → ℕ → Type 0
HasTurn p runs k = (p.initializer ≡ false) ⊎ ((k ≡ 0) ⊎ ((run_at runs 0).ended ≡ true))

-- a process of the script that hasn't ended, and whose turn it is
pub record MayRun (p : Plan) (runs : List Run) (k : ℕ) : Type 0 where
  pub planned : k < length p.processes
  pub going : (run_at runs k).ended ≡ false
  pub turn : HasTurn p runs k

-- What runs is at one processor alone, which takes part, and isn't ready; what is ready is so once. Whatever may run is
-- ready or at a processor. While the initializer goes on no other process has ended.
pub record AreScheduled (p : Plan) (runs : List Run) (ready : List ℕ) (processors : List Processor) : Type 0 where
  pub running : (d k : ℕ) → (cpu_at processors d).process ≡ Some k → MayRun p runs k
  pub online : (d k : ℕ) → (cpu_at processors d).process ≡ Some k → (cpu_at processors d).online ≡ true
  pub alone : (d e k : ℕ) → (cpu_at processors d).process ≡ Some k → (cpu_at processors e).process ≡ Some k → d ≡ e
  pub waiting : (k : ℕ) → has ready k ≡ true → MayRun p runs k
  pub once : AreDistinct ready
  pub apart : (d k : ℕ) → (cpu_at processors d).process ≡ Some k → has ready k ≡ false
  pub back : p.initializer ≡ true → (run_at runs 0).ended ≡ false → (k : ℕ) → k < length p.processes
      → (run_at runs k).ended ≡ false
  pub placed : (k : ℕ) → MayRun p runs k
      → (has ready k ≡ true) ⊎ ((d : ℕ) × ((cpu_at processors d).process ≡ Some k))

abbrev pub IsScheduled : State → Type 0
IsScheduled s = AreScheduled s.plan s.runs s.ready s.processors
