-- Which processor goes on, where some do (own).
use Rattle.std.specs.Prelude.{◌≡◌, ◌⊎◌, ◌<◌, ℕ, true, false, Contains, List}
use Rattle.machine_model.specs.State.{State}
use Rattle.machine.specs.Schedules.{would_move}
use Rattle.machine.specs.Turns.{HaveEnded}

-- the least processor whose next step does something
pub record IsFirstMover (s : State) (c : ℕ) : Type 0 where
  pub there : c < s.plan.processors
  pub moves : would_move s c ≡ true
  pub before : (d : ℕ) → d < c → would_move s d ≡ false

-- the machine was stopped, or every process has ended
abbrev pub IsDone : State → Type 0
IsDone s = (s.stopped ≡ true) ⊎ HaveEnded s

-- a list has each processor of the machine
abbrev pub NamesAll : State → List ℕ → Type 0
NamesAll s cpus = (c : ℕ) → c < s.plan.processors → Contains cpus c
