-- The whole promise of a machine: what it keeps over every schedule, with what its rules rest on.
use Rattle.std.specs.Prelude.{◌≡◌}
use Rattle.script.specs.Forms.{IsPlan}
use Rattle.machine_model.specs.Entitled.{IsEntitledToAll}
use Rattle.machine_model.specs.Fitting.{IsFitting}
use Rattle.machine_model.specs.Foreseen.{AllCome}
use Rattle.machine_model.specs.Keeps.{Keeps}
use Rattle.machine_model.specs.Movers.{mover_of}
use Rattle.machine_model.specs.Reading.{IsReading}
use Rattle.machine_model.specs.Scheduled.{IsScheduled}
use Rattle.machine_model.specs.State.{State}
use Rattle.machine_model.specs.Working.{IsWorking}

-- It keeps what `Keeps` says. Each process that hasn't ended comes to a command of the script, and is at one processor,
-- ready, or kept back by the initializer. The pools of the active segment table are those of the script. The move that
-- segment control has under way is the owner's.
pub record IsMachine (s : State) : Type 0 where
  pub keeps : Keeps s
  pub script : IsPlan s.plan
  pub come : AllCome s
  pub scheduled : IsScheduled s
  pub pools : s.store.ast.sizes ≡ s.plan.pools
  pub moving : s.store.moving ≡ mover_of s.owner

-- What a machine keeps from step to step: that, with what its processors hold, what they read pages for, what the
-- owner's job rests on, and that what it took isn't what its command wants.
pub record KeepsAll (s : State) : Type 0 where
  pub machine : IsMachine s
  pub entitled : IsEntitledToAll s
  pub reading : IsReading s
  pub working : IsWorking s
  pub fitting : IsFitting s
