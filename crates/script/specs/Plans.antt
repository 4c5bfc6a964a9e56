-- What a script says: the machine, its volumes, and the processes (own).
use Rattle.std.specs.Prelude.{ℕ, Bool, List, [], Option, slice_get, slice_index_or}
use Rattle.mnames.specs.declared.principals.Who.{Who}
use Rattle.script.specs.declared.commands.Command.{Command}
use Rattle.script.specs.declared.plan.Bulk.{Bulk}
use Rattle.script.specs.declared.plan.Fail.{Fail}
use Rattle.script.specs.declared.plan.Print.{Print}
use Rattle.script.specs.declared.plan.VolumeLine.{VolumeLine}

-- a process: for whom it runs, and its commands
pub record ProcessPlan : Type 0 where
  pub who : Who
  pub commands : List Command

-- processors; frames of core; places in the pools of the active segment table; quota of the root in pages; volumes in
-- the order of the script; what is printed; fast stores before drives; calls of drives that fail; whether the first
-- process is the initializer; processes in the order of the script
pub record Plan : Type 0 where
  pub processors : ℕ
  pub frames : ℕ
  pub pools : List ℕ
  pub quota : ℕ
  pub volumes : List VolumeLine
  pub print : Print
  pub bulks : List Bulk
  pub fails : List Fail
  pub initializer : Bool
  pub processes : List ProcessPlan

-- a principal that no process runs for
abbrev pub nobody : Who
nobody = record { person = []; project = [] }

-- the process of that number, counted from 0; past the last, one that does nothing
abbrev pub process_of : Plan → ℕ → ProcessPlan
process_of p k = slice_index_or p.processes k (record { who = nobody; commands = [] })

abbrev pub who_of : Plan → ℕ → Who
who_of p k = (process_of p k).who

abbrev pub commands_of : Plan → ℕ → List Command
commands_of p k = (process_of p k).commands

-- the command at a place of a process, counted from 0
abbrev pub command_at : Plan → ℕ → ℕ → Option Command
command_at p k place = slice_get (commands_of p k) place
