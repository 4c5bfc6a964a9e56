-- The action of the machine's model that an action names.
use Rattle.std.specs.Prelude.{ℕ, not, if◌then◌else◌, Option, Some, None}
use Rattle.script.specs.References.{reference_of}
use Rattle.script.specs.declared.commands.Command.{Command}
use Rattle.script.specs.declared.commands.Reference.{Reference}
use Rattle.core_map.specs.Clock.{clock_choice}
use Rattle.dir_tree.specs.Nodes.{chain_of}
use Rattle.machine_model.specs.Actions as act
use Rattle.machine_model.specs.Actions.{clear_or, descriptors_taken, first_taken, frames_taken, look_of, what_taken}
use Rattle.machine_model.specs.Reads.{next_command, or_zero}
use Rattle.machine_model.specs.Refusal.{uid_of_command}
use Rattle.machine_model.specs.declared.Processor.{Processor}
use Rattle.machine_model.specs.State.{State, Storage}
use Rattle.machine_tables.specs.declared.action.Action.{Action}
use Rattle.machine_tables.specs.declared.action.Action.TheVariants as action
use Rattle.machine_tables.specs.declared.action.Why.{Why}
use Rattle.machine_tables.specs.declared.action.Why.TheVariants as why

abbrev pub why_of : Why → act.Why
why_of (why.ForOwner cpu) = act.ForOwner cpu
why_of (why.ForClear cpu) = act.ForClear cpu
why_of (why.ForTransfer frame) = act.ForTransfer frame
why_of (why.WhileIdle busy) = act.WhileIdle busy

-- what a tree command of a process must have out of use
abbrev pub taken_for : Storage → ℕ → Option Command → act.Action
taken_for st k None = act.Commit
taken_for st k (Some c) = act.TakeAway (frames_taken st (uid_of_command st k c) (first_taken c))
    (descriptors_taken st k (uid_of_command st k c) c) (what_taken (uid_of_command st k c) c)

-- the action of the model, at a processor of this process
abbrev pub meant : State → ℕ → Action → act.Action
meant s k action.IsStopped = act.IsStopped
meant s k action.HasEnded = act.HasEnded
meant s k (action.Waits reason) = act.Waits (why_of reason)
meant s k action.Online = act.Online
meant s k (action.Clear what) = act.Clear what
meant s k (action.EndTransfer transfer) = act.EndTransfer transfer
meant s k (action.Load process) = act.Load process
meant s k action.Leave = act.Leave
meant s k (action.FillSeg number) = act.FillSeg number
meant s k (action.FillPage frame reference) = act.FillPage frame reference
meant s k (action.Through frame reference) = act.Through frame reference
meant s k (action.Plain reply) = act.Plain reply
meant s k action.TakeSupervisor = act.TakeSupervisor
meant s k (action.Answer reply) = act.Answer reply
meant s k action.GiveUp = act.GiveUp
meant s k (action.Activate uid place) = act.Activate uid place
meant s k (action.Connect number uid) = act.Connect number uid
meant s k (action.Create frame uid page reference) = act.Create frame uid page reference
meant s k (action.Start frame uid page) = act.Start frame uid page
meant s k action.Evict = act.Evict (or_zero (clock_choice s.store.pages.core))
meant s k (action.Empty uid) = act.Empty uid
meant s k (action.EmptyVictim pool of uid) = act.EmptyVictim pool (chain_of s.store.accounts.nodes of) uid
meant s k action.TakeAway = taken_for s.store k (next_command s k)
meant s k (action.BeginMove uid volume) = act.BeginMove uid volume
meant s k (action.CopyPage mover page) = act.CopyPage mover page
meant s k (action.CommitMove mover) = act.CommitMove mover
meant s k (action.Signal what) = act.Signal what
meant s k (action.FinishEviction frame) = act.FinishEviction frame
meant s k (action.FinishPage frame) = act.FinishPage frame
meant s k (action.Deactivate uid) = act.Deactivate uid
meant s k action.Commit = act.Commit

-- the reference that a process comes to, if its next command makes one
abbrev pub refers : Option Command → Option Reference
refers None = None
refers (Some c) = reference_of c

-- an action, unless something is done first
abbrev pub unless_first : State → ℕ → Option Action → act.Action → act.Action
unless_first s k None otherwise = otherwise
unless_first s k (Some first) otherwise = meant s k first

-- an action of a processor of this process, or the look of the owner
abbrev pub or_look : State → ℕ → Option Action → act.Action
or_look s k None = look_of s k (next_command s k)
or_look s k (Some action) = meant s k action

-- what a processor does while there is work
abbrev pub rule_of : State → ℕ → Processor → act.Action
rule_of s c p = if not p.cpu.online then act.Online else clear_or s c p p.cpu.due
