-- What the tables must be like before a tree command takes effect.
use Rattle.std.specs.Prelude.{◌≡◌, ◌<◌, ◌≤◌, ◌+◌, ◌^◌, ℕ, true, length, Some, None}
use Rattle.script.specs.Forms.{is_command}
use Rattle.script.specs.References.{reference_of}
use Rattle.script.specs.declared.commands.Command.{Command}
use Rattle.custody_model.specs.Next.{released_by}
use Rattle.machine_model.specs.Keeps.{IsFaithful}
use Rattle.machine_model.specs.Reads.{cpu_at, cut_of_owner, flat_of, frames_of_owner, next_command, processor_at, run_at}
use Rattle.machine_model.specs.Ready.{IsReadyFor, OwnsFor}
use Rattle.machine_model.specs.Refusal.{reply_of}
use Rattle.machine_tables.specs.Committed.{HasEffect}
use Rattle.machine_tables.specs.Owned.{HasOwner}
use Rattle.machine_tables.specs.Parts.{Parts}

-- The next command of a process is a tree command that isn't refused and may take effect: what it must have out of use
-- is, and its job has taken just that.
pub record IsApplicable {D : Type 0} (t : Parts D) (process : ℕ) (x : Command) : Type 0 where
  pub still : t.state.store.moving ≡ None
  pub run : process < length t.state.runs
  pub knows : process < length t.state.store.links.known
  pub next : next_command t.state process ≡ Some x
  pub tree : reference_of x ≡ None
  pub takes : HasEffect x (reply_of t.state process x)
  pub ranges : is_command (length t.drives) x ≡ true
  pub uids : t.state.store.accounts.next < 100003
  pub faithful : IsFaithful t.state.plan (flat_of t.state) t.state.store
  pub ready_for : IsReadyFor t.state.store process x
  pub owns : OwnsFor t.state.store (frames_of_owner t.state.owner) x

-- It is that of a processor, and there is room for its entries, on the ready list, and in the numbers that count.
pub record MayCommit {D : Type 0} (t : Parts D) (c process : ℕ) (x : Command) : Type 0 where
  pub applies : IsApplicable t process x
  pub processor : c < length t.state.processors
  pub its : (cpu_at t.state.processors c).process ≡ Some process
  pub owner : HasOwner t.state.owner
  pub place : (run_at t.state.runs process).place + 1 < 2 ^ 32
  pub count : (processor_at t.state.processors c).count + 1 < 2 ^ 64
  pub ready : length t.state.ready + (length (released_by t.state.plan process (Some x)) + 1) ≤ t.room
  pub room : length (frames_of_owner t.state.owner) + (length (cut_of_owner t.state.owner) + 3) ≤ t.state.spare
