-- When a failed write may be told: what was taken may come back, and the process may be answered.
use Rattle.std.specs.Prelude.{◌≡◌, ◌<◌, ◌≤◌, ◌+◌, ◌^◌, ℕ, length, Some}
use Rattle.custody_model.specs.Next.{released_by}
use Rattle.machine_model.specs.Reads.{cpu_at, cut_of_owner, frames_of_owner, next_command, processor_at, run_at}
use Rattle.machine_model.specs.Returned.{MayComeBack, MayRelink, with_all_here}
use Rattle.machine_tables.specs.Owned.{HasOwner}
use Rattle.machine_tables.specs.Parts.{Parts}

-- All that the owner took may come back, and the next command of a process may be answered: it is that of the owner's
-- processor, and there is room for the entries, on the ready list, and in the numbers that count.
pub record MayFail {D : Type 0} (t : Parts D) (c process : ℕ) : Type 0 where
  pub processor : c < length t.state.processors
  pub its : (cpu_at t.state.processors c).process ≡ Some process
  pub owner : HasOwner t.state.owner
  pub pages : MayComeBack t.state.store (frames_of_owner t.state.owner)
  pub descriptors : MayRelink (with_all_here t.state.store (frames_of_owner t.state.owner))
      (cut_of_owner t.state.owner)
  pub run : process < length t.state.runs
  pub place : (run_at t.state.runs process).place + 1 < 2 ^ 32
  pub count : (processor_at t.state.processors c).count + 1 < 2 ^ 64
  pub ready : length t.state.ready + length (released_by t.state.plan process (next_command t.state process)) ≤ t.room
  pub room : length (frames_of_owner t.state.owner) + (length (cut_of_owner t.state.owner) + 2) ≤ t.state.spare
