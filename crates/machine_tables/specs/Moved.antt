-- What a copy of a page asks of a segment that moves: where it fails, its process is told.
use Rattle.std.specs.Prelude.{◌≡◌, ◌<◌, ◌≤◌, ◌+◌, ◌^◌, ℕ, length, Some}
use Rattle.custody_model.specs.Next.{released_by}
use Rattle.machine_model.specs.Reads.{cpu_at, next_command, processor_at, run_at}
use Rattle.machine_tables.specs.Parts.{Parts}

-- It is done for a process of a processor, which may be answered, and there is room for what is booked.
pub record MayCopy {D : Type 0} (t : Parts D) (c process : ℕ) : Type 0 where
  pub processor : c < length t.state.processors
  pub its : (cpu_at t.state.processors c).process ≡ Some process
  pub run : process < length t.state.runs
  pub place : (run_at t.state.runs process).place + 1 < 2 ^ 32
  pub count : (processor_at t.state.processors c).count + 1 < 2 ^ 64
  pub ready : length t.state.ready + length (released_by t.state.plan process (next_command t.state process)) ≤ t.room
  pub room : 2 ≤ t.state.spare
