-- What one hold of the lock does to the machine (own).
use Rattle.std.specs.Prelude.{◌≡◌, ◌≤◌, ℕ, true}
use Rattle.machine_tables.specs.Parts.{Parts}
use Rattle.machine.specs.Schedules.{with_room}
use Rattle.machine.specs.Turns.{IsTurn}
use Rattle.machine.specs.declared.turn.Turn.{Turn}
use Rattle.machine.specs.declared.turn.Turn.TheVariants as turn

-- Room was made for what a step may append, and processor c made just one step, and was answered so.
pub record HasStepped {D Plan : Type 0} (plan : D → Plan) (places faults : D → ℕ) (old new : Parts D) (c : ℕ)
    (answer : Turn) : Type 0 where
  pub spare : ℕ
  pub room : 320 ≤ spare
  pub turn : IsTurn plan places faults (with_room old spare) new c answer

-- the same machine, which is stopped
abbrev pub with_stop : {D : Type 0} → Parts D → Parts D
with_stop t = record t { state = record t.state { stopped = true } }

-- There was no memory for that room: nothing changed but how much there is, and that the machine is stopped; and so it
-- was answered.
pub record WasRefused {D : Type 0} (old new : Parts D) (answer : Turn) : Type 0 where
  pub spare : ℕ
  pub stopped : new ≡ with_stop (with_room old spare)
  pub answer_is : answer ≡ turn.Stopped

-- One hold of the lock for processor c, and its answer.
pub data IsHold {D Plan : Type 0} (plan : D → Plan) (places faults : D → ℕ) (old new : Parts D) (c : ℕ)
    (answer : Turn) : Type 0 where
  stepped : HasStepped plan places faults old new c answer → IsHold plan places faults old new c answer
  refused : WasRefused old new answer → IsHold plan places faults old new c answer
