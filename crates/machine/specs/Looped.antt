-- What the loops do that make a machine end: steps, one after another, each with room for its entries (own).
use Rattle.std.specs.Prelude.{◌≡◌, ◌==◌, ◌&&◌, ℕ, Bool, false, List, Option, Some, None, is_some}
use Rattle.processor.specs.declared.Transfer.{Transfer}
use Rattle.machine_model.specs.Actions.{action_of}
use Rattle.machine_model.specs.Looping.{AwaitsClear, AwaitsTransfer, IsReader, JobFell}
use Rattle.machine_model.specs.Outlined.{outline_of}
use Rattle.machine_model.specs.Promise.{KeepsAll}
use Rattle.machine_model.specs.Rounds.{HasStepped}
use Rattle.machine_model.specs.State.{State}
use Rattle.machine_model.specs.declared.Processor.{Processor}
use Rattle.machine_tables.specs.Parts.{Parts}
use Rattle.machine_tables.specs.declared.action.Why.TheVariants as why
use Rattle.machine.specs.Schedules.{HasRun, with_room}
use Rattle.machine.specs.Turns.{IfStill, turn_of}
use Rattle.machine.specs.declared.turn.Turn.{Turn}
use Rattle.machine.specs.declared.turn.Turn.TheVariants as turn

-- Processors have made their steps in some order, with room for the entries of each; whether the machine was stopped
-- stays.
pub record HasGone {D Plan : Type 0} (plan : D → Plan) (places faults : D → ℕ) (old new : Parts D) : Type 0 where
  pub cpus : List ℕ
  pub moved : ℕ
  pub run : HasRun plan places faults old new cpus moved
  pub stopped : new.state.stopped ≡ old.state.stopped

-- They have, and for the next step there was no room.
pub record HasStalled {D Plan : Type 0} (plan : D → Plan) (places faults : D → ℕ) (old new : Parts D) : Type 0 where
  pub last : Parts D
  pub gone : HasGone plan places faults old last
  pub room : new ≡ with_room last new.state.spare

-- a book with room for so many entries more
abbrev pub with_spare : State → ℕ → State
with_spare s n = record s { spare = n }

-- A processor of a machine that keeps its promise has made its step, with room for its entries, and this is what it was
-- answered; the promise is kept.
pub record HasTurned (old new : State) (c : ℕ) (answer : Turn) : Type 0 where
  pub before : KeepsAll old
  pub now : KeepsAll new
  pub spare : ℕ
  pub stepped : HasStepped (with_spare old spare) new c
  pub answer_is : answer ≡ turn_of (with_spare old spare) c (action_of (with_spare old spare) c)
  pub still : IfStill answer (new ≡ with_spare old spare)

-- ---- a job

-- the owner's step moved, or it waits for a processor that is to clear, or for one that reads into a frame
abbrev pub MayWait : State → ℕ → Turn → Type 0
MayWait s c (turn.Moved point) = Unit {0}
MayWait s c (turn.Waits (why.ForClear late)) = AwaitsClear (outline_of s) c late
MayWait s c (turn.Waits (why.ForTransfer frame)) = AwaitsTransfer (outline_of s) c frame
MayWait s c _ = ⊥

-- it waits for this processor
abbrev pub WaitsFor : State → ℕ → Turn → ℕ → Type 0
WaitsFor s c (turn.Waits (why.ForClear late)) d = (late ≡ d) × AwaitsClear (outline_of s) c d
WaitsFor s c (turn.Waits (why.ForTransfer frame)) d =
    AwaitsTransfer (outline_of s) c frame × IsReader (outline_of s) frame d
WaitsFor s c _ d = ⊥

abbrev pub HasMoved : Turn → Type 0
HasMoved (turn.Moved point) = Unit {0}
HasMoved _ = ⊥

-- what a step of the owner brings
abbrev pub OwnerTurned : State → State → ℕ → Turn → Type 0
OwnerTurned s t c (turn.Moved point) = JobFell (outline_of s) (outline_of t) c
OwnerTurned s t c (turn.Waits (why.ForClear late)) =
    (outline_of t ≡ outline_of s) × AwaitsClear (outline_of t) c late
OwnerTurned s t c (turn.Waits (why.ForTransfer frame)) =
    (outline_of t ≡ outline_of s) × AwaitsTransfer (outline_of t) c frame
OwnerTurned s t c _ = ⊥

-- ---- looks

-- a processor reads a page into a frame
abbrev pub is_into : ℕ → Option Transfer → Bool
is_into f None = false
is_into f (Some transfer) = transfer.frame == f

abbrev pub reads_into : ℕ → Processor → Bool
reads_into f p = is_into f p.cpu.transfer

-- a processor is at a command still: it has a process, and answered so many commands since it loaded it
abbrev pub is_still_at : ℕ → Processor → Bool
is_still_at since p = is_some p.cpu.process && p.count == since
