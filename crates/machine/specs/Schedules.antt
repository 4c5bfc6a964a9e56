-- What several processors do that make their steps one after the other, in any order (own).
use Rattle.std.specs.Prelude.{◌≡◌, ◌+◌, ◌++◌, ℕ, Bool, true, false, if◌then◌else◌, List, [], ◌∷◌}
use Rattle.book.specs.declared.entries.Entry.{Entry}
use Rattle.machine_model.specs.Actions.{action_of}
use Rattle.machine_model.specs.Reads.{process_at}
use Rattle.machine_model.specs.State.{State}
use Rattle.machine_model.specs.Turns.{moves}
use Rattle.machine_tables.specs.Parts.{Parts}
use Rattle.machine.specs.Turns.{Appends, IsTurn, KeepsParts, TellsFaults}
use Rattle.machine.specs.declared.turn.Turn.{Turn}
use Rattle.machine.specs.declared.turn.Turn.TheVariants as turn

-- whether a step did something
abbrev pub is_moved : Turn → Bool
is_moved (turn.Moved point) = true
is_moved _ = false

-- whether a processor would do something
abbrev pub would_move : State → ℕ → Bool
would_move s c = moves (action_of s c)

-- the same machine, whose book has room for so many entries
abbrev pub with_room : {D : Type 0} → Parts D → ℕ → Parts D
with_room t spare = record t { state = record t.state { spare = spare } }

abbrev pub tally : Bool → ℕ
tally moved = if moved then 1 else 0

-- Room was made for a step of processor c, and it made it: 1 where it moved, 0 where it didn't.
pub record IsRound {D Plan : Type 0} (plan : D → Plan) (places faults : D → ℕ) (old new : Parts D) (c moved : ℕ)
    : Type 0 where
  pub spare : ℕ
  pub answer : Turn
  pub moved_is : moved ≡ tally (is_moved answer)
  pub turn : IsTurn plan places faults (with_room old spare) new c answer
  pub entries : Appends old.state.entries new.state.entries 320
  pub kept : KeepsParts plan places faults old new
  pub told : TellsFaults faults old new (process_at old.state c)

-- The processors of a list did so one after the other, and so many of them moved.
abbrev pub HasRun : {D Plan : Type 0} → (D → Plan) → (D → ℕ) → (D → ℕ) → Parts D → Parts D → List ℕ → ℕ → Type 0
HasRun plan places faults old new [] moved = (new ≡ old) × (moved ≡ 0)
HasRun plan places faults old new (c ∷ cs) moved = (mid : Parts _) × (one : ℕ) × (rest : ℕ)
    × (moved ≡ one + rest) × IsRound plan places faults old mid c one
    × HasRun plan places faults mid new cs rest

-- Some of a list did, and for the next one there was no room.
pub record HasStood {D Plan : Type 0} (plan : D → Plan) (places faults : D → ℕ) (old new : Parts D) (cpus : List ℕ) :
    Type 0 where
  pub before : List ℕ
  pub rest : List ℕ
  pub cpus_are : cpus ≡ before ++ rest
  pub last : Parts D
  pub moved : ℕ
  pub run : HasRun plan places faults old last before moved
  pub room : new ≡ with_room last new.state.spare

-- a book whose entries stand, with more of them
pub record Grows (old new : List Entry) : Type 0 where
  pub more : List Entry
  pub entries : new ≡ old ++ more
