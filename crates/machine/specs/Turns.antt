-- What a step of a processor does, and what it is answered (own).
use Rattle.std.specs.Prelude.{◌≡◌, ◌≢◌, ◌⊎◌, ◌<◌, ◌≤◌, ◌+◌, ◌-◌, ◌^◌, ◌++◌, ◌∷◌, ℕ, Bool, true, false, count_by, length, map, min, slice_get, sum_by, List, Option, Some}
use Rattle.book.specs.declared.entries.Entry.{Entry}
use Rattle.book.specs.declared.entries.Entry.TheVariants as entry
use Rattle.book.specs.declared.replies.Reply.TheVariants as reply
use Rattle.custody_model.specs.Next.{released_by}
use Rattle.flat_model.specs.Store.{progress_of}
use Rattle.site_io.specs.Faults.{Rose}
use Rattle.volumes.specs.FailLine.{IsOneMore}
use Rattle.volumes.specs.Volumes.{KeepsOthers, faults_at}
use Rattle.page_control.specs.Effects.{NeedsNoWrite}
use Rattle.seg_mover.specs.Copies.{FailedAt}
use Rattle.machine_model.specs.Actions as act
use Rattle.machine_model.specs.Actions.{action_of}
use Rattle.machine_model.specs.After.{Outcome, after}
use Rattle.machine_model.specs.Jobs.{page_in}
use Rattle.machine_model.specs.Keeps.{is_fault}
use Rattle.machine_model.specs.Reads.{cpu_at, flat_of, home_in, next_command, process_at, processor_at, run_at}
use Rattle.machine_model.specs.State.{State}
use Rattle.machine_model.specs.Turns.{point_of}
use Rattle.machine_tables.specs.Parts.{Parts}
use Rattle.machine_tables.specs.declared.action.Why.{Why}
use Rattle.machine_tables.specs.declared.action.Why.TheVariants as why
use Rattle.machine.specs.declared.turn.Turn.{Turn}
use Rattle.machine.specs.declared.turn.Turn.TheVariants as turn

-- The drive of volume v was called, and no other. Each drive has counted the calls of it that fail: none where this one
-- was done, and one more where it failed, if the count isn't at its end.
pub record CallsOne {D : Type 0} (faults : D → ℕ) (old new : List D) (v : ℕ) (failed : Bool) : Type 0 where
  pub others : KeepsOthers old new v
  pub told : failed ≡ false → map faults new ≡ map faults old
  pub once : failed ≡ true → IsOneMore (faults_at faults old v) (faults_at faults new v)
  pub rose : failed ≡ true → Rose (faults_at faults old v) (faults_at faults new v)

-- No drive was called.
abbrev pub CallsNone : {D : Type 0} → List D → List D → Bool → Type 0
CallsNone old new failed = (new ≡ old) × (failed ≡ false)

-- The page in frame f was let go: by a write to its home, or, where it is all zeros or as its record has it, by no
-- call.
pub record LetsGo {D : Type 0} (faults : D → ℕ) (s : State) (f : ℕ) (old new : List D) (failed : Bool) : Type 0 where
  pub called : CallsOne faults old new (home_in s.store (page_in s.store f).0).volume failed
  pub spared : NeedsNoWrite s.store.pages f → CallsNone old new failed

-- The drives of volumes v and w were called, and no other. Each has counted the calls of it that fail: none where the
-- copy was done; and where it failed, just one of the two drives counts one more.
pub record CallsTwo {D : Type 0} (faults : D → ℕ) (old new : List D) (v w : ℕ) (failed : Bool) : Type 0 where
  pub others : (u : ℕ) → u ≢ v → u ≢ w → slice_get new u ≡ slice_get old u
  pub told : failed ≡ false → map faults new ≡ map faults old
  pub once : failed ≡ true → FailedAt faults old new v ⊎ FailedAt faults old new w

-- What an action makes of the drives: a page that comes in is read from its home, one that leaves its frame is let go,
-- one that is copied is read from the one volume and written to the other, and no other action calls a drive.
abbrev pub CallsAs : {D : Type 0} → (D → ℕ) → State → act.Action → List D → List D → Bool → Type 0
CallsAs faults s (act.EndTransfer t) old new failed = CallsOne faults old new (home_in s.store t.uid).volume failed
CallsAs faults s (act.FinishEviction f) old new failed = LetsGo faults s f old new failed
CallsAs faults s (act.FinishPage f) old new failed = LetsGo faults s f old new failed
CallsAs faults s (act.CopyPage m p) old new failed = CallsTwo faults old new m.from.0 m.to.0 failed
CallsAs faults s _ old new failed = CallsNone old new failed

-- The machine has gone on to its next state, by how the call of a drive came out, and nothing else was done. What
-- became
-- of the drives is told of that outcome besides; their plans and places stay, and so does the room of the ready list.
pub record GoesOn {D Plan : Type 0} (plan : D → Plan) (places : D → ℕ) (old new : Parts D) (next : Outcome → State)
    (calls : Bool → Type 0) : Type 0 where
  pub outcome : Outcome
  pub done : new.state ≡ next outcome
  pub calls_are : calls outcome.failed
  pub rose : outcome.failed ≡ true → Rose old.state.faults new.state.faults
  pub grows : old.state.faults ≤ new.state.faults
  pub plans : map plan new.drives ≡ map plan old.drives
  pub stores : map places new.drives ≡ map places old.drives
  pub count : length new.drives ≡ length old.drives
  pub room : new.room ≡ old.room

-- Processor c has done its one action, as the rules give it, and nothing else.
abbrev pub IsStep : {D Plan : Type 0} → (D → Plan) → (D → ℕ) → (D → ℕ) → Parts D → Parts D → ℕ → Type 0
IsStep plan places faults old new c = GoesOn plan places old new (λ o. after old.state c (action_of old.state c) o)
    (CallsAs faults old.state (action_of old.state c) old.drives new.drives)

-- The rules give processor c this action, and the book has room for what a step adds.
pub record MayDo (s : State) (c : ℕ) (a : act.Action) : Type 0 where
  pub doing : action_of s c ≡ a
  pub there : c < length s.processors
  pub room : 320 ≤ s.spare

-- whether a processor that does this has a process
abbrev pub is_of_process : act.Action → Bool
is_of_process act.IsStopped = false
is_of_process act.HasEnded = false
is_of_process (act.Waits reason) = false
is_of_process act.Online = false
is_of_process (act.Clear what) = false
is_of_process (act.Load process) = false
is_of_process _ = true

-- Processor c does what is done for a process.
pub record IsAtWork (s : State) (c : ℕ) : Type 0 where
  pub action : act.Action
  pub does : MayDo s c action
  pub of_process : is_of_process action ≡ true

-- Processor c has process k, which may be answered: there is room for it in its commands, in the processor's count, and
-- in the ready list for those that it releases.
pub record MayAnswer {D : Type 0} (t : Parts D) (c k : ℕ) : Type 0 where
  pub process : (cpu_at t.state.processors c).process ≡ Some k
  pub run : k < length t.state.runs
  pub place : (run_at t.state.runs k).place + 1 < 2 ^ 32
  pub count : (processor_at t.state.processors c).count + 1 < 2 ^ 64
  pub ready : length t.state.ready + length (released_by t.state.plan k (next_command t.state k)) ≤ t.room

-- a processor has a process
abbrev pub IsBusy : State → ℕ → Type 0
IsBusy s c = (cpu_at s.processors c).process ≡ Some (process_at s c)

abbrev pub why_by : act.Why → Why
why_by (act.ForOwner cpu) = why.ForOwner cpu
why_by (act.ForClear cpu) = why.ForClear cpu
why_by (act.ForTransfer frame) = why.ForTransfer frame
why_by (act.WhileIdle busy) = why.WhileIdle busy

-- what a step with this action is answered
abbrev pub turn_of : State → ℕ → act.Action → Turn
turn_of s c act.IsStopped = turn.Stopped
turn_of s c act.HasEnded = turn.Ended
turn_of s c (act.Waits reason) = turn.Waits (why_by reason)
turn_of s c a = turn.Moved (point_of s c a)

-- a fact, where the answer says that nothing was done
abbrev pub IfStill : Turn → Type 0 → Type 0
IfStill (turn.Moved point) x = Unit {0}
IfStill _ x = x

-- a fact, where the answer says that something was done
abbrev pub IfMoved : Turn → Type 0 → Type 0
IfMoved (turn.Moved point) x = x
IfMoved _ x = Unit {0}

-- the book is longer, or the supervisor's owner or how far the owner's job has come isn't what it was
abbrev pub Changes : State → State → Type 0
Changes old new = (length old.entries < length new.entries) ⊎ (new.owner ≢ old.owner)

-- Processor c has made its step, and this is what it is answered; nothing changes where nothing is done.
pub record IsTurn {D Plan : Type 0} (plan : D → Plan) (places faults : D → ℕ) (old new : Parts D) (c : ℕ)
    (answer : Turn)
    : Type 0 where
  pub step : IsStep plan places faults old new c
  pub answer_is : answer ≡ turn_of old.state c (action_of old.state c)
  pub still : IfStill answer (new ≡ old)

-- a book with so many entries more at the most, and none changed that stood there
pub record Appends (old new : List Entry) (most : ℕ) : Type 0 where
  pub more : List Entry
  pub entries : new ≡ old ++ more
  pub few : length more ≤ most

-- The drives had counted so many failures when the book told of so many. Since then they have counted just those that
-- it
-- tells more of, up to 2 ^ 63, where a count may stop.
pub record HaveCounted {D : Type 0} (faults : D → ℕ) (counted told : ℕ) (t : Parts D) : Type 0 where
  pub grows : told ≤ count_by is_fault t.state.entries
  pub drives : min (sum_by faults t.drives) (2 ^ 63)
      ≡ min (counted + (count_by is_fault t.state.entries - told)) (2 ^ 63)

-- The drives count as many failures more as the book tells more of.
abbrev pub CountsAlike : {D : Type 0} → (D → ℕ) → Parts D → Parts D → Type 0
CountsAlike faults old new =
    HaveCounted faults (sum_by faults old.drives) (count_by is_fault old.state.entries) new

-- The script stays, and each drive's plan and places do; and what the drives count more is what the book tells more.
pub record KeepsParts {D Plan : Type 0} (plan : D → Plan) (places faults : D → ℕ) (old new : Parts D) : Type 0 where
  pub script : new.state.plan ≡ old.state.plan
  pub plans : map plan new.drives ≡ map plan old.drives
  pub stores : map places new.drives ≡ map places old.drives
  pub count : length new.drives ≡ length old.drives
  pub alike : CountsAlike faults old new

-- one drive counts one failure more, and the others as many as they did
pub record RoseAtOne {D : Type 0} (faults : D → ℕ) (old new : List D) : Type 0 where
  pub volume : ℕ
  pub failed : FailedAt faults old new volume

-- The drives count just the failures of which so many are told, none or one: none more, or one more of one drive.
pub record AreTold {D : Type 0} (faults : D → ℕ) (old new : List D) (told : ℕ) : Type 0 where
  pub few : told ≤ 1
  pub none : told ≡ 0 → map faults new ≡ map faults old
  pub one : told ≡ 1 → RoseAtOne faults old new

-- What the entries that are added tell of the drives: a failure just where a drive has counted one more, one at the
-- most, and of this process; and that a process was told of one only after it.
pub record TellsFaults {D : Type 0} (faults : D → ℕ) (old new : Parts D) (process : ℕ) : Type 0 where
  pub more : List Entry
  pub entries : new.state.entries ≡ old.state.entries ++ more
  pub told : AreTold faults old.drives new.drives (count_by is_fault more)
  pub its : (xs ys : List Entry) (k : Option ℕ) → more ≡ xs ++ entry.Fault k ∷ ys → k ≡ Some process
  pub later : (xs ys : List Entry) (k place cpu : ℕ) (frame : Option ℕ)
      → more ≡ xs ++ entry.Do k place cpu frame reply.Device ∷ ys → 1 ≤ count_by is_fault xs

-- every process of the script has ended, by the flat store after the book
abbrev pub HaveEnded : State → Type 0
HaveEnded s = (k : ℕ) → k < length s.plan.processes → (progress_of (flat_of s) k).ended ≡ true
