-- What each action of a processor must find, so that its step is one of the outline. That the machine keeps its
-- promise gives these facts; here they stand as the loop that makes it end asks for them (own).
use Rattle.std.specs.Prelude.{◌≡◌, ◌≢◌, ◌⊎◌, ℕ, ◌<◌, ◌≤◌, Bool, true, false, length, is_some, slice_get, List, [], ◌∷◌, Some, None, slice_index_or}
use Rattle.script.specs.Forms.{weight}
use Rattle.script.specs.Plans.{commands_of}
use Rattle.script.specs.declared.commands.Command.{Command}
use Rattle.script.specs.declared.commands.Reference.{Reference}
use Rattle.flat_model.specs.Commands.{is_end}
use Rattle.assoc_mem.specs.declared.What.{What}
use Rattle.assoc_mem.specs.Held.{seg_of}
use Rattle.core_map.specs.declared.Frame.TheVariants as frame
use Rattle.seg_control.specs.Control.{Links, place_of, sdws_at}
use Rattle.storage_ops.specs.Shown.{is_filed}
use Rattle.seg_mover.specs.declared.Mover.{Mover}
use Rattle.machine_model.specs.declared.Processor.{Processor}
use Rattle.machine_model.specs.declared.Run.{Run}
use Rattle.machine_model.specs.State.{State, Storage, Owner}
use Rattle.machine_model.specs.Reads.{next_command, cpu_at, processor_at, process_at, run_at, frames_from}
use Rattle.machine_model.specs.Actions as act
use Rattle.machine_model.specs.Jobs.{deactivation_begun, page_gone, took, victim_taken}
use Rattle.machine_model.specs.Moves.{with_moved}
use Rattle.machine_model.specs.OutlineKept.{IsKept}
use Rattle.machine_model.specs.declared.Aim.TheVariants as aim
use Rattle.machine_model.specs.declared.Phase.TheVariants as phase
use Rattle.machine_model.specs.Outline.{Refer, runner_at, want_at}
use Rattle.machine_model.specs.Measures.{lack}
use Rattle.machine_model.specs.Finishing.{AreOf, CanActivate, CanEmpty, CanEvict, CanStart, HasMoved, MayRelease}
use Rattle.machine_model.specs.Outlined.{around, reference_in, holds_page, runner_of, outline_of, lacks_record}

-- a process that goes on comes to a command next, and has tried it less often than it may
pub record GoesOn (commands : List Command) (run : Run) (c : Command) : Type 0 where
  pub going : run.ended ≡ false
  pub next : slice_get commands run.place ≡ Some c
  pub tries : run.tries < weight c

-- a process that hasn't ended comes to a command next
pub record Comes (commands : List Command) (run : Run) : Type 0 where
  pub command : Command
  pub on : GoesOn commands run command

-- each process that hasn't ended does
unfoldable pub AllCome : State → Type 0
AllCome s = (k : ℕ) → k < length s.runs → (run_at s.runs k).ended ≡ false
    → Comes (commands_of s.plan k) (run_at s.runs k)

-- a processor has a process that goes on, and may answer its next command
pub record CanTell (s : State) (c k : ℕ) (command : Command) : Type 0 where
  pub within : c < length s.processors
  pub process : (cpu_at s.processors c).process ≡ Some k
  pub there : k < length s.runs
  pub planned : k < length s.plan.processes
  pub on : GoesOn (commands_of s.plan k) (run_at s.runs k) command

-- a process is at this processor alone
pub record IsPlaced (processors : List Processor) (c k : ℕ) : Type 0 where
  pub here : (cpu_at processors c).process ≡ Some k
  pub only : (d : ℕ) → d ≢ c → (cpu_at processors d).process ≢ Some k

-- a process has a descriptor of that number
pub record HasDescriptor (links : Links) (k n : ℕ) : Type 0 where
  pub process : k < length links.descriptors
  pub number : n < length (sdws_at links.descriptors k)

-- ---- what actions must find

pub record MayAnswer (s : State) (c : ℕ) : Type 0 where
  pub process : ℕ
  pub command : Command
  pub can : CanTell s c process command

-- a transfer that fails is that of a process which is here alone, and which doesn't end
pub record MayLose (s : State) (c : ℕ) : Type 0 where
  pub process : ℕ
  pub command : Command
  pub can : CanTell s c process command
  pub placed : IsPlaced s.processors c process
  pub more : is_end command ≡ false

-- a reference is the next command of the processor's process
pub record Refers (s : State) (c : ℕ) (r : Reference) : Type 0 where
  pub process : ℕ
  pub here : (cpu_at s.processors c).process ≡ Some process
  pub next : reference_in ((around s).next process) ≡ Some r

pub record MayFillSeg (s : State) (c n : ℕ) : Type 0 where
  pub reference : Reference
  pub refers : Refers s c reference
  pub number : reference.number ≡ n
  pub new : is_some (seg_of (cpu_at s.processors c).assoc n) ≡ false

pub record MayFillPage (s : State) (c : ℕ) (r : Reference) : Type 0 where
  pub refers : Refers s c r
  pub seg : is_some (seg_of (cpu_at s.processors c).assoc r.number) ≡ true
  pub new : holds_page (cpu_at s.processors c).assoc (Some r) ≡ false

-- the next command is a reference
pub record WantsPage (s : State) (c : ℕ) : Type 0 where
  pub chain : List ℕ
  pub uid : ℕ
  pub page : ℕ
  pub makes : Bool
  pub want : want_at (outline_of s) c ≡ Refer chain uid page makes

abbrev pub lack_of : State → ℕ → ℕ
lack_of s c = lack (outline_of s) (runner_at (outline_of s).runners c)

-- a reference for which the tables lack something, or no reference
abbrev pub MayEnter : State → ℕ → Type 0
MayEnter s c = (WantsPage s c × (lack_of s c ≡ 1))
    ⊎ ((chain : List ℕ) (uid page : ℕ) (makes : Bool) → want_at (outline_of s) c ≢ Refer chain uid page makes)

pub record MayConnect (s : State) (c n : ℕ) : Type 0 where
  pub wants : WantsPage s c
  pub reference : Reference
  pub number : reference.number ≡ n
  pub process : ℕ
  pub placed : IsPlaced s.processors c process
  pub next : reference_in ((around s).next process) ≡ Some reference
  pub there : HasDescriptor s.store.links process n
  pub within : c < length s.processors
  pub off : (runner_at (outline_of s).runners c).linked ≡ false

-- the descriptor of the next command is connected as before
abbrev pub is_linked_at : State → Processor → Bool
is_linked_at s p = (runner_of (around s) p).linked

abbrev pub KeepsLink : State → State → ℕ → Type 0
KeepsLink s t c = is_linked_at t (processor_at s.processors c) ≡ is_linked_at s (processor_at s.processors c)

pub record MayEmpty (s t : State) (c uid : ℕ) : Type 0 where
  pub can : CanEmpty (outline_of s) c (place_of s.store.ast.entries uid)
  pub of_it : AreOf (outline_of s) (place_of s.store.ast.entries uid) (frames_from s.store.ast uid 0)
  pub few : length (frames_from s.store.ast uid 0) ≤ 256
  pub link : KeepsLink s t c

-- which pages are stored once the page of a frame has left it
abbrev pub stored_then : State → ℕ → ℕ → ℕ → Bool
stored_then s f = is_filed (page_gone s f).store.accounts (page_gone s f).store.pages.vtocs

-- and the segments of whose volume no record is free then
abbrev pub full_then : State → ℕ → ℕ → Bool
full_then s f = lacks_record (page_gone s f).store.accounts.nodes (page_gone s f).store.pages.records

-- and once a segment has moved
abbrev pub full_there : Storage → Mover → ℕ → Bool
full_there st m = lacks_record (with_moved st m).accounts.nodes (with_moved st m).pages.records

pub record IsReading (s : State) (f : ℕ) : Type 0 where
  pub uid : ℕ
  pub page : ℕ
  pub started : slice_index_or s.store.pages.core.frames f frame.Free ≡ frame.Started uid page

-- What a look of the owner must find: each of its actions is one of a look.
abbrev pub IsLook : State → ℕ → act.Action → Type 0
IsLook s c (act.Waits (act.ForTransfer f)) = IsReading s f
IsLook s c (act.Answer r) = MayAnswer s c
IsLook s c act.GiveUp = WantsPage s c × (lack_of s c ≡ 0)
IsLook s c (act.Activate uid place) = CanActivate (outline_of s) c place uid
IsLook s c (act.Connect n uid) = MayConnect s c n
IsLook s c (act.Create f uid p r) = MayAnswer s c
IsLook s c (act.Start f uid p) = CanStart (outline_of s) c f uid p
IsLook s c (act.Evict f) = CanEvict (outline_of s) c f
IsLook s c (act.Empty uid) = MayEmpty s (deactivation_begun s c uid) c uid
IsLook s c (act.EmptyVictim pool chain uid) = MayEmpty s (victim_taken s c pool chain uid) c uid
IsLook s c (act.TakeAway fs pairs w) = ((fs ≢ []) ⊎ (pairs ≢ [])) × KeepsLink s (took s c aim.Committing w fs pairs) c
IsLook s c (act.BeginMove uid volume) = Unit {0}
IsLook s c act.Commit = MayAnswer s c
IsLook s c _ = ⊥

-- What a step must find of the machine.
pub record Foresees (s : State) (c : ℕ) : Type 0 where
  pub kept : IsKept (outline_of s)
  -- only who takes part is to drop something, and a process that is at a processor goes on
  pub quiet : (d : ℕ) → (cpu_at s.processors d).online ≡ false → (cpu_at s.processors d).due ≡ None
  pub answers : is_some (cpu_at s.processors c).process ≡ true → MayAnswer s c
  pub loses : is_some (cpu_at s.processors c).transfer ≡ true → MayLose s c
  -- the owner's job: a look has taken nothing yet, an eviction has its frame, and what was taken may leave
  pub looking : (o : Owner) → s.owner ≡ Some o → o.phase ≡ phase.Looking → o.frames ≡ []
  pub evicts : (o : Owner) (w : What) → s.owner ≡ Some o → o.phase ≡ phase.Waiting aim.Evicting w → o.frames ≢ []
  pub looks : (o : Owner) → s.owner ≡ Some o → o.phase ≡ phase.Looking → o.cpu ≡ c
      → IsLook s c (act.look_of s (process_at s c) (next_command s (process_at s c)))
  pub leaves : (o : Owner) (f : ℕ) (fs : List ℕ) → s.owner ≡ Some o → o.frames ≡ f ∷ fs
      → MayRelease (outline_of s) f (stored_then s f) (full_then s f)
  -- a segment that has moved gives its command the record that it lacks
  pub moves : (o : Owner) (m : Mover) → s.owner ≡ Some o → o.phase ≡ phase.Moving m → o.cpu ≡ c
      → HasMoved (outline_of s) c (full_there s.store m)
  -- a processor that takes the supervisor needs it
  pub enters : s.owner ≡ None → (cpu_at s.processors c).transfer ≡ None
      → act.come_to s (cpu_at s.processors c) (process_at s c) (next_command s (process_at s c)) ≡ act.TakeSupervisor
      → MayEnter s c
