-- The steps of an outline: what each action of a processor does to what the measures read. A step of the machine is
-- one of these in its outline (own).
use Rattle.std.specs.Prelude.{◌≡◌, ◌≢◌, ℕ, ◌+◌, ◌-◌, ◌<◌, ◌≤◌, Bool, true, false, ◌&&◌, ◌==◌, nat_lt, if◌then◌else◌, is_some, length, List, [], ◌∷◌, Option, Some, None, Contains}
use Rattle.core_map.specs.declared.Frame.{Frame}
use Rattle.core_map.specs.declared.Frame.TheVariants as frame
use Rattle.active_segs.specs.declared.Entry.{Entry}
use Rattle.active_segs.specs.Active.{entry_at, uid_in}
use Rattle.active_segs.specs.Victim.{IsOffChain}
use Rattle.processor.specs.declared.Transfer.{Transfer}
use Rattle.machine_model.specs.Actions.{ForOwner, ForClear, ForTransfer, WhileIdle}
use Rattle.machine_model.specs.Outline.{Want, Refer, Truncate, Runner, Work, EvictFrame, EmptyPlace, CommitCommand, Stage, Look, Taken, Waiting, Copying, Keeper, Outline, Turn, Moved, WaitsFor, Ended, runner_at, frame_in, want_at, with_runner, with_frame, with_entry, at_stage}
use Rattle.machine_model.specs.Measures.{chain_of, is_active, dues, has_free, is_here, lack, missing, is_over}

-- ---- which rule applies

pub data Rule : Type 0 where
  Comes : Rule
  Clears : Rule
  Reads : Rule
  Works : Rule
  Loads : Rule
  Leaves : Rule
  Commands : Rule

-- by whether a processor takes part, is to drop something, is reading, owns the supervisor, has a process, and is to
-- leave it
abbrev pub rule_by : Bool → Bool → Bool → Bool → Bool → Bool → Rule
rule_by online due reading owns running leaves =
    if online then (if due then Clears else if reading then Reads else if owns then Works
    else if running then (if leaves then Leaves else Commands) else Loads) else Comes

abbrev pub owns : Option Keeper → ℕ → Bool
owns None c = false
owns (Some o) c = o.cpu == c

unfoldable pub rule_of : Outline → ℕ → Rule
rule_of s c =
    let x = runner_at s.runners c in
    rule_by x.online x.due (is_some x.reading) (owns s.owner c) x.running (is_over x && nat_lt 0 s.ready)

-- ---- what the actions ask

abbrev pub IsIn : Outline → ℕ → Stage → Type 0
IsIn s c stage = s.owner ≡ Some (record { cpu = c; stage = stage })

-- a segment of the wanted chain becomes active in a free place
pub record CanActivate (s : Outline) (c place uid : ℕ) : Type 0 where
  pub look : IsIn s c Look
  pub member : Contains (chain_of (want_at s c)) uid
  pub idle : is_active s.entries uid ≡ false
  pub free : entry_at s.entries place ≡ None
  pub within : place < length s.entries

-- the segment of a place isn't of the wanted chain
pub record CanEmpty (s : Outline) (c place : ℕ) : Type 0 where
  pub look : IsIn s c Look
  pub off : IsOffChain s.entries (chain_of (want_at s c)) place
  pub within : place < length s.entries

abbrev pub is_bound : Frame → Bool
is_bound frame.Free = false
is_bound (frame.Started uid page) = false
is_bound (frame.Bound uid page used modified) = true

-- the page that a command wants in a frame is in none
abbrev pub is_wanted_here : List Frame → Want → Bool
is_wanted_here frames (Refer chain uid page makes) = is_here frames uid page
is_wanted_here frames (Truncate chain uid (Some page)) = is_here frames uid page
is_wanted_here frames _ = false

pub record CanEvict (s : Outline) (c f : ℕ) : Type 0 where
  pub look : IsIn s c Look
  pub full : has_free s.frames ≡ false
  pub within : f < length s.frames
  pub bound : is_bound (frame_in s.frames f) ≡ true
  pub away : is_wanted_here s.frames (want_at s c) ≡ false

abbrev pub IsWantedPage : Want → Bool → ℕ → ℕ → Type 0
IsWantedPage (Refer chain u q makes) linked uid page = (linked ≡ true) × (u ≡ uid) × (q ≡ page)
IsWantedPage (Truncate chain u (Some q)) linked uid page = (u ≡ uid) × (q ≡ page)
IsWantedPage _ linked uid page = ⊥

pub record CanStart (s : Outline) (c f uid page : ℕ) : Type 0 where
  pub look : IsIn s c Look
  pub free : frame_in s.frames f ≡ frame.Free
  pub within : f < length s.frames
  pub lacks : lack s (runner_at s.runners c) ≡ 1
  pub wants : IsWantedPage (want_at s c) (runner_at s.runners c).linked uid page

abbrev pub page_of : Frame → Option (ℕ × ℕ)
page_of frame.Free = None
page_of (frame.Started uid page) = None
page_of (frame.Bound uid page used modified) = Some (uid, page)

abbrev pub uid_of : Option (ℕ × ℕ) → Option ℕ
uid_of None = None
uid_of (Some page) = Some page.0

-- frames with pages of the segment of a place
abbrev pub AreOf : Outline → ℕ → List ℕ → Type 0
AreOf s place [] = Unit {0}
AreOf s place (f ∷ fs) =
    ((f < length s.frames) × (is_bound (frame_in s.frames f) ≡ true)
    × (uid_of (page_of (frame_in s.frames f)) ≡ uid_in (entry_at s.entries place))) × AreOf s place fs

-- what is stored changes at the page of a frame alone, and no volume has fewer free records
pub record MayRelease (s : Outline) (f : ℕ) (stored : ℕ → ℕ → Bool) (full : ℕ → Bool) : Type 0 where
  pub others : (uid page : ℕ) → page_of (frame_in s.frames f) ≢ Some (uid, page) → stored uid page ≡ s.stored uid page
  pub room : (uid : ℕ) → full uid ≡ true → s.full uid ≡ true

-- Of each processor what its own rules read stands, and of processor c all but what it holds: a take, a signal and the
-- end of a deactivation change what others have connected, hold and are to drop.
pub record AreAlike (old new : List Runner) (c : ℕ) : Type 0 where
  pub count : length new ≡ length old
  pub online : (d : ℕ) → (runner_at new d).online ≡ (runner_at old d).online
  pub running : (d : ℕ) → (runner_at new d).running ≡ (runner_at old d).running
  pub reading : (d : ℕ) → (runner_at new d).reading ≡ (runner_at old d).reading
  pub since : (d : ℕ) → (runner_at new d).since ≡ (runner_at old d).since
  pub tried : (d : ℕ) → (runner_at new d).tried ≡ (runner_at old d).tried
  pub want : (runner_at new c).want ≡ (runner_at old c).want
  pub linked : (runner_at new c).linked ≡ (runner_at old c).linked
  pub due : (runner_at new c).due ≡ (runner_at old c).due

-- the command of processor c was answered, and the supervisor given up; or the processor left its process besides
pub record IsAnswered (s : Outline) (c : ℕ) (t : Outline) : Type 0 where
  pub owner : t.owner ≡ None
  pub fewer : t.left < s.left
  pub over : ((runner_at t.runners c).running ≡ true)
      → (runner_at t.runners c).since ≡ (runner_at s.runners c).since + 1

-- the same without the supervisor
pub record IsReplied (s : Outline) (c : ℕ) (t : Outline) : Type 0 where
  pub owner : t.owner ≡ s.owner
  pub fewer : t.left < s.left
  pub since : (runner_at t.runners c).since ≡ (runner_at s.runners c).since + 1

-- the command lacked a record, and its segment has moved to a volume where one is free
pub record HasMoved (s : Outline) (c : ℕ) (full : ℕ → Bool) : Type 0 where
  pub chain : List ℕ
  pub uid : ℕ
  pub page : ℕ
  pub want : want_at s c ≡ Refer chain uid page true
  pub lacked : s.full uid ≡ true
  pub has : full uid ≡ false

-- ---- the steps of the owner

abbrev pub with_link : Outline → ℕ → Outline
with_link s c = with_runner s c (record (runner_at s.runners c) { linked = true })

abbrev pub with_runners : Outline → List Runner → Outline
with_runners s runners = record s { runners = runners }

abbrev pub with_stored : Outline → (ℕ → ℕ → Bool) → (ℕ → Bool) → Outline
with_stored s stored full = record s { stored = stored; full = full }

abbrev pub without_owner : Outline → Outline
without_owner s = record s { owner = None }

abbrev pub entry_for : ℕ → Option ℕ → Option Entry
entry_for uid superior = Some (record { uid = uid; superior = superior })

abbrev pub now_reading : Outline → ℕ → ℕ → ℕ → ℕ → Outline
now_reading s c f uid page =
    with_runner (with_frame s f (frame.Started uid page)) c
    (record (runner_at s.runners c) { reading = Some (record { frame = f; uid = uid; page = page }) })

pub data JobStep (s : Outline) (c : ℕ) : Outline → Type 0 where
  activates : (place uid : ℕ) (superior : Option ℕ) → CanActivate s c place uid
      → JobStep s c (with_entry s place (entry_for uid superior))
  connects : (chain : List ℕ) (uid page : ℕ) (makes : Bool) → IsIn s c Look → want_at s c ≡ Refer chain uid page makes
      → (runner_at s.runners c).linked ≡ false → JobStep s c (with_link s c)
  takes_segment : (place : ℕ) (frames : List ℕ) (runners : List Runner) → CanEmpty s c place → AreOf s place frames
      → length frames ≤ 256 → AreAlike s.runners runners c
      → JobStep s c (with_runners (at_stage s c (Taken (EmptyPlace place frames))) runners)
  takes_frame : (f : ℕ) → CanEvict s c f → JobStep s c (at_stage s c (Taken (EvictFrame f)))
  takes_for_commit : (runners : List Runner) → IsIn s c Look → AreAlike s.runners runners c
      → JobStep s c (with_runners (at_stage s c (Taken CommitCommand)) runners)
  signals : (w : Work) (runners : List Runner) → IsIn s c (Taken w) → AreAlike s.runners runners c
      → JobStep s c (with_runners (at_stage s c (Waiting w)) runners)
  frees_frame : (f : ℕ) (stored : ℕ → ℕ → Bool) (full : ℕ → Bool) → IsIn s c (Waiting (EvictFrame f))
      → dues s.runners ≡ 0 → MayRelease s f stored full
      → JobStep s c (with_stored (at_stage (with_frame s f frame.Free) c Look) stored full)
  frees_page : (place f : ℕ) (rest : List ℕ) (stored : ℕ → ℕ → Bool) (full : ℕ → Bool)
      → IsIn s c (Waiting (EmptyPlace place (f ∷ rest))) → dues s.runners ≡ 0 → MayRelease s f stored full
      → JobStep s c (with_stored (at_stage (with_frame s f frame.Free) c (Waiting (EmptyPlace place rest))) stored full)
  empties : (place : ℕ) (runners : List Runner) → IsIn s c (Waiting (EmptyPlace place [])) → dues s.runners ≡ 0
      → AreAlike s.runners runners c → dues runners ≡ 0
      → JobStep s c (with_runners (at_stage (with_entry s place None) c Look) runners)
  empties_at_once : (place : ℕ) → CanEmpty s c place → JobStep s c (with_entry s place None)
  begins_move : (left : ℕ) → IsIn s c Look → left ≤ 256 → JobStep s c (at_stage s c (Copying left))
  copies : (left fewer : ℕ) → IsIn s c (Copying left) → fewer < left → JobStep s c (at_stage s c (Copying fewer))
  commits_move : (left : ℕ) (stored : ℕ → ℕ → Bool) (full : ℕ → Bool) → IsIn s c (Copying left) → HasMoved s c full
      → JobStep s c (with_stored (at_stage s c Look) stored full)
  gives_up : (chain : List ℕ) (uid page : ℕ) (makes : Bool) → IsIn s c Look → want_at s c ≡ Refer chain uid page makes
      → lack s (runner_at s.runners c) ≡ 0 → JobStep s c (without_owner s)
  starts : (f uid page : ℕ) → CanStart s c f uid page → JobStep s c (without_owner (now_reading s c f uid page))
  answers : (stage : Stage) (t : Outline) → IsIn s c stage → dues s.runners ≡ 0 → IsAnswered s c t → JobStep s c t

-- ---- the steps of a processor

-- no process is ready or running
pub record IsEnded (s : Outline) : Type 0 where
  pub ready : s.ready ≡ 0
  pub running : (d : ℕ) → (runner_at s.runners d).running ≡ false

-- what a clear leaves of a processor
pub record IsCleared (x now : Runner) : Type 0 where
  pub due : now.due ≡ false
  pub online : now.online ≡ x.online
  pub running : now.running ≡ x.running
  pub reading : now.reading ≡ x.reading
  pub since : now.since ≡ x.since
  pub tried : now.tried ≡ x.tried

-- a processor whose transfer failed, once its process was told
pub record HasLost (x now : Runner) : Type 0 where
  pub reading : now.reading ≡ None
  pub due : now.due ≡ x.due
  pub online : now.online ≡ x.online
  pub running : now.running ≡ x.running
  pub since : now.since ≡ x.since + 1

-- a processor that has just loaded a process, and one that has just left its own
pub record HasLoaded (now : Runner) : Type 0 where
  pub online : now.online ≡ true
  pub running : now.running ≡ true
  pub due : now.due ≡ false
  pub reading : now.reading ≡ None
  pub since : now.since ≡ 0
  pub tried : now.tried ≡ false

pub record HasLeft (now : Runner) : Type 0 where
  pub online : now.online ≡ true
  pub running : now.running ≡ false
  pub due : now.due ≡ false
  pub reading : now.reading ≡ None

-- a processor that has taken in an entry more
pub record IsFilled (x now : Runner) : Type 0 where
  pub online : now.online ≡ x.online
  pub running : now.running ≡ x.running
  pub due : now.due ≡ x.due
  pub reading : now.reading ≡ x.reading
  pub since : now.since ≡ x.since
  pub tried : now.tried ≡ x.tried
  pub want : now.want ≡ x.want
  pub linked : now.linked ≡ x.linked
  pub missing : missing now < missing x

abbrev pub with_bound : Outline → Transfer → Bool → Bool → Outline
with_bound s r used modified = with_frame s r.frame (frame.Bound r.uid r.page used modified)

abbrev pub not_reading : Outline → ℕ → Outline
not_reading s c = with_runner s c (record (runner_at s.runners c) { reading = None })

pub data Step (s : Outline) (c : ℕ) : Turn → Outline → Type 0 where
  ends : IsEnded s → Step s c Ended s
  comes : rule_of s c ≡ Comes → Step s c Moved (with_runner s c (record (runner_at s.runners c) { online = true }))
  clears : (x : Runner) → rule_of s c ≡ Clears → IsCleared (runner_at s.runners c) x
      → Step s c Moved (with_runner s c x)
  reads : (r : Transfer) (used modified : Bool) → rule_of s c ≡ Reads → (runner_at s.runners c).reading ≡ Some r
      → Step s c Moved (not_reading (with_bound s r used modified) c)
  loses : (r : Transfer) (x : Runner) (left : ℕ) → rule_of s c ≡ Reads → (runner_at s.runners c).reading ≡ Some r
      → HasLost (runner_at s.runners c) x → left < s.left
      → Step s c Moved (record (with_runner (with_frame s r.frame frame.Free) c x) { left = left })
  works : (t : Outline) → rule_of s c ≡ Works → JobStep s c t → Step s c Moved t
  awaits_clear : (w : Work) (d : ℕ) → rule_of s c ≡ Works → IsIn s c (Waiting w) → (runner_at s.runners d).online ≡ true
      → (runner_at s.runners d).due ≡ true → Step s c (WaitsFor (ForClear d)) s
  awaits_transfer : (f uid page : ℕ) → rule_of s c ≡ Works → IsIn s c Look
      → frame_in s.frames f ≡ frame.Started uid page → Step s c (WaitsFor (ForTransfer f)) s
  loads : (x : Runner) → rule_of s c ≡ Loads → 0 < s.ready → HasLoaded x
      → Step s c Moved (record (with_runner s c x) { ready = s.ready - 1 })
  idles : (busy : ℕ) → rule_of s c ≡ Loads → s.ready ≡ 0 → Step s c (WaitsFor (WhileIdle busy)) s
  leaves : (x : Runner) → rule_of s c ≡ Leaves → HasLeft x
      → Step s c Moved (record (with_runner s c x) { ready = s.ready + 1 })
  fills : (x : Runner) → rule_of s c ≡ Commands → IsFilled (runner_at s.runners c) x
      → Step s c Moved (with_runner s c x)
  replies : (t : Outline) → rule_of s c ≡ Commands → IsReplied s c t → Step s c Moved t
  faults : (chain : List ℕ) (uid page : ℕ) (makes : Bool) → rule_of s c ≡ Commands → s.owner ≡ None
      → want_at s c ≡ Refer chain uid page makes → lack s (runner_at s.runners c) ≡ 1
      → Step s c Moved (at_stage s c Look)
  enters : rule_of s c ≡ Commands → s.owner ≡ None
      → ((chain : List ℕ) (uid page : ℕ) (makes : Bool) → want_at s c ≢ Refer chain uid page makes)
      → Step s c Moved (at_stage s c Look)
  waits : (o : Keeper) → rule_of s c ≡ Commands → s.owner ≡ Some o → Step s c (WaitsFor (ForOwner o.cpu)) s
