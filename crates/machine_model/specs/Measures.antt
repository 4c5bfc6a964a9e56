-- The measures of the loop that makes the machine end: of a job in the supervisor, of a command of a processor, and of
-- all commands. Each is one number (own).
use Rattle.std.specs.Prelude.{ℕ, ◌+◌, ◌*◌, ◌<◌, Bool, true, false, not, ◌&&◌, ◌||◌, ◌==◌, nat_le, if◌then◌else◌, is_some, count_by, length, List, [], Option, Some, None}
use Rattle.std.specs.List.{list_any}
use Rattle.script.specs.declared.plan.TheConstants.{MOST_PROCESSORS}
use Rattle.core_map.specs.declared.Frame.{Frame}
use Rattle.core_map.specs.declared.Frame.TheVariants as frame
use Rattle.core_map.specs.CoreMap.{is_free}
use Rattle.active_segs.specs.declared.Entry.{Entry}
use Rattle.active_segs.specs.Victim.{off_chain}
use Rattle.seg_control.specs.Control.{is_for}
use Rattle.processor.specs.declared.Transfer.{Transfer}
use Rattle.machine_model.specs.Outline.{Want, Refer, Truncate, Length, Other, Runner, Work, EvictFrame, EmptyPlace, CommitCommand, Stage, Look, Taken, Waiting, Copying, Keeper, Outline, runner_at}

-- ---- a job

-- the segments that must be active for a command
abbrev pub chain_of : Want → List ℕ
chain_of (Refer chain uid page makes) = chain
chain_of (Truncate chain uid cut) = chain
chain_of (Length uid) = []
chain_of Other = []

abbrev pub is_active : List (Option Entry) → ℕ → Bool
is_active entries uid = list_any (is_for uid) entries

-- the links of a chain that aren't active, and the active segments that aren't in it
unfoldable pub idle_links : List (Option Entry) → List ℕ → ℕ
idle_links entries chain = count_by (λ uid. not (is_active entries uid)) chain

unfoldable pub off_links : List (Option Entry) → List ℕ → ℕ
off_links entries chain = count_by (off_chain chain) entries

-- the transfers under way, and the processors that are to drop something
unfoldable pub readers : List Runner → ℕ
readers runners = count_by (λ x. is_some x.reading) runners

unfoldable pub dues : List Runner → ℕ
dues runners = count_by (λ x. x.due) runners

unfoldable pub has_free : List Frame → Bool
has_free frames = list_any is_free frames

-- a reference whose descriptor isn't connected
abbrev pub unlinked : Want → Bool → ℕ
unlinked (Refer chain uid page makes) linked = if linked then 0 else 1
unlinked (Truncate chain uid cut) linked = 0
unlinked (Length uid) linked = 0
unlinked Other linked = 0

-- A record lacks where a reference makes a page of a segment of whose volume none is free.
abbrev pub room_lack : (ℕ → Bool) → Want → ℕ
room_lack full (Refer chain uid page makes) = if makes && full uid then 1 else 0
room_lack full (Truncate chain uid cut) = 0
room_lack full (Length uid) = 0
room_lack full Other = 0

-- A frame lacks where none is free. An eviction that is under way is to give one, and counts as a frame that lacks
-- until it has, whatever else is free by then.
abbrev pub frame_lack : Stage → List Frame → ℕ
frame_lack (Taken (EvictFrame f)) frames = 1
frame_lack (Waiting (EvictFrame f)) frames = 1
frame_lack _ frames = if has_free frames then 0 else 1

-- the steps that a job has before its next look; a look comes before them all
abbrev pub work_left : Work → ℕ
work_left (EvictFrame f) = 1
work_left (EmptyPlace place rest) = length rest + 1
work_left CommitCommand = 1

abbrev pub stage_left : Stage → ℕ
stage_left Look = 300
stage_left (Taken work) = work_left work + 1
stage_left (Waiting work) = work_left work
stage_left (Copying left) = left + 1

-- the parts of a job's measure, the first that differs deciding
pub record Parts : Type 0 where
  pub reading : ℕ
  pub idle : ℕ
  pub off : ℕ
  pub link : ℕ
  pub room : ℕ
  pub frame : ℕ
  pub stage : ℕ
  pub due : ℕ

abbrev pub parts_of : Outline → Runner → Stage → Parts
parts_of s x stage = record {
  reading = readers s.runners;
  idle = idle_links s.entries (chain_of x.want);
  off = off_links s.entries (chain_of x.want);
  link = unlinked x.want x.linked;
  room = room_lack s.full x.want;
  frame = frame_lack stage s.frames;
  stage = stage_left stage;
  due = dues s.runners;
}

-- one number, in which each part has room
abbrev pub rank_of : Parts → ℕ
rank_of p =
    ((((((p.reading * 16 + p.idle) * 2048 + p.off) * 2 + p.link) * 2 + p.room) * 2 + p.frame) * 512 + p.stage)
    * (2 * MOST_PROCESSORS)
    + p.due

-- each part but the first is below its room
pub record IsSmall (p : Parts) : Type 0 where
  pub idle : p.idle < 16
  pub off : p.off < 2048
  pub link : p.link < 2
  pub room : p.room < 2
  pub frame : p.frame < 2
  pub stage : p.stage < 512
  pub due : p.due < 2 * MOST_PROCESSORS

abbrev pub job_left : Outline → Option Keeper → ℕ
job_left s None = 0
job_left s (Some o) = rank_of (parts_of s (runner_at s.runners o.cpu) o.stage) + 1

unfoldable pub job_rank : Outline → ℕ
job_rank s = job_left s s.owner

-- ---- a command

abbrev pub is_of : ℕ → ℕ → Frame → Bool
is_of uid page frame.Free = false
is_of uid page (frame.Started u q) = false
is_of uid page (frame.Bound u q used modified) = u == uid && q == page

-- a page is in a frame
unfoldable pub is_here : List Frame → ℕ → ℕ → Bool
is_here frames uid page = list_any (is_of uid page) frames

abbrev pub reads_page : Option Transfer → ℕ → ℕ → Bool
reads_page None uid page = false
reads_page (Some t) uid page = t.uid == uid && t.page == page

-- nothing is to be done for a page: it is in a frame, or being read by this processor, or it stays a page of zeros
abbrev pub page_fits : Outline → Option Transfer → ℕ → ℕ → Bool → Bool
page_fits s reading uid page makes =
    is_here s.frames uid page || (reads_page reading uid page || (not (s.stored uid page) && not makes))

-- the same for the page that a command wants; a command that wants none lacks none
abbrev pub wanted_fits : Outline → Want → Option Transfer → Bool
wanted_fits s (Refer chain uid page makes) reading = page_fits s reading uid page makes
wanted_fits s (Truncate chain uid None) reading = true
wanted_fits s (Truncate chain uid (Some page)) reading = page_fits s reading uid page false
wanted_fits s (Length uid) reading = true
wanted_fits s Other reading = true

-- whether what leads to the segment is there, of a reference
abbrev pub wanted_link : Want → Bool → Bool
wanted_link (Refer chain uid page makes) linked = linked
wanted_link (Truncate chain uid cut) linked = true
wanted_link (Length uid) linked = true
wanted_link Other linked = true

abbrev pub want_lack : Outline → Want → Bool → Option Transfer → ℕ
want_lack s w linked reading = if wanted_link w linked && wanted_fits s w reading then 0 else 1

-- whether the tables lack something that the command wants
abbrev pub lack : Outline → Runner → ℕ
lack s x = want_lack s x.want x.linked x.reading

-- the entries of the associative memories that the processor lacks
abbrev pub missing : Runner → ℕ
missing x = if x.has_seg then (if x.has_page then 0 else 1) else 2

abbrev pub command_left : Outline → Runner → ℕ
command_left s x = (lack s x * 2 + (if is_some x.reading then 1 else 0)) * 4 + missing x

unfoldable pub command_rank : Outline → ℕ → ℕ
command_rank s c = command_left s (runner_at s.runners c)

-- ---- all commands

-- a process has had its turn
abbrev pub is_over : Runner → Bool
is_over x = x.running && (nat_le 16 x.since || x.tried)

unfoldable pub over : List Runner → ℕ
over runners = count_by is_over runners

unfoldable pub offline : List Runner → ℕ
offline runners = count_by (λ x. not x.online) runners

unfoldable pub all_rank : Outline → ℕ
all_rank s =
    ((s.left * (2 * MOST_PROCESSORS) + over s.runners) * 64 + s.ready) * (2 * MOST_PROCESSORS) + offline s.runners
