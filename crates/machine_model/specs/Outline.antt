-- An outline of the machine: what of it tells that its loop comes to an end. It names no table, no drive and no book;
-- what a command wants of the tables stands beside each processor (own).
use Rattle.std.specs.Prelude.{ℕ, Bool, false, slice_index_or, slice_set, List, Option, Some, None}
use Rattle.core_map.specs.declared.Frame.{Frame}
use Rattle.core_map.specs.declared.Frame.TheVariants as frame
use Rattle.active_segs.specs.declared.Entry.{Entry}
use Rattle.processor.specs.declared.Transfer.{Transfer}
use Rattle.machine_model.specs.Actions.{Why}

-- What the next command of a process wants of the tables: a reference wants its segment's chain active and connected
-- and its page in a frame, or to make the page where a word other than 0 is written; a `truncate` wants the chain
-- active, and the page that it cuts in a frame; a `length` wants its segment out of use.
pub data Want : Type 0 where
  Refer : (chain : List ℕ) (uid page : ℕ) (makes : Bool) → Want
  Truncate : (chain : List ℕ) (uid : ℕ) (cut : Option ℕ) → Want
  Length : (uid : ℕ) → Want
  Other : Want

-- A processor: whether it takes part, has a process, and is to drop something; the page that it is reading in; how
-- many command entries it made since its load, and whether the last was a try; what the next command of its process
-- wants; whether the descriptor of that is connected, and whether it holds the descriptor and the page table word.
pub record Runner : Type 0 where
  pub online : Bool
  pub running : Bool
  pub due : Bool
  pub reading : Option Transfer
  pub since : ℕ
  pub tried : Bool
  pub want : Want
  pub linked : Bool
  pub has_seg : Bool
  pub has_page : Bool

-- what the owner has taken: a frame's page; the pages of the segment of a place, of which these are still in their
-- frames; what a tree command takes
pub data Work : Type 0 where
  EvictFrame : (f : ℕ) → Work
  EmptyPlace : (place : ℕ) (frames : List ℕ) → Work
  CommitCommand : Work

-- how far the owner has come; while it moves a segment, how many pages may still be to be copied
pub data Stage : Type 0 where
  Look : Stage
  Taken : (work : Work) → Stage
  Waiting : (work : Work) → Stage
  Copying : (left : ℕ) → Stage

pub record Keeper : Type 0 where
  pub cpu : ℕ
  pub stage : Stage

-- the processors; the frames; the active segments; which pages are stored; the segments of whose volume no record is
-- free; the owner of the supervisor; how many processes are ready; how many commands and tries are still to come
pub record Outline : Type 0 where
  pub runners : List Runner
  pub frames : List Frame
  pub entries : List (Option Entry)
  pub stored : ℕ → ℕ → Bool
  pub full : ℕ → Bool
  pub owner : Option Keeper
  pub ready : ℕ
  pub left : ℕ

-- how a step ended
pub data Turn : Type 0 where
  Moved : Turn
  WaitsFor : (why : Why) → Turn
  Ended : Turn

-- ---- reads

abbrev pub no_runner : Runner
no_runner = record {
  online = false;
  running = false;
  due = false;
  reading = None;
  since = 0;
  tried = false;
  want = Other;
  linked = false;
  has_seg = false;
  has_page = false;
}

abbrev pub runner_at : List Runner → ℕ → Runner
runner_at runners c = slice_index_or runners c no_runner

abbrev pub frame_in : List Frame → ℕ → Frame
frame_in frames f = slice_index_or frames f frame.Free

abbrev pub want_at : Outline → ℕ → Want
want_at s c = (runner_at s.runners c).want

-- ---- writes

abbrev pub with_runner : Outline → ℕ → Runner → Outline
with_runner s c x = record s { runners = slice_set s.runners c x }

abbrev pub with_frame : Outline → ℕ → Frame → Outline
with_frame s f x = record s { frames = slice_set s.frames f x }

abbrev pub with_entry : Outline → ℕ → Option Entry → Outline
with_entry s place x = record s { entries = slice_set s.entries place x }

-- the owner comes to a stage
abbrev pub at_stage : Outline → ℕ → Stage → Outline
at_stage s c stage = record s { owner = Some (record { cpu = c; stage = stage }) }
