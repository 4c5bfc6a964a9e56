-- What is true of an outline between two steps: that the measures have room for what they count, and that whoever is
-- waited for is there (own).
use Rattle.std.specs.Prelude.{◌≡◌, ℕ, ◌<◌, ◌≤◌, Bool, true, false, not, length, List, [], ◌∷◌, Some, None, Contains}
use Rattle.script.specs.declared.plan.TheConstants.{MOST_PROCESSORS}
use Rattle.core_map.specs.declared.Frame.{Frame}
use Rattle.core_map.specs.declared.Frame.TheVariants as frame
use Rattle.active_segs.specs.Victim.{IsOffChain}
use Rattle.processor.specs.declared.Transfer.{Transfer}
use Rattle.machine_model.specs.Outline.{Want, Refer, Truncate, Length, Other, Runner, Work, EvictFrame, EmptyPlace, CommitCommand, Stage, Look, Taken, Waiting, Copying, Outline, runner_at, frame_in, want_at}
use Rattle.machine_model.specs.Measures.{chain_of, dues, is_of}
use Rattle.machine_model.specs.Finishing.{IsIn}

-- the segment that a command is about is in its chain
abbrev pub EndsChain : Want → Type 0
EndsChain (Refer chain uid page makes) = Contains chain uid
EndsChain (Truncate chain uid cut) = Contains chain uid
EndsChain (Length uid) = Unit {0}
EndsChain Other = Unit {0}

pub record HasSizes (s : Outline) : Type 0 where
  pub few_runners : length s.runners ≤ MOST_PROCESSORS
  pub some_runner : 0 < length s.runners
  pub few_entries : length s.entries ≤ 1024
  pub few_ready : s.ready ≤ 32
  pub few_links : (c : ℕ) → length (chain_of (want_at s c)) ≤ 10
  pub chains : (c : ℕ) → EndsChain (want_at s c)

-- a processor that has a process takes part, and one that reads has a process; each started frame has just one
-- processor that reads into it
pub record AreTied (runners : List Runner) (frames : List Frame) : Type 0 where
  pub runners_online : (c : ℕ) → (runner_at runners c).running ≡ true → (runner_at runners c).online ≡ true
  pub readers_run : (c : ℕ) (r : Transfer) → (runner_at runners c).reading ≡ Some r
      → (runner_at runners c).running ≡ true
  pub started : (f uid page : ℕ) → frame_in frames f ≡ frame.Started uid page
      → (d : ℕ) × (d < length runners)
      × ((runner_at runners d).reading ≡ Some (record { frame = f; uid = uid; page = page }))
  pub read : (d : ℕ) (r : Transfer) → (runner_at runners d).reading ≡ Some r
      → (frame_in frames r.frame ≡ frame.Started r.uid r.page) × (r.frame < length frames)
  pub one_reader : (d e : ℕ) (r q : Transfer) → (runner_at runners d).reading ≡ Some r
      → (runner_at runners e).reading ≡ Some q → r.frame ≡ q.frame → d ≡ e

-- the page of a frame isn't the one that a command wants, so that a job may take it
abbrev pub is_wanted : Want → Frame → Bool
is_wanted (Refer chain uid page makes) x = is_of uid page x
is_wanted (Truncate chain uid (Some page)) x = is_of uid page x
is_wanted _ x = false

abbrev pub is_spared : Want → Frame → Bool
is_spared w frame.Free = true
is_spared w (frame.Started uid page) = false
is_spared w (frame.Bound uid page used modified) = not (is_wanted w (frame.Bound uid page used modified))

abbrev pub AreSpared : List Frame → Want → List ℕ → Type 0
AreSpared frames w [] = Unit {0}
AreSpared frames w (f ∷ fs) = ((f < length frames) × (is_spared w (frame_in frames f) ≡ true)) × AreSpared frames w fs

-- what a job took is as it was: none of it is what its command wants, and no frame of it is being read into
abbrev pub FitsWork : Outline → Want → Work → Type 0
FitsWork s w (EvictFrame f) = AreSpared s.frames w (f ∷ [])
FitsWork s w (EmptyPlace place rest) =
    AreSpared s.frames w rest × (length rest ≤ 256) × (place < length s.entries)
    × IsOffChain s.entries (chain_of w) place
FitsWork s w CommitCommand = Unit {0}

abbrev pub FitsStage : Outline → Want → Stage → Type 0
FitsStage s w Look = dues s.runners ≡ 0
FitsStage s w (Taken work) = FitsWork s w work
FitsStage s w (Waiting work) = FitsWork s w work
FitsStage s w (Copying left) = (dues s.runners ≡ 0) × (left ≤ 256)

-- the owner has a process, and nothing that comes before its job
pub record IsAtWork (runners : List Runner) (c : ℕ) : Type 0 where
  pub within : c < length runners
  pub running : (runner_at runners c).running ≡ true
  pub clear : (runner_at runners c).due ≡ false
  pub idle : (runner_at runners c).reading ≡ None

pub record HasJob (s : Outline) : Type 0 where
  pub at_work : (c : ℕ) (stage : Stage) → IsIn s c stage → IsAtWork s.runners c
  pub fits : (c : ℕ) (stage : Stage) → IsIn s c stage → FitsStage s (want_at s c) stage
  pub quiet : s.owner ≡ None → dues s.runners ≡ 0

pub record IsKept (s : Outline) : Type 0 where
  pub sizes : HasSizes s
  pub tied : AreTied s.runners s.frames
  pub job : HasJob s
