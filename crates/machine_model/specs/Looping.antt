-- What each turn of the loop that makes the machine end brings, by the measures: a turn of a job, one of a command,
-- and a round (own).
use Rattle.std.specs.Prelude.{◌≡◌, ◌<◌, ◌≤◌, ℕ, ◌+◌, Bool, true, false, ◌&&◌, ◌==◌, if◌then◌else◌, length, Some, None, ◌⊎◌}
use Rattle.core_map.specs.declared.Frame.TheVariants as frame
use Rattle.machine_model.specs.Actions.{ForOwner, ForClear, ForTransfer, WhileIdle}
use Rattle.machine_model.specs.Outline.{Want, Refer, Truncate, Length, Other, Runner, Work, Stage, Look, Waiting, Outline, Turn, Moved, WaitsFor, Ended, runner_at, frame_in, want_at, at_stage}
use Rattle.machine_model.specs.Measures.{lack, job_rank, command_rank, all_rank}
use Rattle.machine_model.specs.Finishing.{IsIn}

abbrev pub lack_at : Outline → ℕ → ℕ
lack_at s c = lack s (runner_at s.runners c)

-- a processor runs its process, and made so many command entries since it loaded it
abbrev pub is_at : Runner → ℕ → Bool
is_at x since = x.running && x.since == since

abbrev pub IsReference : Want → Type 0
IsReference (Refer chain uid page makes) = Unit {0}
IsReference (Truncate chain uid cut) = ⊥
IsReference (Length uid) = ⊥
IsReference Other = ⊥

-- ---- a job

-- processor c is still at the same command, and no command more is to come
pub record IsSameCommand (s t : Outline) (c : ℕ) : Type 0 where
  pub want : want_at t c ≡ want_at s c
  pub since : (runner_at t.runners c).since ≡ (runner_at s.runners c).since
  pub running : (runner_at t.runners c).running ≡ (runner_at s.runners c).running
  pub all : all_rank t ≤ all_rank s

-- the job goes on, and the tables lack no more than before
pub record IsUnderWay (s t : Outline) (c : ℕ) : Type 0 where
  pub stage : Stage
  pub in_job : IsIn t c stage
  pub same : IsSameCommand s t c
  pub lack : lack_at t c ≤ lack_at s c

-- the command was answered, or the processor left its process
pub record IsPast (s t : Outline) (c : ℕ) : Type 0 where
  pub owner : t.owner ≡ None
  pub gone : is_at (runner_at t.runners c) (runner_at s.runners c).since ≡ false
  pub all : all_rank t < all_rank s

-- the job brought what the tables lacked, and gave the supervisor up
pub record IsMended (s t : Outline) (c : ℕ) : Type 0 where
  pub owner : t.owner ≡ None
  pub same : IsSameCommand s t c
  pub now : lack_at t c ≡ 0
  pub before : (lack_at s c ≡ 1) ⊎ IsReference (want_at s c)

abbrev pub Goes : Outline → Outline → ℕ → Type 0
Goes s t c = IsUnderWay s t c ⊎ (IsPast s t c ⊎ IsMended s t c)

-- a turn of the loop over a job; and the whole loop
pub record JobFell (s t : Outline) (c : ℕ) : Type 0 where
  pub rank : job_rank t < job_rank s
  pub goes : Goes s t c

abbrev pub JobDone : Outline → Outline → ℕ → Type 0
JobDone s t c = IsPast s t c ⊎ IsMended s t c

-- the owner waits for a clear, or for a page that is being read into a frame
pub record AwaitsClear (s : Outline) (c d : ℕ) : Type 0 where
  pub work : Work
  pub waiting : IsIn s c (Waiting work)
  pub online : (runner_at s.runners d).online ≡ true
  pub due : (runner_at s.runners d).due ≡ true

pub record AwaitsTransfer (s : Outline) (c f : ℕ) : Type 0 where
  pub uid : ℕ
  pub page : ℕ
  pub look : IsIn s c Look
  pub started : frame_in s.frames f ≡ frame.Started uid page

-- a processor reads a page into a frame
pub record IsReader (s : Outline) (f d : ℕ) : Type 0 where
  pub uid : ℕ
  pub page : ℕ
  pub within : d < length s.runners
  pub reading : (runner_at s.runners d).reading ≡ Some (record { frame = f; uid = uid; page = page })

-- what a step of the owner brings, by how it ended
abbrev pub OwnerStep : Turn → Outline → Outline → ℕ → Type 0
OwnerStep Moved s t c = JobFell s t c
OwnerStep (WaitsFor (ForClear d)) s t c = (t ≡ s) × AwaitsClear s c d
OwnerStep (WaitsFor (ForTransfer f)) s t c = (t ≡ s) × AwaitsTransfer s c f
OwnerStep (WaitsFor (ForOwner d)) s t c = ⊥
OwnerStep (WaitsFor (WhileIdle n)) s t c = ⊥
OwnerStep Ended s t c = ⊥

-- ---- a command

-- processor c is still at the same command, and nearer to its end
pub record IsNearer (s t : Outline) (c : ℕ) : Type 0 where
  pub owner : t.owner ≡ None
  pub same : IsSameCommand s t c
  pub rank : command_rank t c < command_rank s c

abbrev pub CommandDone : Outline → Outline → ℕ → Type 0
CommandDone s t c = IsPast s t c ⊎ IsNearer s t c

-- processor c took the supervisor, since the tables lack something or the command is no reference
pub record HasTaken (s t : Outline) (c : ℕ) : Type 0 where
  pub now : t ≡ at_stage s c Look
  pub why : (lack_at s c ≡ 1) ⊎ (IsReference (want_at s c) → ⊥)

-- what a step of a processor that has a process brings while nobody owns the supervisor
abbrev pub CommandStep : Turn → Outline → Outline → ℕ → Type 0
CommandStep Moved s t c = HasTaken s t c ⊎ CommandDone s t c
CommandStep (WaitsFor why) s t c = ⊥
CommandStep Ended s t c = ⊥

-- the measure of the loop over a command; it is 0 once that is past
abbrev pub command_gauge : Outline → ℕ → ℕ → ℕ
command_gauge s c since = if is_at (runner_at s.runners c) since then command_rank s c + 1 else 0

-- ---- all commands

pub record RoundDone (s t : Outline) : Type 0 where
  pub owner : t.owner ≡ None
  pub all : all_rank t < all_rank s
