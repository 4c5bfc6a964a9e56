-- What each line adds to the draft of a script, and why it is refused (own). A line is its word and the fields after
-- it.
use Rattle.std.specs.Prelude.{ℕ, ◌+◌, Bool, true, not, ◌&&◌, ◌||◌, ◌==◌, nat_le, nat_lt, if◌then◌else◌, List, [], ◌∷◌, ◌++◌, length, sum_by, Result, Ok, Err, codes}
use Rattle.std.specs.List.{list_any}
use Rattle.std.specs.Str.{bytes_eq}
use Rattle.script.specs.CommandLists.{ListPlan, longer}
use Rattle.script.specs.Commands.{command_of}
use Rattle.script.specs.Drafts.{DraftPlan, has_volume, initializer_who, is_inside, reach}
use Rattle.script.specs.Forms.{is_before, is_end, is_from, records_of, weight}
use Rattle.script.specs.Lines.{◌>>=◌, only_if, no_fields, one_field, two_fields, three_fields, six_fields, number_in, who_in, print_in, is_write_in, volume_in, new_name_in, call_in}
use Rattle.script.specs.declared.commands.Command.{Command}
use Rattle.script.specs.declared.drafts.Stage.{Stage}
use Rattle.script.specs.declared.drafts.Stage.TheVariants as stage
use Rattle.script.specs.declared.plan.Fail.{Fail}
use Rattle.script.specs.declared.plan.TheConstants.{MOST_PROCESSORS}
use Rattle.script.specs.declared.plan.VolumeLine.{VolumeLine}
use Rattle.script.specs.declared.refusals.Cause.{Cause}
use Rattle.script.specs.declared.refusals.Cause.TheVariants as cause

-- places in the pools, together at most 1024
unfoldable pub pools_in : List ℕ → List ℕ → List ℕ → List ℕ → Result (List ℕ) Cause
pools_in first second third last = do
  four ← number_in 12 1024 first
  sixteen ← number_in 1 1024 second
  sixty_four ← number_in 1 1024 third
  most ← number_in 1 1024 last
  only_if cause.Many (nat_le (four + sixteen + sixty_four + most) 1024) (four ∷ sixteen ∷ sixty_four ∷ most ∷ [])

-- `machine P F N4 N16 N64 N256`: processors, frames, and places in the pools
abbrev pub machine_line : DraftPlan → List (List ℕ) → Result DraftPlan Cause
machine_line d fields = do
  f ← six_fields fields
  processors ← number_in 1 MOST_PROCESSORS f.0
  frames ← number_in 4 1024 f.1
  pools ← pools_in f.2 f.3 f.4 f.5
  Ok (record d {
    stage = stage.Quota;
    plan = record d.plan { processors = processors; frames = frames; pools = pools };
  })

-- `quota Q`
abbrev pub quota_line : DraftPlan → List (List ℕ) → Result DraftPlan Cause
quota_line d fields = do
  f ← one_field fields
  quota ← number_in 0 16384 f
  Ok (record d { stage = stage.FirstVolume; plan = record d.plan { quota = quota } })

-- a fifth volume, or records that together pass 16384
abbrev pub is_volume_too_many : DraftPlan → ℕ → Bool
is_volume_too_many d records = nat_le 4 (length d.plan.volumes)
    || nat_lt 16384 (sum_by records_of d.plan.volumes + records)

-- `NAME RECORDS ENTRIES`, of a volume whose name wasn't given before
unfoldable pub new_volume_in : List VolumeLine → List (List ℕ) → Result VolumeLine Cause
new_volume_in volumes fields = do
  f ← three_fields fields
  name ← new_name_in volumes f.0
  records ← number_in 1 16384 f.1
  entries ← number_in 1 4097 f.2
  Ok (record { name = name; records = records; entries = entries })

-- `volume NAME RECORDS ENTRIES`
abbrev pub volume_line : DraftPlan → List (List ℕ) → Result DraftPlan Cause
volume_line d fields = do
  v ← new_volume_in d.plan.volumes fields
  if is_volume_too_many d v.records then Err cause.Many
      else Ok (record d { stage = stage.Volumes; plan = record d.plan { volumes = d.plan.volumes ++ v ∷ [] } })

-- `print MODE`
abbrev pub print_line : DraftPlan → List (List ℕ) → Result DraftPlan Cause
print_line d fields = do
  f ← one_field fields
  mode ← print_in f
  Ok (record d { stage = stage.Bulks; plan = record d.plan { print = mode } })

-- `bulk NAME PLACES`, at most once for a volume
abbrev pub bulk_line : DraftPlan → List (List ℕ) → Result DraftPlan Cause
bulk_line d fields = do
  f ← two_fields fields
  volume ← volume_in d.plan.volumes f.0
  _ ← only_if cause.Twice (not (list_any (is_before volume) d.plan.bulks)) volume
  places ← number_in 1 1024 f.1
  Ok (record d {
    stage = stage.Bulks;
    plan = record d.plan { bulks = d.plan.bulks ++ record { volume = volume; places = places } ∷ [] };
  })

-- `NAME read N` or `NAME write N`, or the same with `+` after it
unfoldable pub fail_in : List VolumeLine → List (List ℕ) → Result Fail Cause
fail_in volumes fields = do
  f ← three_fields fields
  volume ← volume_in volumes f.0
  write ← is_write_in f.1
  call ← call_in f.2
  Ok (record { volume = volume; write = write; number = call.0; onward = call.1 })

-- `fail` and such a call; at most 100
abbrev pub fail_line : DraftPlan → List (List ℕ) → Result DraftPlan Cause
fail_line d fields = do
  f ← fail_in d.plan.volumes fields
  only_if cause.Many (nat_lt (length d.plan.fails) 100)
      (record d { stage = stage.Fails; plan = record d.plan { fails = d.plan.fails ++ f ∷ [] } })

-- `initializer`: its commands stand next
abbrev pub initializer_line : DraftPlan → List (List ℕ) → Result DraftPlan Cause
initializer_line d fields = do
  _ ← no_fields fields
  Ok (record d { stage = stage.Commands; plan = record d.plan { initializer = true }; who = initializer_who })

-- `process WHO`: its commands stand next; at most 32 processes
abbrev pub process_line : DraftPlan → List (List ℕ) → Result DraftPlan Cause
process_line d fields = do
  f ← one_field fields
  who ← who_in f
  only_if cause.Many (nat_lt (length d.plan.processes) 32) (record d { stage = stage.Commands; who = who })

-- a command that came next in the list; at the end the process is whole
abbrev pub with_command : DraftPlan → ListPlan → Command → DraftPlan
with_command d l c = if is_end c then record d {
  stage = stage.Processes;
  plan = record d.plan { processes = d.plan.processes ++ record { who = d.who; commands = l.commands } ∷ [] };
  list = record { commands = []; used = l.used };
}
    else record d { list = l }

-- the command that was read comes next; at most 100,000 in all
abbrev pub added : DraftPlan → Result Command Cause → Result DraftPlan Cause
added d (Ok c) = only_if cause.Many (nat_le (d.list.used + weight c) 100000) (with_command d (longer d.list c) c)
added d (Err e) = Err e

-- a command of a process
unfoldable pub command_line : DraftPlan → List ℕ → List (List ℕ) → Result DraftPlan Cause
command_line d word fields = added d (command_of d.plan.volumes word fields)

-- a call that fails, or the first line of a process, by where it may stand
unfoldable pub later_at : Stage → DraftPlan → List ℕ → List (List ℕ) → Result DraftPlan Cause
later_at s d word fields =
    if is_from 3 5 (reach s) && bytes_eq word (codes "fail") then fail_line d fields
    else if is_from 3 5 (reach s) && bytes_eq word (codes "initializer") then initializer_line d fields
    else if has_volume s && bytes_eq word (codes "process") then process_line d fields
    else Err cause.Order

-- a line that isn't skipped, by what may stand there
unfoldable pub line_at : Stage → DraftPlan → List ℕ → List (List ℕ) → Result DraftPlan Cause
line_at s d word fields =
    if is_inside s then command_line d word fields
    else if reach s == 0 && bytes_eq word (codes "machine") then machine_line d fields
    else if reach s == 1 && bytes_eq word (codes "quota") then quota_line d fields
    else if is_from 2 3 (reach s) && bytes_eq word (codes "volume") then volume_line d fields
    else if reach s == 3 && bytes_eq word (codes "print") then print_line d fields
    else if is_from 3 4 (reach s) && bytes_eq word (codes "bulk") then bulk_line d fields
    else later_at s d word fields
