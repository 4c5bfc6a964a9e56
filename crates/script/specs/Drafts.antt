-- What the lines of a script so far say (own).
use Rattle.std.specs.Prelude.{◌≡◌, ℕ, ◌+◌, ◌<◌, ◌≤◌, Bool, true, false, not, nat_le, ◌==◌, List, [], ◌∷◌, ◌++◌, length, sum_by, codes}
use Rattle.std.specs.List.{list_all}
use Rattle.mnames.specs.Principals.{default_project}
use Rattle.mnames.specs.declared.principals.Who.{Who}
use Rattle.script.specs.CommandLists.{ListPlan}
use Rattle.script.specs.Forms.{ArePools, BeginsWithInitializer, have_own_names, have_own_volumes, is_bulk, is_command, is_end, is_fail, is_process, is_volume, is_who, records_of, weight, weight_of}
use Rattle.script.specs.Parts.{plan_of}
use Rattle.script.specs.Plans.{Plan, ProcessPlan}
use Rattle.script.specs.declared.commands.Command.{Command}
use Rattle.script.specs.declared.drafts.Stage.{Stage}
use Rattle.script.specs.declared.drafts.Stage.TheVariants as stage
use Rattle.script.specs.declared.plan.Bulk.{Bulk}
use Rattle.script.specs.declared.plan.Fail.{Fail}
use Rattle.script.specs.declared.plan.Print.TheVariants as print
use Rattle.script.specs.declared.plan.Parts.{Parts}
use Rattle.script.specs.declared.plan.VolumeLine.{VolumeLine}
use Rattle.script.specs.declared.plan.TheConstants.{MOST_PROCESSORS}

-- what may stand next; the plan so far; for whom the process runs whose commands stand next, or stood last; and its
-- commands before its end
pub record DraftPlan : Type 0 where
  pub stage : Stage
  pub plan : Plan
  pub who : Who
  pub list : ListPlan

-- the draft of these parts
abbrev pub drafted : Stage → Parts → Who → ListPlan → DraftPlan
drafted stage parts who list = record { stage = stage; plan = plan_of parts; who = who; list = list }

-- for whom the initializer runs
abbrev pub initializer_who : Who
initializer_who = record { person = codes "Initializer"; project = default_project }

-- before the first line: numbers that a line replaces, and nothing else
abbrev pub blank : DraftPlan
blank = record {
  stage = stage.Machine;
  plan = record {
    processors = 1;
    frames = 4;
    pools = 12 ∷ 1 ∷ 1 ∷ 1 ∷ [];
    quota = 0;
    volumes = [];
    print = print.Replies;
    bulks = [];
    fails = [];
    initializer = false;
    processes = [];
  };
  who = initializer_who;
  list = record { commands = []; used = 0 };
}

-- how far the lines have come
abbrev pub reach : Stage → ℕ
reach stage.Machine = 0
reach stage.Quota = 1
reach stage.FirstVolume = 2
reach stage.Volumes = 3
reach stage.Bulks = 4
reach stage.Fails = 5
reach stage.Commands = 6
reach stage.Processes = 7

-- no volume must still come
abbrev pub has_volume : Stage → Bool
has_volume s = nat_le 3 (reach s)

-- a volume may still come, so nothing that names one came
abbrev pub is_early : Stage → Bool
is_early s = nat_le (reach s) 3

-- commands of a process stand next
abbrev pub is_inside : Stage → Bool
is_inside s = reach s == 6

-- no process began
abbrev pub is_head : Stage → Bool
is_head s = nat_le (reach s) 5

-- the volumes came, and no process began
pub record IsOpen (s : Stage) : Type 0 where
  pub head : is_head s ≡ true
  pub volume : has_volume s ≡ true

abbrev pub goes_on : Command → Bool
goes_on c = not (is_end c)

-- the processes and, where its commands stand next, the one that began
abbrev pub begun_at : Stage → List ProcessPlan → ProcessPlan → List ProcessPlan
begun_at stage.Commands done x = done ++ x ∷ []
begun_at _ done x = done

-- the process whose commands stand next, or stood last
abbrev pub begun : DraftPlan → ProcessPlan
begun d = record { who = d.who; commands = d.list.commands }

-- what the line of the machine and that of the quota give
pub record AreSizes (cores pages : ℕ) (places : List ℕ) (root : ℕ) : Type 0 where
  pub processors : (1 ≤ cores) × (cores ≤ MOST_PROCESSORS)
  pub frames : (4 ≤ pages) × (pages ≤ 1024)
  pub pools : ArePools places
  pub quota : root ≤ 16384

-- what the lines of volumes give
pub record AreVolumes (volumes : List VolumeLine) : Type 0 where
  pub few : length volumes ≤ 4
  pub each : list_all is_volume volumes ≡ true
  pub own : have_own_names volumes ≡ true
  pub records : sum_by records_of volumes ≤ 16384

-- what the lines of fast stores give, before so many volumes
pub record AreBulks (volumes : ℕ) (bulks : List Bulk) : Type 0 where
  pub each : list_all (is_bulk volumes) bulks ≡ true
  pub apart : have_own_volumes bulks ≡ true

-- what the lines of calls that fail give
pub record AreFails (volumes : ℕ) (fails : List Fail) : Type 0 where
  pub each : list_all (is_fail volumes) fails ≡ true
  pub few : length fails ≤ 100

-- what the lines before the first process give, beside the sizes
pub record AreDisks (vs : List VolumeLine) (bs : List Bulk) (fs : List Fail) : Type 0 where
  pub volumes : AreVolumes vs
  pub bulks : AreBulks (length vs) bs
  pub fails : AreFails (length vs) fs

-- the processes that are whole
pub record AreProcesses (volumes : ℕ) (processes : List ProcessPlan) : Type 0 where
  pub each : list_all (is_process volumes) processes ≡ true
  pub few : length processes ≤ 32

-- a process before its end
pub record IsBegun (volumes : ℕ) (x : ProcessPlan) : Type 0 where
  pub who : is_who x.who ≡ true
  pub each : list_all (is_command volumes) x.commands ≡ true
  pub going : list_all goes_on x.commands ≡ true

-- how many commands came in all
pub record AreCounted (processes : List ProcessPlan) (list : ListPlan) : Type 0 where
  pub weights : sum_by weight_of processes + sum_by weight list.commands ≤ list.used
  pub used : list.used ≤ 100000

-- the processes that are whole, the one that began, and how many commands these have
pub record AreRuns (volumes : ℕ) (xs : List ProcessPlan) (x : ProcessPlan) (list : ListPlan) : Type 0 where
  pub whole : AreProcesses volumes xs
  pub begun : IsBegun volumes x
  pub counts : AreCounted xs list

-- what a plan has at a stage, and a process that began
pub record IsAt (s : Stage) (p : Plan) (x : ProcessPlan) : Type 0 where
  pub some : has_volume s ≡ true → 1 ≤ length p.volumes
  pub early : is_early s ≡ true → (p.bulks ≡ []) × (p.fails ≡ []) × (x.commands ≡ [])
  pub head : is_head s ≡ true → p.processes ≡ []
  pub room : is_inside s ≡ true → length p.processes < 32
  pub first : p.initializer ≡ true → BeginsWithInitializer (begun_at s p.processes x)

-- what each draft keeps; it becomes what each script keeps
pub record IsDraft (d : DraftPlan) : Type 0 where
  pub sizes : AreSizes d.plan.processors d.plan.frames d.plan.pools d.plan.quota
  pub disks : AreDisks d.plan.volumes d.plan.bulks d.plan.fails
  pub runs : AreRuns (length d.plan.volumes) d.plan.processes (begun d) d.list
  pub stage : IsAt d.stage d.plan (begun d)
