-- A day's use: an initializer that makes directories, quota and segments, and four users who refer to them. (own)
use Rattle.std.specs.Prelude.{ℕ, zero, suc, ◌+◌, true, List, [], ◌∷◌, ◌++◌, None, pos, codes}
use Rattle.mnames.specs.Principals.{default_project}
use Rattle.mnames.specs.declared.principals.Who.{Who}
use Rattle.mnames.specs.declared.modes.Mode.TheVariants as mode
use Rattle.script.specs.Drafts.{initializer_who}
use Rattle.script.specs.Plans.{Plan, ProcessPlan}
use Rattle.script.specs.Scripts.{script_text}
use Rattle.script.specs.declared.commands.Command.{Command}
use Rattle.script.specs.declared.commands.Command.TheVariants as command
use Rattle.script.specs.declared.plan.Print.TheVariants as print
use Rattle.make_work.specs.References.{references, state_at}

-- how many references each user makes
abbrev pub reference_count : ℕ
reference_count = 1996

-- a text with a digit after it
abbrev pub numbered : List ℕ → ℕ → List ℕ
numbered text j = text ++ (48 + j) ∷ []

-- the segment that all share, the one that all count in, and a user's own
abbrev pub shared : List (List ℕ)
shared = codes "a" ∷ codes "shared" ∷ []

abbrev pub counter : List (List ℕ)
counter = codes "counter" ∷ []

abbrev pub own : ℕ → List (List ℕ)
own j = codes "b" ∷ numbered (codes "own") j ∷ []

-- anyone may read and write
abbrev pub for_all : List (List ℕ) → Command
for_all path = command.Acl path (record { person = None; project = None }) mode.Both

-- the commands of the initializer
abbrev pub preparation : List Command
preparation =
    command.MkDir (codes "a" ∷ []) 0 ∷ command.Move (codes "a" ∷ []) (pos 1000)
    ∷ command.MkDir (codes "b" ∷ []) 1 ∷ command.Move (codes "b" ∷ []) (pos 1000)
    ∷ command.MkSeg shared 16 0 ∷ for_all shared
    ∷ command.MkSeg counter 1 1 ∷ for_all counter
    ∷ command.MkSeg (own 1) 64 1 ∷ for_all (own 1)
    ∷ command.MkSeg (own 2) 64 1 ∷ for_all (own 2)
    ∷ command.MkSeg (own 3) 64 1 ∷ for_all (own 3)
    ∷ command.MkSeg (own 4) 64 1 ∷ for_all (own 4)
    ∷ command.End ∷ []

abbrev pub initializer : ProcessPlan
initializer = record { who = initializer_who; commands = preparation }

abbrev pub user_name : ℕ → Who
user_name j = record { person = numbered (codes "User") j; project = default_project }

-- user j, whose references are drawn from a state
unfoldable pub user : ℕ → ℕ → ProcessPlan
user j x = record {
  who = user_name j;
  commands = command.Initiate counter ∷ command.Initiate shared ∷ command.Initiate (own j)
      ∷ (references reference_count x ++ command.End ∷ []);
}

-- so many users from user j on, each of whom goes on drawing where the one before ended
abbrev pub users : ℕ → ℕ → ℕ → List ProcessPlan
users j zero x = []
users j (suc count) x = user j x ∷ users (j + 1) count (state_at reference_count x)

-- the day of a seed
unfoldable pub day_of : ℕ → Plan
day_of n = record {
  processors = 4;
  frames = 64;
  pools = 12 ∷ 1 ∷ 3 ∷ 1 ∷ [];
  quota = 4000;
  volumes = record { name = codes "alpha"; records = 4096; entries = 64 }
      ∷ record { name = codes "beta"; records = 4096; entries = 64 } ∷ [];
  print = print.Short;
  bulks = [];
  fails = [];
  initializer = true;
  processes = initializer ∷ users 1 4 n;
}

-- the script of a day
unfoldable pub made : ℕ → List ℕ
made n = script_text (day_of n)
