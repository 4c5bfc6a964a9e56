-- The lines of a day's users, as they are written. (own)
use Rattle.std.specs.Prelude.{ℕ, zero, suc, ◌+◌, List, [], ◌++◌, codes}
use Rattle.script.specs.Scripts.{commands_text}
use Rattle.script.specs.declared.commands.Command.{Command}
use Rattle.make_work.specs.Day.{numbered, reference_count}
use Rattle.make_work.specs.References.{references, state_at}

-- the lines of references, which name no volume
abbrev pub lines_of : List Command → List ℕ
lines_of commands = commands_text [] commands

-- the first four lines of user j
abbrev pub opening_text : ℕ → List ℕ
opening_text j =
    numbered (codes "process User") j ++ (numbered (codes "\ninitiate >counter\ninitiate >a>shared\ninitiate >b>own") j
    ++ codes "\n")

-- the lines of user j
unfoldable pub user_text : ℕ → ℕ → List ℕ
user_text j x = opening_text j ++ (lines_of (references reference_count x) ++ codes "end\n")

-- the lines of so many users from user j on
abbrev pub users_text : ℕ → ℕ → ℕ → List ℕ
users_text j zero x = []
users_text j (suc count) x = user_text j x ++ users_text (j + 1) count (state_at reference_count x)
