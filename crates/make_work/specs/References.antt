-- The references of a day's users, drawn from a state. (own)
use Rattle.std.specs.Prelude.{ℕ, zero, suc, ◌+◌, Bool, false, nat_lt, if◌then◌else◌, List, [], ◌∷◌, ◌++◌}
use Rattle.draws.specs.Draws.{drawn, next_state}
use Rattle.script.specs.declared.commands.Command.{Command}
use Rattle.script.specs.declared.commands.Command.TheVariants as command

-- the second and the third state after one
abbrev pub second : ℕ → ℕ
second x = next_state (next_state x)

abbrev pub third : ℕ → ℕ
third x = next_state (second x)

-- which of eight kinds a reference is, by its first draw
abbrev pub kind_of : ℕ → ℕ
kind_of x = drawn 8 (next_state x)

-- The reference that is drawn from a state. Number 0 is the counter, 1 the shared segment of 16 pages, 2 the user's own
-- one of 64 pages.
unfoldable pub reference_at : ℕ → Command
reference_at x =
    if nat_lt (kind_of x) 2 then command.Add 0 0 (1 + drawn 7 (second x))
    else if nat_lt (kind_of x) 4 then command.Read 1 (drawn 16384 (second x))
    else if nat_lt (kind_of x) 5 then command.Write 1 (drawn 16384 (second x)) (1 + drawn 511 (third x))
    else if nat_lt (kind_of x) 7 then command.Write 2 (drawn 65536 (second x)) (drawn 8 (third x))
    else command.Read 2 (drawn 65536 (second x))

-- a write takes a draw more, for its word
abbrev pub is_write : ℕ → Bool
is_write kind = if nat_lt kind 4 then false else nat_lt kind 7

-- the state after a reference was drawn
unfoldable pub state_after : ℕ → ℕ
state_after x = if is_write (kind_of x) then third x else second x

-- the state after so many references
unfoldable pub state_at : ℕ → ℕ → ℕ
state_at zero x = x
state_at (suc n) x = state_after (state_at n x)

-- so many references
unfoldable pub references : ℕ → ℕ → List Command
references zero x = []
references (suc n) x = references n x ++ reference_at (state_at n x) ∷ []
