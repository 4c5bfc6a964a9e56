-- The reference that a command makes to a word of a segment, what it asks for, and what it does to the word
-- (Bensoussan, Clingen and Daley 1972).
use Rattle.std.specs.Prelude.{ℕ, ◌+◌, ◌%◌, ◌^◌, Bool, true, false, ◌&&◌, Option, Some, None}
use Rattle.mnames.specs.declared.modes.Mode.{Mode}
use Rattle.mnames.specs.declared.modes.Mode.TheVariants as mode
use Rattle.script.specs.declared.commands.Command.{Command}
use Rattle.script.specs.declared.commands.Command.TheVariants as command
use Rattle.script.specs.declared.commands.RefKind.{RefKind}
use Rattle.script.specs.declared.commands.RefKind.TheVariants as kind
use Rattle.script.specs.declared.commands.Reference.{Reference}

-- none for a tree command; a try of an `await` is a read
abbrev pub reference_of : Command → Option Reference
reference_of (command.Read number offset) = Some (record { number = number; offset = offset; kind = kind.Read })
reference_of (command.Write number offset word) = Some
    (record { number = number; offset = offset; kind = kind.Write word })
reference_of (command.Add number offset word) = Some (record { number = number; offset = offset; kind = kind.Add word })
reference_of (command.Await number offset word tries) =
    Some (record { number = number; offset = offset; kind = kind.Read })
reference_of _ = None

abbrev pub may_read : Mode → Bool
may_read mode.Null = false
may_read mode.Read = true
may_read mode.Write = false
may_read mode.Both = true

abbrev pub may_write : Mode → Bool
may_write mode.Null = false
may_write mode.Read = false
may_write mode.Write = true
may_write mode.Both = true

-- a read asks for the right to read, a write for that to write, an addition for both
abbrev pub permits : Mode → RefKind → Bool
permits m kind.Read = may_read m
permits m (kind.Write w) = may_write m
permits m (kind.Add w) = may_read m && may_write m

-- the word that stands there afterwards
abbrev pub new_word : ℕ → RefKind → ℕ
new_word old kind.Read = old
new_word old (kind.Write w) = w
new_word old (kind.Add w) = (old + w) % 2 ^ 36

-- whether the word is written
abbrev pub alters : RefKind → Bool
alters kind.Read = false
alters (kind.Write w) = true
alters (kind.Add w) = true
