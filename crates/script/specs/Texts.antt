-- The canonical text of a command (own).
use Rattle.std.specs.Prelude.{ℕ, Bool, true, false, List, [], ◌++◌, Option, Some, None, codes, slice_get}
use Rattle.std.specs.Fmt.{decimal}
use Rattle.std.specs.Int.{is_negative}
use Rattle.std.specs.Int.RustNames.{unsigned_abs}
use Rattle.mword.specs.Octal.{octal_digits}
use Rattle.mnames.specs.Names.{path_text}
use Rattle.mnames.specs.Principals.{row_text}
use Rattle.mnames.specs.declared.modes.Mode.{Mode}
use Rattle.mnames.specs.declared.modes.Mode.TheVariants as mode
use Rattle.script.specs.declared.commands.Command.{Command}
use Rattle.script.specs.declared.commands.Command.TheVariants as command
use Rattle.script.specs.declared.plan.VolumeLine.{VolumeLine}

-- the name of a volume, which every command that names one has
abbrev pub name_or_none : Option VolumeLine → List ℕ
name_or_none None = codes ""
name_or_none (Some v) = v.name

abbrev pub volume_name : List VolumeLine → ℕ → List ℕ
volume_name volumes v = name_or_none (slice_get volumes v)

-- what a row of access allows
unfoldable pub mode_text : Mode → List ℕ
mode_text mode.Null = codes "n"
mode_text mode.Read = codes "r"
mode_text mode.Write = codes "w"
mode_text mode.Both = codes "rw"

-- the sign of a quota that is moved: down to the directory, or back from it
unfoldable pub sign_text : Bool → List ℕ
sign_text true = codes "-"
sign_text false = codes "+"

abbrev pub place_and_word_text : ℕ → ℕ → ℕ → List ℕ
place_and_word_text number offset word = codes " "
    ++ (decimal number ++ (codes " " ++ (decimal offset ++ (codes " " ++ octal_digits 12 word))))

abbrev pub path_and_number_text : List (List ℕ) → ℕ → List ℕ
path_and_number_text path number = codes " " ++ (path_text path ++ (codes " " ++ decimal number))

-- the word of a command
unfoldable pub word_text : Command → List ℕ
word_text (command.MkDir path volume) = codes "mkdir"
word_text (command.MkSeg path pages volume) = codes "mkseg"
word_text (command.Initiate path) = codes "initiate"
word_text (command.Terminate number) = codes "terminate"
word_text (command.Read number offset) = codes "read"
word_text (command.Write number offset word) = codes "write"
word_text (command.Add number offset word) = codes "add"
word_text (command.Await number offset word tries) = codes "await"
word_text (command.Acl path row mode) = codes "acl"
word_text (command.Length path pages) = codes "length"
word_text (command.Truncate path words) = codes "truncate"
word_text (command.Delete path) = codes "delete"
word_text (command.Move path amount) = codes "move"
word_text (command.Status path) = codes "status"
word_text command.End = codes "end"

-- the fields of a command that names a segment by its number, each after a space; of any other command none
unfoldable pub reference_text : Command → List ℕ
reference_text (command.Terminate number) = codes " " ++ decimal number
reference_text (command.Read number offset) = codes " " ++ (decimal number ++ (codes " " ++ decimal offset))
reference_text (command.Write number offset word) = place_and_word_text number offset word
reference_text (command.Add number offset word) = place_and_word_text number offset word
reference_text (command.Await number offset word tries) = codes " "
    ++ (decimal number ++ (codes " " ++ (decimal offset
    ++ (codes " " ++ (octal_digits 12 word ++ (codes " " ++ decimal tries))))))
reference_text _ = []

-- those of a command that names a path but no volume too
unfoldable pub path_fields_text : Command → List ℕ
path_fields_text (command.Initiate path) = codes " " ++ path_text path
path_fields_text (command.Acl path row mode) = codes " "
    ++ (path_text path ++ (codes " " ++ (row_text row ++ (codes " " ++ mode_text mode))))
path_fields_text (command.Length path pages) = path_and_number_text path pages
path_fields_text (command.Truncate path words) = path_and_number_text path words
path_fields_text (command.Delete path) = codes " " ++ path_text path
path_fields_text (command.Move path amount) = codes " "
    ++ (path_text path ++ (codes " " ++ (sign_text (is_negative amount) ++ decimal (unsigned_abs amount))))
path_fields_text (command.Status path) = codes " " ++ path_text path
path_fields_text c = reference_text c

-- those of any command
unfoldable pub arguments_text : List VolumeLine → Command → List ℕ
arguments_text volumes (command.MkDir path volume) = codes " "
    ++ (path_text path ++ (codes " " ++ volume_name volumes volume))
arguments_text volumes (command.MkSeg path pages volume) = codes " "
    ++ (path_text path ++ (codes " " ++ (decimal pages ++ (codes " " ++ volume_name volumes volume))))
arguments_text volumes c = path_fields_text c

unfoldable pub command_text : List VolumeLine → Command → List ℕ
command_text volumes c = word_text c ++ arguments_text volumes c
