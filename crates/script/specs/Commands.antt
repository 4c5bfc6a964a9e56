-- The commands of a script, and why a line is none (own). A line is its word and the fields after it.
use Rattle.std.specs.Prelude.{ℕ, if◌then◌else◌, List, Result, Ok, Err, codes}
use Rattle.std.specs.Str.{bytes_eq}
use Rattle.script.specs.Lines.{◌>>=◌, no_fields, one_field, two_fields, three_fields, four_fields, number_in, word_in, row_in, path_in, mode_in, volume_in, amount_in}
use Rattle.script.specs.declared.commands.Command.{Command}
use Rattle.script.specs.declared.commands.Command.TheVariants as command
use Rattle.script.specs.declared.plan.VolumeLine.{VolumeLine}
use Rattle.script.specs.declared.refusals.Cause.{Cause}
use Rattle.script.specs.declared.refusals.Cause.TheVariants as cause

-- a path alone
unfoldable pub path_alone : List (List ℕ) → Result (List (List ℕ)) Cause
path_alone fields = do
  f ← one_field fields
  path_in f

-- a path, and a number from low to high
unfoldable pub path_and_number : ℕ → ℕ → List (List ℕ) → Result (List (List ℕ) × ℕ) Cause
path_and_number low high fields = do
  f ← two_fields fields
  path ← path_in f.0
  number ← number_in low high f.1
  Ok (path, number)

-- the place of a word: the number of a segment, and an offset
unfoldable pub place_in : List ℕ → List ℕ → Result (ℕ × ℕ) Cause
place_in number offset = do
  n ← number_in 0 255 number
  o ← number_in 0 999999 offset
  Ok (n, o)

-- the place of a word, and a word
unfoldable pub place_and_word : List (List ℕ) → Result (ℕ × ℕ × ℕ) Cause
place_and_word fields = do
  f ← three_fields fields
  place ← place_in f.0 f.1
  word ← word_in f.2
  Ok (place.0, place.1, word)

-- `mkdir PATH VOLUME`
unfoldable pub mkdir_of : List VolumeLine → List (List ℕ) → Result Command Cause
mkdir_of volumes fields = do
  f ← two_fields fields
  path ← path_in f.0
  volume ← volume_in volumes f.1
  Ok (command.MkDir path volume)

-- `mkseg PATH PAGES VOLUME`
unfoldable pub mkseg_of : List VolumeLine → List (List ℕ) → Result Command Cause
mkseg_of volumes fields = do
  f ← three_fields fields
  path ← path_in f.0
  pages ← number_in 1 256 f.1
  volume ← volume_in volumes f.2
  Ok (command.MkSeg path pages volume)

-- `initiate PATH`
unfoldable pub initiate_of : List (List ℕ) → Result Command Cause
initiate_of fields = do
  path ← path_alone fields
  Ok (command.Initiate path)

-- `terminate N`
unfoldable pub terminate_of : List (List ℕ) → Result Command Cause
terminate_of fields = do
  f ← one_field fields
  number ← number_in 0 255 f
  Ok (command.Terminate number)

-- `read N OFF`
unfoldable pub read_of : List (List ℕ) → Result Command Cause
read_of fields = do
  f ← two_fields fields
  place ← place_in f.0 f.1
  Ok (command.Read place.0 place.1)

-- `write N OFF W`
unfoldable pub write_of : List (List ℕ) → Result Command Cause
write_of fields = do
  p ← place_and_word fields
  Ok (command.Write p.0 p.1 p.2)

-- `add N OFF W`
unfoldable pub add_of : List (List ℕ) → Result Command Cause
add_of fields = do
  p ← place_and_word fields
  Ok (command.Add p.0 p.1 p.2)

-- `await N OFF W TRIES`
unfoldable pub await_of : List (List ℕ) → Result Command Cause
await_of fields = do
  f ← four_fields fields
  place ← place_in f.0 f.1
  word ← word_in f.2
  tries ← number_in 1 100000 f.3
  Ok (command.Await place.0 place.1 word tries)

-- `acl PATH WHO MODE`
unfoldable pub acl_of : List (List ℕ) → Result Command Cause
acl_of fields = do
  f ← three_fields fields
  path ← path_in f.0
  row ← row_in f.1
  mode ← mode_in f.2
  Ok (command.Acl path row mode)

-- `length PATH PAGES`
unfoldable pub length_of : List (List ℕ) → Result Command Cause
length_of fields = do
  p ← path_and_number 1 256 fields
  Ok (command.Length p.0 p.1)

-- `truncate PATH WORDS`
unfoldable pub truncate_of : List (List ℕ) → Result Command Cause
truncate_of fields = do
  p ← path_and_number 0 262144 fields
  Ok (command.Truncate p.0 p.1)

-- `delete PATH`
unfoldable pub delete_of : List (List ℕ) → Result Command Cause
delete_of fields = do
  path ← path_alone fields
  Ok (command.Delete path)

-- `move PATH +N` or `move PATH -N`
unfoldable pub move_of : List (List ℕ) → Result Command Cause
move_of fields = do
  f ← two_fields fields
  path ← path_in f.0
  amount ← amount_in f.1
  Ok (command.Move path amount)

-- `status PATH`
unfoldable pub status_of : List (List ℕ) → Result Command Cause
status_of fields = do
  path ← path_alone fields
  Ok (command.Status path)

-- `end`
unfoldable pub end_of : List (List ℕ) → Result Command Cause
end_of fields = do
  _ ← no_fields fields
  Ok command.End

-- a command that changes or asks for what a segment or a directory is like, or the end
unfoldable pub other_command_of : List ℕ → List (List ℕ) → Result Command Cause
other_command_of word fields = if bytes_eq word (codes "acl") then acl_of fields
    else if bytes_eq word (codes "length") then length_of fields
    else if bytes_eq word (codes "truncate") then truncate_of fields
    else if bytes_eq word (codes "move") then move_of fields
    else if bytes_eq word (codes "status") then status_of fields else if bytes_eq word (codes "end") then end_of fields
    else Err cause.Order

-- a reference to a word, or another command
unfoldable pub reference_or : List ℕ → List (List ℕ) → Result Command Cause
reference_or word fields = if bytes_eq word (codes "read") then read_of fields
    else if bytes_eq word (codes "write") then write_of fields else if bytes_eq word (codes "add") then add_of fields
    else if bytes_eq word (codes "await") then await_of fields else other_command_of word fields

-- any command; these first make and delete segments and directories, or make segments known
unfoldable pub command_of : List VolumeLine → List ℕ → List (List ℕ) → Result Command Cause
command_of volumes word fields = if bytes_eq word (codes "mkdir") then mkdir_of volumes fields
    else if bytes_eq word (codes "mkseg") then mkseg_of volumes fields
    else if bytes_eq word (codes "initiate") then initiate_of fields
    else if bytes_eq word (codes "terminate") then terminate_of fields
    else if bytes_eq word (codes "delete") then delete_of fields else reference_or word fields
