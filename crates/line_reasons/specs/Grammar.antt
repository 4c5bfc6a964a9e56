-- What the fields of an entry's line are to be, from left to right (own).
use Rattle.std.specs.Prelude.{ℕ, ◌-◌, Bool, ◌||◌, if◌then◌else◌, is_some, List, Option, Some, None, codes}
use Rattle.std.specs.List.{slice_split}
use Rattle.std.specs.Option.{option_map}
use Rattle.std.specs.Str.{bytes_eq}
use Rattle.book.specs.Reading.{bare_reply, is_space, number_of, word_of, dotted_of}
use Rattle.line_reasons.specs.declared.grammar.FixedWord.{FixedWord}
use Rattle.line_reasons.specs.declared.grammar.FixedWord.TheVariants as word
use Rattle.line_reasons.specs.declared.grammar.Due.{Due}
use Rattle.line_reasons.specs.declared.grammar.Due.TheVariants as due

-- the fields of a line between its single spaces, the empty ones among them
abbrev pub pieces : List ℕ → List (List ℕ)
pieces line = slice_split is_space line

-- how many numbers an entry of numbers alone has after its first word
unfoldable pub numbers_after : List ℕ → Option ℕ
numbers_after w =
    if bytes_eq w (codes "online") || (bytes_eq w (codes "leave") || (bytes_eq w (codes "activate")
    || (bytes_eq w (codes "deactivate") || (bytes_eq w (codes "lose") || bytes_eq w (codes "take"))))) then Some 1
    else if bytes_eq w (codes "load") || (bytes_eq w (codes "release") || bytes_eq w (codes "cut")) then Some 2
    else if bytes_eq w (codes "in") || (bytes_eq w (codes "start") || (bytes_eq w (codes "connect")
    || bytes_eq w (codes "moved"))) then Some 3
    else None

-- what follows the first word of an entry
unfoldable pub after_first : List ℕ → Option Due
after_first w =
    if bytes_eq w (codes "do") then Some due.Command
    else if bytes_eq w (codes "fill") then Some due.Filler
    else if bytes_eq w (codes "signal") || bytes_eq w (codes "clear") then Some due.Dropper
    else if bytes_eq w (codes "gone") || bytes_eq w (codes "back") then Some due.Taken
    else if bytes_eq w (codes "fault") then Some due.Process
    else option_map (λ n. due.Numbers n) (numbers_after w)

-- what follows the first word of a reply
unfoldable pub after_reply : List ℕ → Option Due
after_reply w =
    if bytes_eq w (codes "word") then Some due.Word
    else if bytes_eq w (codes "made") || (bytes_eq w (codes "known") || bytes_eq w (codes "over"))
    then Some (due.Numbers 1)
    else if bytes_eq w (codes "seg") then Some (due.Uid word.Length word.Stored)
    else if bytes_eq w (codes "dir") then Some (due.Uid word.Quota word.Used)
    else if is_some (bare_reply w) then Some (due.Numbers 0)
    else None

-- a field is this word
unfoldable pub reads : FixedWord → List ℕ → Bool
reads word.Length f = bytes_eq f (codes "length")
reads word.Stored f = bytes_eq f (codes "stored")
reads word.Quota f = bytes_eq f (codes "quota")
reads word.Used f = bytes_eq f (codes "used")

unfoldable pub is_page_or_seg : List ℕ → Bool
is_page_or_seg f = bytes_eq f (codes "page") || bytes_eq f (codes "seg")

-- a number, or `-` for none
unfoldable pub is_frame : List ℕ → Bool
is_frame f = bytes_eq f (codes "-") || is_some (number_of f)

-- a field is what is due
unfoldable pub is_fit : Due → List ℕ → Bool
is_fit due.First f = is_some (after_first f)
is_fit due.Command f = is_some (dotted_of f)
is_fit due.Frame f = is_frame f
is_fit due.Reply f = is_some (after_reply f)
is_fit due.Word f = is_some (word_of f)
is_fit (due.Two a b) f = reads a f
is_fit (due.One a) f = reads a f
is_fit due.Process f = is_frame f
is_fit due.Taken f = is_page_or_seg f
is_fit due.Filled f = is_page_or_seg f
is_fit due.Dropped f = bytes_eq f (codes "all") || is_page_or_seg f
is_fit _ f = is_some (number_of f)

unfoldable pub or_end : Option Due → Due
or_end None = due.Numbers 0
or_end (Some d) = d

-- what is due after a field that was due
unfoldable pub due_after : Due → List ℕ → Due
due_after due.First f = or_end (after_first f)
due_after (due.Numbers n) f = due.Numbers (n - 1)
due_after due.Command f = due.Processor
due_after due.Processor f = due.Frame
due_after due.Frame f = due.Reply
due_after due.Reply f = or_end (after_reply f)
due_after due.Word f = due.Numbers 0
due_after (due.Uid a b) f = due.Two a b
due_after (due.Two a b) f = due.Count b
due_after (due.Count a) f = due.One a
due_after (due.One a) f = due.Numbers 1
due_after due.Process f = due.Numbers 0
due_after due.Taken f = if bytes_eq f (codes "page") then due.Numbers 1 else due.Numbers 2
due_after due.Filler f = due.Filled
due_after due.Filled f = due.Numbers 1
due_after due.Dropper f = due.Dropped
due_after due.Dropped f = if bytes_eq f (codes "all") then due.Numbers 0 else due.Numbers 1
