-- Why a line is no entry's text (own): what comes first, the fields being read from left to right.
use Rattle.std.specs.Prelude.{ℕ, ◌+◌, Bool, false, not, ◌==◌, if◌then◌else◌, List, [], ◌∷◌, ◌++◌, length, Option, Some, None, codes}
use Rattle.std.specs.Fmt.{decimal}
use Rattle.script.specs.Fields.{is_printable}
use Rattle.line_reasons.specs.declared.grammar.FixedWord.{FixedWord}
use Rattle.line_reasons.specs.declared.grammar.FixedWord.TheVariants as word
use Rattle.line_reasons.specs.declared.grammar.Due.{Due}
use Rattle.line_reasons.specs.declared.grammar.Due.TheVariants as due
use Rattle.line_reasons.specs.declared.entry_reasons.EntryReason.{EntryReason}
use Rattle.line_reasons.specs.declared.entry_reasons.EntryReason.TheVariants as reason
use Rattle.line_reasons.specs.Grammar.{pieces, is_fit, due_after}

-- ---- texts

unfoldable pub fixed_text : FixedWord → List ℕ
fixed_text word.Length = codes "length"
fixed_text word.Stored = codes "stored"
fixed_text word.Quota = codes "quota"
fixed_text word.Used = codes "used"

unfoldable pub entry_reason_text : EntryReason → List ℕ
entry_reason_text reason.OutsideByte = codes "a byte of the line is outside 0x20 to 0x7E"
entry_reason_text reason.NoByte = codes "the line is empty"
entry_reason_text (reason.Missing n) = codes "field " ++ (decimal n ++ codes " is missing")
entry_reason_text (reason.EmptyField n) = codes "field " ++ (decimal n ++ codes " is empty")
entry_reason_text reason.FirstWord = codes "field 1 isn't the first word of an entry"
entry_reason_text (reason.Number n) =
    codes "field " ++ (decimal n ++ codes " isn't a number from 0 to 4294967295 without leading zeros")
entry_reason_text reason.Command =
    codes "field 2 isn't a process and a command, two such numbers with a point between"
entry_reason_text reason.Frame = codes "field 4 is neither a frame's number nor -"
entry_reason_text reason.ReplyWord = codes "field 5 isn't the first word of a reply"
entry_reason_text reason.OctalWord = codes "field 6 isn't a word of 12 octal digits"
entry_reason_text (reason.OtherWord n w) = codes "field " ++ (decimal n ++ (codes " should read " ++ fixed_text w))
entry_reason_text reason.Process = codes "field 2 is neither a process's number nor -"
entry_reason_text (reason.PageOrSeg n) = codes "field " ++ (decimal n ++ codes " is neither page nor seg")
entry_reason_text reason.AllPageOrSeg = codes "field 3 is none of all, page and seg"
entry_reason_text (reason.TooMany n) = codes "field " ++ (decimal n ++ codes " is one too many")

-- ---- which it is

-- no field is due
unfoldable pub is_end : Due → Bool
is_end (due.Numbers n) = n == 0
is_end _ = false

-- why field n isn't what is due
unfoldable pub unfit : ℕ → Due → EntryReason
unfit n due.First = reason.FirstWord
unfit n due.Command = reason.Command
unfit n due.Frame = reason.Frame
unfit n due.Reply = reason.ReplyWord
unfit n due.Word = reason.OctalWord
unfit n (due.Two a b) = reason.OtherWord n a
unfit n (due.One a) = reason.OtherWord n a
unfit n due.Process = reason.Process
unfit n due.Taken = reason.PageOrSeg n
unfit n due.Filled = reason.PageOrSeg n
unfit n due.Dropped = reason.AllPageOrSeg
unfit n _ = reason.Number n

-- what is wrong with field n
unfoldable pub fault_at : ℕ → Due → List ℕ → Option EntryReason
fault_at n d f =
    if length f == 0 then Some (reason.EmptyField n)
    else if is_end d then Some (reason.TooMany n)
    else if is_fit d f then None
    else Some (unfit n d)

-- what is wrong where the line ends before field n
unfoldable pub missing : ℕ → Due → Option EntryReason
missing n d = if is_end d then None else Some (reason.Missing n)

abbrev pub or_later : Option EntryReason → Option EntryReason → Option EntryReason
or_later None later = later
or_later (Some r) later = Some r

-- the first fault of the fields from number n on
unfoldable pub reason_from : ℕ → Due → List (List ℕ) → Option EntryReason
reason_from n d [] = missing n d
reason_from n d (f ∷ fs) = or_later (fault_at n d f) (reason_from (n + 1) (due_after d f) fs)

unfoldable pub last_fault : ℕ → Due → List ℕ → Option EntryReason
last_fault n d f = or_later (fault_at n d f) (missing (n + 1) (due_after d f))

-- why a line is no entry's text: by its bytes, and then by its fields
unfoldable pub reason_of : List ℕ → Option EntryReason
reason_of line =
    if not (is_printable line) then Some reason.OutsideByte
    else if length line == 0 then Some reason.NoByte
    else reason_from 1 due.First (pieces line)
