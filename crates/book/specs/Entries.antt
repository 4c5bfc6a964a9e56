-- The text of an entry (own).
use Rattle.std.specs.Prelude.{ℕ, List, [], ◌++◌, Option, Some, None, codes}
use Rattle.std.specs.Fmt.{decimal}
use Rattle.assoc_mem.specs.declared.What.{What}
use Rattle.assoc_mem.specs.declared.What.TheVariants as what
use Rattle.book.specs.declared.entries.Entry.{Entry}
use Rattle.book.specs.declared.entries.Entry.TheVariants as entry
use Rattle.book.specs.declared.texts.Numbers.{Numbers}
use Rattle.book.specs.declared.texts.Numbers.TheVariants as numbers
use Rattle.book.specs.Replies.{reply_text}

-- a number, and `-` where there is none
unfoldable pub number_text : Option ℕ → List ℕ
number_text None = codes "-"
number_text (Some n) = decimal n

-- what is dropped: everything, the word of a frame, or all words of a segment
unfoldable pub what_text : What → List ℕ
what_text what.All = codes "all"
what_text (what.Page f) = codes "page " ++ decimal f
what_text (what.Seg u) = codes "seg " ++ decimal u

-- numbers with a space between them
abbrev pub two_text : ℕ → ℕ → List ℕ
two_text a b = decimal a ++ (codes " " ++ decimal b)

abbrev pub three_text : ℕ → ℕ → ℕ → List ℕ
three_text a b c = decimal a ++ (codes " " ++ two_text b c)

abbrev pub do_text : ℕ → ℕ → ℕ → Option ℕ → List ℕ → List ℕ
do_text k i c f reply = decimal k ++
    (codes "." ++ (decimal i ++ (codes " " ++ (decimal c ++ (codes " " ++ (number_text f ++ (codes " " ++ reply)))))))

-- numbers with a space between them
unfoldable pub numbers_text : Numbers → List ℕ
numbers_text numbers.Nothing = []
numbers_text (numbers.One a) = decimal a
numbers_text (numbers.Two a b) = two_text a b
numbers_text (numbers.Three a b c) = three_text a b c

-- an entry that has only numbers after its first words; of any other nothing
unfoldable pub counted_text : Entry → List ℕ
counted_text (entry.Release uid page) = codes "release " ++ two_text uid page
counted_text (entry.Online cpu) = codes "online " ++ decimal cpu
counted_text (entry.Load cpu process) = codes "load " ++ two_text cpu process
counted_text (entry.Leave cpu) = codes "leave " ++ decimal cpu
counted_text (entry.Activate uid) = codes "activate " ++ decimal uid
counted_text (entry.Deactivate uid) = codes "deactivate " ++ decimal uid
counted_text (entry.Start frame uid page) = codes "start " ++ three_text frame uid page
counted_text (entry.Lose frame) = codes "lose " ++ decimal frame
counted_text (entry.Here frame uid page) = codes "in " ++ three_text frame uid page
counted_text (entry.Connect process number uid) = codes "connect " ++ three_text process number uid
counted_text (entry.Moved process uid volume) = codes "moved " ++ three_text process uid volume
counted_text (entry.Take frame) = codes "take " ++ decimal frame
counted_text (entry.Cut process number) = codes "cut " ++ two_text process number
counted_text (entry.GonePage frame) = codes "gone page " ++ decimal frame
counted_text (entry.BackPage frame) = codes "back page " ++ decimal frame
counted_text (entry.GoneSeg process number) = codes "gone seg " ++ two_text process number
counted_text (entry.BackSeg process number) = codes "back seg " ++ two_text process number
counted_text _ = []

unfoldable pub entry_text : Entry → List ℕ
entry_text (entry.Do process place cpu frame r) = codes "do " ++ do_text process place cpu frame (reply_text r)
entry_text (entry.Fault process) = codes "fault " ++ number_text process
entry_text (entry.Signal cpu w) = codes "signal " ++ (decimal cpu ++ (codes " " ++ what_text w))
entry_text (entry.Clear cpu w) = codes "clear " ++ (decimal cpu ++ (codes " " ++ what_text w))
entry_text (entry.FillSeg cpu number) = codes "fill " ++ (decimal cpu ++ (codes " seg " ++ decimal number))
entry_text (entry.FillPage cpu frame) = codes "fill " ++ (decimal cpu ++ (codes " page " ++ decimal frame))
entry_text e = counted_text e
