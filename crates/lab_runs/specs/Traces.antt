-- The trace of a machine: each step, what it was answered, and which entries it appended (own).
use Rattle.std.specs.Prelude.{ℕ, ◌-◌, ◌++◌, List, [], ◌∷◌, codes, drop, take}
use Rattle.std.specs.Fmt.{decimal}
use Rattle.std.specs.List.{flat_map}
use Rattle.book.specs.Entries.{entry_text}
use Rattle.book.specs.declared.entries.Entry.{Entry}
use Rattle.flat_model.specs.Legal.{store_after}
use Rattle.listing.specs.Listings.{summary_of, summary_text}
use Rattle.machine.specs.declared.turn.Turn.{Turn}
use Rattle.machine.specs.declared.turn.Turn.TheVariants as turn
use Rattle.machine_tables.specs.declared.action.Why.{Why}
use Rattle.machine_tables.specs.declared.action.Why.TheVariants as why
use Rattle.script.specs.Plans.{Plan}
use Rattle.site_io.specs.declared.gate.Point.{Point}
use Rattle.site_io.specs.declared.gate.Point.TheVariants as point
use Rattle.lab_runs.specs.declared.steps.Step.{Step}

-- where a step that moved leads
unfoldable pub point_text : Point → List ℕ
point_text point.Online = codes "moved online"
point_text (point.Loaded k) = codes "moved loaded " ++ decimal k
point_text (point.Answered k) = codes "moved answered " ++ decimal k
point_text point.Signalled = codes "moved signalled"
point_text point.Other = codes "moved"

-- what a step waits for
unfoldable pub why_text : Why → List ℕ
why_text (why.ForOwner c) = codes "waits owner " ++ decimal c
why_text (why.ForClear c) = codes "waits clear " ++ decimal c
why_text (why.ForTransfer f) = codes "waits transfer " ++ decimal f
why_text (why.WhileIdle n) = codes "waits idle " ++ decimal n

-- what a step was answered
unfoldable pub answer_text : Turn → List ℕ
answer_text (turn.Moved p) = point_text p
answer_text (turn.Waits w) = why_text w
answer_text turn.Ended = codes "ended"
answer_text turn.Stopped = codes "stopped"

-- `step C -> ANSWER`
unfoldable pub step_line : Step → List ℕ
step_line s = codes "step " ++ (decimal s.processor ++ (codes " -> " ++ (answer_text s.answer ++ codes "\n")))

-- an entry, two spaces in
unfoldable pub entry_line : Entry → List ℕ
entry_line e = codes "  " ++ (entry_text e ++ codes "\n")

abbrev pub entry_lines : List Entry → List ℕ
entry_lines entries = flat_map entry_line entries

-- each step, and below it the entries that it appended, which stand in a row
abbrev pub steps_text : List Step → List Entry → List ℕ
steps_text [] entries = []
steps_text (s ∷ steps) entries =
    step_line s ++ (entry_lines (take s.entries entries) ++ steps_text steps (drop s.entries entries))

-- The entries of a book: those of the steps, then those by which the machine was finished, and then those of its
-- shutdown. After the steps the book had so many entries, and at the end of all processes so many.
unfoldable pub book_text : List Entry → List Step → ℕ → ℕ → List ℕ
book_text entries steps stepped finished =
    steps_text steps (take stepped entries)
    ++ (codes "finish\n" ++ (entry_lines (take (finished - stepped) (drop stepped entries))
    ++ (codes "shutdown\n" ++ entry_lines (drop (finished - stepped) (drop stepped entries)))))

-- the trace of a book, with its summary
unfoldable pub trace_text : Plan → List Entry → List Step → ℕ → ℕ → List ℕ
trace_text p entries steps stepped finished =
    book_text entries steps stepped finished ++ summary_text (summary_of p (store_after p entries))
