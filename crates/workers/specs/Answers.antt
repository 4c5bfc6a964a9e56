-- How many steps in a row of a machine answered no command (own).
use Rattle.std.specs.Prelude.{ℕ, ◌+◌, if◌then◌else◌, drop, length, List}
use Rattle.std.specs.List.{list_any}
use Rattle.book.specs.Books.{is_answer}
use Rattle.book.specs.declared.entries.Entry.{Entry}

-- so many at the most
abbrev pub most_unanswered : ℕ
most_unanswered = 1000000

-- the count after a step, by the book before it and after it: none where the step answered a command, else one more
abbrev pub unanswered_after : List Entry → List Entry → ℕ → ℕ
unanswered_after old new count = if list_any is_answer (drop (length old) new) then 0 else count + 1
