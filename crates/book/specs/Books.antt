-- A book: the script of a run, its entries in order, and room for more (own).
use Rattle.std.specs.Prelude.{◌≡◌, ℕ, Bool, true, false, drop, ltb, List}
use Rattle.std.specs.List.{list_any}
use Rattle.script.specs.Plans.{Plan}
use Rattle.book.specs.declared.entries.Entry.{Entry}
use Rattle.book.specs.declared.entries.Entry.TheVariants as entry

pub record Ledger : Type 0 where
  pub script : Plan
  pub entries : List Entry
  pub spare : ℕ

-- whether an entry answers a command, or a try of one
abbrev pub is_answer : Entry → Bool
is_answer (entry.Do process place cpu frame reply) = true
is_answer _ = false

-- So many entries stand up to the last answer, with it: from place n on there is an answer just where n is below that.
abbrev pub AnswersUpTo : List Entry → ℕ → Type 0
AnswersUpTo entries answered = (n : ℕ) → list_any is_answer (drop n entries) ≡ ltb n answered
