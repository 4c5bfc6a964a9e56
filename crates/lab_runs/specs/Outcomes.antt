-- The outcomes of a script over schedules that are drawn from one seed after the other (own).
use Rattle.std.specs.Prelude.{◌≡◌, ◌+◌, ℕ, zero, suc, List, Ok, Err}
use Rattle.std.specs.List.{flat_map}
use Rattle.book.specs.declared.entries.Entry.{Entry}
use Rattle.flat_model.specs.Legal.{store_after}
use Rattle.listing.specs.Listings.{account_text, accounts_of, processes_lines}
use Rattle.outcomes.specs.Reports.{report_text}
use Rattle.outcomes.specs.Tables.{Table, added, no_runs}
use Rattle.runner.specs.Runs.{Machine}
use Rattle.script.specs.Grammar.{Reads, script_of}
use Rattle.script.specs.Plans.{Plan}
use Rattle.script.specs.declared.reader.ScriptFault.{ScriptFault}
use Rattle.lab_runs.specs.Drawn.{HasDrawn}

-- what the processes of a script were answered, by a book, as the listing of mode `replies` prints it
abbrev pub replies_of : Plan → List Entry → List ℕ
replies_of p entries = processes_lines p entries 0 p.processes

-- the lines of the accounts after a book
abbrev pub accounts_after : Plan → List Entry → List ℕ
accounts_after p entries = flat_map account_text (accounts_of (store_after p entries))

-- A script was run by the schedule that is drawn from a seed, and how that ended was added to a table.
pub record AddsDrawn (p : Plan) (seed : ℕ) (old new : Table) : Type 0 where
  pub machine : Machine
  pub run : HasDrawn p seed machine
  pub added_is : new ≡ added old (replies_of p machine.state.entries) (accounts_after p machine.state.entries) seed

-- the same of the script that some bytes are
pub record AddsRun (bytes : List ℕ) (seed : ℕ) (old new : Table) : Type 0 where
  pub script : Plan
  pub read : script_of bytes ≡ Ok script
  pub adds : AddsDrawn script seed old new

-- a table of so many runs, of a seed and those after it
abbrev pub Gathers : List ℕ → ℕ → ℕ → Table → Type 0
Gathers bytes seed zero t = t ≡ no_runs
Gathers bytes seed (suc runs) t = (before : Table) × Gathers bytes seed runs before
    × AddsRun bytes (seed + runs) before t

-- A text is what is printed of such a table.
pub record IsReportOf (bytes : List ℕ) (seed runs : ℕ) (text : List ℕ) : Type 0 where
  pub table : Table
  pub gathers : Gathers bytes seed runs table
  pub text_is : text ≡ report_text table runs

-- bytes gave no script for this fault
abbrev pub IsUnscripted : List ℕ → ScriptFault → Type 0
IsUnscripted bytes fault = Reads (Err fault) (script_of bytes)
