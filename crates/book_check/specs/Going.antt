-- How the lines that are left are judged, once some entries were accepted (own).
use Rattle.std.specs.Prelude.{◌≡◌, ◌↔◌, ℕ, ◌+◌, List, [], ◌∷◌, ◌++◌, length, map, Result, Ok, Err}
use Rattle.script.specs.Plans.{Plan}
use Rattle.book.specs.declared.entries.Entry.{Entry}
use Rattle.book.specs.Entries.{entry_text}
use Rattle.flat_model.specs.Legal.{IsSettled, store_after}
use Rattle.book_check.specs.Inputs.{entry_lines, summary_lines}
use Rattle.book_check.specs.Judging.{Judged, IsAfter}
use Rattle.book_check.specs.Verdicts.{Breaks, IsJudged, IsWhole, MayStand, due_lines}
use Rattle.book_check.specs.declared.offences.CheckFault.{CheckFault}
use Rattle.book_check.specs.declared.offences.CheckFault.TheVariants as fault

-- what is found after some entries, where these lines are left before the summary
abbrev pub Finds : Plan → ℕ → List Entry → List (List ℕ) → List (List ℕ) → Result ℕ CheckFault → Type 0
Finds p n es [] summary (Ok count) =
    (count ≡ length es) × IsWhole p es × (summary ≡ due_lines p es) × IsSettled p (store_after p es)
Finds p n es (line ∷ left) summary (Ok count) = ⊥
Finds p n es left summary (Err (fault.Refused o)) = Breaks p es (n + length es) left summary o.line o.rule
Finds p n es left summary (Err _) = ⊥

-- A listing whose first entries these are, and then these lines, is judged so.
pub record IsJudgedFrom (p : Plan) (n : ℕ) (before : List Entry) (lines : List (List ℕ)) (v : Result ℕ CheckFault)
    : Type 0 where
  pub entries : List Entry
  pub left : List (List ℕ)
  pub texts : entry_lines lines ≡ map entry_text entries ++ left
  pub stand : MayStand p (before ++ entries)
  pub finds : Finds p n (before ++ entries) left (summary_lines lines) v

-- After some lines of a listing, whose first has number n, these are left: the entries of those before were accepted,
-- and what is left is judged as all are.
pub record IsReached (j : Judged) (n : ℕ) (all left : List (List ℕ)) : Type 0 where
  pub entries : List Entry
  pub after : IsAfter j entries
  pub same : (v : Result ℕ CheckFault) → IsJudged j.script n all v ↔ IsJudgedFrom j.script n entries left v
