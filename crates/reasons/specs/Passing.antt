-- A listing up to its first line at fault (own).
use Rattle.std.specs.Prelude.{◌≡◌, ◌⊎◌, ℕ, ◌+◌, true, false, List, [], ◌∷◌, ◌++◌, length, map, Option, Some, None, Result, Ok, Err}
use Rattle.book.specs.Entries.{entry_text}
use Rattle.book.specs.declared.entries.Entry.{Entry}
use Rattle.script.specs.Grammar.{script_of}
use Rattle.script.specs.Plans.{Plan}
use Rattle.script.specs.declared.refusals.Refusal.{Refusal}
use Rattle.book_check.specs.Going.{IsJudgedFrom}
use Rattle.book_check.specs.Inputs.{entry_lines, is_summary, summary_lines}
use Rattle.book_check.specs.Judging.{IsAfter, Judged, OnlyOne}
use Rattle.book_check.specs.Verdicts.{Breaks, BreaksEntry, IsJudged, MayStand}
use Rattle.book_check.specs.declared.offences.CheckFault.{CheckFault}
use Rattle.book_check.specs.declared.offences.Offence.{Offence}
use Rattle.book_check.specs.declared.offences.Rule.{Rule}
use Rattle.reasons.specs.Reasons.{HasSince, IsSince, SaysAt}
use Rattle.reasons.specs.declared.asking.Reason.{Reason}

-- ---- the line at fault

-- The entries of a listing, whose first line has number n, up to the line at fault: they may stand one after the
-- other, and what is left after them breaks the rule.
pub record AreUpTo (p : Plan) (n : ℕ) (lines : List (List ℕ)) (o : Offence) (es : List Entry)
    (left : List (List ℕ)) : Type 0 where
  pub texts : lines ≡ map entry_text es ++ left
  pub stand : MayStand p es
  pub breaks : Breaks p es (n + length es) (entry_lines left) (summary_lines left) o.line o.rule

-- a line after some entries breaks this rule
pub record IsFaulty (j : Judged) (line : List ℕ) (r : Rule) : Type 0 where
  pub entry : is_summary line ≡ false
  pub one : OnlyOne line
  pub breaks : (es : List Entry) → IsAfter j es → BreaksEntry j.script es line r

-- a pass ends where the summary begins, or at a line that breaks a rule
abbrev pub EndsAt : Judged → List ℕ → Type 0
EndsAt j line = (is_summary line ≡ true) ⊎ ((r : Rule) × IsFaulty j line r)

-- or else at the end of the listing
abbrev pub EndsBefore : Judged → List (List ℕ) → Type 0
EndsBefore j [] = Unit {0}
EndsBefore j (line ∷ left) = EndsAt j line

-- ---- a pass

-- since when the sentence of a reason has been true, if it is looked for
abbrev pub IsWatched : Plan → ℕ → List Entry → Option Reason → Option ℕ → Type 0
IsWatched p n es None line = Unit {0}
IsWatched p n es (Some r) line = HasSince p r n es line

-- The entries of the first of these lines were accepted, and what is kept is as they leave it. The listing's first line
-- has number n.
pub record Passes (j : Judged) (n : ℕ) (all left : List (List ℕ)) (r : Option Reason) (line : Option ℕ) : Type 0 where
  pub entries : List Entry
  pub after : IsAfter j entries
  pub texts : all ≡ map entry_text entries ++ left
  pub since : IsWatched j.script n entries r line
  pub judged : (v : Result ℕ CheckFault) → IsJudged j.script n all v → IsJudgedFrom j.script n entries left v

-- A judge of the listing of a script stands before the first entry.
pub record Begins (bytes : List ℕ) (j : Judged) : Type 0 where
  pub script : script_of bytes ≡ Ok j.script
  pub after : IsAfter j []
  pub none : j.entries ≡ 0

-- some bytes are no script
pub record IsRefused (bytes : List ℕ) : Type 0 where
  pub refusal : Refusal
  pub refused : script_of bytes ≡ Err refusal

-- the first of a line that is known, or this one
abbrev pub or_here : Option ℕ → ℕ → ℕ
or_here None n = n
or_here (Some line) n = line

-- a look after the line of a number tells since when the sentence has been true
abbrev pub Looks : Plan → List Entry → Option Reason → ℕ → Option ℕ → Option ℕ → Type 0
Looks p es None n old new = Unit {0}
Looks p es (Some r) n old new =
    (SaysAt p es r × (new ≡ Some (or_here old n))) ⊎ ((SaysAt p es r → ⊥) × (new ≡ None))

-- The sentence of a reason has been true since this line, up to the line at fault.
pub record IsSinceOf (p : Plan) (n : ℕ) (lines : List (List ℕ)) (o : Offence) (r : Reason) (line : ℕ)
    : Type 0 where
  pub entries : List Entry
  pub left : List (List ℕ)
  pub up_to : AreUpTo p n lines o entries left
  pub since : IsSince p r n entries line
