-- What is told of a line at fault (own).
use Rattle.std.specs.Prelude.{◌≡◌, ◌⊎◌, ℕ, List, [], Option, IfSome, Ok}
use Rattle.text_model.specs.Lines.{lines_of}
use Rattle.script.specs.Plans.{Plan}
use Rattle.book.specs.declared.entries.Entry.{Entry}
use Rattle.flat_model.specs.Legal.{IsComplete, store_after}
use Rattle.flat_store.specs.Zeros.{HasZeroPage}
use Rattle.book_check.specs.Inputs.{first_number, listing_lines, script_lines, script_of_lines}
use Rattle.book_check.specs.Verdicts.{BreaksEntry}
use Rattle.book_check.specs.declared.offences.Offence.{Offence}
use Rattle.book_check.specs.declared.offences.Rule.{Rule}
use Rattle.book_check.specs.declared.offences.Rule.TheVariants as rule
use Rattle.reasons.specs.Passing.{AreUpTo, IsSinceOf}
use Rattle.reasons.specs.Reasons.{IsWhy, first_of, is_end, why_line}
use Rattle.reasons.specs.declared.asking.Reason.{Reason}

-- what holds where no reason is found: for four of the rules, that the rule isn't broken
abbrev pub IsUnfaulted : Plan → List Entry → List ℕ → Rule → Type 0
IsUnfaulted p es line rule.NotLegal = BreaksEntry p es line rule.NotLegal → ⊥
IsUnfaulted p es line rule.NotClean = BreaksEntry p es line rule.NotClean → ⊥
IsUnfaulted p es line rule.Incomplete = IsComplete p es
IsUnfaulted p es line rule.ZeroPage = HasZeroPage (store_after p es) → ⊥
IsUnfaulted p es line _ = Unit {0}

-- a line of the listing is named only where it is one since which the reason's sentence has been true
abbrev pub HasLine : Plan → ℕ → List (List ℕ) → Offence → Reason → Option ℕ → Type 0
HasLine p n lines o r line = IfSome line (IsSinceOf p n lines o r)

-- A text is the line of a reason, with the line since which its sentence has been true, if one is named.
pub record HasText (p : Plan) (n : ℕ) (lines : List (List ℕ)) (o : Offence) (r : Reason) (text : List ℕ) : Type 0 where
  pub since : Option ℕ
  pub has_line : HasLine p n lines o r since
  pub is_line : text ≡ why_line p r since

-- A text tells why the first of the lines that are left after some entries breaks a rule.
pub record Tells (bytes : List ℕ) (p : Plan) (n : ℕ) (lines : List (List ℕ)) (o : Offence) (es : List Entry)
    (left : List (List ℕ)) (text : List ℕ) : Type 0 where
  pub reason : Reason
  pub why : IsWhy bytes p es (first_of left) (is_end left) o.rule reason
  pub has_text : HasText p n lines o reason text

-- Nothing is told, where no reason is found.
pub record TellsNothing (p : Plan) (es : List Entry) (line : List ℕ) (r : Rule) (text : List ℕ) : Type 0 where
  pub none : text ≡ []
  pub unfaulted : IsUnfaulted p es line r

abbrev pub TellsOrNot : List ℕ → Plan → ℕ → List (List ℕ) → Offence → List Entry → List (List ℕ) → List ℕ → Type 0
TellsOrNot bytes p n lines o es left text =
    Tells bytes p n lines o es left text ⊎ TellsNothing p es (first_of left) o.rule text

-- the rules of which it isn't claimed that a reason is always found: of a line that is no entry's text, and of the
-- summary
abbrev pub MayLackReason : Rule → Type 0
MayLackReason rule.NoEntry = Unit {0}
MayLackReason rule.WrongSum = Unit {0}
MayLackReason _ = ⊥

-- The line of an input that is at fault is explained: its script is read, the entries before that line are these, and
-- the text tells the reason.
pub record IsExplained (bytes : List ℕ) (o : Offence) (text : List ℕ) : Type 0 where
  pub script : Plan
  pub read : script_of_lines (script_lines (lines_of bytes)) ≡ Ok script
  pub entries : List Entry
  pub left : List (List ℕ)
  pub up_to : AreUpTo script (first_number (lines_of bytes)) (listing_lines (lines_of bytes)) o entries left
  pub tells : Tells bytes script (first_number (lines_of bytes)) (listing_lines (lines_of bytes)) o entries
      left text

-- so it is, or nothing is told, for one of two rules
abbrev pub IsTold : List ℕ → Offence → List ℕ → Type 0
IsTold bytes o text = IsExplained bytes o text ⊎ ((text ≡ []) × MayLackReason o.rule)
