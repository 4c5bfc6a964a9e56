-- What a reason says, since when it has been so, and what is written of it (own).
use Rattle.std.specs.Prelude.{◌≡◌, ◌≤◌, ℕ, ◌+◌, List, [], ◌∷◌, ◌++◌, Bool, true, false, length, take, Option, Some, None, codes}
use Rattle.std.specs.List.{list_any}
use Rattle.std.specs.Fmt.{decimal}
use Rattle.text_model.specs.Lines.{lines_of}
use Rattle.script.specs.Plans.{Plan}
use Rattle.book.specs.Entries.{entry_text}
use Rattle.book.specs.declared.entries.Entry.{Entry}
use Rattle.flat_model.specs.Legal.{store_after}
use Rattle.custody_model.specs.Clean.{custody_after}
use Rattle.book_check.specs.Inputs.{is_book}
use Rattle.book_check.specs.declared.offences.Rule.{Rule}
use Rattle.book_check.specs.declared.offences.Rule.TheVariants as rule
use Rattle.legal_reasons.specs.Reasons.{IsSaid, IsSo as IsLegalReason, Says as LegalSays, is_part, is_zeros}
use Rattle.legal_reasons.specs.Texts.{reason_text as legal_text}
use Rattle.clean_reasons.specs.Reasons.{IsSo as IsCleanReason, Says as CleanSays}
use Rattle.clean_reasons.specs.Texts.{reason_text as clean_text}
use Rattle.line_reasons.specs.DueLines.{IsSoSum, is_still_so}
use Rattle.line_reasons.specs.Reasons.{entry_reason_text, reason_of}
use Rattle.line_reasons.specs.SumTexts.{sum_reason_text}
use Rattle.reasons.specs.declared.asking.Reason.{Reason}
use Rattle.reasons.specs.declared.asking.Reason.TheVariants as reason

-- the first line of some; an empty one where there is none
abbrev pub first_of : List (List ℕ) → List ℕ
first_of [] = []
first_of (line ∷ lines) = line

-- whether there is no line
abbrev pub is_end : List (List ℕ) → Bool
is_end [] = true
is_end (line ∷ lines) = false

-- this is so of an entry whose text is a line
pub record IsOfLine (line : List ℕ) (P : Entry → Type 0) : Type 0 where
  pub entry : Entry
  pub text : entry_text entry ≡ line
  pub so : P entry

-- Why a line breaks a rule after some entries, or the listing's end does: the reason is one of that rule, and what it
-- says is so.
abbrev pub IsWhy : List ℕ → Plan → List Entry → List ℕ → Bool → Rule → Reason → Type 0
IsWhy bytes p es line at_end rule.NoEntry (reason.NoEntry r) = reason_of line ≡ Some r
IsWhy bytes p es line at_end rule.NotLegal (reason.NotLegal r) =
    IsOfLine line (λ e. IsLegalReason p (store_after p es) e r)
IsWhy bytes p es line at_end rule.NotClean (reason.NotClean r) =
    IsOfLine line (λ e. IsCleanReason p (store_after p es) (custody_after p es) e r)
IsWhy bytes p es line at_end rule.Incomplete reason.NoBook = list_any is_book (lines_of bytes) ≡ false
IsWhy bytes p es line at_end rule.Incomplete (reason.NotLegal r) =
    IsSaid p (store_after p es) r × (is_part at_end r ≡ true)
IsWhy bytes p es line at_end rule.ZeroPage (reason.NotLegal r) = IsSaid p (store_after p es) r × (is_zeros r ≡ true)
IsWhy bytes p es line at_end rule.WrongSum reason.NoBook = list_any is_book (lines_of bytes) ≡ false
IsWhy bytes p es line at_end rule.WrongSum (reason.WrongSum r) = IsSoSum p (store_after p es) r
IsWhy bytes p es line at_end _ _ = ⊥

-- The sentence of a reason is true after some entries; that of a reason that speaks of no state never is.
unfoldable pub SaysAt : Plan → List Entry → Reason → Type 0
SaysAt p es (reason.NotLegal r) = LegalSays p (store_after p es) r
SaysAt p es (reason.NotClean r) = CleanSays (store_after p es) (custody_after p es) r
SaysAt p es (reason.WrongSum r) = is_still_so (store_after p es) r ≡ true
SaysAt p es _ = ⊥

-- A sentence has been true since the line of this number: it is after that line and after each later one up to these
-- entries, and wasn't before it. The listing's first line has number n; before that comes the line `book`.
pub record IsSince (p : Plan) (r : Reason) (n : ℕ) (es : List Entry) (line : ℕ) : Type 0 where
  pub low : n ≤ line + 1
  pub high : line + 1 ≤ n + length es
  pub so : (k : ℕ) → line + 1 ≤ n + k → k ≤ length es → SaysAt p (take k es) r
  pub not_before : (k : ℕ) → n + k ≡ line → SaysAt p (take k es) r → ⊥

-- the same where there may be no such line: the sentence isn't true after the entries
abbrev pub HasSince : Plan → Reason → ℕ → List Entry → Option ℕ → Type 0
HasSince p r n es None = SaysAt p es r → ⊥
HasSince p r n es (Some line) = IsSince p r n es line

-- the text of a reason
abbrev pub reason_text : Plan → Reason → List ℕ
reason_text p reason.NoBook = codes "the input has no line book"
reason_text p (reason.NoEntry r) = entry_reason_text r
reason_text p (reason.NotLegal r) = legal_text r
reason_text p (reason.NotClean r) = clean_text r
reason_text p (reason.WrongSum r) = sum_reason_text p r

-- the line that is written: the reason, and since which line it has been so
unfoldable pub why_line : Plan → Reason → Option ℕ → List ℕ
why_line p r None = codes "why: " ++ (reason_text p r ++ codes "\n")
why_line p r (Some line) = codes "why: " ++ (reason_text p r ++ (codes ", since line " ++ (decimal line ++ codes "\n")))
