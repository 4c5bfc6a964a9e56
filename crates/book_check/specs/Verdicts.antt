-- How an input is judged (own): whether its listing is accepted, or which line of it is the first at fault and why.
use Rattle.std.specs.Prelude.{◌≡◌, ◌≢◌, ℕ, ◌+◌, if◌then◌else◌, List, [], ◌∷◌, ◌++◌, length, map, Result, Ok, Err}
use Rattle.std.specs.Str.{bytes_eq}
use Rattle.text_model.specs.Lines.{lines_of}
use Rattle.script.specs.Plans.{Plan}
use Rattle.script.specs.declared.refusals.Refusal.{Refusal}
use Rattle.book.specs.declared.entries.Entry.{Entry}
use Rattle.book.specs.Entries.{entry_text}
use Rattle.book.specs.Reading.{IsEntry}
use Rattle.flat_model.specs.Legal.{IsLawful, IsLegal, IsComplete, IsSettled, store_after}
use Rattle.flat_store.specs.Zeros.{HasZeroPage}
use Rattle.custody_model.specs.Allowed.{IsAllowed}
use Rattle.custody_model.specs.Clean.{IsClean, custody_after}
use Rattle.listing.specs.Listings.{summary_of, summary_text}
use Rattle.book_check.specs.Inputs.{script_lines, listing_lines, first_number, script_of_lines, entry_lines, summary_lines}
use Rattle.book_check.specs.declared.offences.Rule.{Rule}
use Rattle.book_check.specs.declared.offences.Rule.TheVariants as rule
use Rattle.book_check.specs.declared.offences.Offence.{Offence}
use Rattle.book_check.specs.declared.offences.CheckFault.{CheckFault}
use Rattle.book_check.specs.declared.offences.CheckFault.TheVariants as fault

-- ---- the entries

-- a line is the text of an entry, whose numbers have 32 bits and whose words 36
pub record IsTextOf (e : Entry) (line : List ℕ) : Type 0 where
  pub entry : IsEntry e
  pub text : entry_text e ≡ line

abbrev pub AreEntries : List Entry → Type 0
AreEntries [] = Unit {0}
AreEntries (e ∷ es) = IsEntry e × AreEntries es

-- Entries that may stand one after the other: from the boot on, the flat store allows each at its place, and so does
-- custody.
pub record MayStand (p : Plan) (es : List Entry) : Type 0 where
  pub entries : AreEntries es
  pub legal : IsLegal p es
  pub clean : IsClean p es

-- what a line after some entries breaks, where it comes before the summary: it is no entry's text; or the flat store
-- doesn't allow its entry there; or custody doesn't
abbrev pub BreaksEntry : Plan → List Entry → List ℕ → Rule → Type 0
BreaksEntry p es line rule.NoEntry = (e : Entry) → IsTextOf e line → ⊥
BreaksEntry p es line rule.NotLegal = (e : Entry) × IsTextOf e line × (IsLawful p (store_after p es) e → ⊥)
BreaksEntry p es line rule.NotClean =
    (e : Entry) × IsTextOf e line × IsLawful p (store_after p es) e
    × (IsAllowed p (store_after p es) (custody_after p es) e → ⊥)
BreaksEntry p es line _ = ⊥

-- ---- the summary

-- the lines of the accounts and the volumes, as they are after some entries
abbrev pub due_lines : Plan → List Entry → List (List ℕ)
due_lines p es = lines_of (summary_text (summary_of p (store_after p es)))

-- how many lines at the front of two lists are the same
abbrev pub same_lines : List (List ℕ) → List (List ℕ) → ℕ
same_lines [] lines = 0
same_lines (line ∷ lines) [] = 0
same_lines (line ∷ lines) (other ∷ others) = if bytes_eq line other then 1 + same_lines lines others else 0

-- the book of some entries is complete, and no stored page is all zeros after them
pub record IsWhole (p : Plan) (es : List Entry) : Type 0 where
  pub complete : IsComplete p es
  pub zeros : HasZeroPage (store_after p es) → ⊥

-- what a summary breaks that begins at line n after some entries, and where: at its first line, or at the first that
-- isn't the one that is due
abbrev pub BreaksEnd : Plan → List Entry → ℕ → List (List ℕ) → ℕ → Rule → Type 0
BreaksEnd p es n summary line rule.Incomplete = (line ≡ n) × (IsComplete p es → ⊥)
BreaksEnd p es n summary line rule.ZeroPage = (line ≡ n) × IsComplete p es × HasZeroPage (store_after p es)
BreaksEnd p es n summary line rule.WrongSum =
    (line ≡ n + same_lines summary (due_lines p es)) × IsWhole p es × (summary ≢ due_lines p es)
BreaksEnd p es n summary line _ = ⊥

-- ---- the whole listing

-- Lines are accepted, with so many entries: those before the summary are the texts of entries that may stand one after
-- the other, their book is complete, no stored page is all zeros, and the summary is that of the accounts and the
-- volumes. So the store after them is settled: its quotas sum to the root's of the script, and each account is within
-- its own.
pub record IsAccepted (p : Plan) (lines : List (List ℕ)) (count : ℕ) : Type 0 where
  pub entries : List Entry
  pub texts : entry_lines lines ≡ map entry_text entries
  pub all : count ≡ length entries
  pub stand : MayStand p entries
  pub whole : IsWhole p entries
  pub summary : summary_lines lines ≡ due_lines p entries
  pub settled : IsSettled p (store_after p entries)

-- what the line is that follows some entries, which is line n: one that is left before the summary, or else the summary
abbrev pub Breaks : Plan → List Entry → ℕ → List (List ℕ) → List (List ℕ) → ℕ → Rule → Type 0
Breaks p es n [] summary line r = BreaksEnd p es n summary line r
Breaks p es n (next ∷ left) summary line r = (line ≡ n) × BreaksEntry p es next r

-- The first line at fault, and the first rule that it breaks: some entries at the front may stand one after the other,
-- and what follows them breaks it. The first line of all has number n.
pub record IsOffence (p : Plan) (n : ℕ) (lines : List (List ℕ)) (o : Offence) : Type 0 where
  pub entries : List Entry
  pub left : List (List ℕ)
  pub texts : entry_lines lines ≡ map entry_text entries ++ left
  pub stand : MayStand p entries
  pub breaks : Breaks p entries (n + length entries) left (summary_lines lines) o.line o.rule

abbrev pub IsJudged : Plan → ℕ → List (List ℕ) → Result ℕ CheckFault → Type 0
IsJudged p n lines (Ok count) = IsAccepted p lines count
IsJudged p n lines (Err (fault.Refused o)) = IsOffence p n lines o
IsJudged p n lines (Err _) = ⊥

abbrev pub IsJudgedBy : Result Plan Refusal → ℕ → List (List ℕ) → Result ℕ CheckFault → Type 0
IsJudgedBy (Err r) n lines v = v ≡ Err (fault.Script r)
IsJudgedBy (Ok p) n lines v = IsJudged p n lines v

-- How the lines of an input are judged: the script is refused; or its listing is accepted, with so many entries; or
-- that line of it is the first at fault, and breaks that rule.
unfoldable pub AreJudged : List (List ℕ) → Result ℕ CheckFault → Type 0
AreJudged lines v = IsJudgedBy (script_of_lines (script_lines lines)) (first_number lines) (listing_lines lines) v

abbrev pub IsVerdict : List ℕ → Result ℕ CheckFault → Type 0
IsVerdict bytes v = AreJudged (lines_of bytes) v
