-- What is printed of a listing that is judged, and of a line at fault why (own).
use Rattle.std.specs.Prelude.{◌≡◌, ℕ, List, ◌++◌, Ok, Err}
use Rattle.book_check.specs.Closing.{IsTheVerdict}
use Rattle.book_check.specs.declared.offences.Offence.{Offence}
use Rattle.book_check.specs.declared.offences.CheckFault.TheVariants as fault
use Rattle.reasons.specs.Told.{IsTold}
use Rattle.runner.specs.Endings.{Change, Writes, WritesAll, WritesFront, WritesNothing}
use Rattle.runner.specs.Texts.{accepted_text, offence_text, refusal_text}
use Rattle.lab_calls.specs.declared.status.Status.{Status}
use Rattle.lab_calls.specs.declared.status.Status.TheVariants as status

-- A text tells which line of an input is at fault, and then why.
pub record Explains (bytes : List ℕ) (o : Offence) (text : List ℕ) : Type 0 where
  pub why : List ℕ
  pub told : IsTold bytes o why
  pub text_is : text ≡ offence_text o ++ why

-- such a text was written
pub record WritesWhy (bytes : List ℕ) (o : Offence) (out : Change) : Type 0 where
  pub text : List ℕ
  pub explains : Explains bytes o text
  pub written : Writes out text

-- the same, or nothing for want of memory
abbrev pub WritesOffence : List ℕ → Status → Offence → Change → Type 0
WritesOffence bytes (status.Refused p) o out = (p ≡ o) × WritesWhy bytes o out
WritesOffence bytes status.Memory o out = WritesNothing out
WritesOffence bytes _ o out = ⊥

-- the bytes are accepted with so many entries, and this is so of the text that says so
pub record Accepts (bytes : List ℕ) (P : List ℕ → Type 0) : Type 0 where
  pub entries : ℕ
  pub verdict : IsTheVerdict bytes (Ok entries)
  pub written : P (accepted_text entries)

-- what is left of some bytes: the verdict on them; or there was no memory, and nothing was written
abbrev pub EndsVerdict : List ℕ → Status → Change → Type 0
EndsVerdict bytes status.Done out = Accepts bytes (WritesAll out)
EndsVerdict bytes status.WriteFault out = Accepts bytes (WritesFront out)
EndsVerdict bytes (status.Script r) out = IsTheVerdict bytes (Err (fault.Script r)) × Writes out (refusal_text r)
EndsVerdict bytes (status.Refused o) out = IsTheVerdict bytes (Err (fault.Refused o)) × WritesWhy bytes o out
EndsVerdict bytes status.Memory out = WritesNothing out
EndsVerdict bytes _ out = ⊥

pub record JudgesTo (bytes : List ℕ) (s : Status) (out : Change) : Type 0 where
  pub so : EndsVerdict bytes s out
