-- What is printed of the outcomes of a script (own).
use Rattle.std.specs.Prelude.{◌≡◌, ℕ, List, Err}
use Rattle.runner.specs.Endings.{Change, Writes, WritesAll, WritesFront, WritesNothing}
use Rattle.runner.specs.Texts.{refusal_text}
use Rattle.script.specs.Grammar.{script_of}
use Rattle.lab_runs.specs.Outcomes.{IsReportOf}
use Rattle.lab_calls.specs.declared.status.Status.{Status}
use Rattle.lab_calls.specs.declared.status.Status.TheVariants as status

-- a text that is printed of such a table is so
pub record PrintsOutcomes (bytes : List ℕ) (seed runs : ℕ) (P : List ℕ → Type 0) : Type 0 where
  pub text : List ℕ
  pub report : IsReportOf bytes seed runs text
  pub printed : P text

-- what is left of some bytes: the outcomes of the script that they are, or its refusal; or there was no memory, and
-- nothing was written
abbrev pub EndsOutcomes : ℕ → ℕ → List ℕ → Status → Change → Type 0
EndsOutcomes runs seed bytes status.Done out = PrintsOutcomes bytes seed runs (WritesAll out)
EndsOutcomes runs seed bytes status.WriteFault out = PrintsOutcomes bytes seed runs (WritesFront out)
EndsOutcomes runs seed bytes (status.Script r) out = (script_of bytes ≡ Err r) × Writes out (refusal_text r)
EndsOutcomes runs seed bytes status.Memory out = WritesNothing out
EndsOutcomes runs seed bytes _ out = ⊥

pub record CountsTo (runs seed : ℕ) (bytes : List ℕ) (s : Status) (out : Change) : Type 0 where
  pub so : EndsOutcomes runs seed bytes s out
