-- What a function that reads a part of a script gives, beside what the part says (own).
use Rattle.std.specs.Prelude.{◌≡◌, Result, Ok, Err}
use Rattle.script.specs.Drafts.{DraftPlan}
use Rattle.script.specs.declared.drafts.LineFault.{LineFault}
use Rattle.script.specs.declared.drafts.LineFault.TheVariants as fault
use Rattle.script.specs.declared.refusals.Cause.{Cause}

-- what a function returned, seen by view, is what the part says, or the cause why it says nothing
abbrev pub Gives : {A B : Type 0} → (A → B) → Result A Cause → Result B Cause → Type 0
Gives view (Ok x) read = read ≡ Ok (view x)
Gives view (Err e) read = read ≡ Err e

-- a draft that was changed is the one that the part gives, unless memory ran out
abbrev pub Steps : DraftPlan → Result (Unit {0}) LineFault → Result DraftPlan Cause → Type 0
Steps new (Ok u) read = read ≡ Ok new
Steps new (Err (fault.Refused e)) read = read ≡ Err e
Steps new (Err fault.Memory) read = Unit {0}
