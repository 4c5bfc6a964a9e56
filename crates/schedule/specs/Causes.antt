-- The text of a cause (own).
use Rattle.std.specs.Prelude.{ℕ, List, ◌++◌, codes}
use Rattle.std.specs.Fmt.{decimal}
use Rattle.schedule.specs.declared.refusals.Cause.{Cause}
use Rattle.schedule.specs.declared.refusals.Cause.TheVariants as cause
use Rattle.schedule.specs.declared.refusals.Refused.{Refused}

unfoldable pub cause_text : Cause → List ℕ
cause_text cause.Order = codes "order"
cause_text cause.Fields = codes "fields"
cause_text cause.Number = codes "number"
cause_text cause.Processor = codes "processor"
cause_text cause.Many = codes "many"
cause_text cause.Unreached = codes "unreached"

-- what is written of a line of a schedule that is refused
unfoldable pub refused_text : Refused → List ℕ
refused_text r = codes "schedule refused at line " ++ (decimal r.line
    ++ (codes ": " ++ (cause_text r.cause ++ codes "\n")))
