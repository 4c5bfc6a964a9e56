-- The text of a cause (own).
use Rattle.std.specs.Prelude.{ℕ, List, codes}
use Rattle.script.specs.declared.refusals.Cause.{Cause}
use Rattle.script.specs.declared.refusals.Cause.TheVariants as cause

unfoldable pub cause_text : Cause → List ℕ
cause_text cause.BadChar = codes "badchar"
cause_text cause.Order = codes "order"
cause_text cause.Fields = codes "fields"
cause_text cause.Number = codes "number"
cause_text cause.Name = codes "name"
cause_text cause.Path = codes "path"
cause_text cause.Twice = codes "twice"
cause_text cause.Unknown = codes "unknown"
cause_text cause.Many = codes "many"
cause_text cause.Missing = codes "missing"
