-- The text of a rule (own).
use Rattle.std.specs.Prelude.{ℕ, List, codes}
use Rattle.book_check.specs.declared.offences.Rule.{Rule}
use Rattle.book_check.specs.declared.offences.Rule.TheVariants as rule

unfoldable pub rule_text : Rule → List ℕ
rule_text rule.NoEntry = codes "entry"
rule_text rule.NotLegal = codes "legal"
rule_text rule.NotClean = codes "clean"
rule_text rule.Incomplete = codes "part"
rule_text rule.ZeroPage = codes "zeros"
rule_text rule.WrongSum = codes "sum"
