-- What the program writes besides its outputs (own).
use Rattle.std.specs.Prelude.{ℕ, List, ◌++◌, codes}
use Rattle.std.specs.Fmt.{decimal}
use Rattle.book_check.specs.Rules.{rule_text}
use Rattle.book_check.specs.declared.offences.Offence.{Offence}
use Rattle.script.specs.Causes.{cause_text}
use Rattle.script.specs.declared.refusals.Refusal.{Refusal}

-- the texts of the statuses
abbrev pub usage_text : List ℕ
usage_text = codes "usage: multics run | check | make N | drill P F N SEED\n"

abbrev pub too_long_text : List ℕ
too_long_text = codes "script too long\n"

-- a listing is accepted, with so many entries
unfoldable pub accepted_text : ℕ → List ℕ
accepted_text entries = codes "accepted " ++ (decimal entries ++ codes " entries\n")

-- a line of it is at fault
unfoldable pub offence_text : Offence → List ℕ
offence_text o = codes "refused at line " ++ (decimal o.line ++ (codes ": " ++ (rule_text o.rule ++ codes "\n")))

unfoldable pub refusal_text : Refusal → List ℕ
refusal_text r = codes "script refused at line " ++ (decimal r.line
    ++ (codes ": " ++ (cause_text r.cause ++ codes "\n")))
