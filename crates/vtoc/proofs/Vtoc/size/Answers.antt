use Rattle.vtoc.proofs.Prelude.{ap, length, ◌∙◌}
use Rattle.vtoc.proofs.Table.{kept, length_table}
use Rattle.vtoc.proofs.Vtoc.size.Goals as goal

pub returns-clause-entries : goal.returns-clause-entries
returns-clause-entries c = cc (length_table c.self.inside.slots)

pub returns-clause-places : goal.returns-clause-places
returns-clause-places c =
    record { places = λ e. ap length (kept c.self.invariant c.self.view_is e).records ∙ c.self.invariant.places e }
