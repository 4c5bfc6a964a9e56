use Rattle.mnames.proofs.PrincipalTexts.{default_is_label}
use Rattle.mnames.proofs.labels.Label.default_project.Goals as goal

pub invariant_of-result : goal.invariant_of-result
invariant_of-result c = rw (c.of.ensures) default_is_label
