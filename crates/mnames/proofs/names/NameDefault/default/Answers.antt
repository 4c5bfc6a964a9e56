use Rattle.mnames.proofs.Prelude.{is_name, refl, ◌≡◌, true, codes}
use Rattle.mnames.proofs.names.NameDefault.default.Goals as goal

root_is_name : is_name (codes "root") ≡ true
unfolding is_name
root_is_name = refl

pub invariant_of-result : goal.invariant_of-result
invariant_of-result c = rw (c.of.ensures) root_is_name
