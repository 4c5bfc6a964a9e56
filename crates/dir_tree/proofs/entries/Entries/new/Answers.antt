use Rattle.dir_tree.proofs.Prelude.{common_steps, ap, arith, listed, nat_tests}
use Rattle.dir_tree.proofs.UidLemmas.{blank_listed, blank_tabled, blank_taken}
use Rattle.dir_tree.proofs.entries.Entries.new.Goals as goal

pub invariant_of-result : goal.invariant_of-result
invariant_of-result c = grind (arith, nat_tests, common_steps, blank_listed, blank_tabled, blank_taken)

pub returns : goal.returns
returns c = ap (listed c.in_ok-slots.slots.items) (blank_taken c.in_ok-places.places.items c.in_ok-places.ensures.items)
