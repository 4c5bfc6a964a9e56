use Rattle.seg_mover.proofs.Giving.{all_given, arith, full_same, given_end, given_more, names_none, rules}
use Rattle.seg_mover.proofs.give_back.Goals as goal

pub loop-p-preserved : goal.loop-p-preserved
loop-p-preserved g c = given_more c.give_record.new.v c.loop-p.invariant c.give_record.ensures

pub free-requires-clause-empty : goal.free-requires-clause-empty
free-requires-clause-empty g c = rw c.vtoc_mut.ensures.value (names_none (all_given c.loop-p.invariant (omega arith))
    (full_same c.size.ensures.places (search rules)))

pub returns : goal.returns
returns g c = given_end _ (all_given c.loop-p.invariant (omega arith)) (full_same c.size.ensures.places (search rules))
    (search rules)
