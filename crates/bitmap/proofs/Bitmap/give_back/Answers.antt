use Rattle.bitmap.proofs.Levels.{arith, count_without, flag_within, flags_without_bit, levels_after_give, placed}
use Rattle.bitmap.proofs.Bitmap.give_back.Goals as goal

pub clear_bit-requires : goal.clear_bit-requires
clear_bit-requires c = omega (arith, (placed c.self.invariant c.self.view_is (flag_within _ _ c.requires)).word)

pub clear_bit-requires-2 : goal.clear_bit-requires-2
clear_bit-requires-2 c = omega (arith, (placed c.self.invariant c.self.view_is (flag_within _ _ c.requires)).mark)

pub invariant_of-self : goal.invariant_of-self
invariant_of-self c =
    let place = placed c.self.invariant c.self.view_is (flag_within _ _ c.requires) in
    rw (c.clear_bit.ensures.items, c.clear_bit-2.ensures.items)
    (levels_after_give c.args.r c.self.invariant place.below (cc))

pub returns-clause-flags : goal.returns-clause-flags
returns-clause-flags c =
    let place = placed c.self.invariant c.self.view_is (flag_within _ _ c.requires) in
    rw (c.clear_bit.ensures.items, ← c.self.view_is) (flags_without_bit _ _ c.args.r place.below place.word)

pub returns-clause-count : goal.returns-clause-count
returns-clause-count c =
    let place = placed c.self.invariant c.self.view_is (flag_within _ _ c.requires) in
    rw (c.clear_bit.ensures.items, flags_without_bit _ _ c.args.r place.below place.word, c.self.view_is)
    (count_without _ c.args.r c.requires)
