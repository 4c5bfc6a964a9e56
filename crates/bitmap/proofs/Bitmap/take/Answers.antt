use Rattle.bitmap.proofs.Prelude.{arith, count_with}
use Rattle.bitmap.proofs.Levels.{flags_with_bit, levels_after_take, placed, room_for_one}
use Rattle.bitmap.proofs.Bitmap.take.Goals as goal

pub turn_on-requires-clause-lower : goal.turn_on-requires-clause-lower
turn_on-requires-clause-lower c = omega (arith, (placed c.self.invariant c.self.view_is c.requires.within).word)

pub turn_on-requires-clause-upper : goal.turn_on-requires-clause-upper
turn_on-requires-clause-upper c = omega (arith, (placed c.self.invariant c.self.view_is c.requires.within).mark)

pub overflow_add-self : goal.overflow_add-self
overflow_add-self c =
    let room = room_for_one c.args.r c.self.invariant c.self.view_is c.requires.within c.requires.free in
    omega (arith, room)

pub invariant_of-self : goal.invariant_of-self
invariant_of-self c =
    let place = placed c.self.invariant c.self.view_is c.requires.within in
    rw (c.turn_on.ensures.lower, c.turn_on.ensures.upper)
    (levels_after_take _ _ _ _ c.args.r c.self.invariant place.below (cc))

pub returns-clause-flags : goal.returns-clause-flags
returns-clause-flags c =
    let place = placed c.self.invariant c.self.view_is c.requires.within in
    rw (c.turn_on.ensures.lower, ← c.self.view_is) (flags_with_bit _ _ c.args.r place.below place.word)

pub returns-clause-count : goal.returns-clause-count
returns-clause-count c =
    let place = placed c.self.invariant c.self.view_is c.requires.within in
    rw (c.turn_on.ensures.lower, flags_with_bit _ _ c.args.r place.below place.word, c.self.view_is)
    (count_with _ c.args.r c.requires.within c.requires.free)
