use Rattle.bitmap.proofs.Prelude.{arith, bit_on, get_or_read, shr_and_one, ◌/◌}
use Rattle.bitmap.proofs.Levels.{placed}
use Rattle.bitmap.proofs.Bitmap.is_used.Goals as goal

pub index-requires : goal.index-requires
index-requires c = let place = placed c.self.invariant c.self.view_is c.requires in omega (arith, place.word)

pub returns : goal.returns
unfolding bit_on
returns c =
    let place = placed c.self.invariant c.self.view_is c.requires in
    let word = get_or_read c.self.inside.words.items (c.args.r / 64) _ place.word c.index.ensures 0 in
    rw (shr_and_one, word) place.is
