use Rattle.bitmap.proofs.Levels.{IsLeastFree, ap, arith, first_inside, found_by_levels, least_is, length, length_flags, none_found, none_is, sym, ◌*◌, ◌+◌}
use Rattle.bitmap.proofs.Bitmap.first_free.Goals as goal

found : (c : goal.After-trailing_ones-bit) → IsLeastFree c.args.self.now
    (64 * c.in_ok-word.word + c.trailing_ones-bit.result)
found c = found_by_levels _ _ _ _ _ c.in_ok-word.word c.index.result.now
    _ _ c.self.invariant c.self.view_is c.in_ok-word.ensures.some c.deref.ensures.value (first_inside c.self.invariant
    c.in_ok-word.ensures.some c.deref.ensures.value) c.index.ensures (omega arith) c.trailing_ones-bit.ensures

pub overflow_cast-result : goal.overflow_cast-result
overflow_cast-result c = omega (
  arith,
  (found c).within,
  c.self.invariant.fits,
  ap length c.self.view_is,
  length_flags c.self.inside.words.items c.self.inside.size,
)

pub returns-clause-some : goal.returns-clause-some
returns-clause-some c = found c

pub returns-clause-least : goal.returns-clause-least
returns-clause-least c = sym (least_is (found c))

pub returns-in_err-word-clause-none : goal.returns-in_err-word-clause-none
returns-in_err-word-clause-none c =
    rw c.from_residual.ensures (none_found c.self.invariant c.self.view_is c.deref.ensures.value
    c.in_err-word.ensures.none)

pub returns-in_err-word-clause-least : goal.returns-in_err-word-clause-least
returns-in_err-word-clause-least c = cc (none_is c.args.self.now (none_found c.self.invariant c.self.view_is
    c.deref.ensures.value c.in_err-word.ensures.none))
