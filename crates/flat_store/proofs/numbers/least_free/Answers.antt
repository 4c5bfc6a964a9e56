use Rattle.flat_store.proofs.Prelude.{◌∙◌, ap, not, arith}
use Rattle.flat_store.proofs.NumberLaws.{free_found, none_free}
use Rattle.flat_store.proofs.numbers.least_free.Goals as goal

pub returns-then-is_none : goal.returns-then-is_none
returns-then-is_none c = free_found c.args.kst.now c.loop-number.number c.uid_of.ensures.uid (c.is_none.ensures
    ∙ ap not c.if-is_none.true) (omega (arith, c.uid_of.ensures.size, c.loop-number-test.true)) c.loop-number.invariant

pub returns : goal.returns
returns c = none_free c.args.kst.now c.loop-number.number
    (omega (arith, c.promise.ensures.size, c.loop-number-test.false)) c.loop-number.invariant
