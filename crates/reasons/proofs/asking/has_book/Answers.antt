use Rattle.reasons.proofs.Prelude.{arith, nat_tests, is_book}
use Rattle.reasons.proofs.LineLaws.{no_line}
use Rattle.reasons.proofs.asking.has_book.Goals as goal

pub returns : goal.returns
returns c = no_line is_book c.args.bytes.now c.loop-rest.rest.now c.loop-rest.invariant (grind (arith, nat_tests))
