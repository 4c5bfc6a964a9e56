use Rattle.std.proofs.lemmas.Grind.{common_steps}
use Rattle.flat_store.proofs.Prelude.{arith, nat_tests}
use Rattle.flat_store.proofs.MoveLaws.{held_told}
use Rattle.flat_store.proofs.holdings.Holdings.is_held_at.Goals as goal

pub returns-then-lacks_at : goal.returns-then-lacks_at
returns-then-lacks_at c = λ p s k h who.
    rw (c.is_some.ensures) (rw c.if-lacks_at.true at (held_told p s k c.args.uid c.args.offset c.args.kind.now
    c.lacks_at.result c.room_for.result (c.lacks_at.ensures p s k h who) (c.room_for.ensures p s h)))

pub returns-else-lacks_at : goal.returns-else-lacks_at
returns-else-lacks_at c = grind (arith, nat_tests, common_steps, held_told)
