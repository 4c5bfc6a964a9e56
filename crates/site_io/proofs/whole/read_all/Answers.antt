use Rattle.std.proofs.Common.{arith, ◌+◌}
use Rattle.std.proofs.lemmas.Grind.{common_steps}
use Rattle.site_io.proofs.Moves.{consumes_on}
use Rattle.site_io.proofs.whole.read_all.Goals as goal

pub returns-in_err-read_more-clause-front : goal.returns-in_err-read_more-clause-front
returns-in_err-read_more-clause-front g c =
    consumes_on (g.S.Source.left c.args.source.now) (g.S.Source.left c.loop-all.source)
    (g.S.Source.left c.read_more.new.source) c.loop-all.all.items _ (c.args.limit + 1)
    c.loop-all.invariant.bytes c.read_more.ensures.front (grind (arith, common_steps))
