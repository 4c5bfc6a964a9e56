use Rattle.std.proofs.lemmas.Grind.{common_steps}
use Rattle.flat_store.proofs.Prelude.{nat_tests, sym, arith}
use Rattle.flat_store.proofs.MoveLaws.{lacks_none, lacks_nothing, lacks_within}
use Rattle.flat_store.proofs.NodeLaws.{pages_held}
use Rattle.flat_store.proofs.ReplyLaws.{node_shown}
use Rattle.flat_store.proofs.holdings.Holdings.lacks_at.Goals as goal

pub lacks_record-requires : goal.lacks_record-requires
lacks_record-requires c = pages_held c.self.invariant.2 (sym c.self.view_is) c.args.uid c.in-Some.ensures.some
    (omega (arith, c.if-offset-node.false))

pub returns : goal.returns
returns c = λ p s k h who. lacks_within p s k c.args.uid c.args.offset c.args.kind.now
    (node_shown (rw (← c.self.view_is) at h) c.args.uid c.in-Some.node.now c.in-Some.ensures.some)
    (rw (← who, ← c.access_of.ensures, ← c.permitted_by.ensures) c.if-not-permitted_by.false) c.if-offset-node.false
    (c.lacks_record.ensures p s h)

pub returns-then-not-alters : goal.returns-then-not-alters
returns-then-not-alters c = grind (arith, nat_tests, common_steps, lacks_none)

pub returns-then-not-is_volume_full : goal.returns-then-not-is_volume_full
returns-then-not-is_volume_full c = grind (arith, nat_tests, common_steps, lacks_nothing, node_shown)
