use Rattle.std.proofs.lemmas.Grind.{common_steps}
use Rattle.custody.proofs.Prelude.{arith, nat_tests, node_in}
use Rattle.custody.proofs.NodeLaws.{node_found, no_node}
use Rattle.custody.proofs.store_rows.node.Goals as goal

pub returns-in-Some : goal.returns-in-Some
returns-in-Some c = grind (arith, nat_tests, common_steps, node_found)

pub returns-in-None : goal.returns-in-None
returns-in-None c = λ p s shown. no_node (node_in s.nodes c.args.uid) c.pool.result (c.pool.ensures p s shown)
    c.in-None.is
