use Rattle.dir_tree.proofs.Prelude.{common_steps, ◌≡◌, [], arith, length-append, append-nil, above, shapes, has_chains, above_any, depth, nat_tests}
use Rattle.dir_tree.proofs.Tree.superiors.Goals as goal

pub push-requires : goal.push-requires
push-requires c =
    grind (
      arith,
      nat_tests,
      common_steps,
      depth (shapes c.args.self.now.nodes) c.in-Some.ensures.tree c.args.uid,
      length-append c.loop-superior.up.items (above (shapes c.args.self.now.nodes) c.loop-superior.at),
    )

pub returns-clause-above : goal.returns-clause-above
returns-clause-above c quota =
    let ns = shapes c.args.self.now.nodes in
    let none : above ns c.loop-superior.at ≡ [] = rw c.in_default.is at c.superior.ensures.above in
    cc (append-nil c.loop-superior.up.items, above_any quota c.args.self.now.nodes c.args.uid)

pub returns-clause-most : goal.returns-clause-most
returns-clause-most c = grind (arith, nat_tests, common_steps, append-nil, depth)

pub returns-clause-chains : goal.returns-clause-chains
returns-clause-chains c = has_chains (shapes c.args.self.now.nodes) c.superior.ensures.tree
