use Rattle.dir_tree.proofs.Prelude.{◌≡◌, ap, is_some, both_ways, newest, shapes, superior_in, above_once, superior_up}
use Rattle.dir_tree.proofs.KeptLemmas.{superior_read, node_missing, up_in}
use Rattle.dir_tree.proofs.Tree.superior.Goals as goal

pub unreachable-requires : goal.unreachable-requires
unreachable-requires c =
    both_ways _ (ap is_some (node_missing c.self.invariant.0 c.args.uid c.in-None.ensures.none))
    (rw (← c.self.view_is) at c.requires)

pub returns-clause-above : goal.returns-clause-above
returns-clause-above c =
    let ns = shapes (newest c.self.inside.nodes.items c.self.inside.entries) in
    let up : superior_in ns c.args.uid ≡ c.in-Some.entry.superior =
    superior_read c.self.invariant.0 c.args.uid c.in-Some.entry c.in-Some.ensures.some in
    rw (← c.self.view_is) (cc (above_once ns c.self.invariant.0.tree c.args.uid))

pub returns-clause-falls : goal.returns-clause-falls
returns-clause-falls c =
    let ns = shapes (newest c.self.inside.nodes.items c.self.inside.entries) in
    let up = superior_read c.self.invariant.0 c.args.uid c.in-Some.entry c.in-Some.ensures.some in
    rw (← c.self.view_is) (up_in (newest c.self.inside.nodes.items c.self.inside.entries) c.args.uid
    c.in-Some.entry.superior (rw (← up) (superior_up ns c.self.invariant.0.tree c.args.uid)))
