use Rattle.dir_tree.proofs.Prelude.{ap, ◌∙◌, option_map, as_term, shapes, newest, has_chains, above_once}
use Rattle.dir_tree.proofs.KeptLemmas.{node_read, node_missing}
use Rattle.dir_tree.proofs.QuotaLemmas.{node_any, superior_is}
use Rattle.dir_tree.proofs.Tree.node.Goals as goal

pub returns-in_err-entry-clause-none : goal.returns-in_err-entry-clause-none
returns-in_err-entry-clause-none c = rw (c.from_residual.ensures, ← c.self.view_is)
    (node_missing c.self.invariant.0 c.args.uid c.in_err-entry.ensures.none)

pub returns-in_err-entry-clause-missing : goal.returns-in_err-entry-clause-missing
returns-in_err-entry-clause-missing c quota = rw (c.from_residual.ensures, ← c.self.view_is)
    (node_any quota (newest c.self.inside.nodes.items c.self.inside.entries) c.args.uid
    ∙ ap (option_map (as_term quota)) (node_missing c.self.invariant.0 c.args.uid c.in_err-entry.ensures.none))

pub returns-in_err-entry-clause-tree : goal.returns-in_err-entry-clause-tree
returns-in_err-entry-clause-tree c = rw (← c.self.view_is) c.self.invariant.0.tree

pub returns-in_err-entry-clause-chains : goal.returns-in_err-entry-clause-chains
returns-in_err-entry-clause-chains c = rw (← c.self.view_is)
    (has_chains (shapes (newest c.self.inside.nodes.items c.self.inside.entries)) c.self.invariant.0.tree)

pub returns-clause-some : goal.returns-clause-some
returns-clause-some c = rw (← c.self.view_is)
    (node_read c.self.invariant.0 c.args.uid c.in_ok-entry.entry c.in_ok-entry.ensures.some c.index.result.now
    c.index.ensures)

pub returns-clause-up : goal.returns-clause-up
returns-clause-up c = rw (← c.self.view_is) (cc (
  above_once (shapes (newest c.self.inside.nodes.items c.self.inside.entries)) c.self.invariant.0.tree c.args.uid,
  superior_is (newest c.self.inside.nodes.items c.self.inside.entries) c.args.uid
      c.index.result.now (node_read c.self.invariant.0 c.args.uid c.in_ok-entry.entry c.in_ok-entry.ensures.some
      c.index.result.now c.index.ensures),
))

pub returns-clause-term : goal.returns-clause-term
returns-clause-term c quota = rw (← c.self.view_is)
    (node_any quota (newest c.self.inside.nodes.items c.self.inside.entries) c.args.uid
    ∙ ap (option_map (as_term quota)) (node_read c.self.invariant.0 c.args.uid c.in_ok-entry.entry
    c.in_ok-entry.ensures.some c.index.result.now c.index.ensures))

pub returns-clause-tree : goal.returns-clause-tree
returns-clause-tree c = rw (← c.self.view_is) c.self.invariant.0.tree

pub returns-clause-chains : goal.returns-clause-chains
returns-clause-chains c = rw (← c.self.view_is) (has_chains
    (shapes (newest c.self.inside.nodes.items c.self.inside.entries)) c.self.invariant.0.tree)
