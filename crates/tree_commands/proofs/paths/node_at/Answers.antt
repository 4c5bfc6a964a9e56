use Rattle.tree_commands.proofs.paths.node_at.Goals as goal

pub returns-clause-ok : goal.returns-clause-ok
returns-clause-ok c = rw c.names.ensures.names at c.node_below.ensures.ok

pub returns-clause-err : goal.returns-clause-err
returns-clause-err c = rw c.names.ensures.names at c.node_below.ensures.err
