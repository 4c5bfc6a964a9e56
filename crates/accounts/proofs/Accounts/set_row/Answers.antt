use Rattle.accounts.proofs.Prelude.{arith, nat_tests, common_steps}
use Rattle.accounts.proofs.Laws.{segment_of, segment_found, rows_shown, row_set, row_refused}
use Rattle.accounts.proofs.Accounts.set_row.Goals as goal

pub acl_mut-requires : goal.acl_mut-requires
acl_mut-requires c = segment_of c.self.inside.tree c.self.inside.cells c.self.view_is c.args.seg c.requires

pub prove-unreachable-requires : goal.prove-unreachable-requires
prove-unreachable-requires c = segment_found c.self.inside.tree.nodes c.args.seg c.node.result (cc) c.node.ensures.none
    (segment_of c.self.inside.tree c.self.inside.cells c.self.view_is c.args.seg c.requires)

pub returns-clause-full : goal.returns-clause-full
returns-clause-full c = grind (arith, nat_tests, common_steps, rows_shown)

pub returns-clause-ok : goal.returns-clause-ok
returns-clause-ok c = rw (← c.self.view_is) (row_set c.self.inside.tree c.self.inside.cells c.node.ensures.tree
    c.args.seg (record { person = c.args.row.person; project = c.args.row.project; mode = c.args.mode }) c.set.new.self
    c.set.result c.acl_mut.ensures.value c.set.ensures.ok)

pub returns-clause-err : goal.returns-clause-err
returns-clause-err c = grind (arith, nat_tests, common_steps, row_refused)
