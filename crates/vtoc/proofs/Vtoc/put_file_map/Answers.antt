use Rattle.vtoc.proofs.Prelude.{ap, table_of, ◌∙◌}
use Rattle.vtoc.proofs.Table.{has_uid, put_marked, put_placed, put_table}
use Rattle.vtoc.proofs.Vtoc.put_file_map.Goals as goal

pub put-requires-clause-used : goal.put-requires-clause-used
put-requires-clause-used c = has_uid c.self.invariant c.self.view_is c.args.e c.requires.used

pub invariant_of-self : goal.invariant_of-self
invariant_of-self c =
    rw c.put.ensures (put_marked c.self.invariant c.self.view_is c.args.e c.args.p c.args.r c.requires.used)

pub returns-clause-map : goal.returns-clause-map
returns-clause-map c =
    ap table_of c.put.ensures ∙ put_table c.self.invariant c.self.view_is c.args.e c.args.p c.args.r

pub returns-clause-placed : goal.returns-clause-placed
returns-clause-placed c =
    rw (ap table_of c.put.ensures ∙ put_table c.self.invariant c.self.view_is c.args.e c.args.p c.args.r)
    (put_placed c.self.invariant c.self.view_is c.args.e c.args.p c.requires.used c.requires.page)
