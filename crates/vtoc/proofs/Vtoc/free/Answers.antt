use Rattle.vtoc.proofs.Prelude.{ap, table_of, ◌∙◌}
use Rattle.vtoc.proofs.Table.{count_freed, free_marked, free_table, has_uid, used_bit}
use Rattle.vtoc.proofs.Vtoc.free.Goals as goal

pub give_back-requires : goal.give_back-requires
give_back-requires c = used_bit c.self.invariant c.self.view_is c.args.e c.requires.used

pub clear-requires : goal.clear-requires
clear-requires c = has_uid c.self.invariant c.self.view_is c.args.e c.requires.used

pub invariant_of-self : goal.invariant_of-self
invariant_of-self c =
    rw c.clear.ensures (free_marked c.self.invariant c.self.view_is c.requires.used c.requires.empty
    c.give_back.ensures.flags)

pub returns-clause-entries : goal.returns-clause-entries
returns-clause-entries c =
    ap table_of c.clear.ensures ∙ free_table c.self.invariant c.self.view_is c.args.e

pub returns-clause-count : goal.returns-clause-count
returns-clause-count c =
    rw (ap table_of c.clear.ensures ∙ free_table c.self.invariant c.self.view_is c.args.e)
    (count_freed _ c.args.e c.requires.used)
