use Rattle.vtoc.proofs.Table.{arith, marked_new, table_new}
use Rattle.vtoc.proofs.Vtoc.new.Goals as goal

pub invariant_of-result : goal.invariant_of-result
invariant_of-result c = marked_new _ _ c.args.entries (omega arith) c.in_ok-in_use.ensures c.in_ok-slots.ensures

pub returns : goal.returns
returns c = table_new c.args.entries c.in_ok-slots.ensures
