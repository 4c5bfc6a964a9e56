use Rattle.vtoc.proofs.Table.{has_uid, names_none}
use Rattle.vtoc.proofs.Vtoc.names_none.Goals as goal

pub used-requires : goal.used-requires
used-requires c = has_uid c.self.invariant c.self.view_is c.args.e c.requires

pub returns : goal.returns
returns c = names_none c.self.invariant c.self.view_is c.args.e _ _ c.used.ensures c.names_none.ensures
