use Rattle.vtoc.proofs.Prelude.{ap, arith, length, sym, ◌∙◌}
use Rattle.vtoc.proofs.Table.{kept, length_table}
use Rattle.vtoc.proofs.Vtoc.uid_at.Goals as goal

pub uid-requires : goal.uid-requires
uid-requires c = omega (arith, c.requires, ap length c.self.view_is, length_table c.self.inside.slots)

pub returns : goal.returns
returns c = c.uid.ensures ∙ sym (kept c.self.invariant c.self.view_is c.args.e).uid
