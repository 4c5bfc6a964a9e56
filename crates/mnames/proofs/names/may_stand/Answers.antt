use Rattle.mnames.proofs.Prelude.{arith}
use Rattle.mnames.proofs.NameBytes.{name_bit}
use Rattle.mnames.proofs.names.may_stand.Goals as goal

pub returns : goal.returns
returns c = cc (name_bit c.args.byte (omega arith))
