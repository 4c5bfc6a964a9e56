use Rattle.machine_tables.proofs.Prelude.{Connect}
use Rattle.machine_tables.proofs.tables.Tables.look_at_fault.Goals as goal

pub returns-in-Some : goal.returns-in-Some
returns-in-Some g c = λ k. c.in-Some.ensures.first k (Connect c.args.reference.now.number c.args.uid)

pub returns-in-None : goal.returns-in-None
returns-in-None g c = λ k. c.in-None.ensures.first k (Connect c.args.reference.now.number c.args.uid)
