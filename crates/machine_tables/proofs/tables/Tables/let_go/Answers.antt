use Rattle.machine_tables.proofs.LeftLaws.{left_exact}
use Rattle.machine_tables.proofs.tables.Tables.let_go.Goals as goal

pub returns-clause-ok : goal.returns-clause-ok
returns-clause-ok g c = left_exact c.args.self.now c.empty_frame-left.new.self c.args.f c.empty_frame-left.result
    c.accounts.ensures.columns c.accounts-2.ensures.columns c.empty_frame-left.ensures.settled
    c.empty_frame-left.ensures.ok
