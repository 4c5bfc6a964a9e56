use Rattle.machine_tables.proofs.CommitLaws.{terminate_committed}
use Rattle.machine_tables.proofs.committing.terminate.Goals as goal

pub returns : goal.returns
returns g c = terminate_committed g.D.Drive.pages c.args.store.now c.terminate.new.self c.args.process c.args.number
    c.terminate.result (assumption c.terminate.ensures) c.terminate.ensures.rest
