use Rattle.machine_tables.proofs.CommitLaws.{initiate_committed}
use Rattle.machine_tables.proofs.committing.initiate.Goals as goal

pub returns : goal.returns
returns g c = initiate_committed g.D.Drive.pages c.args.store.now c.initiate.new.self c.args.process c.args.path.now
    c.initiate.result (assumption c.initiate.ensures) c.initiate.ensures.rest
