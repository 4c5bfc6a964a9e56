use Rattle.machine_tables.proofs.CommitLaws.{length_committed}
use Rattle.machine_tables.proofs.committing.set_length.Goals as goal

pub returns : goal.returns
returns g c = λ k. length_committed g.D.Drive.pages c.args.store.now c.set_length-reply.new.self k
    c.set_length-reply.result c.look.ensures.columns c.look-2.ensures.columns c.set_length-reply.ensures.rest
    c.args.path.now c.args.pages (assumption c.set_length-reply.ensures) c.set_length-reply.ensures.done
