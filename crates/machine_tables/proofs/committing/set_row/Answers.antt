use Rattle.machine_tables.proofs.CommitLaws.{row_committed}
use Rattle.machine_tables.proofs.committing.set_row.Goals as goal

pub returns : goal.returns
returns g c = λ k. row_committed g.D.Drive.pages c.args.store.now c.set_acl-reply.new.self k
    c.set_acl-reply.result c.look.ensures.columns c.look-2.ensures.columns c.set_acl-reply.ensures.rest
    c.args.path.now c.args.row.now c.args.mode (assumption c.set_acl-reply.ensures) c.set_acl-reply.ensures.done
