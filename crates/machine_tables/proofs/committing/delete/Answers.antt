use Rattle.machine_tables.proofs.DeletedLaws.{delete_committed}
use Rattle.machine_tables.proofs.committing.delete.Goals as goal

pub returns : goal.returns
returns g c = λ k frames owns. delete_committed g.D.Drive.pages c.args.store.now c.delete-reply.new.self
    c.args.path.now c.delete-reply.result c.look.ensures.columns c.look-2.ensures.columns c.look.ensures.tree
    c.look-2.ensures.tree c.look.ensures.kept c.look.ensures.store c.look-2.ensures.store c.look.ensures.parts
    c.delete-reply.ensures.rest k frames owns (assumption c.delete-reply.ensures) c.delete-reply.ensures.exact
