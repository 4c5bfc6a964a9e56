use Rattle.machine_tables.proofs.MakeLaws.{dir_committed}
use Rattle.machine_tables.proofs.committing.make_dir.Goals as goal

pub returns : goal.returns
returns g c = λ k. dir_committed g.D.Drive.pages c.args.store.now c.make_dir-reply.new.self
    k c.args.path.now c.args.volume c.make_dir-reply.result
    c.look.ensures.columns c.look-2.ensures.columns c.look.ensures.below (assumption c.make_dir-reply.ensures)
    c.make_dir-reply.ensures.home c.make_dir-reply.ensures.rest
