use Rattle.machine_tables.proofs.MakeLaws.{seg_committed}
use Rattle.machine_tables.proofs.committing.make_seg.Goals as goal

pub returns : goal.returns
returns g c = seg_committed g.D.Drive.pages c.args.store.now c.make_seg-reply.new.self
    c.args.process c.args.path.now c.args.pages c.args.volume c.make_seg-reply.result
    c.look.ensures.columns c.look-2.ensures.columns c.look.ensures.below (assumption c.make_seg-reply.ensures)
    c.make_seg-reply.ensures.home c.make_seg-reply.ensures.rest
