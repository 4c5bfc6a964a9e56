use Rattle.machine_tables.proofs.Prelude.{rules, w32, to_z-of_z}
use mir.Val.{SFits, of_z, to_z}
use Rattle.machine_tables.proofs.CommitLaws.{move_committed}
use Rattle.machine_tables.proofs.committing.move_quota.Goals as goal

pub returns : goal.returns
returns g c = λ k.
    let fits : SFits w32 c.args.amount.now = search rules in
    rw (to_z-of_z w32 c.args.amount.now fits) at
    (move_committed g.D.Drive.pages c.args.store.now c.move_quota-reply.new.self k c.move_quota-reply.result
    c.look.ensures.columns c.look-2.ensures.columns c.move_quota-reply.ensures.rest
    c.args.path.now (to_z w32 (of_z w32 c.args.amount.now)) (assumption c.move_quota-reply.ensures)
    c.move_quota-reply.ensures.done)
