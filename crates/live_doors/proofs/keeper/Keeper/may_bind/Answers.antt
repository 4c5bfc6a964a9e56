use Rattle.live_doors.proofs.Prelude.{may_bind_by, watch_of}
use Rattle.live_doors.proofs.Keeps.{may_bind_is_free}
use Rattle.live_doors.proofs.keeper.Keeper.may_bind.Goals as goal

pub returns-clause-no_holder : goal.returns-clause-no_holder
returns-clause-no_holder c = λ may. may_bind_is_free c.args.self.now.watch c.args.self.now.cleared c.args.f
    (rw (← c.self.view_is) c.self.invariant.cleared) (rw (← c.self.view_is) (may_bind_by c.self.inside.rows
    (watch_of c.self.inside.seat.me.0) c.self.inside.cleared c.args.f c.self.invariant.rows (c.may_bind.ensures.0 may)))
