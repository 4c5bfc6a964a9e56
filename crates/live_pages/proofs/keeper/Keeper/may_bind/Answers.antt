use Rattle.live_pages.proofs.Ends.{holder_of, may_bind_by, may_bind_is_free}
use Rattle.live_pages.proofs.keeper.Keeper.may_bind.Goals as goal

pub returns-clause-no_holder : goal.returns-clause-no_holder
returns-clause-no_holder c = λ may. may_bind_is_free c.args.self.now.holder c.args.self.now.cleared c.args.f
    (rw (← c.self.view_is) c.self.invariant.cleared) (rw (← c.self.view_is) (may_bind_by c.self.inside.rows (holder_of
    c.self.inside.seat.me.0).watch c.self.inside.cleared c.args.f c.self.invariant.rows (c.may_bind.ensures.0 may)))
