use Rattle.storage_ops.proofs.Prelude.{rules, ◌∙◌}
use Rattle.storage_ops.proofs.RoomsFound.{room_shown}
use Rattle.storage_ops.proofs.store.Store.room_for.Goals as goal

pub returns-clause-shown : goal.returns-clause-shown
returns-clause-shown g c = λ p s shows.
    ((search rules) ∙ room_shown g.D.Drive.pages p s c.args.self.now shows c.accounts-accounts.ensures.store c.args.uid
    (rw (← c.self.view_is) c.look.ensures.parts))
