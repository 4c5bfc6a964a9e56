use Rattle.machine_tables.proofs.Prelude.{ap, Parts}
use Rattle.machine_tables.proofs.tables.Tables.copy_page.Goals as goal

pub returns-in-Ok-clause-shown : goal.returns-in-Ok-clause-shown
returns-in-Ok-clause-shown g c = λ p t h.
    rw (ap (λ (x : Parts g.row.D.Denot). x.state.store) c.self.view_is) (c.copy-copied.ensures.shown p t h)
