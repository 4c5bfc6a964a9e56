use Rattle.machine_tables.proofs.Prelude.{ap, rules, Parts}
use Rattle.machine_tables.proofs.Laws.{left_is, left_stays, left_shown}
use Rattle.machine_tables.proofs.tables.Tables.empty_frame.Goals as goal

pub returns-clause-how : goal.returns-clause-how
returns-clause-how g c = rw (← c.self.view_is) (left_is c.evict.result _ c.evict.ensures.zeros)

pub returns-clause-zeros : goal.returns-clause-zeros
returns-clause-zeros g c = rw (← c.self.view_is) (left_stays c.evict.result _ c.evict.ensures.zeros)

pub returns-clause-shown : goal.returns-clause-shown
returns-clause-shown g c = left_shown g.D.Drive.pages c.args.self.now c.self.inside.store c.evict.new.self c.args.f _
    c.evict.result (ap (λ (x : Parts g.row.D.Denot). x.state.store) c.self.view_is) c.requires.leaving.bound
    (search rules) (λ p t. c.evict.ensures.shown p t)
