use Rattle.machine_tables.proofs.Prelude.{ap, Parts}
use Rattle.machine_tables.proofs.ShownLaws.{shown_by}
use Rattle.machine_tables.proofs.tables.Tables.read.Goals as goal

pub returns-clause-shown : goal.returns-clause-shown
returns-clause-shown g c = λ p t h. shown_by g.D.Drive.pages c.args.self.now c.self.inside.store c.word.new.self p t t
    (ap (λ (x : Parts g.row.D.Denot). x.state.store) c.self.view_is) (c.word.ensures.shown p t) h
