use Rattle.machine_tables.proofs.Prelude.{ap, Parts}
use Rattle.machine_tables.proofs.ShownLaws.{written_shown}
use Rattle.machine_tables.proofs.tables.Tables.write.Goals as goal

pub returns-clause-shown : goal.returns-clause-shown
returns-clause-shown g c = λ p t h. written_shown g.D.Drive.pages c.args.self.now c.self.inside.store
    c.put_word.new.self p t c.args.f c.args.at c.args.w
    (ap (λ (x : Parts g.row.D.Denot). x.state.store) c.self.view_is) c.requires.bound (c.put_word.ensures.shown p t) h
