use Rattle.machine_tables.proofs.Prelude.{◌∙◌, ap, flat_of, Parts}
use Rattle.machine_tables.proofs.Laws.{inside_shows, moves_is}
use Rattle.machine_tables.proofs.tables.Tables.move_to.Goals as goal

pub returns : goal.returns
returns g c = c.move_target.ensures.shown c.args.self.now.state.plan (flat_of c.args.self.now.state)
    (inside_shows g.D.Drive.pages c.args.self.now c.self.inside.store (flat_of c.args.self.now.state)
    (ap (λ (t : Parts g.row.D.Denot). t.state.store) c.self.view_is) c.requires.looks.keeps.faithful)
    ∙ moves_is c.args.self.now.state c.args.uid
