use Rattle.machine_tables.proofs.Prelude.{◌∙◌, ap, length, flat_of, Parts}
use Rattle.machine_tables.proofs.Laws.{inside_faithful, inside_shows, drive_each, more_volumes, command_is}
use Rattle.machine_tables.proofs.tables.Tables.command_refusal.Goals as goal

pub test-requires-clause-ranges : goal.test-requires-clause-ranges
test-requires-clause-ranges g c =
    let faithful = inside_faithful g.D.Drive.pages c.args.self.now c.self.inside.store
    (flat_of c.args.self.now.state) (ap (λ (t : Parts g.row.D.Denot). t.state.store) c.self.view_is)
    c.requires.faithful in
    more_volumes (length c.args.self.now.state.plan.volumes)
    (length c.self.inside.store.segs.pages.volumes.drives) c.args.command.now
    (drive_each g.D.Drive.pages c.self.inside.store.segs.pages.volumes.drives c.args.self.now.state.plan
    c.self.inside.store.segs.pages.volumes.records c.self.inside.store.segs.pages.volumes.vtocs c.requires.script
    faithful.script.records c.look.ensures.parts) c.requires.ranges

pub returns : goal.returns
returns g c = c.test.ensures c.args.self.now.state.plan (flat_of c.args.self.now.state)
    (inside_shows g.D.Drive.pages c.args.self.now c.self.inside.store (flat_of c.args.self.now.state)
    (ap (λ (t : Parts g.row.D.Denot). t.state.store) c.self.view_is) c.requires.faithful)
    ∙ command_is c.args.self.now.state c.args.process c.args.command.now c.requires.tree
