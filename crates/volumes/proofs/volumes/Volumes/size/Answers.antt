use Rattle.volumes.proofs.Prelude.{Vols, ap, arith, length, ◌<◌, ◌∙◌}
use Rattle.volumes.proofs.Parts.{size_of_records}
use Rattle.volumes.proofs.volumes.Volumes.size.Goals as goal

pub returns-clause-records : goal.returns-clause-records
returns-clause-records g c =
    let inside : c.args.v < length c.self.inside.drives.items =
    omega (arith, c.requires, ap (λ (vols : Vols _). length vols.drives) c.self.view_is) in
    rw (← c.self.view_is) (c.size.ensures.size ∙ size_of_records g.D.Drive.pages _ c.args.v c.self.invariant.0 inside
    c.index.ensures)
