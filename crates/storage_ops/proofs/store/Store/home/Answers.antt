use Rattle.storage_ops.proofs.Prelude.{arith, home_of, volume_found}
use Rattle.storage_ops.proofs.Laws.{there_held, all_drives, homed_volume}
use Rattle.storage_ops.proofs.store.Store.home.Goals as goal

pub returns-clause-volume : goal.returns-clause-volume
returns-clause-volume g c =
    let lt = homed_volume c.self.inside.segs.pages.volumes.vtocs (home_of c.self.inside.accounts c.args.uid)
    (c.self.invariant.housed.homes c.args.uid (there_held c.self.view_is c.args.uid c.requires)) in
    let all = all_drives g.D.Drive.pages c.self.inside.segs.pages.volumes c.look.ensures.parts in
    rw (volume_found c.self.inside.accounts.nodes c.args.uid _ c.in-Some.ensures.some)
    (rw (← c.self.view_is) (omega arith))
