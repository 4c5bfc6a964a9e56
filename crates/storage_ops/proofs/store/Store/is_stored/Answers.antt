use Rattle.storage_ops.proofs.Prelude.{is_some, ap, ◌∙◌, Vols, vtoc_at, Storage, is_filed}
use Rattle.storage_ops.proofs.Laws.{home_held, there_held, record_told}
use Rattle.storage_ops.proofs.store.Store.is_stored.Goals as goal

pub returns : goal.returns
returns g c =
    let home = home_held c.self.view_is c.args.uid c.home-home.ensures.home in
    let table = c.vtoc-vtoc.ensures ∙ ap (λ (x : Vols g.row.D.Denot). vtoc_at x c.home-home.result.volume)
    c.volumes_at_rest.ensures in
    c.is_some.ensures ∙ ap is_some c.file_map.ensures
    ∙ record_told c.self.inside.accounts c.self.inside.segs.pages.volumes.vtocs c.args.uid
    (there_held c.self.view_is c.args.uid c.requires.there) home table c.args.page
    ∙ ap (λ (x : Storage g.row.D.Denot). is_filed x.accounts x.segs.pages.volumes.vtocs c.args.uid c.args.page)
    c.self.view_is
