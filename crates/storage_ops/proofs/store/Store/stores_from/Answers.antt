use Rattle.storage_ops.proofs.Prelude.{ap, ◌∙◌, Vols, vtoc_at}
use Rattle.storage_ops.proofs.Laws.{held, home_held, shown_held, there_held, from_told, within_told}
use Rattle.storage_ops.proofs.store.Store.stores_from.Goals as goal

pub returns-clause-answer : goal.returns-clause-answer
returns-clause-answer g c = λ p s h.
    let here = held c.self.view_is in
    let home = home_held c.self.view_is c.args.uid c.home-home.ensures.home in
    let shown = shown_held c.self.view_is h in
    let table = c.vtoc.ensures ∙ ap (λ (x : Vols g.row.D.Denot). vtoc_at x c.home-home.result.volume)
    c.volumes_at_rest.ensures in
    from_told here.accounts here.segs.pages.volumes.vtocs c.args.uid
    (there_held c.self.view_is c.args.uid c.requires.there) home table
    s.stored c.args.from c.names_from.result shown.pages.stored c.self.invariant.counted c.names_from.ensures.some
    (rw (← c.pages_of-length.ensures) c.names_from.ensures.none)

pub returns-clause-none : goal.returns-clause-none
returns-clause-none g c = λ off q on.
    let here = held c.self.view_is in
    let home = home_held c.self.view_is c.args.uid c.home-home.ensures.home in
    let table = c.vtoc.ensures ∙ ap (λ (x : Vols g.row.D.Denot). vtoc_at x c.home-home.result.volume)
    c.volumes_at_rest.ensures in
    within_told here.accounts here.segs.pages.volumes.vtocs c.args.uid
    (there_held c.self.view_is c.args.uid c.requires.there)
    home table c.args.from c.names_from.result c.self.invariant.counted (rw (← c.pages_of-length.ensures)
    c.names_from.ensures.none) off q (cc (c.self.view_is, on))
