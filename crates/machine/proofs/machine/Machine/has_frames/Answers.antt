use Rattle.machine.proofs.Prelude.{◌∙◌, ap, map, subst, All, All-map, HaveFullPages, Vols, Paging, Control, Storage}
use Rattle.machine.proofs.Laws.{drives_in_move, told_back, has_no_zeros, all_visited}
use Rattle.machine.proofs.machine.Machine.has_frames.Goals as goal

pub returns-clause-told : goal.returns-clause-told
returns-clause-told g c = rw (← c.self.view_is) (λ past. told_back c.self.inside.tables.state
    c.self.invariant.keeps.machine.keeps (all_visited c.self.inside.tables.state c.self.invariant.visits
    (let visited = c.visited.ensures in let frames = c.frames.ensures in let script = c.script.ensures in
    let book = c.book.ensures.script in cc)))

pub returns-clause-zeros : goal.returns-clause-zeros
returns-clause-zeros g c =
    let pages = ap (λ (x : Control g.row.D.Denot). x.pages) c.segs.ensures.segs in
    let drives = ap (λ (x : Vols g.row.D.Denot). map g.D.Drive.pages x.drives)
    (c.volumes.ensures.volumes ∙ ap (λ (x : Paging g.row.D.Denot). x.volumes) c.pages-pages.ensures.pages)
    ∙ (ap (map g.D.Drive.pages) (drives_in_move _ _)
    ∙ ap (λ (x : Paging g.row.D.Denot). map g.D.Drive.pages x.volumes.drives) pages) in
    rw (← c.self.view_is) (λ past. has_no_zeros c.self.inside.tables.state c.self.invariant.keeps.machine.keeps
    (subst HaveFullPages (ap (λ (x : Paging g.row.D.Denot). x.frames) c.pages-pages.ensures.pages
    ∙ ap (λ (x : Paging g.row.D.Denot). x.frames) pages
    ∙ ap (λ (st : Storage). st.pages.frames) c.store.ensures.store) c.frames-frames.ensures.full)
    (subst (All HaveFullPages) (drives ∙ ap (λ (st : Storage). st.pages.disks) c.store.ensures.store)
    (All-map HaveFullPages g.D.Drive.pages _ c.promise.ensures.full))
    (all_visited c.self.inside.tables.state c.self.invariant.visits
    (let visited = c.visited.ensures in let frames = c.frames.ensures in let script = c.script.ensures in
    let book = c.book.ensures.script in cc)))
