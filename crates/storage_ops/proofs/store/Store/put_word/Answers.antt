use Rattle.storage_ops.proofs.Prelude.{◌∙◌, frame_at, number_in, plain, home_of, Tied_uid_in as uid_in}
use Rattle.storage_ops.proofs.Laws.{bound_held, held, shown_held, active_there, bound_active, bound_filed, bound_words, shown_put, written_there}
use Rattle.storage_ops.proofs.store.Store.put_word.Goals as goal

pub returns-clause-shown : goal.returns-clause-shown
returns-clause-shown g c = λ p s h.
    let t = held c.self.view_is in
    let old = plain g.D.Drive.pages t.segs.pages in
    let uid = uid_in (frame_at t.segs.pages.core c.args.f) in
    let number = number_in (frame_at t.segs.pages.core c.args.f) in
    let bound = bound_held c.self.view_is c.args.f c.requires.bound in
    let shown = shown_held c.self.view_is h in
    let stored = shown.pages.stored uid number ∙ bound_filed c.look.ensures.kept c.self.invariant c.args.f bound in
    rw (← c.self.view_is) (rw (← written_there s uid number c.args.at c.args.w c.requires.at stored)
    (shown_put uid number c.args.w c.put_word.ensures.links c.put_word.ensures.volumes
    (active_there c.look.ensures.kept c.self.invariant
    (bound_active c.look.ensures.kept c.args.f bound)) c.put_word.ensures.words
    (bound_words c.look.ensures.kept c.args.f bound (home_of t.accounts uid))
    c.put_word.ensures.size c.requires.at shown))
