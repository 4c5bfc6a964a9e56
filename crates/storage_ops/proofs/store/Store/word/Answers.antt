use Rattle.storage_ops.proofs.Prelude.{frame_at, number_in, plain, home_of, Tied_uid_in as uid_in}
use Rattle.storage_ops.proofs.Laws.{bound_held, held, shown_held, active_there, bound_active, bound_words, word_at}
use Rattle.storage_ops.proofs.store.Store.word.Goals as goal

pub returns-clause-told : goal.returns-clause-told
returns-clause-told g c = λ p s h.
    let t = held c.self.view_is in
    let old = plain g.D.Drive.pages t.segs.pages in
    let frame = frame_at t.segs.pages.core c.args.f in
    let bound = bound_held c.self.view_is c.args.f c.requires.bound in
    rw (← c.self.view_is) (cc (word_at (number_in frame) c.args.at (active_there c.look.ensures.kept c.self.invariant
    (bound_active c.look.ensures.kept c.args.f bound)) (bound_words c.look.ensures.kept c.args.f bound
    (home_of t.accounts (uid_in frame))) c.requires.at (shown_held c.self.view_is h)))
