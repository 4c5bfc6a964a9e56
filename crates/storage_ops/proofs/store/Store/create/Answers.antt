use Rattle.storage_ops.proofs.Prelude.{◌≡◌, Some, known_uid}
use Rattle.storage_ops.proofs.Laws.{shown_held, ok_then, written_made}
use Rattle.storage_ops.proofs.store.Store.create.Goals as goal

pub returns-clause-shown : goal.returns-clause-shown
returns-clause-shown g c = ok_then c.store_page.result (λ told p s h.
    let known : known_uid s c.args.process c.args.number ≡ Some c.in-Some.uid
    = cc ((shown_held c.self.view_is h).known, c.kst.ensures.kst, c.in-Some.ensures.uid) in
    rw (← written_made s c.args.process c.args.number c.args.offset c.args.w known c.requires.word)
    (told p s h)) c.store_page.ensures.shown
