use Rattle.storage_ops.proofs.Prelude.{◌≡◌, refl, ap, ◌≤◌, true, frame_at, number_in, plain, record_of, has_record, has_segment, count_of}
use Rattle.storage_ops.proofs.Laws.{active_held, held, home_for_held, leaving_held, shown_held, page_counted, page_segment, may_release, shown_left, store_left, leaving_words, own_home}
use Rattle.storage_ops.proofs.store.Store.evict.Goals.{After-look}
use Rattle.storage_ops.proofs.store.Store.evict.Goals as goal

-- the page is of a segment, which has a stored page more than none
stored : (g : _) (c : After-look g) → (has_segment c.self.inside.accounts.nodes c.args.uid ≡ true)
    × (1 ≤ count_of c.self.inside.accounts c.args.uid)
stored g c =
    let t = held c.self.view_is in
    let active = active_held c.self.view_is c.requires.active in
    let number = number_in (frame_at t.segs.pages.core c.args.f) in
    let on = ap has_record (leaving_held c.self.view_is c.args.uid c.requires.leaving) in (
      page_segment c.look.ensures.kept c.self.invariant active number on,
      page_counted c.look.ensures.kept c.self.invariant active number on,
    )

pub invariant_of-self : goal.invariant_of-self
invariant_of-self g c =
    let t = held c.self.view_is in
    let home = home_for_held c.self.view_is g.D.Drive.pages c.requires.home in
    let leaving = leaving_held c.self.view_is c.args.uid c.requires.leaving in
    rw c.evict-left.ensures.links
    (store_left _ _ _ c.args.f c.look.ensures.kept c.self.invariant (active_held c.self.view_is c.requires.active)
    (own_home c.self.invariant.housed home) (ap has_record leaving) c.evict-left.ensures.counts c.evict-left.result
    (record_of (plain g.D.Drive.pages t.segs.pages) c.args.home (number_in (frame_at t.segs.pages.core c.args.f)))
    c.evict-left.ensures.effect c.evict-left.ensures.word c.evict-left.ensures.stored
    c.evict-left.ensures.taken c.settle.ensures)

pub returns-clause-shown : goal.returns-clause-shown
returns-clause-shown g c = λ p s h.
    let active = active_held c.self.view_is c.requires.active in
    let home = home_for_held c.self.view_is g.D.Drive.pages c.requires.home in
    let leaving = leaving_held c.self.view_is c.args.uid c.requires.leaving in
    rw (← c.self.view_is) (shown_left _ c.args.f c.evict-left.result c.look.ensures.kept c.self.invariant active
    (own_home c.self.invariant.housed home)
    (ap has_record leaving) refl c.evict-left.ensures.links c.evict-left.ensures.effect c.evict-left.ensures.stored
    c.evict-left.ensures.words c.evict-left.ensures.counts c.settle.ensures (shown_held c.self.view_is h))

pub settle-requires-clause-segment : goal.settle-requires-clause-segment
settle-requires-clause-segment g c = (stored g (goal.at.settle-requires-clause-segment g c).After-look).0

pub settle-requires-clause-stored : goal.settle-requires-clause-stored
settle-requires-clause-stored g c = (stored g (goal.at.settle-requires-clause-stored g c).After-look).1

pub returns-clause-no_call : goal.returns-clause-no_call
returns-clause-no_call g c = rw (← c.self.view_is) c.evict-left.ensures.no_call

pub returns-clause-may : goal.returns-clause-may
returns-clause-may g c = λ p s h is.
    let t = held c.self.view_is in
    let number = number_in (frame_at t.segs.pages.core c.args.f) in
    let active = active_held c.self.view_is c.requires.active in
    let leaving = leaving_held c.self.view_is c.args.uid c.requires.leaving in
    rw (← c.self.view_is) (may_release number c.look.ensures.kept
    c.self.invariant active (ap has_record leaving) (leaving_words c.look.ensures.kept c.self.invariant
    number active leaving) (c.evict-left.ensures.zeros.0 is) (shown_held c.self.view_is h))
