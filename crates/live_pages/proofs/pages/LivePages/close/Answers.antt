use Rattle.live_pages.proofs.AllIn.{AtEnd, all_are_in, ap, ended, pages_left, slots_held, slots_items, sym, ◌∙◌}
use Rattle.live_pages.proofs.pages.LivePages.close.Goals as goal

pub take_pages-requires-clause-held : goal.take_pages-requires-clause-held
take_pages-requires-clause-held c =
    let seen = c.keeper.view_is ∙ c.show-shown.ensures.keeper ∙ c.take_all_in.ensures.taken in
    slots_held (ended c.self.inside.table.shared.key _ _ (slots_items c.close_with-closed.result.slots)
    c.self.invariant.frames (cc) c.keeper.invariant.seat (ap (λ v. v.holder) seen) c.keeper.invariant.hand
    (all_are_in c.args.self c.args.passes.items c.args.keeper.holder c.requires.keeper.parts c.requires.all)
    c.close_with-closed.ensures.values.2)

-- the seat that is left shows what the keeper knew with the touches of every pass
shown : (c : goal.After-drop-keeper-inside-2)
    → AtEnd c.args.self.frames c.args.self.cpus c.show-shown.result (slots_items c.close_with-closed.result.slots)
shown c = ended c.self.inside.table.shared.key _ _
    (slots_items c.close_with-closed.result.slots) (c.self.invariant.frames ∙ ap (λ v. v.frames) c.self.view_is)
    (c.self.invariant.cpus ∙ ap (λ v. v.cpus) c.self.view_is) c.keeper.invariant.seat (ap (λ v. v.holder)
    (c.keeper.view_is ∙ c.show-shown.ensures.keeper) ∙ sym c.show-shown.ensures.shown) c.keeper.invariant.hand
    (rw (c.show-shown.ensures.shown, c.take_all_in.ensures.taken) (all_are_in c.args.self c.args.passes.items
    c.args.keeper.holder c.requires.keeper.parts c.requires.all)) c.close_with-closed.ensures.values.2

pub returns-clause-one_thread : goal.returns-clause-one_thread
returns-clause-one_thread c = (shown c).legal.0

pub returns-clause-left : goal.returns-clause-left
returns-clause-left c = pages_left c.take_pages.new.pages.items (shown c)
    (c.take_pages.ensures.count ∙ ap (λ v. v.frames) c.self.view_is) c.take_pages.ensures.pages
