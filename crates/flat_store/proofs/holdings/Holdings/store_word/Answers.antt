use Rattle.flat_store.proofs.Prelude.{◌≡◌, true, sym, ◌∙◌, Plan, written, Store, Holds, has_room}
use Rattle.flat_store.specs.contracts.holdings.Holdings.{the_view}
use Rattle.flat_store.proofs.PutLaws.{store_shown, never_full}
use Rattle.flat_store.proofs.holdings.Holdings.store_word.Goals.{After-fill_at}
use Rattle.flat_store.proofs.holdings.Holdings.store_word.Goals as goal

pub unreachable-requires : goal.unreachable-requires
unreachable-requires c =
    let (p, s, h) = c.self.invariant in
    never_full c.args.uid c.in-Err.field-0 h
    (sym (c.has_room.ensures p s (rw c.self.view_is at h)) ∙ c.if-not-has_room.false)
    (c.in-Err.ensures.answer s.stored h.counts)

-- the word is stored
shown : (c : After-fill_at) {p : Plan} {s : Store} → Holds p (the_view c.self.inside) s → has_room p s c.args.uid ≡ true
    → Holds p (record (the_view c.self.inside) {
      accounts = c.charge.new.self;
      pages = c.put.new.self;
      records = c.fill_at.new.gauges.items;
    }) (written s c.args.uid c.args.offset c.args.word)
shown c h room =
    let asked = rw (← c.self.view_is) at c.requires in
    store_shown c.args.uid c.args.offset c.args.word h asked.segment asked.within asked.absent asked.other room
    c.in-Ok.ensures.ok c.in_ok-put.ensures.ok c.volume_of-volume.result c.volume_of-volume.ensures c.fill_at.ensures

pub invariant_of-self-in-Ok : goal.invariant_of-self-in-Ok
invariant_of-self-in-Ok c =
    let (p, s, h) = c.self.invariant in
    (p, _, shown c h (sym (c.has_room.ensures p s (rw c.self.view_is at h)) ∙ c.if-not-has_room.false))

pub returns-clause-ok : goal.returns-clause-ok
returns-clause-ok c = λ p s h room. shown c (rw (← c.self.view_is) at h) room
