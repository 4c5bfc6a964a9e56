use Rattle.flat_store.proofs.Prelude.{refl, sym, ◌∙◌}
use Rattle.flat_store.proofs.MoveLaws.{lacks_told}
use Rattle.flat_store.proofs.holdings.Holdings.lacks_record.Goals as goal

pub returns-then-is_ok : goal.returns-then-is_ok
returns-then-is_ok c = λ p s h.
    let holds = rw (← c.self.view_is) at h in
    lacks_told c.args.uid c.args.volume c.args.offset c.args.kind.now holds (c.stores_page.ensures p s h)
    c.if-stores_page.true (c.may_charge.ensures s.stored holds.counts) (sym c.is_ok.ensures.value ∙ c.if-is_ok.true)
    (rw (← c.deref.ensures.value) c.is_full_at.ensures.used)

pub returns-else-stores_page : goal.returns-else-stores_page
returns-else-stores_page c = λ p s h. rw (← c.stores_page.ensures p s h, c.if-stores_page.false) refl
