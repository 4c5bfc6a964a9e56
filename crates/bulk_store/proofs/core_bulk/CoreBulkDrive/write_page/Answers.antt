use Rattle.bulk_store.proofs.Sure.{disk_once, disk_told, never_rises, other_cause, sure_call}
use Rattle.bulk_store.proofs.core_bulk.CoreBulkDrive.write_page.Goals as goal

pub returns-clause-sure : goal.returns-clause-sure
returns-clause-sure c =
    let never = never_rises c.self.inside.store.fast c.write_page.new.self.fast c.self.invariant.sure
    c.write_page.ensures.fast.same_plan in
    rw (← c.self.view_is) (λ alone. sure_call c.write_page.result never (c.write_page.ensures.cause alone))

pub returns-clause-rose : goal.returns-clause-rose
returns-clause-rose c =
    let never = never_rises c.self.inside.store.fast c.write_page.new.self.fast c.self.invariant.sure
    c.write_page.ensures.fast.same_plan in
    rw (← c.self.view_is) (other_cause _ _ c.write_page.result never c.write_page.ensures.either)

pub returns-clause-told : goal.returns-clause-told
returns-clause-told c = rw (← c.self.view_is) (disk_told c.write_page.ensures.counts)

pub returns-clause-once : goal.returns-clause-once
returns-clause-once c =
    let never = never_rises c.self.inside.store.fast c.write_page.new.self.fast c.self.invariant.sure
    c.write_page.ensures.fast.same_plan in
    rw (← c.self.view_is) (disk_once never c.write_page.ensures.counts)
