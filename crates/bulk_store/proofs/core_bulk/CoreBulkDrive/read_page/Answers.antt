use Rattle.bulk_store.proofs.Sure.{disk_once, disk_told, never_rises, read_cause, sure_read}
use Rattle.bulk_store.proofs.core_bulk.CoreBulkDrive.read_page.Goals as goal

pub returns-clause-sure : goal.returns-clause-sure
returns-clause-sure c =
    let never = never_rises c.self.inside.store.fast c.read_page.new.self.fast c.self.invariant.sure
    c.read_page.ensures.fast.same_plan in
    rw (← c.self.view_is) (sure_read _ c.read_page.result never c.read_page.ensures.held_rose)

pub returns-clause-rose : goal.returns-clause-rose
returns-clause-rose c =
    let never = never_rises c.self.inside.store.fast c.read_page.new.self.fast c.self.invariant.sure
    c.read_page.ensures.fast.same_plan in
    rw (← c.self.view_is) (read_cause _ _ _ c.read_page.result never c.read_page.ensures.held_rose
    c.read_page.ensures.other_rose)

pub returns-clause-told : goal.returns-clause-told
returns-clause-told c = rw (← c.self.view_is) (disk_told c.read_page.ensures.counts)

pub returns-clause-once : goal.returns-clause-once
returns-clause-once c =
    let never = never_rises c.self.inside.store.fast c.read_page.new.self.fast c.self.invariant.sure
    c.read_page.ensures.fast.same_plan in
    rw (← c.self.view_is) (disk_once never c.read_page.ensures.counts)
