use Rattle.bulk_store.proofs.Writes.{done, has_failed, on_err, on_ok, pages_full, stays_store, within_disk}
use Rattle.bulk_store.proofs.store.BulkStoreDrive.write_page.Goals as goal

pub write-requires-clause-within : goal.write-requires-clause-within
write-requires-clause-within g c = within_disk g.F.Drive.pages g.D.Drive.pages _ _ _ c.args.r c.self.view_is c.requires

pub invariant_of-self : goal.invariant_of-self
invariant_of-self g c =
    let within = within_disk g.F.Drive.pages g.D.Drive.pages _ _ _ c.args.r c.self.view_is c.requires in (
      stays_store c.write.result c.args.from.now c.self.invariant.0 within c.write.ensures.ok
          c.write.ensures.written.err,
      c.write.ensures.written.fast.few c.self.invariant.1,
      c.write.ensures.written.disk.few c.self.invariant.2,
      c.write.ensures.written.fast.full c.self.invariant.3,
      c.write.ensures.written.disk.full c.self.invariant.4,
    )

pub returns-clause-ok : goal.returns-clause-ok
returns-clause-ok g c =
    let within = within_disk g.F.Drive.pages g.D.Drive.pages _ _ _ c.args.r c.self.view_is c.requires in
    rw (← c.self.view_is) (on_ok c.write.result (λ is. (done c.self.invariant.0 within is).pages) c.write.ensures.ok)

pub returns-clause-list : goal.returns-clause-list
returns-clause-list g c =
    let within = within_disk g.F.Drive.pages g.D.Drive.pages _ _ _ c.args.r c.self.view_is c.requires in
    rw (← c.self.view_is) (on_ok c.write.result (λ is. (done c.self.invariant.0 within is).list) c.write.ensures.ok)

pub returns-clause-err : goal.returns-clause-err
returns-clause-err g c =
    rw (← c.self.view_is) (on_err c.write.result (λ is. (has_failed c.args.r c.self.invariant.0 is).pages)
    c.write.ensures.written.err)

pub returns-clause-full : goal.returns-clause-full
returns-clause-full g c =
    let within = within_disk g.F.Drive.pages g.D.Drive.pages _ _ _ c.args.r c.self.view_is c.requires in
    pages_full (stays_store c.write.result c.args.from.now c.self.invariant.0 within c.write.ensures.ok
    c.write.ensures.written.err)
    (c.write.ensures.written.fast.full c.self.invariant.3) (c.write.ensures.written.disk.full c.self.invariant.4)
