use Rattle.bulk_store.proofs.Writes.{read_done, within_disk}
use Rattle.bulk_store.proofs.store.BulkStoreDrive.read_page.Goals as goal

pub read-requires-clause-within : goal.read-requires-clause-within
read-requires-clause-within g c = within_disk g.F.Drive.pages g.D.Drive.pages _ _ _ c.args.r c.self.view_is c.requires

pub returns-clause-ok : goal.returns-clause-ok
returns-clause-ok g c =
    let within = within_disk g.F.Drive.pages g.D.Drive.pages _ _ _ c.args.r c.self.view_is c.requires in
    rw (← c.self.view_is) (read_done c.read.result _ _ _ c.args.r c.read.new.to within c.read.ensures.ok)
