use Rattle.seg_mover.proofs.Copying.{err_from_is_err_and, read_failed, read_then}
use Rattle.seg_mover.proofs.copy_record.Goals as goal

pub returns-in_err-read_page-clause-drives : goal.returns-in_err-read_page-clause-drives
returns-in_err-read_page-clause-drives g c =
    let p = err_from_is_err_and c.from_residual.result c.from_residual.ensures.1 in
    let ens = c.in_err-read_page.ensures in
    read_failed g.D.Drive.plan g.D.Drive.places g.D.Drive.faults c.args.to.0 c.from_residual.result _ p.1 ens.plans
    ens.places ens.count ens.others ens.grows ens.once ens.its ens.rose

pub returns-clause-drives : goal.returns-clause-drives
returns-clause-drives g c =
    let ens = c.in_ok-read_page.ensures in
    let then = c.write_page.ensures in
    read_then g.D.Drive.plan g.D.Drive.places g.D.Drive.faults c.args.v.now.drives c.read_page.new.self.drives
    c.write_page.new.self.drives c.args.from.0 c.args.to.0 c.write_page.result ens.plans ens.places ens.count ens.others
    ens.told then.plans then.places then.count then.others then.grows then.told then.once then.its then.rose
