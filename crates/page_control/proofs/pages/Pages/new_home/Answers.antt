use Rattle.page_control.proofs.Homes.{is_asked, plain_volume, rules}
use Rattle.page_control.proofs.pages.Pages.new_home.Goals as goal

pub returns : goal.returns
returns g c =
    let volume = plain_volume g.D.Drive.pages c.args.self.now c.args.volume c.requires in
    let asked = is_asked c.ask.ensures.asked volume in
    search (rules, asked.maps, asked.homes, asked.uids, asked.records, asked.tie, asked.zeros)
