use Rattle.page_control.proofs.Prelude.{Plain, ap, plain, rules}
use Rattle.page_control.proofs.Erasing.{has_erased, taken_erased, used_erased}
use Rattle.page_control.proofs.pages.Pages.erase.Goals as goal

pub returns : goal.returns
returns g c =
    let erased = has_erased (plain g.D.Drive.pages c.args.self.now) c.args.home c.erase_all.ensures.erased
    c.requires.home c.erase_all.ensures.records in
    let used = used_erased c.args.self.now.volumes.vtocs _ _ c.args.home
    (ap (λ (s : Plain). s.vtocs) c.erase_all.ensures.erased) c.requires.home in
    let taken = taken_erased (plain g.D.Drive.pages c.args.self.now) _ c.args.home c.erase_all.ensures.erased
    c.erase_all.ensures.taken in
    search (rules, erased.uids, erased.maps, erased.ties, erased.stored, erased.zeros, erased.words, taken)
