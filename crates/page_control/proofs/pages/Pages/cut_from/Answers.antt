use Rattle.page_control.proofs.Marks.{rules, written}
use Rattle.page_control.proofs.pages.Pages.cut_from.Goals as goal

pub returns : goal.returns
returns g c =
    let call = written c.cut_at.ensures.cut c.requires.bound c.cut_at.ensures.size in
    search (rules, call.shown)
