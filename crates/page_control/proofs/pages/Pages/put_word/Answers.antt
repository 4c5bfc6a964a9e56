use Rattle.page_control.proofs.Marks.{rules, written}
use Rattle.page_control.proofs.pages.Pages.put_word.Goals as goal

pub returns : goal.returns
returns g c =
    let call = written c.put_at.ensures.put c.requires.bound c.put_at.ensures.size in
    search (rules, call.shown)
