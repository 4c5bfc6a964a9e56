use Rattle.page_control.proofs.Pictures.{plain, shown_out}
use Rattle.page_control.proofs.pages.Pages.into_volumes.Goals as goal

pub returns-clause-away : goal.returns-clause-away
returns-clause-away g c = λ uid p home away. shown_out (plain g.D.Drive.pages c.args.self) uid p home
    (λ f at. away (f, at))
