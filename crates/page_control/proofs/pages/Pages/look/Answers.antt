use Rattle.page_control.proofs.Looks.{seen}
use Rattle.page_control.proofs.pages.Pages.look.Goals as goal

pub returns-clause-seen : goal.returns-clause-seen
returns-clause-seen g c = λ uid home tie. seen c.args.p c.get.result c.get.ensures tie
