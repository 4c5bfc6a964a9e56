use Rattle.assoc_mem.proofs.Clears.{all_cleared, page_cleared}
use Rattle.assoc_mem.proofs.Assoc.clear.Goals as goal

pub returns-in-All : goal.returns-in-All
returns-in-All c = all_cleared c.args.self.now _ _ _ c.in-All.is c.clear.ensures c.clear-in-All.ensures

pub returns-in-Page : goal.returns-in-Page
returns-in-Page c = page_cleared c.args.self.now _ _ _ _ _ c.self.view_is c.in-Page.is c.drop_frame.ensures
