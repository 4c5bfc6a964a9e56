use Rattle.accounts.proofs.Laws.{segment_of, recounted}
use Rattle.accounts.proofs.Accounts.credit.Goals as goal

pub credit_pages-requires-clause-segment : goal.credit_pages-requires-clause-segment
credit_pages-requires-clause-segment c = segment_of c.self.inside.tree c.self.inside.cells
    c.self.view_is c.args.seg c.requires.segment

pub returns : goal.returns
returns c = rw (← c.self.view_is) (recounted c.self.inside.tree c.self.inside.cells c.credit_pages.new.self
    c.credit_pages.ensures.quotas c.credit_pages.ensures.stored)
