use Rattle.accounts.proofs.Prelude.{◌+◌, stored_in}
use Rattle.accounts.proofs.Laws.{segment_of, charged_shown}
use Rattle.accounts.proofs.Accounts.charge.Goals as goal

pub charge-requires-clause-segment : goal.charge-requires-clause-segment
charge-requires-clause-segment c = segment_of c.self.inside.tree c.self.inside.cells c.self.view_is
    c.args.seg c.requires

pub returns-clause-answer : goal.returns-clause-answer
returns-clause-answer c = rw (← c.self.view_is) c.charge.ensures.scratch

pub returns-clause-ok : goal.returns-clause-ok
returns-clause-ok c =
    rw (← c.self.view_is) (charged_shown c.self.inside.tree c.self.inside.cells c.charge.new.self c.args.seg
    (stored_in c.self.inside.cells c.args.seg + 1) c.charge.result c.charge.ensures.quotas c.charge.ensures.stored)
