use Rattle.accounts.proofs.Laws.{segment_of}
use Rattle.accounts.proofs.Accounts.may_charge.Goals as goal

pub may_charge-requires-clause-segment : goal.may_charge-requires-clause-segment
may_charge-requires-clause-segment c = segment_of c.self.inside.tree c.self.inside.cells c.self.view_is
    c.args.seg c.requires

pub returns : goal.returns
returns c = rw (← c.self.view_is) c.may_charge.ensures
