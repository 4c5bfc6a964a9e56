use Rattle.accounts.proofs.Laws.{segment_of, length_shown}
use Rattle.accounts.proofs.Accounts.set_length.Goals as goal

pub set_length-requires : goal.set_length-requires
set_length-requires c = segment_of c.self.inside.tree c.self.inside.cells c.self.view_is c.args.seg c.requires

pub returns : goal.returns
returns c = rw (← c.self.view_is) (length_shown c.self.inside.tree c.self.inside.cells c.args.seg c.args.pages
    c.set_length.ensures.tree)
