use Rattle.accounts.proofs.Laws.{directory_of}
use Rattle.accounts.proofs.Accounts.may_add.Goals as goal

pub may_add-requires : goal.may_add-requires
may_add-requires c = directory_of c.self.inside.tree c.self.inside.cells c.self.view_is c.args.superior c.requires
