use Rattle.accounts.proofs.Laws.{there_of}
use Rattle.accounts.proofs.Accounts.chain.Goals as goal

pub chain-requires : goal.chain-requires
chain-requires c = there_of c.self.inside.tree c.self.inside.cells c.self.view_is c.args.uid c.requires
