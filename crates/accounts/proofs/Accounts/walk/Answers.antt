use Rattle.accounts.proofs.Accounts.walk.Goals as goal

pub returns-clause-answer : goal.returns-clause-answer
returns-clause-answer c = rw c.names.ensures.names at c.walk_down.ensures.answer
