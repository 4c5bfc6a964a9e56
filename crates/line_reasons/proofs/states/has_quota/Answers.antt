use Rattle.line_reasons.proofs.DueLaws.{no_quota}
use Rattle.line_reasons.proofs.states.has_quota.Goals as goal

pub returns-in-None : goal.returns-in-None
returns-in-None c = λ p s shows.
    no_quota s c.accounts-accounts.result.now.nodes c.args.uid c.args.quota
    (c.accounts-accounts.ensures.nodes p s shows) c.in-None.ensures.none
