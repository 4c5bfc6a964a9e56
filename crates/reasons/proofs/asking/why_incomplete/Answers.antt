use Rattle.reasons.proofs.AskLaws.{complete_told}
use Rattle.reasons.proofs.asking.why_incomplete.Goals as goal

pub returns-in-None-clause-none : goal.returns-in-None-clause-none
returns-in-None-clause-none c = λ es after. complete_told c.args.judge.now es _ _ c.script.ensures c.store.ensures
    c.in-None.ensures.none after
