use Rattle.legal_reasons.proofs.answers.why_not_do.Goals as goal

pub returns-in-Some-clause-place : goal.returns-in-Some-clause-place
returns-in-Some-clause-place c = c.in-Some.ensures.place c.args.place
