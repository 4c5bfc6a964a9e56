use Rattle.runner.proofs.Prelude.{sym, subst, ◌∙◌, IsReading}
use Rattle.runner.proofs.Ends.{asked_none, asks, reads_nothing}
use Rattle.runner.proofs.top.answer.Goals as goal

pub returns-in-None-clause-ends : goal.returns-in-None-clause-ends
returns-in-None-clause-ends g c =
    asked_none _ _ _ _ (sym c.form.ensures.form ∙ c.in-None.is) c.with_text.ensures.status c.with_text.ensures.machine
    c.with_text.ensures.text (reads_nothing _ _)

pub returns-clause-ends : goal.returns-clause-ends
returns-clause-ends g c = asks _ _ _ _ _ (sym c.form.ensures.form ∙ c.in-Some.is) c.serve.ensures.ends

pub returns-clause-source : goal.returns-clause-source
returns-clause-source g c =
    let asked = sym c.in-Some.is ∙ c.form.ensures.form in
    λ other. c.serve.ensures.source (λ reads. other (subst IsReading asked reads))
