use Rattle.lab_calls.proofs.EndLaws.{asked_none, asks, reads_nothing, sym, ◌∙◌}
use Rattle.lab_calls.proofs.top.lab.Goals as goal

pub returns-in-None-clause-ends : goal.returns-in-None-clause-ends
returns-in-None-clause-ends g c = asked_none _ _ _ _ (sym c.form.ensures.form ∙ c.in-None.is)
    (c.without_run.ensures ∙ c.with_text.ensures.status) c.with_text.ensures.text (reads_nothing _ _)

pub returns-clause-ends : goal.returns-clause-ends
returns-clause-ends g c = asks _ _ _ _ _ (sym c.form.ensures.form ∙ c.in-Some.is) c.read_and_run.ensures
