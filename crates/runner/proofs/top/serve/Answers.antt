use Rattle.runner.proofs.Ends.{ends_drilled, ends_made, form_is, reads_nothing}
use Rattle.runner.proofs.top.serve.Goals as goal

pub returns-in-Make-clause-ends : goal.returns-in-Make-clause-ends
returns-in-Make-clause-ends g c = form_is _ _ _ _ _ c.in-Make.is
    (ends_made _ _ _ c.in-Make.n c.make.ensures.printed c.make.ensures.machine (reads_nothing _ _))

pub returns-in-Drill-clause-ends : goal.returns-in-Drill-clause-ends
returns-in-Drill-clause-ends g c =
    let d = c.in-Drill in
    form_is _ _ _ _ _ d.is (ends_drilled _ _ _ d.processors d.frames d.adds d.seed c.run_drill.ensures.printed
    c.run_drill.ensures.machine (reads_nothing _ _))
