use Rattle.runner.proofs.Prelude.{◌∙◌}
use Rattle.runner.proofs.SumLaws.{listed_by}
use Rattle.runner.proofs.summing.listing_of_machine.Goals as goal

pub returns-in-Ok : goal.returns-in-Ok
returns-in-Ok c = rw (← c.book.ensures.script, ← c.book.ensures.entries) (c.in-Ok.ensures
    ∙ listed_by c.book.result.now.script c.book.result.now.entries c.in_ok-summary.summary
    (rw (c.book.ensures.script, c.book.ensures.entries) c.in_ok-summary.ensures))
