use Rattle.flat_store.proofs.OrderLaws.{first_tells, none_tells}
use Rattle.flat_store.proofs.pages.Pages.has_from.Goals as goal

pub returns-in-Some : goal.returns-in-Some
returns-in-Some c = rw c.self.view_is at (first_tells c.self.inside.pages c.range.result c.args.uid c.args.from
    (c.range.ensures.in_range tt) _ _ c.in-Some.ensures.steps)

pub returns-in-None : goal.returns-in-None
returns-in-None c = rw c.self.view_is at (none_tells c.self.inside.pages c.range.result c.args.uid c.args.from
    (c.range.ensures.in_range tt) c.in-None.ensures.steps.0)
