use Rattle.page_control.proofs.Marks.{Started, ap, bindings_started, bound_page, marks_moved, rules, ties_marked}
use Rattle.page_control.proofs.pages.Pages.start_in.Goals as goal

pub returns-clause-ties : goal.returns-clause-ties
returns-clause-ties g c =
    ties_marked (marks_moved c.args.f (Started c.args.uid c.args.p) (search rules) (search (rules, bindings_started))
    (ap bound_page c.requires.free) (search rules) (search rules) (search rules) (search rules))
