use Rattle.page_control.proofs.Marks.{bindings_referred, marks_read, rules, ties_marked}
use Rattle.page_control.proofs.pages.Pages.word.Goals as goal

pub returns-clause-ties : goal.returns-clause-ties
returns-clause-ties g c = ties_marked (marks_read c.args.f (search rules)
    (search (rules, bindings_referred)) (search rules) (search rules) (search rules) (search rules) c.requires.bound)
