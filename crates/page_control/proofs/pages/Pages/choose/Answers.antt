use Rattle.page_control.proofs.Turns.{bindings_chosen, marks_chosen, picture_by, plain, rules, ties_marked}
use Rattle.page_control.proofs.pages.Pages.choose.Goals as goal

pub returns-clause-words : goal.returns-clause-words
returns-clause-words g c =
    picture_by _ _ _ _ _ _ _ _ (bindings_chosen c.args.self.now.core c.choose.new.self c.choose.result (search rules))
    (search rules) (search rules) (search rules)

pub returns-clause-ties : goal.returns-clause-ties
returns-clause-ties g c =
    ties_marked (marks_chosen (plain g.D.Drive.pages c.args.self.now) _ c.choose.result (search rules) (search rules)
    (search rules) (search rules) (search rules))

pub returns-clause-bindings : goal.returns-clause-bindings
returns-clause-bindings g c = bindings_chosen c.args.self.now.core c.choose.new.self c.choose.result (search rules)
