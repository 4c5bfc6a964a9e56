use Rattle.custody.proofs.Prelude.{sym, ◌∙◌}
use Rattle.custody.proofs.ActiveLaws.{activates}
use Rattle.custody.proofs.tables.Custody.may_activate.Goals as goal

pub returns-in-Some : goal.returns-in-Some
returns-in-Some c = λ s shown nodes. activates c.args.script.now s c.args.self.now c.args.uid c.in-Some.of
    c.node.result c.can_join.result
    (c.node.ensures c.args.script.now s shown) c.in-Some.is nodes (sym c.is_active.ensures ∙ c.if-is_active.false)
    c.can_join.ensures
