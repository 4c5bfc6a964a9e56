use Rattle.machine_tables.proofs.Prelude.{rules}
use Rattle.machine_tables.proofs.Laws.{reached, not_through, through_shown}
use Rattle.machine_tables.proofs.tables.Tables.reach.Goals as goal

pub returns-in-Some-clause-effect : goal.returns-in-Some-clause-effect
returns-in-Some-clause-effect g c =
    reached c.args.self.now _ _ c.args.f _ c.args.reference.now c.requires c.read-old.ensures.effect
    c.write.ensures.effect (search rules) (search rules)

pub returns-in-Some-clause-shown : goal.returns-in-Some-clause-shown
returns-in-Some-clause-shown g c = λ p t h. through_shown c.args.self.now _ _ c.args.f _ c.args.reference.now p t
    c.requires c.read-old.ensures.effect (search rules) (search rules) (c.write.ensures.shown p t)
    (c.read-old.ensures.shown p t h)

pub returns-in_default-clause-shown : goal.returns-in_default-clause-shown
returns-in_default-clause-shown g c = λ p t h. not_through c.args.self.now _ c.args.f c.args.reference.now p t
    (search rules) (c.read-old.ensures.shown p t h)
