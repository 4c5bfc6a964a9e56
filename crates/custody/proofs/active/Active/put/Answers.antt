use Rattle.custody.proofs.Prelude.{rules}
use Rattle.custody.proofs.PutLaws.{active_few, active_kept, active_put}
use Rattle.custody.proofs.active.Active.put.Goals as goal

pub shift-requires-clause-few : goal.shift-requires-clause-few
shift-requires-clause-few c = (active_few c.self.inside.uses.items c.reserve.new.self c.reserve-2.new.self
    (active_kept c.self.inside.uses.items c.self.inside.pools c.reserve.new.self c.self.inside.inferiors
    c.reserve-2.new.self c.self.invariant c.reserve.ensures.keeps c.reserve-2.ensures.keeps)).0

pub shift-requires-2-clause-few : goal.shift-requires-2-clause-few
shift-requires-2-clause-few c = (active_few c.self.inside.uses.items c.reserve.new.self c.reserve-2.new.self
    (active_kept c.self.inside.uses.items c.self.inside.pools c.reserve.new.self c.self.inside.inferiors
    c.reserve-2.new.self c.self.invariant c.reserve.ensures.keeps c.reserve-2.ensures.keeps)).1

pub invariant_of-self-2 : goal.invariant_of-self-2
invariant_of-self-2 c =
    active_put c.self.inside.uses.items c.make_place.new.uses.items c.reserve.new.self c.shift.new.self
    c.reserve-2.new.self c.shift-2.new.self c.args.uid c.args.to (search rules) (search rules)
    (active_kept c.self.inside.uses.items c.self.inside.pools c.reserve.new.self c.self.inside.inferiors
    c.reserve-2.new.self c.self.invariant
    c.reserve.ensures.keeps c.reserve-2.ensures.keeps) (search rules) (search rules)
