use Rattle.custody.proofs.TallyLaws.{pages_few, started_few, uses_few}
use Rattle.custody.proofs.frames.Frames.put.Goals as goal

pub shift-requires-clause-few : goal.shift-requires-clause-few
shift-requires-clause-few c = uses_few c.self.inside.uses.items c.self.inside.counts c.reserve.new.self
    c.self.inside.pages c.self.inside.started c.self.invariant c.reserve.ensures.keeps

pub shift-requires-2-clause-few : goal.shift-requires-2-clause-few
shift-requires-2-clause-few c = pages_few c.self.inside.uses.items c.self.inside.counts c.self.inside.pages
    c.reserve-3.new.self c.self.inside.started c.self.invariant c.reserve-3.ensures.keeps

pub shift-requires-3-clause-few : goal.shift-requires-3-clause-few
shift-requires-3-clause-few c = started_few c.self.inside.uses.items c.self.inside.counts c.self.inside.pages
    c.self.inside.started c.reserve-2.new.self c.self.invariant c.reserve-2.ensures.keeps
