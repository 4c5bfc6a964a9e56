use Rattle.core_map.proofs.Frames.{map-set, started_page, tied_with}
use Rattle.core_map.proofs.CoreMap.lose.Goals as goal

pub invariant_of-self : goal.invariant_of-self
invariant_of-self c = tied_with c.args.f _ c.self.invariant c.give_back.ensures.flags

pub returns-clause-started : goal.returns-clause-started
returns-clause-started c = rw (← c.self.view_is) (map-set started_page c.self.inside.frames.items c.args.f _)
