use Rattle.core_map.proofs.Frames.{least_if, least_same, none_if}
use Rattle.core_map.proofs.CoreMap.take_free.Goals as goal

pub returns-clause-least : goal.returns-clause-least
returns-clause-least c = cc (least_same c.self.invariant c.self.view_is)

pub returns-clause-some : goal.returns-clause-some
returns-clause-some c = least_if _ _ _ _ _ c.self.invariant c.self.view_is c.first_free.ensures.some

pub returns-clause-none : goal.returns-clause-none
returns-clause-none c = none_if _ _ _ _ _ c.self.invariant c.self.view_is c.first_free.ensures.none
