use Rattle.core_map.proofs.Turning.{refl, some_is_bound}
use Rattle.core_map.proofs.clock.first_from.Goals as goal

pub unreachable-requires : goal.unreachable-requires
unreachable-requires c = some_is_bound refl c.requires.bound c.in_default.ensures.none c.in-None.ensures.none
