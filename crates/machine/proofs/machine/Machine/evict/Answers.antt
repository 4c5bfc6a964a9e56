use Rattle.machine.proofs.Prelude.{after, refl, rules}
use Rattle.machine.proofs.Laws.{does, evict_is, evictable, quiet_turn, stays_sound, evicted_as}
use Rattle.machine.proofs.machine.Machine.evict.Goals as goal

pub evict-f-requires : goal.evict-f-requires
evict-f-requires g c =
    let can = evictable (does c.self.view_is c.self.invariant c.requires) in
    search rules

pub returns : goal.returns
unfolding after
returns g c = quiet_turn c.self.view_is c.requires c.evict-f.ensures.effect
    (rw (evict_is (does c.self.view_is c.self.invariant c.requires) c.evict-f.ensures.choice)) refl (refl, refl) tt

pub invariant_of-self : goal.invariant_of-self
unfolding after
invariant_of-self g c =
    let d = does c.self.view_is c.self.invariant c.requires in
    stays_sound d c.evict-f.ensures.effect (rw (evict_is d c.evict-f.ensures.choice)) refl
    (evicted_as _ c.evict-f.result) (assumption c.promise.ensures)
