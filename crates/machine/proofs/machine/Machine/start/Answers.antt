use Rattle.machine.proofs.Prelude.{after, ap, bound_page, refl, rules, Frame as frame}
use Rattle.machine.proofs.Laws.{does, readable, quiet_turn, core_as, stays_sound, unbound_put}
use Rattle.machine.proofs.machine.Machine.start.Goals as goal

pub start-requires : goal.start-requires
start-requires g c =
    let can = readable (does c.self.view_is c.self.invariant c.requires) in
    search rules

pub returns : goal.returns
unfolding after
returns g c = quiet_turn c.self.view_is c.requires c.start.ensures refl refl (refl, refl) tt

pub invariant_of-self : goal.invariant_of-self
unfolding after
invariant_of-self g c =
    let d = does c.self.view_is c.self.invariant c.requires in
    stays_sound d c.start.ensures refl refl
    (core_as _ _ (unbound_put c.self.inside.tables.state.store.pages.core c.args.f (frame.Started c.args.uid c.args.p)
    (ap bound_page (readable d).free) refl)) (assumption c.promise.ensures)
