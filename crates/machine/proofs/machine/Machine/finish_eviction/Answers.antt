use Rattle.machine.proofs.Prelude.{after, refl, eviction_done, with_faults}
use Rattle.machine.proofs.Laws.{outcome_faults, page_let_go, does, found, still_for, call_counts, finished_shown, leaves_by, may_fail, owned, drive_turn, drive_sound}
use Rattle.machine.proofs.machine.Machine.finish_eviction.Goals as goal

pub finish_eviction-gone-requires : goal.finish_eviction-gone-requires
finish_eviction-gone-requires g c =
    let d = does c.self.view_is c.self.invariant c.requires in
    record {
      still = still_for d;
      leaving = leaves_by d (found d);
      failing = may_fail d (rw c.self.view_is c.to_answer-process.ensures) (owned (found d).waited.owner);
    }

pub returns : goal.returns
unfolding after
returns g c =
    drive_turn c.self.view_is c.requires c.finish_eviction-gone.result (rw (outcome_faults c.finish_eviction-gone.result
    _) c.finish_eviction-gone.ensures.state) refl
    (page_let_go _ _ _ _ c.finish_eviction-gone.ensures.drives c.finish_eviction-gone.ensures.no_call)
    c.finish_eviction-gone.ensures.drives.plans
    c.finish_eviction-gone.ensures.drives.stores c.finish_eviction-gone.ensures.drives.count
    c.finish_eviction-gone.ensures.room
    (call_counts c.finish_eviction-gone.ensures.drives c.promise.ensures.faults c.promise-2.ensures.faults) tt

pub invariant_of-self : goal.invariant_of-self
unfolding after
invariant_of-self g c =
    let s = c.self.inside.tables.state in
    let n = c.finish_eviction-gone.new.self.state.faults in
    drive_sound (does c.self.view_is c.self.invariant c.requires) c.finish_eviction-gone.result
    (rw (outcome_faults c.finish_eviction-gone.result _) c.finish_eviction-gone.ensures.state)
    c.finish_eviction-gone.ensures.room (assumption c.promise-2.ensures)
    (finished_shown s c.args.c c.args.frame n c.finish_eviction-gone.result
    (eviction_done (with_faults s n) c.args.c c.args.frame) c.finish_eviction-gone.new.self.state
    c.finish_eviction-gone.ensures.state c.finish_eviction-gone.ensures.how c.finish_eviction-gone.ensures.shown)
    (call_counts c.finish_eviction-gone.ensures.drives c.promise.ensures.faults c.promise-2.ensures.faults)
