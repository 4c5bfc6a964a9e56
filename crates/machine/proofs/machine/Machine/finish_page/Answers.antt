use Rattle.machine.proofs.Prelude.{after, refl, page_done, with_faults}
use Rattle.machine.proofs.Laws.{outcome_faults, page_let_go, does, found, still_for, call_counts, finished_shown, leaves_by, may_fail, owned, drive_turn, drive_sound}
use Rattle.machine.proofs.machine.Machine.finish_page.Goals as goal

pub finish_page-gone-requires : goal.finish_page-gone-requires
finish_page-gone-requires g c =
    let d = does c.self.view_is c.self.invariant c.requires in
    record {
      still = still_for d;
      leaving = leaves_by d (found d).1;
      failing = may_fail d (rw c.self.view_is c.to_answer-process.ensures) (owned (found d).1.waited.owner);
    }

pub returns : goal.returns
unfolding after
returns g c =
    drive_turn c.self.view_is c.requires c.finish_page-gone.result (rw (outcome_faults c.finish_page-gone.result _)
    c.finish_page-gone.ensures.state) refl
    (page_let_go _ _ _ _ c.finish_page-gone.ensures.drives c.finish_page-gone.ensures.no_call)
    c.finish_page-gone.ensures.drives.plans
    c.finish_page-gone.ensures.drives.stores c.finish_page-gone.ensures.drives.count c.finish_page-gone.ensures.room
    (call_counts c.finish_page-gone.ensures.drives c.promise.ensures.faults c.promise-2.ensures.faults) tt

pub invariant_of-self : goal.invariant_of-self
unfolding after
invariant_of-self g c =
    let s = c.self.inside.tables.state in
    let n = c.finish_page-gone.new.self.state.faults in
    drive_sound (does c.self.view_is c.self.invariant c.requires) c.finish_page-gone.result
    (rw (outcome_faults c.finish_page-gone.result _) c.finish_page-gone.ensures.state) c.finish_page-gone.ensures.room
    (assumption c.promise-2.ensures)
    (finished_shown s c.args.c c.args.frame n c.finish_page-gone.result (page_done (with_faults s n) c.args.frame)
    c.finish_page-gone.new.self.state
    c.finish_page-gone.ensures.state c.finish_page-gone.ensures.how c.finish_page-gone.ensures.shown)
    (call_counts c.finish_page-gone.ensures.drives c.promise.ensures.faults c.promise-2.ensures.faults)
