use Rattle.machine.proofs.Prelude.{after, refl}
use Rattle.machine.proofs.Laws.{outcome_faults, two_called, does, knows, still_for, copy_counts, may_copy, drive_turn, drive_sound}
use Rattle.machine.proofs.machine.Machine.copy_page.Goals as goal

pub copy_page-copied-requires : goal.copy_page-copied-requires
copy_page-copied-requires g c =
    let d = does c.self.view_is c.self.invariant c.requires in
    record {
      moving = still_for d;
      page = (knows d).next;
      may = may_copy d (rw c.self.view_is c.to_answer-process.ensures);
    }

pub returns : goal.returns
unfolding after
returns g c =
    drive_turn c.self.view_is c.requires c.copy_page-copied.result (rw (outcome_faults c.copy_page-copied.result _)
    c.copy_page-copied.ensures.state) refl
    (two_called _ _ c.copy_page-copied.ensures.drives) c.copy_page-copied.ensures.drives.plans
    c.copy_page-copied.ensures.drives.stores c.copy_page-copied.ensures.drives.count c.copy_page-copied.ensures.room
    (copy_counts c.copy_page-copied.ensures.drives c.promise.ensures.faults c.promise-2.ensures.faults) tt

pub invariant_of-self : goal.invariant_of-self
unfolding after
invariant_of-self g c = drive_sound (does c.self.view_is c.self.invariant c.requires) c.copy_page-copied.result
    (rw (outcome_faults c.copy_page-copied.result _) c.copy_page-copied.ensures.state) c.copy_page-copied.ensures.room
    (assumption c.promise-2.ensures) (c.copy_page-copied.ensures.shown _)
    (copy_counts c.copy_page-copied.ensures.drives c.promise.ensures.faults c.promise-2.ensures.faults)
