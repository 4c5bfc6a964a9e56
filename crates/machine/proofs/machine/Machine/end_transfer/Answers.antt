use Rattle.machine.proofs.Prelude.{after, refl}
use Rattle.machine.proofs.Laws.{one_called, outcome_faults, does, call_counts, drive_turn, ending, transfer_sound}
use Rattle.machine.proofs.machine.Machine.end_transfer.Goals as goal

pub end_transfer-read-requires-clause-active : goal.end_transfer-read-requires-clause-active
end_transfer-read-requires-clause-active g c = (ending (does c.self.view_is c.self.invariant c.requires)).active

pub end_transfer-read-requires-clause-page : goal.end_transfer-read-requires-clause-page
end_transfer-read-requires-clause-page g c = (ending (does c.self.view_is c.self.invariant c.requires)).page

pub end_transfer-read-requires-clause-started : goal.end_transfer-read-requires-clause-started
end_transfer-read-requires-clause-started g c = (ending (does c.self.view_is c.self.invariant c.requires)).started

pub returns : goal.returns
unfolding after
returns g c =
    drive_turn c.self.view_is c.requires c.end_transfer-read.result (rw (outcome_faults c.end_transfer-read.result _)
    c.end_transfer-read.ensures.state) refl
    (one_called _ _ c.end_transfer-read.ensures.drives) c.end_transfer-read.ensures.drives.plans
    c.end_transfer-read.ensures.drives.stores c.end_transfer-read.ensures.drives.count c.end_transfer-read.ensures.room
    (call_counts c.end_transfer-read.ensures.drives c.promise.ensures.faults c.promise-2.ensures.faults) tt

pub invariant_of-self : goal.invariant_of-self
unfolding after
invariant_of-self g c = transfer_sound (does c.self.view_is c.self.invariant c.requires) c.end_transfer-read.result
    (rw (outcome_faults c.end_transfer-read.result _) c.end_transfer-read.ensures.state)
    c.end_transfer-read.ensures.room (assumption c.promise-2.ensures)
    (call_counts c.end_transfer-read.ensures.drives c.promise.ensures.faults c.promise-2.ensures.faults)
