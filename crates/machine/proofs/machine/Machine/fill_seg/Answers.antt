use Rattle.machine.proofs.Prelude.{refl, after}
use Rattle.machine.proofs.Laws.{number_there, process_known, seg_not_held, does, quiet_sound, quiet_turn}
use Rattle.machine.proofs.machine.Machine.fill_seg.Goals as goal

pub fill_seg-requires-clause-known : goal.fill_seg-requires-clause-known
fill_seg-requires-clause-known g c = process_known c.self.invariant c.args.c (rw c.self.view_is c.busy-process.ensures)

pub fill_seg-requires-clause-number : goal.fill_seg-requires-clause-number
fill_seg-requires-clause-number g c = number_there (does c.self.view_is c.self.invariant c.requires)
    {k = c.busy-process.result} (rw c.self.view_is c.busy-process.ensures)

pub fill_seg-requires-clause-new : goal.fill_seg-requires-clause-new
fill_seg-requires-clause-new g c = seg_not_held (does c.self.view_is c.self.invariant c.requires)

pub returns : goal.returns
unfolding after
returns g c = quiet_turn c.self.view_is c.requires c.fill_seg.ensures refl refl (refl, refl) tt

pub invariant_of-self : goal.invariant_of-self
unfolding after
invariant_of-self g c = quiet_sound (does c.self.view_is c.self.invariant c.requires) c.fill_seg.ensures refl refl refl
