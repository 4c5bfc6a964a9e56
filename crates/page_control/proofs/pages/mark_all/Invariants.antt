use Rattle.page_control.proofs.Prelude.{part_modified, ◌≡◌}
use Rattle.page_control.proofs.pages.mark_all.Given as goal

abbrev pub invariant-loop-p : goal.invariant-loop-p
invariant-loop-p l = l.core ≡ part_modified l.fn.core l.uid l.p
