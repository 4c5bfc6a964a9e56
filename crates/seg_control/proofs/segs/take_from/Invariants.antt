use Rattle.seg_control.proofs.Prelude.{length, taken_from, ◌≡◌}
use Rattle.seg_control.proofs.segs.take_from.Given as goal

abbrev pub invariant-loop-p : goal.invariant-loop-p
invariant-loop-p l =
    record { all : taken_from l.p l.table ≡ taken_from l.fn.from l.fn.table; long : length l.table ≡ length l.fn.table }
