use Rattle.custody.proofs.RowLaws.{WarnedBelow}
use Rattle.custody.proofs.rows.warn_others.Given as goal

abbrev pub invariant-loop-cpu : goal.invariant-loop-cpu
invariant-loop-cpu l = WarnedBelow l.but l.what l.cpu l.fn.seats.items l.seat-items
