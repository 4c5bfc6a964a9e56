use Rattle.page_control.proofs.Moved.{IsPartRehomed, entry_at, records_in}
use Rattle.page_control.proofs.pages.rename.Given as goal

abbrev pub invariant-loop-p : goal.invariant-loop-p
invariant-loop-p l = IsPartRehomed l.fn.t l.t (records_in (entry_at l.vtoc l.entry)) l.p
