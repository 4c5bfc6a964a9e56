use Rattle.machine_tables.proofs.Prelude.{length, cut_of_owner}
use Rattle.machine_tables.proofs.Laws.{GoesOn, Going}
use Rattle.machine_tables.proofs.tables.Tables.let_descriptors_go.Given as goal

abbrev pub invariant-loop-cut : goal.invariant-loop-cut
invariant-loop-cut g l = Going GoesOn l.self l.fn.self

abbrev pub decreases-loop-cut : goal.decreases-loop-cut
decreases-loop-cut g l = length (cut_of_owner l.self.state.owner)
