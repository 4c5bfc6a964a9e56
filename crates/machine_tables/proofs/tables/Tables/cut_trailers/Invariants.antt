use Rattle.machine_tables.proofs.Prelude.{length, trailers_in}
use Rattle.machine_tables.proofs.Laws.{CutsOn, Going}
use Rattle.machine_tables.proofs.tables.Tables.cut_trailers.Given as goal

abbrev pub invariant-loop-process : goal.invariant-loop-process
invariant-loop-process g l = Going (λ now first. CutsOn now first l.c l.aim l.what l.uid) l.self l.fn.self

abbrev pub decreases-loop-process : goal.decreases-loop-process
decreases-loop-process g l = length (trailers_in l.self.state.store l.uid)
