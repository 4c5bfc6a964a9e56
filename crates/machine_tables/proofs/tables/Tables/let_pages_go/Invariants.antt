use Rattle.machine_tables.proofs.Prelude.{length, frames_of_owner}
use Rattle.machine_tables.proofs.Laws.{PagesOn, Going}
use Rattle.machine_tables.proofs.tables.Tables.let_pages_go.Given as goal

abbrev pub invariant-loop-frame : goal.invariant-loop-frame
invariant-loop-frame g l = Going (λ now first. PagesOn now first l.fn.kept) l.self l.fn.self

abbrev pub decreases-loop-frame : goal.decreases-loop-frame
decreases-loop-frame g l = length (frames_of_owner l.self.state.owner)
