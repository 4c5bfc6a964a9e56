use Rattle.machine_tables.proofs.Laws.{CutsAllOn, Going}
use Rattle.machine_tables.proofs.tables.Tables.cut_connected.Given as goal

abbrev pub invariant-loop-number : goal.invariant-loop-number
invariant-loop-number g l =
    Going (λ now first. CutsAllOn now first l.c l.aim l.what l.process l.number) l.self l.fn.self
