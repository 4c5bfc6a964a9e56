use Rattle.machine_tables.proofs.Prelude.{◌≡◌, with_state}
use Rattle.machine_tables.proofs.TakeLaws.{TakesOn}
use Rattle.machine_tables.proofs.tables.Tables.take_pages.Given as goal

abbrev pub invariant-loop-p : goal.invariant-loop-p
invariant-loop-p g l = record {
  on : TakesOn l.self.state l.fn.self.state l.c l.aim l.what l.uid l.p l.low;
  rest : l.self ≡ with_state l.fn.self l.self.state;
}
