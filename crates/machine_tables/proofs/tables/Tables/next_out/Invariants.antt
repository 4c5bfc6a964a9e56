use Rattle.machine_tables.proofs.Prelude.{◌≡◌, table_of, next_out}
use Rattle.machine_tables.proofs.tables.Tables.next_out.Given as goal

abbrev pub invariant-loop-page : goal.invariant-loop-page
invariant-loop-page g l = next_out (table_of l.fn.self.state.store.ast l.fn.uid) l.fn.from
    ≡ next_out (table_of l.fn.self.state.store.ast l.fn.uid) l.page
