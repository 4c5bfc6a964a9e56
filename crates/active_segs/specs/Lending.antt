-- What `table_mut` lends.
use Rattle.std.specs.Prelude.{ℕ, List}
use Rattle.std.specs.Borrow.{Lends, MutBor, Fml}
use Rattle.page_table.specs.declared.Ptw.{Ptw}
use Rattle.page_table.specs.contracts.PageTable.{the_row as page_table_row}
use Rattle.active_segs.specs.Active.{ActiveSegs, with_table}
use Rattle.active_segs.specs.contracts.Ast.{the_row}

-- the table of segments ends with the last page table that was left after the reference
abbrev pub LendsTable : MutBor ActiveSegs → ℕ → MutBor (List Ptw) → Fml
LendsTable s place table = Lends the_row page_table_row s table (with_table s.now place)
