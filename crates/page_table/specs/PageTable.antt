use Rattle.std.specs.Prelude.{ℕ, List, slice_index_or}
use Rattle.page_table.specs.declared.Ptw.{Ptw}
use Rattle.page_table.specs.declared.Ptw.TheVariants.{Null}

-- the word of page p, and `Null` past the table's end (Bensoussan, Clingen and Daley 1972)
abbrev pub ptw_at : List Ptw → ℕ → Ptw
ptw_at words p = slice_index_or words p Null
