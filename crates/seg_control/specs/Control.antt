-- What segment control has between calls: page control, the active segments, and what leads to them (Bensoussan,
-- Clingen and Daley 1972).
use Rattle.std.specs.Prelude.{ℕ, ◌==◌, Bool, false, List, [], Option, None, Some, slice_index_or}
use Rattle.std.specs.List.{position_or_len}
use Rattle.page_table.specs.declared.Ptw.{Ptw}
use Rattle.page_table.specs.PageTable.{ptw_at}
use Rattle.descriptor_seg.specs.declared.Sdw.{Sdw}
use Rattle.descriptor_seg.specs.declared.Sdw.TheVariants.{Fault, Present}
use Rattle.descriptor_seg.specs.Descriptors.{sdw_at}
use Rattle.active_segs.specs.declared.Entry.{Entry}
use Rattle.active_segs.specs.Active.{ActiveSegs, table_at}
use Rattle.page_control.specs.Plain.{Paging}
use Rattle.seg_mover.specs.declared.Mover.{Mover}

-- the trailers of each place, and the known segment table and the descriptor segment of each process
pub record Links : Type 0 where
  pub trailers : List (List (ℕ × ℕ))
  pub known : List (List (Option ℕ))
  pub descriptors : List (List Sdw)

-- Page control over drives of type D, the active segments, and what leads to them; and the segment that is moving to
-- another volume, if one is. The volumes are those at rest: without the home that the move has taken.
pub record Control (D : Type 0) : Type 0 where
  pub pages : Paging D
  pub ast : ActiveSegs
  pub links : Links
  pub moving : Option Mover

-- the known segment table and the descriptor segment of a process
abbrev pub kst_at : List (List (Option ℕ)) → ℕ → List (Option ℕ)
kst_at known process = slice_index_or known process []

abbrev pub sdws_at : List (List Sdw) → ℕ → List Sdw
sdws_at descriptors process = slice_index_or descriptors process []

-- the place that a descriptor leads to, None where it faults
abbrev pub leads : Sdw → Option ℕ
leads Fault = None
leads (Present aste mode pages) = Some aste

-- the place that a segment number of a process leads to
abbrev pub leads_at : List (List Sdw) → ℕ → ℕ → Option ℕ
leads_at descriptors process number = leads (sdw_at (sdws_at descriptors process) number)

-- whether a segment is active in a place that has this entry
abbrev pub is_for : ℕ → Option Entry → Bool
is_for uid None = false
is_for uid (Some entry) = entry.uid == uid

-- the place in which a segment is active
unfoldable pub place_of : List (Option Entry) → ℕ → ℕ
place_of entries uid = position_or_len (is_for uid) entries

-- the page table of an active segment, and the word of its page p
abbrev pub table_of : ActiveSegs → ℕ → List Ptw
table_of ast uid = table_at ast.tables (place_of ast.entries uid)

abbrev pub word_of : ActiveSegs → ℕ → ℕ → Ptw
word_of ast uid p = ptw_at (table_of ast uid) p
