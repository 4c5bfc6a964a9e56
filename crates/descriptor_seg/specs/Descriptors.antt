-- What a contract sees of a descriptor segment: the list of its 256 segment descriptor words, by segment number
-- (Bensoussan, Clingen and Daley 1972; the 256 words are own).
use Rattle.std.specs.Prelude.{ℕ, List, replicate, slice_index_or, slice_set}
use Rattle.mnames.specs.declared.modes.Mode.{Mode}
use Rattle.descriptor_seg.specs.declared.Sdw.{Sdw}
use Rattle.descriptor_seg.specs.declared.Sdw.TheVariants.{Fault, Present}

-- the word of segment number n, which faults where there is none
abbrev pub sdw_at : List Sdw → ℕ → Sdw
sdw_at words n = slice_index_or words n Fault

-- every segment number faults
abbrev pub all_faults : List Sdw
all_faults = replicate 256 Fault

-- segment number n leads to the page table of a place, with this mode and length
abbrev pub connected : List Sdw → ℕ → ℕ → Mode → ℕ → List Sdw
connected words n aste mode pages = slice_set words n (Present aste mode pages)

-- segment number n faults
abbrev pub cut_off : List Sdw → ℕ → List Sdw
cut_off words n = slice_set words n Fault
