-- What each call of segment control does (Bensoussan, Clingen and Daley 1972).
use Rattle.std.specs.Prelude.{ℕ, ◌==◌, if◌then◌else◌, List, [], ◌∷◌, ◌++◌, take, drop, map, Option, None, Some, Result, Ok, Err, replicate, slice_set}
use Rattle.mnames.specs.declared.modes.Mode.{Mode}
use Rattle.page_table.specs.declared.Ptw.{Ptw}
use Rattle.page_table.specs.declared.Ptw.TheVariants.{Null, Out, Here, Leaving}
use Rattle.descriptor_seg.specs.declared.Sdw.{Sdw}
use Rattle.descriptor_seg.specs.declared.Sdw.TheVariants.{Fault, Present}
use Rattle.descriptor_seg.specs.Descriptors.{all_faults, connected as descriptor_set, cut_off as descriptor_cut}
use Rattle.trailers.specs.Trailer.{connected as trailer_added, cut_off as trailer_gone}
use Rattle.known_segs.specs.Known.{with_number, without_number}
use Rattle.active_segs.specs.Active.{ActiveSegs, table_at, with_table}
use Rattle.page_control.specs.declared.Left.{Left}
use Rattle.page_control.specs.Effects.{word_of_left}
use Rattle.seg_control.specs.Control.{Links, kst_at, sdws_at, leads_at, place_of, table_of}

-- ---- page tables

-- an active segment has this page table
abbrev pub tabled : ActiveSegs → ℕ → List Ptw → ActiveSegs
tabled ast uid table = with_table ast (place_of ast.entries uid) table

-- the word of page p of an active segment becomes w
abbrev pub worded : ActiveSegs → ℕ → ℕ → Ptw → ActiveSegs
worded ast uid p w = tabled ast uid (slice_set (table_of ast uid) p w)

-- the active segments after page p of one has come into frame f, or after it failed
abbrev pub table_here : {T E : Type 0} → ActiveSegs → ℕ → ℕ → ℕ → Result T E → ActiveSegs
table_here ast uid p f (Ok x) = worded ast uid p (Here f)
table_here ast uid p f (Err e) = ast

-- the active segments after page p of one, whose record is r, has left its frame, or after it failed
abbrev pub table_left : {E : Type 0} → ActiveSegs → ℕ → ℕ → ℕ → Result Left E → ActiveSegs
table_left ast uid p r (Ok left) = worded ast uid p (word_of_left left r)
table_left ast uid p r (Err e) = ast

-- the word of a page that may be in a frame, after the page is taken
abbrev pub gone : Ptw → Ptw
gone Null = Null
gone (Out r) = Out r
gone (Here f) = Leaving f
gone (Leaving f) = Leaving f

-- a page table after each of its pages in a frame from number `from` on is taken
unfoldable pub taken_from : ℕ → List Ptw → List Ptw
taken_from from table = take from table ++ map gone (drop from table)

-- the same in a place
abbrev pub all_taken : ActiveSegs → ℕ → ℕ → ActiveSegs
all_taken ast place from = with_table ast place (taken_from from (table_at ast.tables place))

-- ---- descriptors and trailers

-- nothing is known or connected, for so many places and processes
abbrev pub no_links : ℕ → ℕ → Links
no_links places processes = record {
  trailers = replicate places [];
  known = replicate processes (replicate 256 None);
  descriptors = replicate processes all_faults;
}

-- a number of a process leads to a place, with this mode and length
abbrev pub linked : Links → ℕ → ℕ → ℕ → Mode → ℕ → Links
linked links process number place mode pages = record links {
  trailers = trailer_added links.trailers place process number;
  descriptors = slice_set links.descriptors process (descriptor_set (sdws_at links.descriptors process) number place
      mode pages);
}

-- a number of a process leads to its place no more
abbrev pub unlinked : Links → ℕ → ℕ → Option ℕ → Links
unlinked links process number None = links
unlinked links process number (Some place) = record links {
  trailers = trailer_gone links.trailers place process number;
  descriptors = slice_set links.descriptors process (descriptor_cut (sdws_at links.descriptors process) number);
}

abbrev pub cut_one : Links → ℕ → ℕ → Links
cut_one links process number = unlinked links process number (leads_at links.descriptors process number)

-- the known segment table of a process becomes this
abbrev pub with_kst : Links → ℕ → List (Option ℕ) → Links
with_kst links process kst = record links { known = slice_set links.known process kst }

-- a segment is known to a process by a number, if there is one
abbrev pub made_known : Links → ℕ → ℕ → Option ℕ → Links
made_known links process uid number = with_kst links process (with_number (kst_at links.known process) uid number)

-- a number of a process stands for nothing
abbrev pub forgotten : Links → ℕ → ℕ → Links
forgotten links process number = with_kst links process (without_number (kst_at links.known process) number)

-- a descriptor after all that lead to a place are cut
abbrev pub faulting : ℕ → Sdw → Sdw
faulting place Fault = Fault
faulting place (Present aste mode pages) = if aste == place then Fault else Present aste mode pages

-- no descriptor leads to a place
unfoldable pub all_cut : Links → ℕ → Links
all_cut links place = record links {
  trailers = slice_set links.trailers place [];
  descriptors = map (map (faulting place)) links.descriptors;
}

-- numbers of processes lead to a place, one after the other, each with its mode and all with one length
unfoldable pub reconnected : Links → ℕ → List (ℕ × ℕ) → List Mode → ℕ → Links
reconnected links place [] modes pages = links
reconnected links place (pair ∷ list) [] pages = links
reconnected links place (pair ∷ list) (mode ∷ modes) pages =
    reconnected (linked links pair.0 pair.1 place mode pages) place list modes pages
