-- What the cutting of a segment and the deletion of a node leave of its pages, exactly (Organick 1972).
use Rattle.std.specs.Prelude.{◌≡◌, ◌≢◌, ℕ, ◌+◌, ◌-◌, ◌/◌, ◌%◌, ◌==◌, Bool, false, if◌then◌else◌, List, [], ◌∷◌, Some}
use Rattle.std.specs.List.{list_all, range_with_len}
use Rattle.accounts.specs.Maps.{AccountMaps, count_of}
use Rattle.page_table.specs.declared.Ptw.{Ptw}
use Rattle.page_table.specs.declared.Ptw.TheVariants.{Leaving, Null}
use Rattle.vtoc.specs.Vtoc.{least_free_entry}
use Rattle.active_segs.specs.Active.{ActiveSegs, IsActive, deactivated}
use Rattle.page_control.specs.declared.Home.{Home}
use Rattle.page_control.specs.Tied.{IsNotStarted}
use Rattle.page_control.specs.Effects.{allocated, cut, dropped, erased}
use Rattle.page_control.specs.Plain.{Plain, plain, vtoc_of, words_in}
use Rattle.seg_control.specs.Control.{place_of, word_of}
use Rattle.seg_control.specs.Effects.{worded}
use Rattle.seg_control.specs.Kept.{IsInactive}
use Rattle.script.specs.Plans.{Plan}
use Rattle.flat_model.specs.Cuts.{without_pages}
use Rattle.flat_model.specs.Store.{Store as Flat}
use Rattle.storage_ops.specs.Cut.{Unstores}
use Rattle.storage_ops.specs.Shown.{Shows, Storage, home_of, pages_in}

-- ---- a home is taken

-- A new node has the least free VTOC entry of a volume.
pub record TakesHome {D : Type 0} (drive : D → List (List ℕ)) (old new : Storage D) (volume : ℕ) : Type 0 where
  pub entry : ℕ
  pub least : least_free_entry (vtoc_of (plain drive old.segs.pages) volume) ≡ Some entry
  pub filed : plain drive new.segs.pages ≡ allocated (plain drive old.segs.pages) volume entry old.accounts.next
  pub beside : new.accounts.entries ≡ entry ∷ old.accounts.entries

-- ---- pages are cut off

-- page control in lists, the active segments, and how many stored pages of a segment are counted
pub record Paged : Type 0 where
  pub pages : Plain
  pub ast : ActiveSegs
  pub stored : ℕ

abbrev pub paged : {D : Type 0} → (D → List (List ℕ)) → Storage D → ℕ → Paged
paged drive t uid = record { pages = plain drive t.segs.pages; ast = t.segs.ast; stored = count_of t.accounts uid }

-- a page that its word names is stored no more, and in no frame; one that isn't stored is as before
abbrev pub page_cut : Paged → Home → ℕ → ℕ → Ptw → Paged
page_cut x home uid p Null = x
page_cut x home uid p w = record {
  pages = dropped x.pages home p w;
  ast = worded x.ast uid p Null;
  stored = x.stored - 1;
}

-- some pages, one after the other
abbrev pub pages_cut : Paged → Home → ℕ → List ℕ → Paged
pages_cut x home uid [] = x
pages_cut x home uid (p ∷ ps) = pages_cut (page_cut x home uid p (word_of x.ast uid p)) home uid ps

-- the words of a page on its way out are zeros from a place on
abbrev pub page_cleared : Paged → ℕ → Ptw → Paged
page_cleared x at (Leaving f) = record x { pages = cut x.pages f at }
page_cleared x at _ = x

-- whether all its words are zeros then
abbrev pub is_cleared : Paged → ℕ → Ptw → Bool
is_cleared x at (Leaving f) = list_all (λ w. w == 0) (words_in (cut x.pages f at) f)
is_cleared x at _ = false

-- such a page is stored no more where it is all zeros then
abbrev pub cut_by : Paged → Home → ℕ → ℕ → ℕ → Ptw → Paged
cut_by x home uid p at w =
    if is_cleared x at w then page_cut (page_cleared x at w) home uid p w else page_cleared x at w

-- the pages of a segment from one on, up to its length
abbrev pub pages_from : ℕ → ℕ → List ℕ
pages_from from size = range_with_len from (size - from)

-- a segment of so many pages is cut at an offset that lies within a page
abbrev pub cut_within : Paged → Home → ℕ → ℕ → ℕ → Paged
cut_within x home uid size offset =
    let past = pages_cut x home uid (pages_from (offset / 1024 + 1) size) in
    cut_by past home uid (offset / 1024) (offset % 1024) (word_of past.ast uid (offset / 1024))

-- a segment of so many pages is cut at an offset
abbrev pub cut_at : Paged → Home → ℕ → ℕ → ℕ → Paged
cut_at x home uid size offset =
    if offset % 1024 == 0 then pages_cut x home uid (pages_from (offset / 1024) size)
    else cut_within x home uid size offset

-- an active segment of so many pages has none of them any more, and is inactive
abbrev pub put_out : Paged → Home → ℕ → ℕ → Paged
put_out x home uid size =
    let now = pages_cut x home uid (pages_from 0 size) in
    record now { ast = deactivated now.ast (place_of now.ast.entries uid) }

-- A node that is deleted is put out, where it was active; its records are given back, and its VTOC entry is free.
pub record Erases {D : Type 0} (drive : D → List (List ℕ)) (old new : Storage D) (uid : ℕ) : Type 0 where
  pub active : IsActive old.segs.ast.entries uid
      → (plain drive new.segs.pages ≡ erased (put_out (paged drive old uid) (home_of old.accounts uid) uid
      (pages_in old.accounts.nodes uid)).pages (home_of old.accounts uid))
      × (new.segs.ast ≡ (put_out (paged drive old uid) (home_of old.accounts uid) uid
      (pages_in old.accounts.nodes uid)).ast)
  pub inactive : IsInactive old.segs.ast.entries uid
      → (plain drive new.segs.pages ≡ erased (plain drive old.segs.pages) (home_of old.accounts uid))
      × (new.segs.ast ≡ old.segs.ast)

-- no other segment has another count
abbrev pub CountsOthers : AccountMaps → AccountMaps → ℕ → Type 0
CountsOthers old new uid = (s : ℕ) → s ≢ uid → count_of new s ≡ count_of old s

-- A page of an active segment, whose home this is, may be stored no more: no transfer of it has started.
pub record MayLose {D : Type 0} (t : Storage D) (uid page : ℕ) (at : Home) : Type 0 where
  pub home : at ≡ home_of t.accounts uid
  pub active : IsActive t.segs.ast.entries uid
  pub idle : IsNotStarted t.segs.pages.core uid page

-- A page of an active segment is stored no more, in each flat store that is shown and in the tables. The accounts of
-- all other segments count as before.
pub record LosesPage {D : Type 0} (drive : D → List (List ℕ)) (old new : Storage D) (uid page : ℕ) : Type 0 where
  pub rest : Unstores old new uid (λ q. q == page)
  pub shown : (p : Plan) (s : Flat) → Shows drive p s old
      → Shows drive p (without_pages s uid (λ q. q == page)) new
  pub exact : paged drive new uid
      ≡ page_cut (paged drive old uid) (home_of old.accounts uid) uid page (word_of old.segs.ast uid page)
  pub others : CountsOthers old.accounts new.accounts uid
