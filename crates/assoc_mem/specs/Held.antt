-- What a contract sees of the associative memories of a processor: what they hold, in two lists, the oldest fill first
-- (Bensoussan, Clingen and Daley 1972; the 16 places of each kind, and that the oldest fill is dropped, are own).
use Rattle.std.specs.Prelude.{ℕ, ◌==◌, ◌&&◌, Bool, true, false, not, List, [], ◌∷◌, ◌++◌, length, drop, filter, Option, if◌then◌else◌}
use Rattle.std.specs.Option.{option_map}
use Rattle.std.specs.List.{find}
use Rattle.assoc_mem.specs.declared.HeldSeg.{HeldSeg}
use Rattle.assoc_mem.specs.declared.HeldPage.{HeldPage}
use Rattle.assoc_mem.specs.declared.What.{What}
use Rattle.assoc_mem.specs.declared.What.TheVariants.{All, Page, Seg}

-- the segment descriptor words and the page table words that a processor holds, the oldest fill of each kind first
pub record Held : Type 0 where
  pub segs : List HeldSeg
  pub pages : List HeldPage

-- nothing is held
abbrev pub nothing_held : Held
nothing_held = record { segs = []; pages = [] }

-- whether an entry is that of a segment number
abbrev pub is_number : ℕ → HeldSeg → Bool
is_number number entry = entry.number == number

-- whether an entry is that of a page of a segment
abbrev pub is_page : ℕ → ℕ → HeldPage → Bool
is_page uid page entry = (entry.uid == uid) && (entry.page == page)

-- what is held for a segment number
abbrev pub seg_of : Held → ℕ → Option HeldSeg
seg_of held number = find (is_number number) held.segs

-- what is held for a page
abbrev pub page_of : Held → ℕ → ℕ → Option HeldPage
page_of held uid page = find (is_page uid page) held.pages

-- the frame of a page by what is held
abbrev pub frame_of : Held → ℕ → ℕ → Option ℕ
frame_of held uid page = option_map (λ entry. entry.frame) (page_of held uid page)

-- a list of one kind with one more entry at its end; where 16 were held, the oldest is dropped
abbrev pub filled : {X : Type 0} → List X → X → List X
filled held entry = (if length held == 16 then drop 1 held else held) ++ entry ∷ []

-- what is held after a descriptor is filled in, and after a page table word is
abbrev pub with_seg : Held → HeldSeg → Held
with_seg held entry = record held { segs = filled held.segs entry }

abbrev pub with_page : Held → HeldPage → Held
with_page held entry = record held { pages = filled held.pages entry }

-- whether a descriptor is among what is to be dropped: everything, the page table word of a frame, or all entries of a
-- segment
abbrev pub names_seg : What → HeldSeg → Bool
names_seg All entry = true
names_seg (Page frame) entry = false
names_seg (Seg uid) entry = entry.uid == uid

-- whether a page table word is
abbrev pub names_page : What → HeldPage → Bool
names_page All entry = true
names_page (Page frame) entry = entry.frame == frame
names_page (Seg uid) entry = entry.uid == uid

-- what is held when exactly what is named has been dropped; the rest keeps its order
abbrev pub cleared : Held → What → Held
cleared held what = record {
  segs = filter (λ entry. not (names_seg what entry)) held.segs;
  pages = filter (λ entry. not (names_page what entry)) held.pages;
}
