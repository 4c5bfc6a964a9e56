-- What the frames, the records and the VTOCs stand for: the words of each page of a segment at its home, and which of
-- its pages are stored (Bensoussan, Clingen and Daley 1972; that a page of zeros has no record is Organick 1972).
use Rattle.std.specs.Prelude.{◌≡◌, ℕ, true, ◌==◌, ◌&&◌, if◌then◌else◌, Bool, false, List, [], Option, None, Some, is_some, replicate, position, slice_index_or}
use Rattle.vtoc.specs.Vtoc.{Entry, record_at}
use Rattle.page_control.specs.declared.Home.{Home}
use Rattle.page_control.specs.declared.Left.{Left}
use Rattle.page_control.specs.declared.Left.TheVariants.{Released, Kept}
use Rattle.page_control.specs.Plain.{Plain, bindings, disk_of, filed}
use Rattle.page_control.specs.Tied.{vtoc_in, uid_at}

-- whether a frame is bound to page p of segment uid
abbrev pub is_binding : ℕ → ℕ → Option (ℕ × ℕ) → Bool
is_binding uid p None = false
is_binding uid p (Some page) = page.0 == uid && page.1 == p

-- the words of a page that is in no frame: those of its record, and zeros where it has none
abbrev pub words_filed : List (List ℕ) → Option ℕ → List ℕ
words_filed disk None = replicate 1024 0
words_filed disk (Some r) = slice_index_or disk r []

-- the same by the file map at a home
abbrev pub words_out : Plain → Home → ℕ → List ℕ
words_out s home p = words_filed (disk_of s home.volume) (filed s home p)

-- the words of a page: those of its frame, if it is in one
abbrev pub words_held : List (List ℕ) → List (List ℕ) → Option ℕ → Option ℕ → List ℕ
words_held frames disk place None = words_filed disk place
words_held frames disk place (Some f) = slice_index_or frames f []

-- the words of page p of segment uid at a home, by what the frames are bound to, their words, the pages of the drives
-- and the VTOCs
unfoldable pub words_of_page : List (Option (ℕ × ℕ)) → List (List ℕ) → List (List (List ℕ))
    → List (List (Option Entry)) → ℕ → Home → ℕ → List ℕ
words_of_page bound frames disks vtocs uid home p =
    words_held frames (slice_index_or disks home.volume []) (record_at (vtoc_in vtocs home.volume) home.entry p)
    (position (is_binding uid p) bound)

-- the picture: the words of each page of each segment at its home
abbrev pub words_at : Plain → ℕ → Home → ℕ → List ℕ
words_at s = words_of_page (bindings s.core) s.frames s.disks s.vtocs

-- a page is stored where the file map at the home names a record for it
unfoldable pub is_filed_at : List (List (Option Entry)) → Home → ℕ → Bool
is_filed_at vtocs home p = is_some (record_at (vtoc_in vtocs home.volume) home.entry p)

abbrev pub is_stored : Plain → Home → ℕ → Bool
is_stored s = is_filed_at s.vtocs

-- the same but at page p of segment uid, where it is x
unfoldable pub changed_at : {X : Type 0} → (ℕ → ℕ → X) → ℕ → ℕ → X → ℕ → ℕ → X
changed_at old uid p x u q = if uid == u && p == q then x else old u q

-- the same but at page p of segment uid, where it is x at every home
abbrev pub changed_page : {X : Type 0} → (ℕ → Home → ℕ → X) → ℕ → ℕ → X → ℕ → Home → ℕ → X
changed_page old uid p x u home = changed_at (λ v. old v home) uid p x u

-- whether a page that has left its frame is still stored, and which pages are stored then
abbrev pub is_kept : Left → Bool
is_kept Released = false
is_kept Kept = true

-- Entry h is used for segment u; and where u is segment uid, h is this home of it. While a segment moves, it has two
-- homes and one set of frames, so a call that concerns one of them says nothing of the other.
pub record AreHomes (vtocs : List (List (Option Entry))) (uid : ℕ) (home : Home) (u : ℕ) (h : Home) : Type 0 where
  pub used : uid_at vtocs h ≡ Some u
  pub own : u ≡ uid → h ≡ home

-- Every page of a segment at its home has the words that it had, where a call concerns segment uid at this home.
pub record KeepsWords (old new : Plain) (uid : ℕ) (home : Home) : Type 0 where
  pub words : (u : ℕ) (h : Home) (q : ℕ) → AreHomes old.vtocs uid home u h → words_at new u h q ≡ words_at old u h q

-- Page p of segment uid has these words, and every other page of a segment at its home those that it had.
pub record ChangesWords (old new : Plain) (uid : ℕ) (home : Home) (p : ℕ) (words : List ℕ) : Type 0 where
  pub here : words_at new uid home p ≡ words
  pub others : (u : ℕ) (h : Home) (q : ℕ) → AreHomes old.vtocs uid home u h → (u ≡ uid → q ≡ p → ⊥)
      → words_at new u h q ≡ words_at old u h q

-- Page p at this home is stored or not, as given, and every other page as before.
pub record ChangesStored (old new : Plain) (home : Home) (p : ℕ) (stored : Bool) : Type 0 where
  pub here : is_stored new home p ≡ stored
  pub others : (h : Home) (q : ℕ) → (h ≡ home → q ≡ p → ⊥) → is_stored new h q ≡ is_stored old h q
