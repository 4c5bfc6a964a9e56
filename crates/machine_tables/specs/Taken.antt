-- What stays of the active segments where a page is taken, which descriptor is cut first, and when a segment may become
-- inactive.
use Rattle.std.specs.Prelude.{◌≡◌, ◌<◌, ℕ, ◌+◌, Bool, true, false, List, [], ◌∷◌, length, drop, All, Some}
use Rattle.active_segs.specs.Active.{ActiveSegs, HasNoInferior, IsActive, IsAway}
use Rattle.trailers.specs.Trailer.{trailers_of}
use Rattle.page_table.specs.declared.Ptw.TheVariants.{Here}
use Rattle.page_control.specs.Plain.{binding_at, bindings}
use Rattle.seg_control.specs.Control.{leads_at, place_of, table_of, word_of}
use Rattle.seg_control.specs.Kept.{IsNotRead}
use Rattle.machine_model.specs.Reads.{trailers_in}
use Rattle.machine_model.specs.State.{Storage}

-- The same segments are active in the same places, and the page table of one is as long as before and has the same
-- words after page p.
pub record LeavesPast (old new : ActiveSegs) (uid p : ℕ) : Type 0 where
  pub entries : new.entries ≡ old.entries
  pub past : drop (p + 1) (table_of new uid) ≡ drop (p + 1) (table_of old uid)
  pub long : length (table_of new uid) ≡ length (table_of old uid)

-- A descriptor is the oldest of those that lead to an active segment.
pub record IsOldest (st : Storage) (uid : ℕ) (pair : ℕ × ℕ) : Type 0 where
  pub rest : List (ℕ × ℕ)
  pub is : trailers_in st uid ≡ pair ∷ rest
  pub leads : leads_at st.links.descriptors pair.0 pair.1 ≡ Some (place_of st.ast.entries uid)
  pub process : pair.0 < length st.links.known
  pub number : pair.1 < 256

-- No page that is in a frame is on its way out.
pub record AreHere (st : Storage) : Type 0 where
  pub here : (f u p : ℕ) → binding_at (bindings st.pages.core) f ≡ Some (u, p) → word_of st.ast u p ≡ Here f

-- A segment is active with no active inferior, none of its pages is in a frame or being read into one, and no
-- descriptor leads to it.
pub record IsEmptied (st : Storage) (uid : ℕ) : Type 0 where
  pub active : IsActive st.ast.entries uid
  pub leaf : HasNoInferior st.ast.entries (place_of st.ast.entries uid)
  pub away : All IsAway (table_of st.ast uid)
  pub idle : IsNotRead st.pages.core st.ast.entries (place_of st.ast.entries uid)
  pub cut : trailers_of st.links.trailers (place_of st.ast.entries uid) ≡ []

-- whether there is neither a page nor a descriptor to take
abbrev pub is_bare : List ℕ → List (ℕ × ℕ) → Bool
is_bare [] [] = true
is_bare [] (pair ∷ pairs) = false
is_bare (f ∷ fs) pairs = false
