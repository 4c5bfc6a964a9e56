-- When pages that were taken, and descriptors that were cut, may come back.
use Rattle.std.specs.Prelude.{◌≡◌, ◌<◌, ℕ, length, true, List, [], ◌∷◌, Some, None}
use Rattle.core_map.specs.CoreMap.{frame_at, is_bound}
use Rattle.page_table.specs.declared.Ptw.TheVariants as ptw
use Rattle.active_segs.specs.Active.{IsActive}
use Rattle.known_segs.specs.Known.{uid_of}
use Rattle.seg_control.specs.Control.{kst_at, leads_at, word_of}
use Rattle.storage_ops.specs.Connecting.{IsRight}
use Rattle.machine_model.specs.declared.CutDescriptor.{CutDescriptor}
use Rattle.machine_model.specs.Jobs.{page_in, with_here, with_relink}
use Rattle.machine_model.specs.State.{Storage}

-- The page in a frame is on its way out.
pub record IsLeaving (st : Storage) (f : ℕ) : Type 0 where
  pub bound : is_bound (frame_at st.pages.core f) ≡ true
  pub leaving : word_of st.ast (page_in st f).0 (page_in st f).1 ≡ ptw.Leaving f

-- each page is, once those before it are back
abbrev pub MayComeBack : Storage → List ℕ → Type 0
MayComeBack st [] = Unit {0}
MayComeBack st (f ∷ fs) = IsLeaving st f × MayComeBack (with_here st f) fs

-- the pages in some frames are here again
abbrev pub with_all_here : Storage → List ℕ → Storage
with_all_here st [] = st
with_all_here st (f ∷ fs) = with_all_here (with_here st f) fs

-- A descriptor that was cut is one of a process, which knows by its number an active segment; the number leads
-- nowhere, and mode and length are the segment's for the process.
pub record IsRelinkable (st : Storage) (d : CutDescriptor) : Type 0 where
  pub process : d.process < length st.links.known
  pub active : IsActive st.ast.entries d.uid
  pub known : uid_of (kst_at st.links.known d.process) d.number ≡ Some d.uid
  pub cut : leads_at st.links.descriptors d.process d.number ≡ None
  pub right : IsRight st.accounts.nodes st.whos d.process d.uid d.mode d.pages

-- each descriptor is, once those before it are back
abbrev pub MayRelink : Storage → List CutDescriptor → Type 0
MayRelink st [] = Unit {0}
MayRelink st (d ∷ ds) = IsRelinkable st d × MayRelink (with_relink st d) ds
