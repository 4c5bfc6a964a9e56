-- What is true of segment control between calls (Bensoussan, Clingen and Daley 1972).
use Rattle.std.specs.Prelude.{◌≡◌, ◌≢◌, ◌⊎◌, ℕ, ◌≤◌, ◌<◌, ◌==◌, ◌^◌, ◌+◌, if◌then◌else◌, true, List, Option, None, Some, length, count_by, slice_index_or}
use Rattle.core_map.specs.declared.Frame.TheVariants.{Free}
use Rattle.core_map.specs.CoreMap.{Core, reads_of, frame_at}
use Rattle.page_table.specs.declared.Ptw.{Ptw}
use Rattle.page_table.specs.declared.Ptw.TheVariants.{Null}
use Rattle.page_table.specs.PageTable.{ptw_at}
use Rattle.vtoc.specs.Vtoc.{Entry as VtocEntry}
use Rattle.known_segs.specs.Known.{uid_of, HasOneNumberEach}
use Rattle.descriptor_seg.specs.declared.Sdw.{Sdw}
use Rattle.trailers.specs.Trailer.{trailers_of, leads_to}
use Rattle.active_segs.specs.declared.Entry.{Entry}
use Rattle.active_segs.specs.Active.{ActiveSegs, entry_at, uid_at, table_at, IsActive, IsTree}
use Rattle.active_segs.specs.Pool.{IsInPool}
use Rattle.page_control.specs.declared.Home.{Home}
use Rattle.page_control.specs.Plain.{Plain, bindings, binding_at}
use Rattle.page_control.specs.Tied.{IsTableOf, AreFiled, is_out, uid_at as uid_homed}
use Rattle.page_control.specs.Ties.{IsTied}
use Rattle.seg_control.specs.Control.{Links, kst_at, sdws_at, leads_at}

-- ---- page tables, frames and file maps

-- this is the one home of the segment
pub record IsHomeOf (vtocs : List (List (Option VtocEntry))) (uid : ℕ) (home : Home) : Type 0 where
  pub used : uid_homed vtocs home ≡ Some uid
  pub only : (other : Home) → uid_homed vtocs other ≡ Some uid → other ≡ home

-- the segment is not active
pub record IsInactive (entries : List (Option Entry)) (uid : ℕ) : Type 0 where
  pub nowhere : (place : ℕ) → uid_at entries place ≢ Some uid

-- some page table would be that of the segment at this home
pub record HasTable (now : Plain) (uid : ℕ) (home : Home) : Type 0 where
  pub table : List Ptw
  pub tie : IsTied now uid home table

-- the page of the segment that is being read into frame f, if there is one
abbrev pub read_at : List (Option (ℕ × ℕ)) → ℕ → Option (ℕ × ℕ)
read_at reads f = slice_index_or reads f None

-- the segment is active, and its page p is on its record alone
pub record IsOutAt (entries : List (Option Entry)) (ptws : List (List Ptw)) (uid p : ℕ) : Type 0 where
  pub place : ℕ
  pub active : uid_at entries place ≡ Some uid
  pub out : is_out (ptw_at (table_at ptws place) p) ≡ true

pub record ArePaged (now : Plain) (entries : List (Option Entry)) (ptws : List (List Ptw)) : Type 0 where
  -- the page table of an active segment agrees with the frames, and with the file map of its home, where it has just
  -- one
  pub tables : (place uid : ℕ) → uid_at entries place ≡ Some uid
      → IsTableOf (bindings now.core) uid (table_at ptws place)
  pub ties : (place uid : ℕ) (home : Home) → uid_at entries place ≡ Some uid → IsHomeOf now.vtocs uid home
      → IsTied now uid home (table_at ptws place)
  -- so would one of a segment that is not active
  pub rest : (uid : ℕ) (home : Home) → IsInactive entries uid → IsHomeOf now.vtocs uid home → HasTable now uid home
  -- a place in which nothing is active has a table of no page
  pub blank : (place p : ℕ) → entry_at entries place ≡ None → ptw_at (table_at ptws place) p ≡ Null
  -- a page of a segment that is not active is in no frame
  pub bound : (f uid p : ℕ) → binding_at (bindings now.core) f ≡ Some (uid, p) → IsActive entries uid
  -- a page that is being read into a frame is on its record alone, and is read into no other frame
  pub started : (f uid p : ℕ) → read_at (reads_of now.core) f ≡ Some (uid, p) → IsOutAt entries ptws uid p
  pub once : (f g uid p : ℕ) → read_at (reads_of now.core) f ≡ Some (uid, p) → read_at (reads_of now.core) g
      ≡ Some (uid, p) → f ≡ g
  -- the records in use are those that file maps name
  pub filed : AreFiled now.records now.vtocs

-- ---- descriptors, trailers and known segment tables

-- how often a descriptor that leads there stands among the trailers of a place
abbrev pub times : Option ℕ → ℕ → ℕ
times None place = 0
times (Some aste) place = if aste == place then 1 else 0

-- the trailers of each place are exactly the descriptors that lead there, each once
abbrev pub AreExact : List (List (ℕ × ℕ)) → List (List Sdw) → Type 0
AreExact trailers descriptors =
    (place process number : ℕ) → count_by (leads_to process number) (trailers_of trailers place)
    ≡ times (leads_at descriptors process number) place

-- the segment of this place is known to the process by this number
pub record IsKnownAt (entries : List (Option Entry)) (known : List (List (Option ℕ))) (process number place : ℕ) : Type
    0 where
  pub uid : ℕ
  pub active : uid_at entries place ≡ Some uid
  pub known_as : uid_of (kst_at known process) number ≡ Some uid

-- as many trailer lists as places, and for each of at most 32 processes 256 numbers and as many descriptors
pub record HaveLists (entries : List (Option Entry)) (links : Links) : Type 0 where
  pub places : length links.trailers ≡ length entries
  pub processes : length links.descriptors ≡ length links.known
  pub few : length links.known ≤ 32
  pub numbers : (process : ℕ) → process < length links.known → length (kst_at links.known process) ≡ 256
  pub words : (process : ℕ) → process < length links.known → length (sdws_at links.descriptors process) ≡ 256

pub record AreLinked (entries : List (Option Entry)) (links : Links) : Type 0 where
  pub exact : AreExact links.trailers links.descriptors
  -- a descriptor leads to an active segment, by the number by which the process knows it
  pub known : (process number place : ℕ) → leads_at links.descriptors process number ≡ Some place
      → IsKnownAt entries links.known process number place
  pub each : (process : ℕ) → HasOneNumberEach (kst_at links.known process)
  pub lists : HaveLists entries links

-- ---- the whole

-- each place has a page table of its pool's size
abbrev pub HaveSizes : List ℕ → List (List Ptw) → Type 0
HaveSizes sizes ptws = (pool place : ℕ) → pool < 4 → IsInPool sizes pool place → length (table_at ptws place)
    ≡ 4 ^ (pool + 1)

pub record IsKept (now : Plain) (ast : ActiveSegs) (links : Links) : Type 0 where
  pub paged : ArePaged now ast.entries ast.tables
  pub tree : IsTree ast.entries
  pub places : length ast.tables ≡ length ast.entries
  pub sized : HaveSizes ast.sizes ast.tables
  pub linked : AreLinked ast.entries links

-- ---- what calls ask

-- the home is the segment's one home, or it agrees with this page table of the segment's
abbrev pub IsHomeFor : Plain → ℕ → Home → List Ptw → Type 0
IsHomeFor now uid home table = (IsHomeOf now.vtocs uid home) ⊎ (IsTied now uid home table)

-- no page of the segment of this place is being read into a frame
pub record IsNotRead (core : Core) (entries : List (Option Entry)) (place : ℕ) : Type 0 where
  pub none : (f uid p : ℕ) → uid_at entries place ≡ Some uid → read_at (reads_of core) f ≢ Some (uid, p)

-- no frame is bound, and none is being read into
abbrev pub AreFree : Core → Type 0
AreFree core = (f : ℕ) → frame_at core f ≡ Free

-- each segment that has just one home could have a page table there
abbrev pub AreAtRest : Plain → Type 0
AreAtRest now = (uid : ℕ) (home : Home) → IsHomeOf now.vtocs uid home → HasTable now uid home

-- pair i of a list of processes with their numbers
abbrev pub pair_at : List (ℕ × ℕ) → ℕ → ℕ × ℕ
pair_at list i = slice_index_or list i (0, 0)

-- numbers of processes that may be connected to the place of a segment: each is known for it and leads nowhere, and
-- none comes twice
pub record MayReconnect (links : Links) (uid : Option ℕ) (list : List (ℕ × ℕ)) : Type 0 where
  pub processes : (i : ℕ) → i < length list → (pair_at list i).0 < length links.known
  pub known : (i : ℕ) → i < length list → uid_of (kst_at links.known (pair_at list i).0) (pair_at list i).1 ≡ uid
  pub cut : (i : ℕ) → i < length list → leads_at links.descriptors (pair_at list i).0 (pair_at list i).1 ≡ None
  pub once : (i j : ℕ) → i < j → j < length list → pair_at list i ≢ pair_at list j
