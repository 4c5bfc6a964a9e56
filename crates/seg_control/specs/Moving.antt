-- A segment that moves to another volume: the volumes while it does, and what each call of its move changes (Organick
-- 1972; the steps are own).
use Rattle.std.specs.Prelude.{◌≡◌, ◌≢◌, ℕ, zero, suc, ◌+◌, ◌-◌, Bool, true, false, List, Option, None, Some, if◌then◌else◌, IfSome}
use Rattle.vtoc.specs.Vtoc.{Entry}
use Rattle.volumes.specs.Volumes.{Vols}
use Rattle.core_map.specs.CoreMap.{Core, reads_of}
use Rattle.page_table.specs.declared.Ptw.{Ptw}
use Rattle.page_table.specs.declared.Ptw.TheVariants.{Null, Out, Here, Leaving}
use Rattle.page_table.specs.PageTable.{ptw_at}
use Rattle.active_segs.specs.Active.{ActiveSegs, IsActive}
use Rattle.page_control.specs.declared.Home.{Home}
use Rattle.page_control.specs.Moves.{IsCopied, all_modified, rehomed}
use Rattle.page_control.specs.Plain.{Paging, Plain, plain}
use Rattle.page_control.specs.Tied.{is_out}
use Rattle.seg_mover.specs.declared.Mover.{Mover}
use Rattle.seg_mover.specs.Homes.{map_at}
use Rattle.seg_mover.specs.Moves.{CanBegin, IsMoving, begun, committed, undone}
use Rattle.seg_control.specs.Control.{Control, Links, table_of}
use Rattle.seg_control.specs.Effects.{tabled}
use Rattle.seg_control.specs.Kept.{IsHomeOf, IsKept, read_at}

-- ---- homes

-- a home as page control has it, and as the mover has it
abbrev pub home_at : ℕ × ℕ → Home
home_at pair = record { volume = pair.0; entry = pair.1 }

abbrev pub pair_of : Home → ℕ × ℕ
pair_of home = (home.volume, home.entry)

-- ---- the volumes

-- the volumes, where each drive is seen as its pages
abbrev pub volumes_of : Plain → Vols (List (List ℕ))
volumes_of s = record { drives = s.disks; records = s.records; vtocs = s.vtocs }

-- Segment control sees the volumes at rest: without the home that a move under way has taken. These are the volumes as
-- they are, with that home.
abbrev pub in_move : {D : Type 0} → Vols D → Option Mover → Vols D
in_move vols None = vols
in_move vols (Some m) = begun vols m.uid m.from m.to.0

-- and the other way round
abbrev pub records_at_rest : {D : Type 0} → Vols D → Option Mover → List (List Bool)
records_at_rest vols None = vols.records
records_at_rest vols (Some m) = (undone vols m).records

abbrev pub vtocs_at_rest : {D : Type 0} → Vols D → Option Mover → List (List (Option Entry))
vtocs_at_rest vols None = vols.vtocs
vtocs_at_rest vols (Some m) = (undone vols m).vtocs

abbrev pub at_rest : {D : Type 0} → Paging D → Option Mover → Paging D
at_rest pages move = record pages {
  volumes = record pages.volumes {
    records = records_at_rest pages.volumes move;
    vtocs = vtocs_at_rest pages.volumes move;
  };
}

-- ---- what is copied

-- whether a word names a frame
abbrev pub is_framed : Ptw → Bool
is_framed Null = false
is_framed (Out r) = false
is_framed (Here f) = true
is_framed (Leaving f) = true

-- the first of so many pages, from page p on, that is on its record alone
unfoldable pub first_out : List Ptw → ℕ → ℕ → Option ℕ
first_out table zero p = None
first_out table (suc count) p = if is_out (ptw_at table p) then Some p else first_out table count (p + 1)

-- the page that is copied next: the least one, from page n on, that is on its record alone
abbrev pub next_out : List Ptw → ℕ → Option ℕ
next_out table n = first_out table (256 - n) n

-- no page of the segment is being read into a frame
pub record IsUnread (core : Core) (uid : ℕ) : Type 0 where
  pub none : (f p : ℕ) → read_at (reads_of core) f ≢ Some (uid, p)

-- ---- what holds while a segment moves

-- Of segment control with the volumes as they are: the segment is active, has its one home at rest, and could begin to
-- move there so; no page of it is being read into a frame; and those before page `next` of the mover that are on their
-- record alone are copied.
pub record IsOnItsWay (rest now : Plain) (ast : ActiveSegs) (m : Mover) : Type 0 where
  pub active : IsActive ast.entries m.uid
  pub home : IsHomeOf rest.vtocs m.uid (home_at m.from)
  pub can : CanBegin (volumes_of rest) m.uid m.from m.to.0
  pub begun : volumes_of now ≡ begun (volumes_of rest) m.uid m.from m.to.0
  pub moving : IsMoving (volumes_of now) m
  pub unread : IsUnread now.core m.uid
  pub copied : IsCopied now (table_of ast m.uid) (home_at m.from) (home_at m.to) m.next

-- What is true of segment control between calls, with the volumes at rest; and what holds of a move, if one is under
-- way.
pub record IsKeptAtRest {D : Type 0} (pages : D → List (List ℕ)) (s : Paging D) (ast : ActiveSegs) (links : Links)
    (moving : Option Mover) : Type 0 where
  pub kept : IsKept (plain pages (at_rest s moving)) ast links
  pub way : IfSome moving (IsOnItsWay (plain pages (at_rest s moving)) (plain pages s) ast)

-- What is seen of a move that is under way: the segment is active, has its one home at rest, and could begin to move
-- there so; and no page of it is being read into a frame.
pub record IsUnderWay {D : Type 0} (c : Control D) (m : Mover) : Type 0 where
  pub active : IsActive c.ast.entries m.uid
  pub home : IsHomeOf c.pages.volumes.vtocs m.uid (home_at m.from)
  pub can : CanBegin c.pages.volumes m.uid m.from m.to.0
  pub unread : IsUnread c.pages.core m.uid

-- ---- what a move changes

-- The segment has moved: its old home is given up, its page table goes by the new file map, and its pages in frames are
-- to be written to the new records.
abbrev pub move_committed : {D : Type 0} → Control D → Mover → Control D
move_committed c m =
    let vols = begun c.pages.volumes m.uid m.from m.to.0 in
    record c {
      pages = record c.pages { core = all_modified c.pages.core m.uid; volumes = committed vols m };
      ast = tabled c.ast m.uid (rehomed (table_of c.ast m.uid) (map_at vols m.to));
      moving = None;
    }
