-- What the move of a segment rests on, by the tables: the next command of the owner's process lacks a record alone, and
-- the segment moves to the first volume that has room for it (Organick 1972; own).
use Rattle.std.specs.Prelude.{◌≡◌, ◌<◌, ◌*◌, ◌/◌, ◌==◌, ℕ, Bool, true, false, List, [], Option, Some, None}
use Rattle.mnames.specs.declared.principals.Who.{Who}
use Rattle.script.specs.References.{new_word, permits, reference_of}
use Rattle.script.specs.declared.commands.Command.{Command}
use Rattle.script.specs.declared.commands.Reference.{Reference}
use Rattle.tree_model.specs.Access.{access_of}
use Rattle.tree_model.specs.Tree.{Node, node_in, volume_in}
use Rattle.known_segs.specs.Known.{uid_of}
use Rattle.accounts.specs.Maps.{AccountMaps, Counts, count_of}
use Rattle.vtoc.specs.Vtoc.{Entry as VtocEntry}
use Rattle.volumes.specs.Volumes.{Vols}
use Rattle.page_control.specs.Counts.{is_full}
use Rattle.seg_mover.specs.declared.Mover.{Mover}
use Rattle.seg_mover.specs.Moves.{mover_for}
use Rattle.seg_control.specs.Control.{kst_at}
use Rattle.seg_control.specs.Moving.{IsUnread, pair_of}
use Rattle.storage_ops.specs.References.{is_spent}
use Rattle.storage_ops.specs.Rooms.{is_roomy}
use Rattle.storage_ops.specs.Shown.{home_of, is_filed, who_at}
use Rattle.machine_model.specs.declared.Phase.{Phase}
use Rattle.machine_model.specs.declared.Phase.TheVariants as phase
use Rattle.machine_model.specs.Reads.{is_active}
use Rattle.machine_model.specs.State.{Storage}

-- the accounts, the records and the VTOCs at rest, what numbers stand for, and for whom each process runs
pub record Tables : Type 0 where
  pub accounts : AccountMaps
  pub records : List (List Bool)
  pub vtocs : List (List (Option VtocEntry))
  pub known : List (List (Option ℕ))
  pub whos : List Who

abbrev pub tables_of : Storage → Tables
tables_of st = record {
  accounts = st.accounts;
  records = st.pages.records;
  vtocs = st.pages.vtocs;
  known = st.links.known;
  whos = st.whos;
}

-- the volumes at rest, without their drives
abbrev pub volumes_at : Tables → Vols (List (List ℕ))
volumes_at t = record { drives = []; records = t.records; vtocs = t.vtocs }

-- A reference of a process brings a word other than 0 into a page of a segment that isn't stored. It is refused for
-- nothing but that no record of the segment's volume is free.
pub record LacksRecord (t : Tables) (k uid : ℕ) (r : Reference) : Type 0 where
  pub stands : uid_of (kst_at t.known k) r.number ≡ Some uid
  pub node : Node
  pub there : node_in t.accounts.nodes uid ≡ Some node
  pub permitted : permits (access_of (who_at t.whos k) node.rows) r.kind ≡ true
  pub within : r.offset < 1024 * node.pages
  pub word : (new_word 0 r.kind == 0) ≡ false
  pub unstored : is_filed t.accounts t.vtocs uid (r.offset / 1024) ≡ false
  pub unspent : (stored : List (ℕ × ℕ)) → Counts t.accounts stored → is_spent t.accounts.nodes stored uid ≡ false
  pub full : is_full t.records (volume_in t.accounts.nodes uid) ≡ true

-- whether a volume has room for a segment, by the tables
abbrev pub has_room : Tables → ℕ → ℕ → Bool
has_room t uid volume = is_roomy (volumes_at t) (volume_in t.accounts.nodes uid) (count_of t.accounts uid) volume

pub record IsFirstWithRoom (t : Tables) (uid volume : ℕ) : Type 0 where
  pub room : has_room t uid volume ≡ true
  pub before : (v : ℕ) → v < volume → has_room t uid v ≡ false

-- the move of a segment from its home to a volume, as it begins
abbrev pub mover_at : Tables → ℕ → ℕ → Mover
mover_at t uid volume = mover_for (volumes_at t) uid (pair_of (home_of t.accounts uid)) volume

-- a move is that of a segment for a command that lacks a record alone
pub record MovesFor (t : Tables) (k : ℕ) (m : Mover) (c : Command) : Type 0 where
  pub reference : Reference
  pub is : reference_of c ≡ Some reference
  pub lacks : LacksRecord t k m.uid reference
  pub first : IsFirstWithRoom t m.uid m.to.0
  pub its : m ≡ record (mover_at t m.uid m.to.0) { next = m.next }

abbrev pub MovesForNext : Tables → ℕ → Mover → Option Command → Type 0
MovesForNext t k m None = ⊥
MovesForNext t k m (Some c) = MovesFor t k m c

-- while a segment moves it is active, and no page of it is being read into a frame
pub record IsMovedFor (st : Storage) (k : ℕ) (m : Mover) (c : Option Command) : Type 0 where
  pub moves : MovesForNext (tables_of st) k m c
  pub active : is_active st.ast m.uid ≡ true
  pub unread : IsUnread st.pages.core m.uid

abbrev pub MovesIn : Phase → Storage → ℕ → Option Command → Type 0
MovesIn phase.Looking st k c = Unit {0}
MovesIn (phase.Taken a w) st k c = Unit {0}
MovesIn (phase.Waiting a w) st k c = Unit {0}
MovesIn (phase.Moving m) st k c = IsMovedFor st k m c
