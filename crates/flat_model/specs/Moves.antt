-- When a segment whose volume has no free record moves to another volume, and what waits for that (Organick 1972).
use Rattle.std.specs.Prelude.{◌≡◌, ℕ, ◌*◌, Bool, true, false, not, ◌&&◌, ◌==◌, nat_le, is_some, Option, Some, None}
use Rattle.script.specs.Plans.{Plan, command_at, who_of}
use Rattle.script.specs.References.{permits, reference_of}
use Rattle.script.specs.declared.commands.Command.{Command}
use Rattle.script.specs.declared.commands.Reference.{Reference}
use Rattle.script.specs.declared.commands.RefKind.{RefKind}
use Rattle.tree_model.specs.Access.{access_of}
use Rattle.tree_model.specs.Tree.{Node, node_in, with_node}
use Rattle.flat_model.specs.References.{is_used_up, is_volume_full, stores_page}
use Rattle.flat_model.specs.Rooms.{room_for}
use Rattle.flat_model.specs.Store.{Store, is_turn, known_uid, progress_of}

-- a reference to a segment that is refused for nothing but that no record of the segment's volume is free
abbrev pub lacks_record : Plan → Store → ℕ → ℕ → RefKind → Node → Bool
lacks_record p s k offset how n = permits (access_of (who_of p k) n.rows) how
    && (not (nat_le (1024 * n.pages) offset)
    && (stores_page s n.uid offset how && (not (is_used_up s n.uid) && is_volume_full p s n.volume)))

abbrev pub lacks_at : Plan → Store → ℕ → ℕ → RefKind → Option Node → Bool
lacks_at p s k offset how None = false
lacks_at p s k offset how (Some n) = lacks_record p s k offset how n

-- ---- a reply that is held back

-- the reply is held back until the segment has moved: the reference lacks a record alone, and a volume has room
abbrev pub is_held_in : Plan → Store → ℕ → ℕ → RefKind → Node → Bool
is_held_in p s k offset how n = lacks_record p s k offset how n && is_some (room_for p s n.uid)

abbrev pub is_held_at : Plan → Store → ℕ → ℕ → RefKind → Option Node → Bool
is_held_at p s k offset how None = false
is_held_at p s k offset how (Some n) = is_held_in p s k offset how n

abbrev pub is_held_of : Plan → Store → ℕ → ℕ → RefKind → Option ℕ → Bool
is_held_of p s k offset how None = false
is_held_of p s k offset how (Some uid) = is_held_at p s k offset how (node_in s.nodes uid)

abbrev pub is_held_by : Plan → Store → ℕ → Option Reference → Bool
is_held_by p s k None = false
is_held_by p s k (Some r) = is_held_of p s k r.offset r.kind (known_uid s k r.number)

-- the reply to a command is held back until a segment has moved; that of a tree command never is
unfoldable pub is_held_back : Plan → Store → ℕ → Command → Bool
is_held_back p s k c = is_held_by p s k (reference_of c)

-- ---- what may move

abbrev pub is_uid : Option ℕ → ℕ → Bool
is_uid None uid = false
is_uid (Some u) uid = u == uid

abbrev pub awaits_by : Plan → Store → ℕ → ℕ → Option Reference → Bool
awaits_by p s k uid None = false
awaits_by p s k uid (Some r) = is_uid (known_uid s k r.number) uid
    && lacks_at p s k r.offset r.kind (node_in s.nodes uid)

abbrev pub awaits_in : Plan → Store → ℕ → ℕ → Option Command → Bool
awaits_in p s k uid None = false
awaits_in p s k uid (Some c) = awaits_by p s k uid (reference_of c)

-- the next command of a process writes to the segment, and lacks a record alone
unfoldable pub awaits_move : Plan → Store → ℕ → ℕ → Bool
awaits_move p s k uid = awaits_in p s k uid (command_at p k (progress_of s k).place)

-- A segment may move for a process that hasn't ended, whose turn it is, and whose next command lacks a record alone: to
-- the first volume that has room.
pub record MayMove (p : Plan) (s : Store) (k uid volume : ℕ) : Type 0 where
  pub turn : is_turn p s k ≡ true
  pub going : (progress_of s k).ended ≡ false
  pub awaits : awaits_move p s k uid ≡ true
  pub first : room_for p s uid ≡ Some volume

-- the store once a segment has moved: its home is on the other volume, and all else is as it was
abbrev pub moved : Store → ℕ → ℕ → Store
moved s uid volume = record s { nodes = with_node s.nodes uid (λ n. record n { volume = volume }) }
