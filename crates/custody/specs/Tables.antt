-- What the program of custody keeps, and the custody that this is (own).
use Rattle.std.specs.Prelude.{◌≡◌, ◌<◌, ◌≤◌, ◌^◌, ◌+◌, ℕ, Bool, true, false, ◌==◌, is_some, slice_index_or, length, List, [], ◌∷◌, Option, Some, None, IfSome, IsSomeAnd, count_by}
use Rattle.assoc_mem.specs.declared.What.{What}
use Rattle.tree_model.specs.Tree.{Node, node_in, pool_of}
use Rattle.custody_model.specs.Custody.{Custody, Seat, offline, is_going_frame, is_going_descriptor, names_frame, names_descriptor}
use Rattle.custody_model.specs.declared.FrameUse.{FrameUse}
use Rattle.custody_model.specs.declared.DescriptorUse.{DescriptorUse}
use Rattle.script.specs.Plans.{Plan}
use Rattle.flat_model.specs.Pages.{Words}
use Rattle.flat_model.specs.Sizes.{is_lost}
use Rattle.custody_model.specs.Allowed.{pool_size}
use Rattle.custody_model.specs.Effects.{HasNoPage, HasNoDescriptor}
use Rattle.custody.specs.Counts.{Counted}
use Rattle.custody.specs.Uses.{IsTally, frame_at, descriptor_at}
use Rattle.custody.specs.declared.active.ActiveUse.{ActiveUse}

-- ---- active segments, by their uids

abbrev pub active_at : List (Option ActiveUse) → ℕ → Option ActiveUse
active_at uses u = slice_index_or uses u None

abbrev pub superior_of : Option ActiveUse → Option ℕ
superior_of None = None
superior_of (Some a) = a.superior

abbrev pub is_in_pool : ℕ → Option ActiveUse → Bool
is_in_pool q None = false
is_in_pool q (Some a) = a.pool == q

-- the key of its pool, under which an active segment is counted, as it is under its superior
abbrev pub pool_key : Option ActiveUse → Option ℕ
pool_key None = None
pool_key (Some a) = Some a.pool

pub record AreActive (uses : List (Option ActiveUse)) (pools inferiors : Counted) : Type 0 where
  pub few : length uses ≤ 2 ^ 32
  pub in_pools : IsTally pool_key uses pools
  pub below : IsTally superior_of uses inferiors

-- ---- all tables

-- the active segments by uid; the uses of frames; those of the descriptors of each process; the ready processes; the
-- processors
pub record Tables : Type 0 where
  pub active : List (Option ActiveUse)
  pub frames : List FrameUse
  pub descriptors : List (List DescriptorUse)
  pub ready : List ℕ
  pub seats : List Seat

abbrev pub row_at : List (List DescriptorUse) → ℕ → List DescriptorUse
row_at rows k = slice_index_or rows k []

abbrev pub seat_at : List Seat → ℕ → Seat
seat_at seats d = slice_index_or seats d offline

-- the custody that tables are
abbrev pub custody_of : Tables → Custody
custody_of t = record {
  active = λ u. is_some (active_at t.active u);
  frame = λ f. frame_at t.frames f;
  descriptor = λ k n. descriptor_at (row_at t.descriptors k) n;
  ready = t.ready;
  seat = λ d. seat_at t.seats d;
}

-- all frames, or all descriptors, whose page or segment is on its way out are named
abbrev pub FramesAreNamed : Custody → What → Type 0
FramesAreNamed c w = (f : ℕ) → is_going_frame (c.frame f) ≡ true → names_frame c w f ≡ true

abbrev pub DescriptorsAreNamed : Custody → What → Type 0
DescriptorsAreNamed c w = (k n : ℕ) → is_going_descriptor (c.descriptor k n) ≡ true → names_descriptor c w k n ≡ true

-- ---- the active segments among the nodes

-- each node has a uid of its own
abbrev pub AreApart : List Node → Type 0
AreApart [] = Unit {0}
AreApart (n ∷ ns) = (node_in ns n.uid ≡ None) × AreApart ns

-- a node is as it was when its segment became active
pub record IsAsActivated (a : ActiveUse) (n : Node) : Type 0 where
  pub superior : n.superior ≡ a.superior
  pub pool : pool_of n ≡ a.pool

-- What is active is in the tree, and lies there and needs a place as it did when it became active.
pub record AreNodes (nodes : List Node) (uses : List (Option ActiveUse)) : Type 0 where
  pub apart : AreApart nodes
  pub there : (u : ℕ) (a : ActiveUse) → active_at uses u ≡ Some a → IsSomeAnd (node_in nodes u) (IsAsActivated a)

-- a segment or directory is active, and no page and no descriptor of it is in use
pub record IsUnused (c : Custody) (u : ℕ) : Type 0 where
  pub active : c.active u ≡ true
  pub pages : HasNoPage c u
  pub descriptors : HasNoDescriptor c u

-- what becomes active, as the node of its uid is
abbrev pub use_in : Option Node → Option ActiveUse
use_in None = None
use_in (Some n) = Some (record { superior = n.superior; pool = pool_of n })

-- its superior is active, and its pool has room
pub record CanJoin (p : Plan) (t : Tables) (a : ActiveUse) : Type 0 where
  pub superior : IfSome a.superior (λ v. is_some (active_at t.active v) ≡ true)
  pub room : count_by (is_in_pool a.pool) t.active < pool_size p a.pool

-- a truncation at this word keeps exactly the pages below a number
abbrev pub AreKept : Words → ℕ → ℕ → ℕ → Type 0
AreKept words u from kept = (q : ℕ) → (q < kept → is_lost words u from q ≡ false)
    × (is_lost words u from q ≡ false → q < kept)

-- ---- what is asked of the tables

-- The tables are those of a script: it has so many frames and processors, and each of its processes 256 descriptors.
pub record AreTablesOf (p : Plan) (t : Tables) : Type 0 where
  pub frames : length t.frames ≡ p.frames
  pub processes : length t.descriptors ≡ length p.processes
  pub numbers : (k : ℕ) → k < length t.descriptors → length (row_at t.descriptors k) ≡ 256
  pub processors : length t.seats ≡ p.processors

-- the count of each processor's command entries has room for one more
abbrev pub HaveRoom : List Seat → Type 0
HaveRoom seats = (d : ℕ) → (seat_at seats d).count + 1 < 2 ^ 64
