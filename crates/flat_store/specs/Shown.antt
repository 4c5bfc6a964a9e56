-- What the program of the flat store keeps, and which flat store that shows (own).
use Rattle.std.specs.Prelude.{◌≡◌, ◌≢◌, ◌<◌, ℕ, ◌+◌, ◌/◌, ◌%◌, Bool, true, false, ◌==◌, if◌then◌else◌, is_some, length, replicate, ◌-◌, slice_index_or, List, [], ◌∷◌, ◌&&◌, ◌||◌, not, count_by, Option, Some, None, Result, Ok, Err}
use Rattle.std.specs.Ordering.{nat_cmp, ordering_then}
use Rattle.std.specs.Map.{lookup}
use Rattle.std.specs.BTreeMap.{is_at}
use Rattle.accounts.specs.Maps.{AccountMaps, Counts}
use Rattle.script.specs.Plans.{Plan}
use Rattle.script.specs.declared.plan.VolumeLine.{VolumeLine}
use Rattle.script.specs.declared.commands.RefKind.{RefKind}
use Rattle.book.specs.declared.replies.Reply.{Reply}
use Rattle.tree_model.specs.Tree.{Node, pool_of, has_directory, node_in, quota_in, volume_in, taken_on, entries_on}
use Rattle.dir_tree.specs.Nodes.{has_inferior}
use Rattle.tree_model.specs.Trees.{has_segment}
use Rattle.flat_model.specs.Pages.{Words, is_page, is_stored, IsOnce}
use Rattle.flat_model.specs.Cuts.{cut_at}
use Rattle.flat_model.specs.References.{is_used_up, is_volume_full, stores_page, room_reply, word_reply}
pub use Rattle.flat_model.specs.Reached.{ArePlaces, IsReached, answered}
use Rattle.flat_model.specs.Store.{Store, Progress, records_of, entries_of}

-- How much of something is used, and how much there is.
pub record Gauge : Type 0 where
  pub used : ℕ
  pub most : ℕ

abbrev pub gauge_at : List Gauge → ℕ → Gauge
gauge_at gauges v = slice_index_or gauges v (record { used = 0; most = 0 })

abbrev pub is_full : Gauge → Bool
is_full g = g.used == g.most

-- one more, unless all is used; so much less
abbrev pub filled : Gauge → Gauge
filled g = if g.used == g.most then g else record { used = g.used + 1; most = g.most }

abbrev pub drained : ℕ → Gauge → Gauge
drained n g = record { used = g.used - n; most = g.most }

-- The words of each stored page, by the uid of its segment and its number there.
abbrev pub Paged : Type 0
Paged = List ((ℕ × ℕ) × List ℕ)

-- whether a key is that of this page
abbrev pub is_key : ℕ → ℕ → ℕ × ℕ → Bool
is_key uid page = is_at (λ y. ordering_then (nat_cmp uid y.0) (nat_cmp page y.1))

abbrev pub page_at : Paged → ℕ → ℕ → Option (List ℕ)
page_at pages uid page = lookup (is_key uid page) pages

-- the word at a place of a page, 0 where the page isn't there
abbrev pub word_in : Option (List ℕ) → ℕ → ℕ
word_in None at = 0
word_in (Some words) at = slice_index_or words at 0

-- the words of a page, zeros where it isn't there
abbrev pub words_in : Option (List ℕ) → List ℕ
words_in None = replicate 1024 0
words_in (Some words) = words

-- the words of a page are others from now on, or it isn't there any more; all other pages are as they were
pub record Puts (old new : Paged) (uid page : ℕ) (words : Option (List ℕ)) : Type 0 where
  pub at : (u q : ℕ) → page_at new u q ≡ (if is_page u q (uid, page) then words else page_at old u q)

-- the pages of a segment that pass a test are gone, so many of those that are stored; all others are as they were
pub record Sheds (old new : Paged) (uid : ℕ) (test : ℕ → Bool) (count : ℕ) : Type 0 where
  pub at : (u q : ℕ) → page_at new u q ≡ (if u == uid && test q then None else page_at old u q)
  pub counted : (stored : List (ℕ × ℕ)) → IsOnce stored → ((u q : ℕ) → is_stored stored u q ≡ is_some (page_at old u q))
      → count ≡ count_by (λ x. x.0 == uid && test x.1) stored

abbrev pub Cuts : Paged → Paged → ℕ → ℕ → ℕ → List ℕ → Type 0
Cuts old new uid page at words = Puts old new uid page (Some (cut_at at words))

-- ---- the holdings, and the flat store that they show

-- the tree with its accounts; the stored pages; for each volume its records, and its VTOC entries
pub record Held : Type 0 where
  pub accounts : AccountMaps
  pub pages : Paged
  pub records : List Gauge
  pub entries : List Gauge

-- the length of a node, in pages
abbrev pub pages_in : List Node → ℕ → ℕ
pages_in [] u = 0
pages_in (n ∷ ns) u = if n.uid == u then n.pages else pages_in ns u

-- the pages hold the words, and are those that are stored
pub record HoldPages (pages : Paged) (words : Words) (stored : List (ℕ × ℕ)) : Type 0 where
  pub there : (u q : ℕ) → is_stored stored u q ≡ is_some (page_at pages u q)
  pub once : IsOnce stored
  pub values : (u o : ℕ) → words u o ≡ word_in (page_at pages u (o / 1024)) (o % 1024)
  pub sizes : (u q : ℕ) (words : List ℕ) → page_at pages u q ≡ Some words → length words ≡ 1024

-- each stored page is one of a segment that is there, and below its length
abbrev pub AreInside : List Node → List (ℕ × ℕ) → Type 0
AreInside nodes stored = (u q : ℕ) → is_stored stored u q ≡ true → (has_segment nodes u ≡ true) × (q < pages_in nodes u)

-- a directory has no pages
abbrev pub AreFlat : List Node → Type 0
AreFlat nodes = (u : ℕ) → has_directory nodes u ≡ true → pages_in nodes u ≡ 0

-- the holdings show the tree, the words and the stored pages, on the volumes of the script
pub record Holds (p : Plan) (h : Held) (s : Store) : Type 0 where
  pub nodes : s.nodes ≡ h.accounts.nodes
  pub next : s.next ≡ h.accounts.next
  pub counts : Counts h.accounts s.stored
  pub pages : HoldPages h.pages s.words s.stored
  pub inside : AreInside s.nodes s.stored
  pub flat : AreFlat s.nodes
  pub records : (v : ℕ) → gauge_at h.records v ≡ record { used = taken_on s.nodes s.stored v; most = records_of p v }
  pub entries : (v : ℕ) → gauge_at h.entries v ≡ record { used = entries_on s.nodes v; most = entries_of p v }

-- holdings that show some flat store
abbrev pub IsHeld : Held → Type 0
IsHeld h = (p : Plan) × (s : Store) × Holds p h s

-- what a reference is answered that neither access nor the length of the segment refuses
abbrev pub page_reply : Plan → Store → ℕ → RefKind → Node → Reply
page_reply p s offset how n =
    if stores_page s n.uid offset how then room_reply p s n (word_reply (s.words n.uid offset) how)
    else word_reply (s.words n.uid offset) how

-- there is room for a page more of a segment: in the quota of its account, and in the records of its volume
abbrev pub has_room : Plan → Store → ℕ → Bool
has_room p s uid = not (is_used_up s uid) && not (is_volume_full p s (volume_in s.nodes uid))

-- a word may be written: it is 0, or its page is stored, or there is room for one
abbrev pub may_write : Plan → Store → ℕ → ℕ → ℕ → Bool
may_write p s uid offset w = w == 0 || (is_stored s.stored uid (offset / 1024) || has_room p s uid)

-- a directory or a segment other than the root that has no inferior and no quota
pub record IsDeletable (nodes : List Node) (uid : ℕ) : Type 0 where
  pub there : is_some (node_in nodes uid) ≡ true
  pub branch : uid ≢ 1
  pub empty : has_inferior nodes uid ≡ false
  pub quota : quota_in nodes uid ≡ 0

-- ---- the whole store

-- the holdings; for each process what its segment numbers stand for, and how far it has come
pub record Kept : Type 0 where
  pub held : Held
  pub known : List (List (Option ℕ))
  pub processes : List Progress

-- what is kept shows the flat store
pub record IsShown (p : Plan) (k : Kept) (s : Store) : Type 0 where
  pub holds : Holds p k.held s
  pub known : s.known ≡ k.known
  pub processes : s.processes ≡ k.processes
  pub knowers : length s.known ≡ length p.processes
  pub runners : length s.processes ≡ length p.processes

-- What the program keeps shows the flat store, which is one that the script may come to.
pub record Shows (p : Plan) (k : Kept) (s : Store) : Type 0 where
  pub shown : IsShown p k s
  pub reached : IsReached p s

-- how far a process has come; one that isn't there has ended
abbrev pub progress_at : List Progress → ℕ → Progress
progress_at processes k = slice_index_or processes k (record { place = 0; tries = 0; ended = true; faulted = false })

-- what the segment numbers of a process stand for
abbrev pub numbers_at : List (List (Option ℕ)) → ℕ → List (Option ℕ)
numbers_at known k = slice_index_or known k []

-- the gauges of a volume at the boot
abbrev pub records_gauge : VolumeLine → Gauge
records_gauge v = record { used = 0; most = v.records }

abbrev pub entries_gauge : VolumeLine → Gauge
entries_gauge v = record { used = 0; most = v.entries }

-- ---- looks

-- the superior of a node that is there
abbrev pub superior_at : Option Node → Option ℕ
superior_at None = None
superior_at (Some n) = n.superior

-- the pool that the page table of a node belongs to
abbrev pub pool_at : Option Node → Option ℕ
pool_at None = None
pool_at (Some n) = Some (pool_of n)

-- the uid of what a path leads to
abbrev pub uid_at : Result Node Reply → Option ℕ
uid_at (Ok n) = Some n.uid
uid_at (Err r) = None
