-- Cells in the order of uids as columns of numbers, lists of uids, and quota that goes from one directory to another.
use Rattle.std.specs.Prelude.{◌≡◌, ◌≢◌, ℕ, ◌+◌, ◌-◌, ◌<◌, ◌≤◌, ◌^◌, Bool, true, if◌then◌else◌, List, [], ◌∷◌, length, map, slice_index}
use Rattle.tree_model.specs.Trees.{AreUnder}
use Rattle.quota_cells.specs.declared.directories.Pages.{Pages}
use Rattle.quota_cells.specs.declared.directories.Pages.TheVariants.{More, Less}
use Rattle.quota_cells.specs.Accounts.{has, covers, changed_where, with_beside, without_beside}
use Rattle.quota_cells.specs.Cells.{CellMaps, quota_in, load_in, no_cells, with_loads, with_quota}

-- a number beside each of some uids, in their order
pub record NumberMap : Type 0 where
  pub uids : List ℕ
  pub values : List ℕ

-- the uids that are there, where a list says it of each from this one on
unfoldable pub uids_from : ℕ → List Bool → List ℕ
uids_from u [] = []
uids_from u (there ∷ more) = if there then u ∷ uids_from (u + 1) more else uids_from (u + 1) more

-- what stands in a table by uid beside these
abbrev pub beside : List ℕ → List ℕ → List ℕ
beside table uids = map (λ u. slice_index table u) uids

-- the uids that are there by one table, and the numbers beside them in another
abbrev pub numbers_of : List Bool → List ℕ → NumberMap
numbers_of there values = record { uids = uids_from 0 there; values = beside values (uids_from 0 there) }

abbrev pub no_numbers : NumberMap
no_numbers = record { uids = []; values = [] }

-- the numbers with 0 of one uid more, and without that of a uid
abbrev pub with_uid : NumberMap → ℕ → NumberMap
with_uid m u = record { uids = with_beside m.uids m.uids u u; values = with_beside m.uids m.values u 0 }

abbrev pub without_uid : NumberMap → ℕ → NumberMap
without_uid m u = record { uids = without_beside m.uids m.uids u; values = without_beside m.uids m.values u }

-- the maps of directories alone, by their quotas and loads, and these with the counts of segments
abbrev pub directory_maps : NumberMap → List ℕ → CellMaps
directory_maps quotas loads = record no_cells { directories = quotas.uids; quotas = quotas.values; loads = loads }

abbrev pub both_maps : CellMaps → NumberMap → CellMaps
both_maps d s = record d { segments = s.uids; stored = s.values }

-- the maps of directories among these
abbrev pub directories_of : CellMaps → CellMaps
directories_of c = record no_cells { directories = c.directories; quotas = c.quotas; loads = c.loads }

-- a load once pages are counted on it, and whether they can be
abbrev pub counted_on : Pages → ℕ → ℕ
counted_on (More n) = λ w. w + n
counted_on (Less n) = λ w. w - n

abbrev pub HasRoom : Pages → ℕ → Type 0
HasRoom (More n) w = w + n < 2 ^ 32
HasRoom (Less n) w = n ≤ w

-- pages counted on the loads of what covers a node below these directories
abbrev pub counted : CellMaps → List ℕ → Pages → CellMaps
counted c up pages = with_loads c (changed_where (counted_on pages) (covers (quota_in c) up) c.directories c.loads)

-- a uid isn't there, and would stand at this place: smaller ones before it, greater ones from there on
pub record IsGap (ks : List ℕ) (u i : ℕ) : Type 0 where
  pub within : i ≤ length ks
  pub below : (k : ℕ) → k < i → slice_index ks k < u
  pub above : (k : ℕ) → i ≤ k → k < length ks → u < slice_index ks k

abbrev pub AreThere : List ℕ → List ℕ → Type 0
AreThere ks [] = Unit {0}
AreThere ks (x ∷ xs) = (has ks x ≡ true) × AreThere ks xs

abbrev pub IsFalling : List ℕ → Type 0
IsFalling [] = Unit {0}
IsFalling (x ∷ xs) = AreUnder x xs × IsFalling xs

-- a directory of these columns, below others of them, the nearest first
pub record IsPlaced (directories : List ℕ) (d : ℕ) (up : List ℕ) : Type 0 where
  pub here : has directories d ≡ true
  pub there : AreThere directories up
  pub falls : IsFalling up

-- A directory below these can have another quota: what becomes of the loads is a number of 32 bits.
pub record CanChange (c : CellMaps) (up : List ℕ) (d pages : ℕ) : Type 0 where
  pub there : AreThere c.directories up
  pub falls : IsFalling up
  pub appears : quota_in c d ≡ 0 → 0 < pages → (e : ℕ) → covers (quota_in c) up e ≡ true → load_in c d ≤ load_in c e
  pub vanishes : pages ≡ 0 → (e : ℕ) → covers (quota_in c) up e ≡ true → load_in c e + load_in c d < 2 ^ 32

-- One directory can give another so many pages: it has them, and what becomes of the loads is a number of 32 bits.
pub record CanGive (c : CellMaps) (getter : ℕ) (above_getter : List ℕ) (giver : ℕ) (above_giver : List ℕ) (pages : ℕ) :
    Type 0 where
  pub getter_placed : IsPlaced c.directories getter above_getter
  pub giver_placed : IsPlaced c.directories giver above_giver
  pub other : getter ≢ giver
  pub some : 0 < pages
  pub enough : pages ≤ quota_in c giver
  pub fits : quota_in c getter + pages < 2 ^ 32
  pub appears : quota_in c getter ≡ 0 → (e : ℕ) → covers (quota_in c) above_getter e ≡ true
      → load_in c getter ≤ load_in c e
  pub vanishes : quota_in c giver ≡ pages
      → (e : ℕ) → covers (quota_in (with_quota c above_getter getter (quota_in c getter + pages))) above_giver e ≡ true
      → load_in (with_quota c above_getter getter (quota_in c getter + pages)) e + load_in
      (with_quota c above_getter getter (quota_in c getter + pages)) giver < 2 ^ 32
