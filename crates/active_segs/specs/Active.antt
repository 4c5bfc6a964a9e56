-- What a contract sees of an active segment table (Bensoussan, Clingen and Daley 1972; the pools are own).
use Rattle.std.specs.Prelude.{◌≡◌, ◌≢◌, ℕ, ◌+◌, ◌^◌, ◌<◌, List, [], ◌++◌, length, replicate, take, drop, count_by, Option, Some, None, IsSome, is_some, slice_index_or, slice_set, sum}
use Rattle.page_table.specs.declared.Ptw.{Ptw}
use Rattle.page_table.specs.declared.Ptw.TheVariants.{Null, Out, Here, Leaving}
use Rattle.active_segs.specs.declared.Entry.{Entry}
use Rattle.active_segs.specs.Pool.{first_of, size_of, IsInPool, HasPools}

-- the sizes of the pools, how far each pool's hand is from its first place, what is active in each place, and the
-- page table of each place
pub record ActiveSegs : Type 0 where
  pub sizes : List ℕ
  pub hands : List ℕ
  pub entries : List (Option Entry)
  pub tables : List (List Ptw)

-- what is active in a place, if something is
abbrev pub entry_at : List (Option Entry) → ℕ → Option Entry
entry_at entries place = slice_index_or entries place None

abbrev pub uid_in : Option Entry → Option ℕ
uid_in None = None
uid_in (Some e) = Some e.uid

abbrev pub superior_in : Option Entry → Option ℕ
superior_in None = None
superior_in (Some e) = e.superior

-- the uid of the segment that is active in a place
abbrev pub uid_at : List (Option Entry) → ℕ → Option ℕ
uid_at entries place = uid_in (entry_at entries place)

-- the uid of the superior directory of the segment that is active in a place
abbrev pub superior_at : List (Option Entry) → ℕ → Option ℕ
superior_at entries place = superior_in (entry_at entries place)

-- the page table of a place
abbrev pub table_at : List (List Ptw) → ℕ → List Ptw
table_at tables place = slice_index_or tables place []

-- the segment is active
abbrev pub IsActive : List (Option Entry) → ℕ → Type 0
IsActive entries uid = (place : ℕ) × (uid_at entries place ≡ Some uid)

-- no active segment has the segment of this place as its superior
abbrev pub HasNoInferior : List (Option Entry) → ℕ → Type 0
HasNoInferior entries place = (q uid : ℕ) → uid_at entries place ≡ Some uid → superior_at entries q ≢ Some uid

-- a page whose word is this is neither in a frame nor on its way out of one
abbrev pub IsAway : Ptw → Type 0
IsAway Null = Unit {0}
IsAway (Out r) = Unit {0}
IsAway (Here f) = ⊥
IsAway (Leaving f) = ⊥

-- ---- what holds of every table

-- no segment is active in two places
abbrev pub IsOneToOne : List (Option Entry) → Type 0
IsOneToOne entries = (p q uid : ℕ) → uid_at entries p ≡ Some uid → uid_at entries q ≡ Some uid → p ≡ q

-- the superior of each active segment is active
abbrev pub SuperiorsAreActive : List (Option Entry) → Type 0
SuperiorsAreActive entries = (place superior : ℕ) → superior_at entries place ≡ Some superior
    → IsActive entries superior

-- superiors don't go round: each segment can be given a rank above its superior's
abbrev pub IsGrounded : List (Option Entry) → Type 0
IsGrounded entries =
    (rank : ℕ → ℕ) × ((place uid superior : ℕ) → uid_at entries place ≡ Some uid → superior_at entries place
    ≡ Some superior → rank superior < rank uid)

-- the active segments are a part of a tree that reaches up to its root
pub record IsTree (entries : List (Option Entry)) : Type 0 where
  pub once : IsOneToOne entries
  pub superiors : SuperiorsAreActive entries
  pub grounded : IsGrounded entries

-- four pools, together of at most 1024 places, each hand in its pool; the places are numbered over the pools, and each
-- has an entry and a page table
pub record HasShape (s : ActiveSegs) : Type 0 where
  pub pools : HasPools s.sizes s.hands
  pub entry_count : length s.entries ≡ sum s.sizes
  pub table_count : length s.tables ≡ sum s.sizes

-- ---- the free places of a pool

-- the place is the least of the pool in which nothing is active
pub record IsLeastFree (s : ActiveSegs) (pool place : ℕ) : Type 0 where
  pub in_pool : IsInPool s.sizes pool place
  pub free : entry_at s.entries place ≡ None
  pub least : (q : ℕ) → IsInPool s.sizes pool q → q < place → IsSome (entry_at s.entries q)

-- something is active in each place of the pool
abbrev pub IsFull : ActiveSegs → ℕ → Type 0
IsFull s pool = (q : ℕ) → IsInPool s.sizes pool q → IsSome (entry_at s.entries q)

-- how many places of the pool are used
abbrev pub used_in : ActiveSegs → ℕ → ℕ
used_in s pool = count_by is_some (take (size_of s.sizes pool) (drop (first_of s.sizes pool) s.entries))

-- each word is `Null` of 4 in the tables of the first pool, and of four times as many in those of each next one
abbrev pub AreNullTables : List ℕ → List (List Ptw) → Type 0
AreNullTables sizes tables = (pool place : ℕ) → pool < 4 → IsInPool sizes pool place → table_at tables place
    ≡ replicate (4 ^ (pool + 1)) Null

-- ---- what the calls do

-- the page tables of pools of these sizes, of 4, 16, 64 and 256 words, each of them `Null`
abbrev pub null_tables : List ℕ → List (List Ptw)
null_tables sizes = replicate (size_of sizes 0) (replicate 4 Null) ++ replicate (size_of sizes 1) (replicate 16 Null)
    ++ replicate (size_of sizes 2) (replicate 64 Null) ++ replicate (size_of sizes 3) (replicate 256 Null)

-- pools of these sizes, with nothing active
abbrev pub no_segments : List ℕ → ActiveSegs
no_segments sizes = record {
  sizes = sizes;
  hands = replicate 4 0;
  entries = replicate (sum sizes) None;
  tables = null_tables sizes;
}

-- the segment is active in the place
abbrev pub activated : ActiveSegs → ℕ → ℕ → Option ℕ → ActiveSegs
activated s place uid superior = record s {
  entries = slice_set s.entries place
      (Some (record { uid = uid; superior = superior }));
}

-- nothing is active in the place, and each word of its table is `Null`
abbrev pub deactivated : ActiveSegs → ℕ → ActiveSegs
deactivated s place =
    record s {
      entries = slice_set s.entries place None;
      tables =
          slice_set s.tables place (replicate (length (table_at s.tables place)) Null);
    }

-- the place has this table
abbrev pub with_table : ActiveSegs → ℕ → List Ptw → ActiveSegs
with_table s place table = record s { tables = slice_set s.tables place table }
