-- What a contract sees of quota cells: a finite map from directory to quota, one from segment to stored pages, and
-- for each directory the stored pages below it that no lower account takes (Organick 1972). A map is a list of uids
-- with a list of values beside them.
use Rattle.std.specs.Prelude.{◌≡◌, ◌≢◌, ℕ, ◌+◌, ◌-◌, ◌<◌, ◌≤◌, ◌==◌, ◌^◌, Bool, true, false, ◌&&◌, ◌||◌, not, if◌then◌else◌, List, [], ◌∷◌, length, Option, Some, None, slice_index, sum, nat_lt, Result, Ok, Err}
use Rattle.tree_model.specs.Tree.{Node as Term, above, account, has_directory}
use Rattle.tree_model.specs.Quotas.{getter_of, giver_of}
use Rattle.dir_tree.specs.declared.node.Node.{Node}
use Rattle.dir_tree.specs.Shape.{shapes}
use Rattle.tree_model.specs.Trees.{has_segment}
use Rattle.std.specs.List.{find}
use Rattle.quota_cells.specs.declared.Full.{Full}
use Rattle.quota_cells.specs.declared.MoveFault.{MoveFault}
use Rattle.quota_cells.specs.declared.MoveFault.TheVariants as fault
use Rattle.quota_cells.specs.Accounts.{look, has, with_value, with_beside, without_beside, covers, weigh, load, charged_to, is_an_account, changed_where}

pub record CellMaps : Type 0 where
  pub directories : List ℕ
  pub quotas : List ℕ
  pub loads : List ℕ
  pub segments : List ℕ
  pub stored : List ℕ

abbrev pub quota_in : CellMaps → ℕ → ℕ
quota_in c d = look c.directories c.quotas d

abbrev pub load_in : CellMaps → ℕ → ℕ
load_in c d = look c.directories c.loads d

abbrev pub stored_in : CellMaps → ℕ → ℕ
stored_in c s = look c.segments c.stored s

-- the pages that an account is charged for, 0 where it is none
abbrev pub used_in : CellMaps → ℕ → ℕ
used_in c a = if is_an_account (quota_in c) a then load_in c a else 0

-- The cells fit a tree: its directories and segments are exactly the uids with a cell, and each directory's load is
-- the count from scratch in that tree, with the quotas and stored pages that the cells hold.
pub record FitsShapes (ns : List Term) (c : CellMaps) : Type 0 where
  pub directories : (u : ℕ) → has c.directories u ≡ has_directory ns u
  pub segments : (u : ℕ) → has c.segments u ≡ has_segment ns u
  pub loads : (e : ℕ) → has c.directories e ≡ true → load_in c e ≡ load (above ns) (quota_in c) c.segments c.stored e
  pub count : length c.directories + length c.segments ≡ length ns

-- Only the shapes of the nodes matter: cells that fit a tree fit it too once a length, a home or an access control
-- list has changed.
abbrev pub Fits : List Node → CellMaps → Type 0
Fits nodes c = FitsShapes (shapes nodes) c

abbrev pub IsRising : List ℕ → Type 0
IsRising ks = (i j : ℕ) → i < j → j < length ks → slice_index ks i < slice_index ks j

-- each account is within its quota
abbrev pub AreWithin : CellMaps → Type 0
AreWithin c = (a : ℕ) → has c.directories a ≡ true → is_an_account (quota_in c) a ≡ true → load_in c a ≤ quota_in c a

-- what holds of all cells
pub record IsTable (c : CellMaps) : Type 0 where
  pub rising : IsRising c.directories
  pub segments_rise : IsRising c.segments
  pub quota_count : length c.quotas ≡ length c.directories
  pub load_count : length c.loads ≡ length c.directories
  pub stored_count : length c.stored ≡ length c.segments
  pub apart : (u : ℕ) → has c.directories u ≡ true → has c.segments u ≡ false
  pub within : AreWithin c
  pub total : sum c.quotas < 2 ^ 32

-- the root's cell alone
abbrev pub root_cell : ℕ → CellMaps
root_cell quota = record { directories = 1 ∷ []; quotas = quota ∷ []; loads = 0 ∷ []; segments = []; stored = [] }

-- no cells
abbrev pub no_cells : CellMaps
no_cells = record { directories = []; quotas = []; loads = []; segments = []; stored = [] }

abbrev pub with_loads : CellMaps → List ℕ → CellMaps
with_loads c loads = record c { loads = loads }

-- so many pages more, or less, on the loads of what covers a node below these directories
abbrev pub lifted : CellMaps → List ℕ → ℕ → CellMaps
lifted c up n = with_loads c (changed_where (λ w. w + n) (covers (quota_in c) up) c.directories c.loads)

abbrev pub lowered : CellMaps → List ℕ → ℕ → CellMaps
lowered c up n = with_loads c (changed_where (λ w. w - n) (covers (quota_in c) up) c.directories c.loads)

-- a page more, or so many less, of a segment below these directories
abbrev pub charged : CellMaps → List ℕ → ℕ → CellMaps
charged c up s = record (lifted c up 1) { stored = with_value c.segments c.stored s (stored_in c s + 1) }

abbrev pub credited : CellMaps → List ℕ → ℕ → ℕ → CellMaps
credited c up s n = record (lowered c up n) { stored = with_value c.segments c.stored s (stored_in c s - n) }

-- the loads once a directory below these has another quota: where it becomes an account its load is taken from what
-- covers it, and where it is one no more its load is added there
abbrev pub loads_then : CellMaps → List ℕ → ℕ → Bool → Bool → List ℕ
loads_then c up d true false = (lowered c up (load_in c d)).loads
loads_then c up d false true = (lifted c up (load_in c d)).loads
loads_then c up d true true = c.loads
loads_then c up d false false = c.loads

-- the cells once a directory below these has another quota
abbrev pub with_quota : CellMaps → List ℕ → ℕ → ℕ → CellMaps
with_quota c up d v = record (with_loads c (loads_then c up d (quota_in c d == 0) (v == 0)))
    { quotas = with_value c.directories c.quotas d v }

-- whether a page of a segment below these can be charged, or the account that is full
abbrev pub charge_fault : CellMaps → List ℕ → Result (Unit {0}) Full
charge_fault c up = if load_in c (account (quota_in c) up) == quota_in c (account (quota_in c) up)
    then Err (record { account = account (quota_in c) up })
    else Ok tt

-- So each used count is, in this tree, the number of stored pages of the segments whose account this is.
abbrev pub CountsUsed : List Node → CellMaps → Type 0
CountsUsed nodes c = (a : ℕ) → has c.directories a ≡ true → used_in c a ≡
    (if is_an_account (quota_in c) a then charged_to (above (shapes nodes)) (quota_in c) c.segments c.stored a else 0)

-- the cells with an empty one more, or without one, of a directory or of a segment
abbrev pub with_directory : CellMaps → ℕ → CellMaps
with_directory c u = record c {
  directories = with_beside c.directories c.directories u u;
  quotas = with_beside c.directories c.quotas u 0;
  loads = with_beside c.directories c.loads u 0;
}

abbrev pub with_segment : CellMaps → ℕ → CellMaps
with_segment c u = record c {
  segments = with_beside c.segments c.segments u u;
  stored =
      with_beside c.segments c.stored u 0;
}

abbrev pub without_directory : CellMaps → ℕ → CellMaps
without_directory c u = record c {
  directories = without_beside c.directories c.directories u;
  quotas = without_beside c.directories c.quotas u;
  loads = without_beside c.directories c.loads u;
}

abbrev pub without_segment : CellMaps → ℕ → CellMaps
without_segment c u = record c {
  segments = without_beside c.segments c.segments u;
  stored =
      without_beside c.segments c.stored u;
}

-- the cells once a directory or a segment has an empty one, and once a uid has none any more
abbrev pub entered : CellMaps → ℕ → Bool → CellMaps
entered c u dir = if dir then with_directory c u else with_segment c u

abbrev pub left : CellMaps → ℕ → CellMaps
left c u = if has c.directories u then without_directory c u else without_segment c u

-- a directory or a segment gets an empty cell
pub record Enters (old new : CellMaps) (uid : ℕ) (dir : Bool) : Type 0 where
  pub directories : (u : ℕ) → has new.directories u ≡ ((dir && uid == u) || has old.directories u)
  pub segments : (u : ℕ) → has new.segments u ≡ ((not dir && uid == u) || has old.segments u)
  pub quotas : (d : ℕ) → quota_in new d ≡ quota_in old d
  pub loads : (d : ℕ) → load_in new d ≡ load_in old d
  pub stored : (s : ℕ) → stored_in new s ≡ stored_in old s
  pub counts : (test : ℕ → Bool) → weigh test new.segments new.stored ≡ weigh test old.segments old.stored
  pub size : length new.directories + length new.segments ≡ length old.directories + length old.segments + 1
  pub total : sum new.quotas ≡ sum old.quotas

-- a uid has no cell any more
pub record Leaves (old new : CellMaps) (uid : ℕ) : Type 0 where
  pub directories : (u : ℕ) → has new.directories u ≡ (has old.directories u && not (uid == u))
  pub segments : (u : ℕ) → has new.segments u ≡ (has old.segments u && not (uid == u))
  pub quotas : (d : ℕ) → quota_in new d ≡ quota_in old d
  pub loads : (d : ℕ) → d ≢ uid → load_in new d ≡ load_in old d
  pub stored : (s : ℕ) → stored_in new s ≡ stored_in old s
  pub counts : (test : ℕ → Bool) → weigh test new.segments new.stored ≡ weigh test old.segments old.stored
  pub size : length new.directories + length new.segments + 1 ≡ length old.directories + length old.segments
  pub total : sum new.quotas ≡ sum old.quotas

-- a uid has a cell
abbrev pub has_cell : CellMaps → ℕ → Bool
has_cell c u = has c.directories u || has c.segments u

-- ---- quota that moves

-- the cells once one directory, below others, has got so many pages of quota, and another has given them
abbrev pub given : CellMaps → ℕ → List ℕ → ℕ → List ℕ → ℕ → CellMaps
given c getter above_getter giver above_giver n =
    with_quota (with_quota c above_getter getter (quota_in c getter + n)) above_giver giver (quota_in c giver - n)

-- the cells once so many pages of quota have moved
abbrev pub moved : CellMaps → (ℕ → List ℕ) → ℕ → Bool → ℕ → CellMaps
moved c above d down n =
    let getter = getter_of above d down in
    let giver = giver_of above d down in
    given c getter (above getter) giver (above giver) n

-- an account above its quota
abbrev pub is_over : CellMaps → ℕ → Bool
is_over c a = is_an_account (quota_in c) a && nat_lt (quota_in c a) (load_in c a)

-- the least of them
abbrev pub first_over : CellMaps → Option ℕ
first_over c = find (is_over c) c.directories

abbrev pub over_answer : Option ℕ → Result (Unit {0}) MoveFault
over_answer None = Ok tt
over_answer (Some a) = Err (fault.Over a)

-- whether so much quota may move: the giver must have it, and no account may be above its quota then
abbrev pub move_answer : CellMaps → (ℕ → List ℕ) → ℕ → Bool → ℕ → Result (Unit {0}) MoveFault
move_answer c above d down n = if nat_lt (quota_in c (giver_of above d down)) n then Err fault.TooLittle
    else over_answer (first_over (moved c above d down n))
