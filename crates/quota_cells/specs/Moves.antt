-- What a move of quota is refused for, by the numbers of the directories that can come to be above their quotas.
use Rattle.std.specs.Prelude.{◌≡◌, ◌≢◌, ◌<◌, ℕ, Bool, true, List, ◌∷◌, ◌+◌, ◌-◌, ◌==◌, ◌&&◌, ◌||◌, not, nat_lt, if◌then◌else◌, Result, Ok, Err}
use Rattle.tree_model.specs.Tree.{above}
use Rattle.tree_model.specs.Trees.{HasChains}
use Rattle.tree_model.specs.Quotas.{superior_of}
use Rattle.dir_tree.specs.declared.node.Node.{Node}
use Rattle.dir_tree.specs.Nodes.{is_directory}
use Rattle.dir_tree.specs.Shape.{shapes}
use Rattle.quota_cells.specs.declared.directories.Cell.{Cell}
use Rattle.quota_cells.specs.declared.MoveFault.{MoveFault}
use Rattle.quota_cells.specs.declared.MoveFault.TheVariants as fault
use Rattle.quota_cells.specs.Cells.{CellMaps, quota_in, load_in}

-- a directory of the tree, which isn't the root, lies in this one
pub record LiesIn (nodes : List Node) (dir superior : ℕ) : Type 0 where
  pub directory : is_directory nodes dir ≡ true
  pub branch : dir ≢ 1
  pub is : superior_of (above (shapes nodes)) dir ≡ superior
  pub chain : above (shapes nodes) dir ≡ superior ∷ above (shapes nodes) superior
  pub below : superior < dir
  pub upper : is_directory nodes superior ≡ true
  pub chains : HasChains (shapes nodes)

-- the numbers of a directory
abbrev pub cell_in : CellMaps → ℕ → Cell
cell_in c d = record { uid = d; quota = quota_in c d; load = load_in c d }

-- what is left to a superior whose inferior gets quota: an inferior that was no account takes its own load with it
abbrev pub load_left : Cell → Cell → ℕ
load_left below above = if below.quota == 0 then above.load - below.load else above.load

-- what a superior has that gets quota: an inferior that keeps none brings its load
abbrev pub load_grown : Cell → Cell → ℕ → ℕ
load_grown below above pages = if below.quota - pages == 0 then above.load + below.load else above.load

-- the account above a superior that keeps no quota is above its quota
abbrev pub is_account_over : Cell → Cell → Cell → ℕ → Bool
is_account_over below above account pages =
    above.quota - pages == 0 && (not (above.uid == 1) && nat_lt account.quota (account.load + load_left below above))

-- the superior, with what quota it keeps
abbrev pub is_giver_over : Cell → Cell → ℕ → Bool
is_giver_over below above pages =
    (above.uid == 1 || not (above.quota - pages == 0)) && nat_lt (above.quota - pages) (load_left below above)

-- down to a directory, from the one that it lies in, below this account
abbrev pub refusal_down : Cell → Cell → Cell → ℕ → Result (Unit {0}) MoveFault
refusal_down below above account pages =
    if nat_lt above.quota pages then Err fault.TooLittle
    else if is_account_over below above account pages then Err (fault.Over account.uid)
    else if is_giver_over below above pages then Err (fault.Over above.uid)
    else if nat_lt (below.quota + pages) below.load then Err (fault.Over below.uid)
    else Ok tt

-- up from a directory to the one that it lies in
abbrev pub refusal_up : Cell → Cell → ℕ → Result (Unit {0}) MoveFault
refusal_up below above pages =
    if nat_lt below.quota pages then Err fault.TooLittle
    else if nat_lt (above.quota + pages) (load_grown below above pages) then Err (fault.Over above.uid)
    else if not (below.quota - pages == 0) && nat_lt (below.quota - pages) below.load then Err (fault.Over below.uid)
    else Ok tt
