-- The answers of the cells by counts from scratch over the stored pages, as pairs of a uid and a page.
use Rattle.std.specs.Prelude.{◌≡◌, ℕ, Bool, ◌==◌, nat_lt, if◌then◌else◌, count_by, List, Result, Ok, Err}
use Rattle.tree_model.specs.Tree.{Node, above, account_of, used_by, quota_in}
use Rattle.tree_model.specs.Quotas.{giver_of, tree_moved, over_in}
use Rattle.quota_cells.specs.declared.Full.{Full}
use Rattle.quota_cells.specs.declared.MoveFault.{MoveFault}
use Rattle.quota_cells.specs.declared.MoveFault.TheVariants as fault
use Rattle.quota_cells.specs.Cells.{CellMaps, stored_in, over_answer}

-- each segment has as many of these stored pages as its cell says
abbrev pub HoldCounts : CellMaps → List (ℕ × ℕ) → Type 0
HoldCounts c stored = (s : ℕ) → stored_in c s ≡ count_by (λ x. x.0 == s) stored

-- whether a page more of a segment can be charged, or the account that is full
abbrev pub charge_answer : List Node → List (ℕ × ℕ) → ℕ → Result (Unit {0}) Full
charge_answer nodes stored s =
    if used_by nodes stored (account_of nodes s) == quota_in nodes (account_of nodes s)
    then Err (record { account = account_of nodes s })
    else Ok tt

-- whether so much quota may move: the giver must have it, and no account may be above its quota then
abbrev pub scratch_answer : List Node → List (ℕ × ℕ) → ℕ → Bool → ℕ → Result (Unit {0}) MoveFault
scratch_answer nodes stored d down pages =
    if nat_lt (quota_in nodes (giver_of (above nodes) d down)) pages
    then Err fault.TooLittle
    else over_answer (over_in (tree_moved nodes d down pages) stored)
