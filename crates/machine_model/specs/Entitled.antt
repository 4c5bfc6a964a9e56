-- What a processor holds of a descriptor is what the process may do with its segment, as long as it holds it
-- (Bensoussan, Clingen and Daley 1972).
use Rattle.std.specs.Prelude.{◌≡◌, ℕ, List, [], ◌∷◌, Option, Some}
use Rattle.mnames.specs.declared.principals.Who.{Who}
use Rattle.assoc_mem.specs.declared.HeldSeg.{HeldSeg}
use Rattle.known_segs.specs.Known.{uid_of}
use Rattle.tree_model.specs.Access.{access_of}
use Rattle.tree_model.specs.Tree.{Node, node_in}
use Rattle.seg_control.specs.Control.{kst_at}
use Rattle.storage_ops.specs.Shown.{who_at}
use Rattle.machine_model.specs.Reads.{cpu_at}
use Rattle.machine_model.specs.State.{State}
use Rattle.machine_model.specs.declared.Processor.{Processor}

-- The number stands for the segment, and mode and length are those of the access list and of the segment.
pub record IsEntitled (nodes : List Node) (whos : List Who) (known : List (List (Option ℕ))) (k : ℕ) (e : HeldSeg)
    : Type 0 where
  pub stands : uid_of (kst_at known k) e.number ≡ Some e.uid
  pub mode : (n : Node) → node_in nodes e.uid ≡ Some n → e.mode ≡ access_of (who_at whos k) n.rows
  pub pages : (n : Node) → node_in nodes e.uid ≡ Some n → e.pages ≡ n.pages

-- each of some entries is
abbrev pub AreEntitled : List Node → List Who → List (List (Option ℕ)) → ℕ → List HeldSeg → Type 0
AreEntitled nodes whos known k [] = Unit {0}
AreEntitled nodes whos known k (e ∷ es) = IsEntitled nodes whos known k e × AreEntitled nodes whos known k es

-- Each processor holds such entries for its process.
pub record HoldEntitled (nodes : List Node) (whos : List Who) (known : List (List (Option ℕ)))
    (processors : List Processor) : Type 0 where
  pub each : (d k : ℕ) → (cpu_at processors d).process ≡ Some k
      → AreEntitled nodes whos known k (cpu_at processors d).assoc.segs

abbrev pub IsEntitledToAll : State → Type 0
IsEntitledToAll s = HoldEntitled s.store.accounts.nodes s.store.whos s.store.links.known s.processors
