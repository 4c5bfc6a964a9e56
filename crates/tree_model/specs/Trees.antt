-- What holds of every tree, and of what is above its nodes.
use Rattle.std.specs.Prelude.{◌≡◌, ◌≢◌, ◌==◌, ℕ, ◌<◌, ◌≤◌, Bool, not, if◌then◌else◌, true, false, is_some, List, [], ◌∷◌, length, Option, Some, None}
use Rattle.tree_model.specs.Tree.{Node, above, branch_in, has_directory, node_in}

-- whether a uid is that of a segment
abbrev pub has_segment : List Node → ℕ → Bool
has_segment [] u = false
has_segment (n ∷ ns) u = if n.uid == u then not n.directory else has_segment ns u

-- each uid is below this one
abbrev pub AreBelow : ℕ → List Node → Type 0
AreBelow u [] = Unit {0}
AreBelow u (n ∷ ns) = (n.uid < u) × AreBelow u ns

-- a branch of a directory of the tree, with a name that is new there, and a directory at depth 8 at most
pub record IsBranch (ns : List Node) (s : ℕ) (n : Node) : Type 0 where
  pub later : AreBelow n.uid ns
  pub below : has_directory ns s ≡ true
  pub new : branch_in ns s n.name ≡ None
  pub shallow : n.directory ≡ true → length (above ns s) < 8

-- the root: a directory with uid 1 before which there is no node
pub record IsRoot (ns : List Node) (n : Node) : Type 0 where
  pub first : ns ≡ []
  pub one : n.uid ≡ 1
  pub directory : n.directory ≡ true

abbrev pub Joins : List Node → Option ℕ → Node → Type 0
Joins ns None n = IsRoot ns n
Joins ns (Some s) n = IsBranch ns s n

-- each node, from the oldest on, is the root or a branch of what is before it
abbrev pub IsTree : List Node → Type 0
IsTree [] = Unit {0}
IsTree (n ∷ ns) = Joins ns n.superior n × IsTree ns

-- ---- chains of superiors

-- each is below this uid
abbrev pub AreUnder : ℕ → List ℕ → Type 0
AreUnder u [] = Unit {0}
AreUnder u (x ∷ xs) = (x < u) × AreUnder u xs

-- what stands after each is what is above it, and uids fall
abbrev pub IsChain : (ℕ → List ℕ) → List ℕ → Type 0
IsChain up [] = Unit {0}
IsChain up (x ∷ xs) = (xs ≡ up x) × AreUnder x xs × IsChain up xs

abbrev pub AreDirectories : List Node → List ℕ → Type 0
AreDirectories ns [] = Unit {0}
AreDirectories ns (x ∷ xs) = (has_directory ns x ≡ true) × AreDirectories ns xs

-- the root comes last, and nowhere else
abbrev pub EndsAtRoot : List ℕ → Type 0
EndsAtRoot [] = ⊥
EndsAtRoot (x ∷ []) = x ≡ 1
EndsAtRoot (x ∷ y ∷ ys) = (1 < x) × EndsAtRoot (y ∷ ys)

-- what is above the nodes of a tree
pub record HasChains (ns : List Node) : Type 0 where
  pub chain : (u : ℕ) → IsChain (above ns) (above ns u)
  pub under : (u : ℕ) → AreUnder u (above ns u)
  pub directories : (u : ℕ) → AreDirectories ns (above ns u)
  pub rooted : (u : ℕ) → is_some (node_in ns u) ≡ true → u ≢ 1 → EndsAtRoot (above ns u)
  pub segments : (u : ℕ) → is_some (node_in ns u) ≡ true → has_directory ns u ≡ false → EndsAtRoot (above ns u)
  pub root : above ns 1 ≡ []
  pub first : (u : ℕ) → is_some (node_in ns u) ≡ true → 1 ≤ u
