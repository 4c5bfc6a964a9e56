-- Laws of cells that fit a tree, for the proofs of the crates above too.
use Rattle.std.specs.Prelude.{◌≡◌, ℕ, true, false, List, [], ◌∷◌}
use Rattle.std.proofs.Common.{eqb, refl, ◌∙◌, inl, inr}
use Rattle.std.proofs.lemmas.Bool.{cases_Bool, both_ways}
use Rattle.dir_tree.specs.declared.node.Node.{Node}
use Rattle.dir_tree.specs.Nodes.{is_in, is_directory, is_segment}
use Rattle.dir_tree.specs.Laws.{directory_shape, segment_shape, one_kind}
use Rattle.quota_cells.specs.Accounts.{look, has}
use Rattle.quota_cells.specs.Cells.{CellMaps, Fits, has_cell}

-- a uid that isn't there has no value
pub look_absent : (ks vs : List ℕ) (u : ℕ) → has ks u ≡ false → look ks vs u ≡ 0
look_absent [] vs u e = refl
look_absent (k ∷ ks) [] u e = refl
look_absent (k ∷ ks) (v ∷ vs) u e = elim (cases_Bool (eqb k u)) [
  | inl is ↦ absurd (both_ways true (rw is at e) refl)
  | inr isnt ↦ rw isnt (look_absent ks vs u (rw isnt at e))
]

-- the cells of a tree's directories, and of its segments
pub on_directories : (nodes : List Node) {c : CellMaps} → Fits nodes c → (u : ℕ) → has c.directories u
    ≡ is_directory nodes u
on_directories nodes fits u = fits.directories u ∙ directory_shape nodes u

pub on_segments : (nodes : List Node) {c : CellMaps} → Fits nodes c → (u : ℕ) → has c.segments u ≡ is_segment nodes u
on_segments nodes fits u = fits.segments u ∙ segment_shape nodes u

-- the uids of a tree have cells, and no others
pub on_nodes : (nodes : List Node) {c : CellMaps} → Fits nodes c → (u : ℕ) → has_cell c u ≡ is_in nodes u
on_nodes nodes fits u = rw (on_directories nodes fits u, on_segments nodes fits u) (one_kind nodes u)
