-- The right of a process to a segment that is in the tree.
use Rattle.machine_tables.proofs.Prelude.{◌≡◌, ℕ, true, List, refl, Mode, Who, rows_in, access_of, Node, node_in, field_found, IsRight, is_there, pages_in, who_at, some_there}

pub right_is : (ns : List Node) (whos : List Who) (k u : ℕ) (m : Mode) (pages : ℕ) → is_there ns u ≡ true
    → IsRight ns whos k u m pages → (m ≡ access_of (who_at whos k) (rows_in ns u)) × (pages ≡ pages_in ns u)
right_is ns whos k u m pages there right =
    let found = some_there (node_in ns u) there in (
      cc (
        right.mode_is found.0 found.1,
        field_found (λ ms. rows_in ms u) (λ x. x.rows) u (λ m ms. refl) ns found.0 found.1,
      ),
      cc (right.pages_are found.0 found.1),
    )
