use Rattle.dir_tree.proofs.Prelude.{◌≡◌, ℕ, [], length, vec_capacity, shelf_at}
use Rattle.dir_tree.proofs.index.empty_shelves.Given as goal

abbrev pub invariant-loop : goal.invariant-loop
invariant-loop l = (length l.shelves.items ≡ l.counter) × ((m : ℕ) → shelf_at l.shelves.items m ≡ [])
    × (vec_capacity l.shelves ≡ 64)
