-- The accounts of a machine that keeps its promise, and what of its volumes is in use, are those of the flat store
-- after the book; and the book tells at most as many failures as the drives have counted.
use Rattle.machine.proofs.Prelude.{◌≡◌, ◌<◌, ◌≤◌, ◌^◌, ℕ, Bool, length, List, Option, arith, count_by, count_by-le-length, entries_on, taken_on, AccountMaps, Counts, taken, used, Keeps, is_fault, flat_of, State, Vtoc_Entry as Entry}

module _ (s : State) (keeps : Keeps s) where
  pub shown_nodes : (a : AccountMaps) → a ≡ s.store.accounts → (flat_of s).nodes ≡ a.nodes
  shown_nodes a same = cc

  pub shown_counts : (a : AccountMaps) → a ≡ s.store.accounts → Counts a (flat_of s).stored
  shown_counts a same = rw same keeps.faithful.tree.counts

  pub records_taken : (records : List (List Bool)) → records ≡ s.store.pages.records → (v : ℕ)
      → taken records v ≡ taken_on (flat_of s).nodes (flat_of s).stored v
  records_taken records same v = cc (keeps.store.counted.taken.records (flat_of s).stored v keeps.faithful.tree.counts)

  pub entries_taken : (vtocs : List (List (Option Entry))) → vtocs ≡ s.store.pages.vtocs → (v : ℕ)
      → used vtocs v ≡ entries_on (flat_of s).nodes v
  entries_taken vtocs same v = cc (keeps.store.counted.taken.entries v)

  -- a book has fewer than 2 ^ 63 entries, so the drives' counts, which may stop there, are no fewer than what it tells
  pub few_told : (n : ℕ) → length s.entries < 2 ^ 63 → s.faults ≡ n → count_by is_fault s.entries ≤ n
  few_told n short counted = omega (arith, count_by-le-length is_fault s.entries)
