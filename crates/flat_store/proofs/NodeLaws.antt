-- What is read of a node that is there.
use Rattle.flat_store.proofs.Prelude.{cases_Bool, inl, inr, sym, ◌≡◌, ℕ, true, List, Some, None, not, ◌<◌, arith, refl, ap, ◌∙◌, Plan, Node, has_directory, node_in, has_segment, Store, field_found, field_none, AreFlat, Held, Holds, pages_in}

pub pages_found : (ns : List Node) (u : ℕ) (n : Node) → node_in ns u ≡ Some n → n.pages ≡ pages_in ns u
pages_found ns u n = field_found (λ (xs : List Node). pages_in xs u) (λ (x : Node). x.pages) u (λ m xs. refl) ns n

pub no_pages : (ns : List Node) (u : ℕ) → node_in ns u ≡ None → pages_in ns u ≡ 0
no_pages ns u = field_none (λ (xs : List Node). pages_in xs u) (λ (x : Node). x.pages) u (λ m xs. refl) ns

-- a node with pages is a segment
pub has_pages : (ns : List Node) (u : ℕ) {n : Node} → node_in ns u ≡ Some n → AreFlat ns → 0 < n.pages
    → has_segment ns u ≡ true
has_pages ns u {n} found flat some = elim (cases_Bool n.directory) [
  | inl dir ↦
      (let is = field_found (λ xs. has_directory xs u) (λ x. x.directory) u (λ m xs. refl) ns n found in
      let none = pages_found ns u n found ∙ flat u (sym is ∙ dir) in
      absurd (omega arith))
  | inr segment ↦ sym (field_found (λ xs. has_segment xs u) (λ x. not x.directory) u (λ m xs. refl) ns n found)
      ∙ ap not segment
]

-- so of a node that holdings have
pub pages_held : {p : Plan} {s : Store} {inside told : Held} → Holds p inside s → told ≡ inside → (u : ℕ) {n : Node}
    → node_in inside.accounts.nodes u ≡ Some n → 0 < n.pages → has_segment told.accounts.nodes u ≡ true
pages_held {inside = inside} h same u found some =
    rw same (has_pages inside.accounts.nodes u found (rw h.nodes at h.flat) some)
