-- Nodes are changed, but for where they lie and what they are.
use Rattle.std.proofs.lemmas.Grind.{common_steps}
use Rattle.flat_store.proofs.Prelude.{ap, ◌≡◌, ◌≢◌, ◌<◌, ℕ, true, false, cond, eqb, List, [], ◌∷◌, map, refl, sym, ◌∙◌, arith, inl, inr, nat_le, cases_Bool, cases_eq, nat_tests, AccountMaps, Changes, Plan, Node, entries_on, has_directory, taken_on, volume_in, with_node, has_segment, is_stored, is_stored_from, stored_from, Store, entries_mapped, no_directory, Keeps, directory_map, segment_map, volume_map, keeps_length, keeps_one, AreFlat, AreInside, Held, Holds, pages_in}
use Rattle.laws.proofs.Bools.{not_both}

-- ---- what is read of nodes where those of one uid are changed

module _ {X : Type 0} (read : ℕ → List Node → X) (field : Node → X)
    (reads : (v : ℕ) (n : Node) (ns : List Node) → read v (n ∷ ns) ≡ cond (eqb n.uid v) (field n) (read v ns))
    (change : Node → Node) (same : (n : Node) → (change n).uid ≡ n.uid) where
  own : (v : ℕ) (n : Node) (ns : List Node) → read v (change n ∷ ns) ≡ cond (eqb n.uid v) (field (change n)) (read v ns)
  own v n ns = reads v (change n) ns ∙ ap (λ (z : ℕ). cond (eqb z v) (field (change n)) (read v ns)) (same n)

  pub field_set : (ns : List Node) (u : ℕ) (x : X) → has_segment ns u ≡ true → ((n : Node) → field (change n) ≡ x)
      → read u (with_node ns u change) ≡ x
  field_set [] u x there is = cc
  field_set (n ∷ ns) u x there is = elim (cases_Bool (eqb n.uid u)) [
    | inl here ↦ rw here (own u n (with_node ns u change) ∙ rw here (is n))
    | inr other ↦ rw (other, reads u n (with_node ns u change), other) (field_set ns u x (rw other at there) is)
  ]

  pub field_other : (ns : List Node) (u v : ℕ) → v ≢ u → read v (with_node ns u change) ≡ read v ns
  field_other [] u v apart = refl
  field_other (n ∷ ns) u v apart = elim (cases_Bool (eqb n.uid u)) [
    | inl here ↦
        (let is : n.uid ≡ u = grind (arith, nat_tests) in
        let other : eqb n.uid v ≡ false = grind (arith, nat_tests) in
        rw (here, own v n (with_node ns u change), reads v n ns, other) (field_other ns u v apart))
    | inr there ↦ rw (there, reads v n (with_node ns u change), reads v n ns, field_other ns u v apart) refl
  ]

-- nodes that lie on the same volumes and are of the same kinds
pub record AreAlike (ns ms : List Node) : Type 0 where
  pub volume : (u : ℕ) → volume_in ms u ≡ volume_in ns u
  pub segment : (u : ℕ) → has_segment ms u ≡ has_segment ns u
  pub directory : (u : ℕ) → has_directory ms u ≡ has_directory ns u
  pub entries : (v : ℕ) → entries_on ms v ≡ entries_on ns v

module _ (f : Node → Node) (keeps : Keeps f) where
  pub alike_map : (ns : List Node) → AreAlike ns (map f ns)
  alike_map ns = record {
    volume = volume_map f keeps ns;
    segment = segment_map f keeps ns;
    directory = directory_map f keeps ns;
    entries = entries_mapped f keeps.volume ns;
  }

-- the holdings once the nodes are changed
pub changed_shown : {p : Plan} {s : Store} {h : Held} {accounts : AccountMaps} {ms : List Node} → Holds p h s
    → Changes h.accounts accounts ms → AreAlike s.nodes ms → AreInside ms s.stored → AreFlat ms
    → Holds p (record h { accounts = accounts }) (record s { nodes = ms })
unfolding taken_on
changed_shown {p} {s} {h} {ms = ms} holds changes alike inside flat = record {
  nodes = sym changes.nodes;
  next = holds.next ∙ sym changes.next;
  counts = λ u. changes.counts u ∙ holds.counts u;
  pages = holds.pages;
  inside = inside;
  flat = flat;
  records = λ v. simp alike.volume (holds.records v);
  entries = λ v. rw (alike.entries v) (holds.entries v);
}

-- so where lengths stay
pub alike_shown : {p : Plan} {s : Store} {h : Held} {accounts : AccountMaps} {ms : List Node} → Holds p h s
    → Changes h.accounts accounts ms → AreAlike s.nodes ms → ((u : ℕ) → pages_in ms u ≡ pages_in s.nodes u)
    → Holds p (record h { accounts = accounts }) (record s { nodes = ms })
alike_shown holds changes alike pages = changed_shown holds changes alike
    (λ u q on. rw (alike.segment u, pages u) (holds.inside u q on))
    (λ u is. pages u ∙ holds.flat u (rw (alike.directory u) at is))

-- ---- lengths

abbrev pub with_length : List Node → ℕ → ℕ → List Node
with_length ns u pages = with_node ns u (λ n. record n { pages = pages })

pub length_alike : (ns : List Node) (u pages : ℕ) → AreAlike ns (with_length ns u pages)
length_alike ns u pages = alike_map (λ n. cond (eqb n.uid u) (record n { pages = pages }) n)
    (keeps_one u (λ n. record n { pages = pages }) (keeps_length pages)) ns

length_other : (ns : List Node) (u pages v : ℕ) → v ≢ u → pages_in (with_length ns u pages) v ≡ pages_in ns v
length_other ns u pages = field_other (λ v ms. pages_in ms v) (λ n. n.pages) (λ v n ms. refl)
    (λ n. record n { pages = pages }) (λ n. refl) ns u

pub length_inside : (ns : List Node) (xs : List (ℕ × ℕ)) (u pages : ℕ) → has_segment ns u ≡ true
    → is_stored_from xs u pages ≡ false → AreInside ns xs → AreInside (with_length ns u pages) xs
length_inside ns xs u pages is none inside v q on = (
  (length_alike ns u pages).segment v ∙ (inside v q on).0,
  elim (cases_eq v u) [
    | inl same ↦
        (let size = field_set (λ z ms. pages_in ms z) (λ n. n.pages) (λ z n ms. refl) (λ n. record n { pages = pages })
        (λ n. refl) ns u pages is (λ n. refl) in
        rw (same, size) (below (rw same at on)))
    | inr apart ↦ rw (length_other ns u pages v apart) (inside v q on).1
  ],
)
  where
    below : is_stored xs u q ≡ true → q < pages
    below here = elim (cases_Bool (nat_le pages q)) [
      | inl le ↦ absurd (not_both (stored_from xs u pages q here le) none)
      | inr lt ↦ grind (arith, nat_tests)
    ]

pub length_flat : (ns : List Node) (u pages : ℕ) → has_segment ns u ≡ true → AreFlat ns
    → AreFlat (with_length ns u pages)
length_flat ns u pages is flat v dir =
    grind (arith, nat_tests, common_steps, length_alike ns u pages, not_both, no_directory ns u is, length_other)
