-- What is read of the node that has a uid: it is found, and it stays where other nodes go and where changes keep it.
use Rattle.flat_model.proofs.Prelude.{common_steps, ◌≡◌, ◌≢◌, ℕ, Bool, false, cond, eqb, List, [], ◌∷◌, map, Some, None, refl, sym, ap, ◌∙◌, arith, inl, inr, cases_Bool, ne_eqb, nat_tests, sum_by-cons, Node, entries_on, node_in, without_node}

-- it reads a field of the first node that has the uid
abbrev pub Reads : {X : Type 0} → (List Node → X) → (Node → X) → ℕ → Type 0
Reads read field u = (n : Node) (ns : List Node) → read (n ∷ ns) ≡ cond (eqb n.uid u) (field n) (read ns)

module _ {X : Type 0} (read : List Node → X) (field : Node → X) (u : ℕ) (reads : Reads read field u) where
  here : (n : Node) (ns : List Node) (z : Bool) → eqb n.uid u ≡ z → read (n ∷ ns) ≡ cond z (field n) (read ns)
  here n ns z is = reads n ns ∙ ap (λ (y : Bool). cond y (field n) (read ns)) is

  pub field_found : (ns : List Node) (n : Node) → node_in ns u ≡ Some n → field n ≡ read ns
  field_found [] n e = cc
  field_found (m ∷ ns) n e = elim (cases_Bool (eqb m.uid u)) [
    | inl is ↦ (let z : Some m ≡ Some n = rw is at e in let same : m ≡ n = cc in
        ap field (sym same) ∙ sym (here m ns _ is))
    | inr isnt ↦ field_found ns n (rw isnt at e) ∙ sym (here m ns _ isnt)
  ]

  pub field_none : (ns : List Node) → node_in ns u ≡ None → read ns ≡ read []
  field_none [] e = refl
  field_none (m ∷ ns) e = elim (cases_Bool (eqb m.uid u)) [
    | inl is ↦ (let z : Some m ≡ None = rw is at e in cc)
    | inr isnt ↦ here m ns _ isnt ∙ field_none ns (rw isnt at e)
  ]

  pub field_left : (ns : List Node) (v : ℕ) → u ≢ v → read (without_node ns v) ≡ read ns
  field_left [] v apart = refl
  field_left (n ∷ ns) v apart = elim (cases_Bool (eqb n.uid v)) [
    | inl gone ↦ (let is : n.uid ≡ v = grind (arith, nat_tests) in
        let other : eqb n.uid u ≡ false = ne_eqb n.uid u (omega (arith, is, apart)) in
        rw gone (field_left ns v apart ∙ sym (here n ns _ other)))
    | inr there ↦ rw there (reads n (without_node ns v)
        ∙ ap (cond (eqb n.uid u) (field n)) (field_left ns v apart) ∙ sym (reads n ns))
  ]

  pub field_mapped : (change : Node → Node) → ((n : Node) → (change n).uid ≡ n.uid)
      → ((n : Node) → field (change n) ≡ field n) → (ns : List Node) → read (map change ns) ≡ read ns
  field_mapped change uid same [] = refl
  field_mapped change uid same (n ∷ ns) = grind (arith, nat_tests, common_steps, field_mapped change uid same ns)

-- a field that a change keeps, where the change is of the nodes of one uid
pub field_kept : {X : Type 0} (field : Node → X) (change : Node → Node) (u : ℕ)
    → ((n : Node) → field (change n) ≡ field n) → (n : Node) → field (cond (eqb n.uid u) (change n) n) ≡ field n
field_kept field change u keeps n = grind (arith, nat_tests, common_steps)

-- how many nodes lie on a volume, where each stays on its own
pub entries_mapped : (change : Node → Node) → ((n : Node) → (change n).volume ≡ n.volume) → (ns : List Node) (v : ℕ)
    → entries_on (map change ns) v ≡ entries_on ns v
unfolding entries_on
entries_mapped change volume [] v = refl
entries_mapped change volume (n ∷ ns) v = grind (arith, nat_tests, common_steps, sum_by-cons)
