-- Laws that several crates cite.
use Rattle.tree_model.proofs.Prelude.{Bool, List, None, Option, Some, [], arith, eqb, false, inl, inr, is_some, refl, subst, sym, true, ℕ, ◌<◌, ◌∷◌, ◌≡◌, ◌≢◌, cases_Bool, eqb_tells, nat_tests, least_where, Node, has_directory, node_in, without_node, AreBelow, Joins}

pub older : (ns : List Node) (n : Node) (o : Option ℕ) → Joins ns o n → AreBelow n.uid ns
older ns n None root = subst (λ (l : List Node). AreBelow n.uid l) (sym root.first) tt
older ns n (Some s) branch = branch.later

pub found_uid : (ns : List Node) (u : ℕ) (n : Node) → node_in ns u ≡ Some n → n.uid ≡ u
found_uid [] u n is = let no : ⊥ = cc in absurd no
found_uid (m ∷ ns) u n is = elim (eqb_tells m.uid u) [
  | inl e ↦ (let z : Some m ≡ Some n = rw e.0 at is in let w : m ≡ n = cc in rw (sym w) e.1)
  | inr e ↦ found_uid ns u n (rw e.0 at is)
]

pub joined_below : (ns : List Node) (o : Option ℕ) (n : Node) → Joins ns o n → AreBelow n.uid ns
joined_below ns None n j = rw j.first tt
joined_below ns (Some s) n j = j.later

pub without_absent : (ns : List Node) (u : ℕ) → AreBelow u ns → without_node ns u ≡ ns
without_absent [] u b = refl
without_absent (n ∷ ns) u b = (let apart : eqb n.uid u ≡ false = (grind (arith, nat_tests)) in
    rw apart (cc (without_absent ns u b.1)))

pub directory_there : (ns : List Node) (u : ℕ) → has_directory ns u ≡ true → is_some (node_in ns u) ≡ true
directory_there [] u e = cc
directory_there (n ∷ ns) u e = elim (cases_Bool (eqb n.uid u)) [
  | inl is ↦ rw is refl
  | inr isnt ↦ rw isnt (directory_there ns u (rw isnt at e))
]

pub node_without : (ns : List Node) (u v : ℕ) → v ≢ u → node_in (without_node ns u) v ≡ node_in ns v
node_without [] u v ne = refl
node_without (n ∷ ns) u v ne = elim (eqb_tells n.uid u) [
  | inl e ↦ elim (eqb_tells n.uid v) [
    | inl f ↦ absurd (ne (cc))
    | inr f ↦ rw (e.0, f.0) (node_without ns u v ne)
  ]
  | inr e ↦ rw e.0 (cc (node_without ns u v ne))
]

pub some_there : (o : Option Node) → is_some o ≡ true → (n : Node) × (o ≡ Some n)
some_there None e = cc
some_there (Some n) e = (n, refl)

pub least_none : (test : ℕ → Bool) (us : List ℕ) → ((u : ℕ) → test u ≡ false) → least_where test us ≡ None
least_none test [] none = refl
least_none test (u ∷ us) none = rw (none u) (least_none test us none)

pub uid_below : (next : ℕ) (ns : List Node) (u : ℕ) (n : Node) → AreBelow next ns → node_in ns u ≡ Some n → u < next
uid_below next [] u n b e = cc
uid_below next (m ∷ ns) u n b e = elim (cases_Bool (eqb m.uid u)) [
  | inl is ↦ (let same : m.uid ≡ u = grind (arith, nat_tests) in omega arith)
  | inr isnt ↦ uid_below next ns u n b.1 (rw isnt at e)
]
