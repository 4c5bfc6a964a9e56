-- What holds of a tree: no path with a name leads to the root, and a uid is that of one node.
use Rattle.flat_model.proofs.Prelude.{common_steps, ◌≡◌, ◌≢◌, ℕ, ◌+◌, ◌<◌, Bool, true, false, cond, eqb, List, [], ◌∷◌, length, Option, Some, None, Result, Ok, Err, IfOk, refl, sym, ap, subst, ◌∙◌, arith, inl, inr, cases_Bool, nat_tests, Reply, Node, Walk, LeadsTo, Missing, InSegment, branch_in, entries_on, is_branch, node_in, onward, walk_from, walk_in, without_node, AreBelow, IsBranch, IsTree, Joins, lies, node_at, walked, there_or, without_absent, older, found_uid, Row, made_in, new_branch, Store}
use Rattle.flat_model.proofs.CountLaws.{count-cons}

-- the oldest node is the root
above_one : (m : Node) (ms : List Node) (u : ℕ) → IsTree (m ∷ ms) → AreBelow u (m ∷ ms) → 1 < u
above_one m [] u t b = grind (arith, nat_tests, common_steps)
above_one m (n ∷ ns) u t b = above_one n ns u t.1 b.1

-- a node below another isn't the root
branch_later : (ns : List Node) (n : Node) (d : ℕ) → IsTree ns → IsBranch ns d n → n.uid ≢ 1
branch_later [] n d t branch is = cc (branch.below)
branch_later (m ∷ ms) n d t branch is = (let lt : 1 < n.uid = above_one m ms n.uid t branch.later in
    absurd (omega (arith, lt, is)))

branch_apart : (ns : List Node) (d : ℕ) (name : List ℕ) (m : Node) → IsTree ns → branch_in ns d name ≡ Some m
    → m.uid ≢ 1
branch_apart [] d name m t found = cc
branch_apart (n ∷ ns) d name m t found = elim (cases_Bool (is_branch d name n)) [
  | inl is ↦
      (let z : Some n ≡ Some m = rw is at found in
      let same : n ≡ m = cc in
      let up : n.superior ≡ Some d = (lies d name n is).0 in
      let branch : IsBranch ns d n = subst (λ (o : Option ℕ). Joins ns o n) up t.0 in
      subst (λ (x : Node). x.uid ≢ 1) same (branch_later ns n d t.1 branch))
  | inr isnt ↦ branch_apart ns d name m t.1 (rw isnt at found)
]

onward_apart : (ns : List Node) (o : Option Node) (dir : Bool) (names : List (List ℕ)) (v : ℕ)
    → ((m : Node) → o ≡ Some m → m.uid ≢ 1)
    → ((m : Node) → m.uid ≢ 1 → walk_from ns m.uid m.directory names ≡ LeadsTo v → v ≢ 1)
    → onward (λ n. walk_from ns n.uid n.directory names) dir o ≡ LeadsTo v → v ≢ 1
onward_apart ns o false names v apart go e = cc
onward_apart ns None true names v apart go e = cc
onward_apart ns (Some m) true names v apart go e = go m (apart m refl) e

walk_apart : (ns : List Node) (u : ℕ) (dir : Bool) (names : List (List ℕ)) (v : ℕ) → IsTree ns → u ≢ 1
    → walk_from ns u dir names ≡ LeadsTo v → v ≢ 1
walk_apart ns u dir [] v t apart e = (let same : u ≡ v = cc in subst (λ (x : ℕ). x ≢ 1) same apart)
walk_apart ns u dir (name ∷ names) v t apart e =
    onward_apart ns (branch_in ns u name) dir names v (λ m found. branch_apart ns u name m t found)
    (λ m ne step. walk_apart ns m.uid m.directory names v t ne step) e

names_apart : (ns : List Node) (name : List ℕ) (names : List (List ℕ)) (v : ℕ) → IsTree ns
    → walk_in ns (name ∷ names) ≡ LeadsTo v → v ≢ 1
names_apart ns name names v t e = grind (arith, nat_tests, common_steps, onward_apart, branch_apart, walk_apart)

found_apart : (ns : List Node) (w : Walk) (n : Node) → ((v : ℕ) → w ≡ LeadsTo v → v ≢ 1) → walked ns w ≡ Ok n
    → n.uid ≢ 1
found_apart ns (LeadsTo u) n apart found = there (node_in ns u) refl found
  where
    there : (o : Option Node) → node_in ns u ≡ o → there_or o ≡ Ok n → n.uid ≢ 1
    there None e f = cc
    there (Some m) e f = (let same : m ≡ n = cc in let uid : m.uid ≡ u = found_uid ns u m e in
        subst (λ (x : ℕ). x ≢ 1) (sym uid ∙ ap (λ (x : Node). x.uid) same) (apart u refl))
found_apart ns Missing n apart found = cc
found_apart ns InSegment n apart found = cc

-- a path with a name doesn't lead to the root
pub path_apart : (ns : List Node) (path : List (List ℕ)) (n : Node) → IsTree ns → eqb (length path) 0 ≡ false
    → node_at ns path ≡ Ok n → n.uid ≢ 1
unfolding node_at
path_apart ns [] n t some found = cc
path_apart ns (name ∷ names) n t some found =
    found_apart ns (walk_in ns (name ∷ names)) n (λ v e. names_apart ns name names v t e) found

-- ---- a node is taken out

-- it is one of the nodes on its volume
pub entries_less : (ns : List Node) (u : ℕ) (n : Node) → IsTree ns → node_in ns u ≡ Some n → (v : ℕ)
    → entries_on (without_node ns u) v + cond {A = ℕ} (eqb n.volume v) 1 0 ≡ entries_on ns v
unfolding entries_on
entries_less [] u n t found v = cc
entries_less (m ∷ ms) u n t found v = elim (cases_Bool (eqb m.uid u)) [
  | inl is ↦
      (let z : Some m ≡ Some n = rw is at found in
      let same : m ≡ n = cc in
      let uid : m.uid ≡ u = grind (arith, nat_tests) in
      let rest = without_absent ms u (rw uid at (older ms m m.superior t.0)) in
      rw (is, rest, count-cons (λ x. eqb x.volume v) m ms, same) (omega arith))
  | inr isnt ↦
      (let ih = entries_less ms u n t.1 (rw isnt at found) v in
      rw (isnt, count-cons (λ x. eqb x.volume v) m (without_node ms u), count-cons (λ x. eqb x.volume v) m ms)
      (omega (arith, ih)))
]

-- what is found, as a node's own uid
pub apart_shown : {X : Type 0} (ns : List Node) (path : List (List ℕ)) (f : X → Node) (r : Result X Reply) → IsTree ns
    → eqb (length path) 0 ≡ false → IfOk r (λ x. node_at ns path ≡ Ok (f x)) → IfOk r (λ x. (f x).uid ≢ 1)
apart_shown ns path f (Ok x) t some found = path_apart ns path (f x) t some found
apart_shown ns path f (Err e) t some found = tt

-- the branch that is made for the next uid below a directory
pub branch_made : {volume pages : ℕ} {directory : Bool} {rows : List Row} {name : List ℕ} (s : Store) (d : Node)
    (next superior : ℕ) → s.next ≡ next → d.uid ≡ superior
    → record s { nodes = new_branch next superior name directory volume pages rows ∷ s.nodes; next = s.next + 1 }
    ≡ made_in s volume directory pages rows name d
branch_made {volume} {pages} {directory} {rows} {name} s d next superior at below =
    grind (arith, nat_tests, common_steps)
