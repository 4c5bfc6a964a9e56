-- The laws of a tree: what is above a node, how deep it lies, and what a branch more or less leaves.
use Rattle.tree_model.proofs.Prelude.{◌≡◌, ◌≢◌, ℕ, ◌<◌, ◌≤◌, true, false, eqb, not, List, [], ◌∷◌, length, Option, Some, is_some, map, None, refl, sym, ap, subst, ◌∙◌, arith, inl, inr, find, filter, list_any, bytes_eq, option_and_then, cases_Bool, cases_eq, both_ways, eqb-true, eq-eqb, ne_eqb, and_parts, or_parts, same_Some, bytes_eq-Decides, Term, above, branch_in, is_branch, is_inferior, quota_in, node_in, is_superior, step_up, has_directory, AreBelow, IsBranch, Joins, IsTree}
use Rattle.tree_model.proofs.Finds.{IsMember, branch_found, member_found}

-- the superior of a node
abbrev pub superior_in : List Term → ℕ → Option ℕ
superior_in ns u = option_and_then (λ n. n.superior) (find (λ n. eqb n.uid u) ns)

pub superior_found : (ns : List Term) (u : ℕ) (n : Term) → node_in ns u ≡ Some n → superior_in ns u ≡ n.superior
superior_found [] u n e = cc
superior_found (m ∷ ns) u n e = elim (cases_Bool (eqb m.uid u)) [
  | inl is ↦ (let z : Some m ≡ Some n = rw is at e in let same : m ≡ n = cc in
      rw is (cc))
  | inr isnt ↦ rw isnt (superior_found ns u n (rw isnt at e))
]

-- nodes that stand for others
pub directory_mapped : {X : Type 0} (f g : X → Term) → ((x : X) → (f x).uid ≡ (g x).uid)
    → ((x : X) → (f x).directory ≡ (g x).directory) → (xs : List X) (u : ℕ)
    → has_directory (map f xs) u ≡ has_directory (map g xs) u
directory_mapped f g uid kind [] u = refl
directory_mapped f g uid kind (x ∷ xs) u = cc (uid x, kind x, directory_mapped f g uid kind xs u)

pub quota_mapped : {X : Type 0} (f : X → Term) (q : ℕ → ℕ) → ((x : X) → (f x).quota ≡ q (f x).uid) → (xs : List X)
    (u : ℕ) → (is_some (find (λ x. eqb (f x).uid u) xs) ≡ false → q u ≡ 0) → quota_in (map f xs) u ≡ q u
quota_mapped f q own [] u none = sym (none refl)
quota_mapped f q own (x ∷ xs) u none = elim (cases_eq (f x).uid u) [
  | inl same ↦ rw (eq-eqb (f x).uid u same) (own x ∙ ap q same)
  | inr other ↦ rw (ne_eqb (f x).uid u other) (quota_mapped f q own xs u (λ e. none (rw (ne_eqb (f x).uid u other) e)))
]

below_of : {v : ℕ} (ns : List Term) (s : ℕ) → AreBelow v ns → has_directory ns s ≡ true → s < v
below_of [] s b e = cc
below_of {v} (n ∷ ns) s b e = elim (cases_eq n.uid s) [
  | inl same ↦ (omega arith)
  | inr other ↦ below_of {v = v} ns s b.1 (rw (ne_eqb n.uid s other) at e)
]

-- a node of a tree that is below another
abbrev pub IsUp : List Term → ℕ → Option ℕ → Type 0
IsUp ns u None = Unit {0}
IsUp ns u (Some s) = (s < u) × (has_directory ns s ≡ true)

joined_up : (ns : List Term) (o : Option ℕ) (n : Term) → Joins ns o n → IsUp ns n.uid o
joined_up ns None n j = tt
joined_up ns (Some s) n j = (below_of {v = n.uid} ns s j.later j.below, j.below)

-- a newer node hides no older one
seen_past : (ns : List Term) (n : Term) (u s : ℕ) → AreBelow n.uid ns → has_directory ns s ≡ true
    → has_directory (n ∷ ns) s ≡ true
seen_past ns n u s b e = (let lt : s < n.uid = below_of {v = n.uid} ns s b e in let other : eqb n.uid s ≡ false =
    ne_eqb n.uid s (λ q. omega arith) in rw other e)

pub joined_below : (ns : List Term) (o : Option ℕ) (n : Term) → Joins ns o n → AreBelow n.uid ns
joined_below ns None n j = rw j.first tt
joined_below ns (Some s) n j = j.later

up_past : (ns : List Term) (n : Term) (u : ℕ) (o : Option ℕ) → AreBelow n.uid ns → IsUp ns u o → IsUp (n ∷ ns) u o
up_past ns n u None b up = tt
up_past ns n u (Some s) b up = (up.0, seen_past ns n u s b up.1)

-- the superior of a node is an older directory
pub superior_up : (ns : List Term) → IsTree ns → (u : ℕ) → IsUp ns u (superior_in ns u)
superior_up [] t u = tt
superior_up (n ∷ ns) t u = elim (cases_eq n.uid u) [
  | inl same ↦ rw (eq-eqb n.uid u same) (up_past ns n u n.superior (joined_below ns n.superior n t.0)
      (rw same at (joined_up ns n.superior n t.0)))
  | inr other ↦ rw (ne_eqb n.uid u other) (up_past ns n u (superior_in ns u) (joined_below ns n.superior n t.0)
      (superior_up ns t.1 u))
]

step_past : (ns : List Term) (n : Term) (u : ℕ) (o : Option ℕ) → AreBelow n.uid ns → IsUp ns u o → step_up (above ns) o
    ≡ step_up (above (n ∷ ns)) o
step_past ns n u None b up = refl
step_past ns n u (Some s) b up = (let lt : s < n.uid = below_of {v = n.uid} ns s b up.1 in let other : eqb n.uid s
    ≡ false = ne_eqb n.uid s (λ q. omega arith) in rw other refl)

-- what is above a node is its superior and what is above that
pub above_once : (ns : List Term) → IsTree ns → (u : ℕ) → above ns u ≡ step_up (above ns) (superior_in ns u)
above_once [] t u = refl
above_once (n ∷ ns) t u =
    let b : AreBelow n.uid ns = joined_below ns n.superior n t.0 in
    elim (cases_eq n.uid u) [
      | inl same ↦ rw (eq-eqb n.uid u same) (step_past ns n n.uid n.superior b (joined_up ns n.superior n t.0))
      | inr other ↦ rw (ne_eqb n.uid u other) (above_once ns t.1 u
          ∙ step_past ns n u (superior_in ns u) b (superior_up ns t.1 u))
    ]

-- ---- how deep a node lies

shallow_since : (ns : List Term) (o : Option ℕ) (n : Term) → Joins ns o n
    → ((s : ℕ) → has_directory ns s ≡ true → length (above ns s) ≤ 8) → length (step_up (above ns) o) ≤ 9
shallow_since ns None n j h = omega arith
shallow_since ns (Some s) n j h = (omega (arith, h s j.below))

directory_since : (ns : List Term) (o : Option ℕ) (n : Term) → Joins ns o n → n.directory ≡ true
    → length (step_up (above ns) o) ≤ 8
directory_since ns None n j is = omega arith
directory_since ns (Some s) n j is = (omega (arith, j.shallow is))

pub directory_depth : (ns : List Term) → IsTree ns → (u : ℕ) → has_directory ns u ≡ true → length (above ns u) ≤ 8
directory_depth [] t u e = omega arith
directory_depth (n ∷ ns) t u e = elim (cases_eq n.uid u) [
  | inl same ↦ (let here : eqb n.uid u ≡ true = eq-eqb n.uid u same in rw here
      (directory_since ns n.superior n t.0 (rw here at e)))
  | inr other ↦ (let there : eqb n.uid u ≡ false = ne_eqb n.uid u other in rw there
      (directory_depth ns t.1 u (rw there at e)))
]

-- at most the root and eight directories
pub depth : (ns : List Term) → IsTree ns → (u : ℕ) → length (above ns u) ≤ 9
depth [] t u = omega arith
depth (n ∷ ns) t u = elim (cases_eq n.uid u) [
  | inl same ↦ rw (eq-eqb n.uid u same) (shallow_since ns n.superior n t.0 (λ s e. directory_depth ns t.1 s e))
  | inr other ↦ rw (ne_eqb n.uid u other) (depth ns t.1 u)
]

-- only the root has no superior, and it's a directory
pub root_found : (ns : List Term) → IsTree ns → (u : ℕ) (n : Term) → find (λ n. eqb n.uid u) ns ≡ Some n → n.superior
    ≡ None → (u ≡ 1) × (n.directory ≡ true)
root_found [] t u n e none = cc
root_found (m ∷ ns) t u n e none = elim (cases_eq m.uid u) [
  | inl same ↦
      (let z : Some m ≡ Some n = rw (eq-eqb m.uid u same) at e in
      let is : m ≡ n = cc in
      let up : m.superior ≡ None = rw is none in
      let root : Joins ns None m = subst (λ o. Joins ns o m) up t.0 in
      (cc, cc))
  | inr other ↦ root_found ns t.1 u n (rw (ne_eqb m.uid u other) at e) none
]

-- ---- one branch of a name

pub superior_is : (u : ℕ) (o : Option ℕ) → o ≡ Some u → is_superior u o ≡ true
superior_is u None e = cc
superior_is u (Some s) e = eq-eqb s u (same_Some s u e)

pub is_superior_of : (u : ℕ) (o : Option ℕ) → is_superior u o ≡ true → o ≡ Some u
is_superior_of u None e = cc
is_superior_of u (Some s) e = cc (eqb-true s u e)

pub is_below : (u : ℕ) (n : Term) → n.superior ≡ Some u → is_inferior u n ≡ true
is_below u n e = superior_is u n.superior e

pub not_below : (u : ℕ) (n : Term) → n.superior ≢ Some u → is_inferior u n ≡ false
not_below u n ne = up n.superior ne
  where
    up : (o : Option ℕ) → o ≢ Some u → is_inferior u (record n { superior = o }) ≡ false
    up None ne = refl
    up (Some s) ne = ne_eqb s u (λ e. ne (cc))

pub lies : (d : ℕ) (name : List ℕ) (n : Term) → is_branch d name n ≡ true → (n.superior ≡ Some d) × (n.name ≡ name)
lies d name n e =
    let h : (is_inferior d n ≡ true) × (bytes_eq n.name name ≡ true) = and_parts _ _ e in
    let same : n.name ≡ name = grind (arith, bytes_eq-Decides) in (is_superior_of d n.superior h.0, same)

new_here : (ns : List Term) (n : Term) (d : ℕ) (name : List ℕ) → Joins ns n.superior n → is_branch d name n ≡ true
    → branch_in ns d name ≡ None
new_here ns n d name j e =
    let h : (n.superior ≡ Some d) × (n.name ≡ name) = lies d name n e in
    let branch : IsBranch ns d n = subst (λ o. Joins ns o n) h.0 j in
    rw (← h.1) branch.new

pub only_branch : (ns : List Term) → IsTree ns → (d : ℕ) (name : List ℕ) (x y : Term) → branch_in ns d name ≡ Some x
    → IsMember y ns → is_branch d name y ≡ true → x ≡ y
only_branch [] t d name x y e m is = absurd m
only_branch (n ∷ ns) t d name x y e (inl same) is = (let here : is_branch d name n ≡ true =
    rw (← same) is in let z : Some n ≡ Some x = rw here at e in cc)
only_branch (n ∷ ns) t d name x y e (inr m) is = elim (cases_Bool (is_branch d name n)) [
  | inl here ↦ absurd (member_found (is_branch d name) ns y m is
      (sym (branch_found d name ns) ∙ new_here ns n d name t.0 here))
  | inr there ↦ only_branch ns t.1 d name x y (rw there at e) m is
]

-- ---- a leaf less

abbrev pub left : ℕ → List Term → List Term
left u ns = filter (λ n. not (eqb n.uid u)) ns

below_left : (v u : ℕ) (ns : List Term) → AreBelow v ns → AreBelow v (left u ns)
below_left v u [] b = tt
below_left v u (n ∷ ns) b = elim (cases_eq n.uid u) [
  | inl same ↦ rw (eq-eqb n.uid u same) (below_left v u ns b.1)
  | inr other ↦ rw (ne_eqb n.uid u other) (b.0, below_left v u ns b.1)
]

directory_left : (u : ℕ) (ns : List Term) (s : ℕ) → s ≢ u → has_directory (left u ns) s ≡ has_directory ns s
directory_left u [] s ne = refl
directory_left u (n ∷ ns) s ne = elim (cases_eq n.uid u) [
  | inl same ↦ (let past : eqb n.uid s ≡ false = ne_eqb n.uid s (λ q. ne (omega arith)) in rw
      (eq-eqb n.uid u same, past) (directory_left u ns s ne))
  | inr other ↦ rw (ne_eqb n.uid u other) (cc (directory_left u ns s ne))
]

branch_left : (u : ℕ) (ns : List Term) (d : ℕ) (name : List ℕ) → branch_in ns d name ≡ None
    → branch_in (left u ns) d name ≡ None
branch_left u [] d name e = refl
branch_left u (n ∷ ns) d name e = elim (cases_Bool (is_branch d name n)) [
  | inl here ↦ (let z : Some n ≡ None = rw here at e in cc)
  | inr there ↦ (let ih : branch_in (left u ns) d name ≡ None =
      branch_left u ns d name (rw there at e) in elim (cases_eq n.uid u) [
        | inl same ↦ rw (eq-eqb n.uid u same) ih
        | inr other ↦ rw (ne_eqb n.uid u other, there) ih
      ])
]

-- a node that isn't an inferior of u lies elsewhere
elsewhere : (u : ℕ) (n : Term) → is_inferior u n ≡ false → (s : ℕ) → n.superior ≡ Some s → s ≢ u
elsewhere u n e s is same = up n.superior is e
  where
    up : (o : Option ℕ) → o ≡ Some s → is_inferior u (record n { superior = o }) ≡ false → ⊥
    up None z f = cc
    up (Some v) z f = (let w : v ≡ s = cc in both_ways (eqb v u) f (eq-eqb v u (omega arith)))

step_left : (u : ℕ) (ns : List Term) (o : Option ℕ) → ((s : ℕ) → o ≡ Some s → s ≢ u)
    → ((v : ℕ) → v ≢ u → above (left u ns) v ≡ above ns v) → step_up (above (left u ns)) o ≡ step_up (above ns) o
step_left u ns None off h = refl
step_left u ns (Some s) off h = cc (h s (off s refl))

-- where u has no inferior, nothing above another node changes
pub above_left : (u : ℕ) (ns : List Term) → list_any (is_inferior u) ns ≡ false → (v : ℕ) → v ≢ u → above (left u ns) v
    ≡ above ns v
above_left u [] leaf v ne = refl
above_left u (n ∷ ns) leaf v ne =
    let parts : (is_inferior u n ≡ false) × (list_any (is_inferior u) ns ≡ false) = or_parts _ _ leaf in
    elim (cases_eq n.uid u) [
      | inl same ↦ (let past : eqb n.uid v ≡ false = ne_eqb n.uid v (λ q. ne (omega arith)) in rw
          (eq-eqb n.uid u same, past) (above_left u ns parts.1 v ne))
      | inr other ↦
          (let step = step_left u ns n.superior (elsewhere u n parts.0) (λ w off. above_left u ns parts.1 w off) in
          rw (ne_eqb n.uid u other, step, above_left u ns parts.1 v ne) refl)
    ]

joins_left : (u : ℕ) (ns : List Term) (o : Option ℕ) (n : Term) → ((s : ℕ) → o ≡ Some s → s ≢ u)
    → list_any (is_inferior u) ns ≡ false → Joins ns o n → Joins (left u ns) o n
joins_left u ns None n off leaf j = record { first = rw j.first refl; one = j.one; directory = j.directory }
joins_left u ns (Some s) n off leaf j = record {
  later = below_left n.uid u ns j.later;
  below = directory_left u ns s (off s refl) ∙ j.below;
  new = branch_left u ns s n.name j.new;
  shallow = λ is. rw (above_left u ns leaf s (off s refl)) (j.shallow is);
}

pub tree_left : (u : ℕ) (ns : List Term) → list_any (is_inferior u) ns ≡ false → IsTree ns → IsTree (left u ns)
tree_left u [] leaf t = tt
tree_left u (n ∷ ns) leaf t =
    let parts : (is_inferior u n ≡ false) × (list_any (is_inferior u) ns ≡ false) = or_parts _ _ leaf in
    elim (cases_eq n.uid u) [
      | inl same ↦ rw (eq-eqb n.uid u same) (tree_left u ns parts.1 t.1)
      | inr other ↦ rw (ne_eqb n.uid u other) (
        joins_left u ns n.superior n (elsewhere u n parts.0) parts.1 t.0,
        tree_left u ns parts.1 t.1,
      )
    ]
