-- A node gets another volume: what is read of the nodes, and counted on each volume.
use Rattle.storage_ops.proofs.Prelude.{◌≡◌, ◌≢◌, ℕ, ◌+◌, Bool, true, false, cond, eqb, List, [], ◌∷◌, map, Some, refl, ap, subst, arith, inl, inr, count_by, cases_Bool, cases_eq, eq-eqb, eqb-true, ne_eqb, sum_by-cons, Node, entries_on, has_directory, node_in, taken_on, volume_in, AreBelow, IsTree, field_kept, field_mapped, is_there, joined_below}

-- a node, on another volume where it has this uid
abbrev pub on_volume : ℕ → ℕ → Node → Node
on_volume u w n = cond (eqb n.uid u) (record n { volume = w }) n

module _ (u w : ℕ) where
  pub uid_on : (n : Node) → (on_volume u w n).uid ≡ n.uid
  uid_on = field_kept (λ (x : Node). x.uid) (λ n. record n { volume = w }) u (λ n. refl)

  pub superior_on : (n : Node) → (on_volume u w n).superior ≡ n.superior
  superior_on = field_kept (λ (x : Node). x.superior) (λ n. record n { volume = w }) u (λ n. refl)

  pub kind_on : (n : Node) → (on_volume u w n).directory ≡ n.directory
  kind_on = field_kept (λ (x : Node). x.directory) (λ n. record n { volume = w }) u (λ n. refl)

  pub pages_on : (n : Node) → (on_volume u w n).pages ≡ n.pages
  pages_on = field_kept (λ (x : Node). x.pages) (λ n. record n { volume = w }) u (λ n. refl)

  pub rows_on : (n : Node) → (on_volume u w n).rows ≡ n.rows
  rows_on = field_kept (λ (x : Node). x.rows) (λ n. record n { volume = w }) u (λ n. refl)

  pub directory_on : (ns : List Node) (v : ℕ) → has_directory (map (on_volume u w) ns) v ≡ has_directory ns v
  directory_on ns v = field_mapped (λ (xs : List Node). has_directory xs v) (λ (x : Node). x.directory) v
      (λ m xs. refl) (on_volume u w) uid_on kind_on ns

  -- ---- its volume

  pub volume_here : (ns : List Node) → is_there ns u ≡ true → volume_in (map (on_volume u w) ns) u ≡ w
  volume_here [] there = cc
  volume_here (n ∷ ns) there = elim (cases_Bool (eqb n.uid u)) [
    | inl is ↦ rw (is, is) refl
    | inr isnt ↦ rw (isnt, isnt) (volume_here ns (rw isnt at there))
  ]

  pub volume_else : (ns : List Node) (v : ℕ) → v ≢ u → volume_in (map (on_volume u w) ns) v ≡ volume_in ns v
  volume_else [] v ne = refl
  volume_else (n ∷ ns) v ne = elim (cases_Bool (eqb n.uid u)) [
    | inl is ↦
        (let same = eqb-true n.uid u is in
        rw (is, (ne_eqb n.uid v (λ e. ne (cc)))) (volume_else ns v ne))
    | inr isnt ↦ rw isnt (cc (volume_else ns v ne))
  ]

-- ---- stored pages

-- where pages of one segment alone are weighed by another volume, those of that segment change sides
moved_sides : (f g : ℕ → ℕ) (u : ℕ) → ((x : ℕ) → x ≢ u → f x ≡ g x) → (stored : List (ℕ × ℕ)) (v : ℕ)
    → count_by (λ x. eqb (f x.0) v) stored + cond {A = ℕ} (eqb (g u) v) (count_by (λ x. eqb x.0 u) stored) 0
    ≡ count_by (λ x. eqb (g x.0) v) stored + cond {A = ℕ} (eqb (f u) v) (count_by (λ x. eqb x.0 u) stored) 0
moved_sides f g u else [] v = by (eqb (g u) v) (eqb (f u) v)
  where
    by : (a b : Bool) → 0 + cond {A = ℕ} a 0 0 ≡ 0 + cond {A = ℕ} b 0 0
    by true true = refl
    by true false = refl
    by false true = refl
    by false false = refl
moved_sides f g u else (x ∷ xs) v = elim (cases_eq x.0 u) [
  | inl same ↦ rw (first f v, first g v, first (λ k. k) u, eq-eqb x.0 u same, same)
      (here (eqb (f u) v) (eqb (g u) v) _ _ _ (moved_sides f g u else xs v))
  | inr ne ↦ rw (first f v, first g v, first (λ k. k) u, ne_eqb x.0 u ne, else x.0 ne)
      (there (eqb (f u) v) (eqb (g u) v) (eqb (g x.0) v) _ _ _ (moved_sides f g u else xs v))
]
  where
    first : (h : ℕ → ℕ) (w : ℕ)
        → count_by (λ y. eqb (h y.0) w) (x ∷ xs) ≡ cond {A = ℕ} (eqb (h x.0) w) 1 0 + count_by (λ y. eqb (h y.0) w) xs
    first h w = sum_by-cons (λ (y : ℕ × ℕ). cond (eqb (h y.0) w) 1 0) x xs

    here : (a b : Bool) (m n c : ℕ) → m + cond {A = ℕ} b c 0 ≡ n + cond {A = ℕ} a c 0
        → cond {A = ℕ} a 1 0 + m + cond {A = ℕ} b (1 + c) 0 ≡ cond {A = ℕ} b 1 0 + n + cond {A = ℕ} a (1 + c) 0
    here true true m n c ih = omega arith
    here true false m n c ih = omega arith
    here false true m n c ih = omega arith
    here false false m n c ih = omega arith

    there : (a b z : Bool) (m n c : ℕ) → m + cond {A = ℕ} b c 0 ≡ n + cond {A = ℕ} a c 0
        → cond {A = ℕ} z 1 0 + m + cond {A = ℕ} b (0 + c) 0 ≡ cond {A = ℕ} z 1 0 + n + cond {A = ℕ} a (0 + c) 0
    there true true z m n c ih = omega arith
    there true false z m n c ih = omega arith
    there false true z m n c ih = omega arith
    there false false z m n c ih = omega arith

pub taken_moved : (ns : List Node) (u w : ℕ) → is_there ns u ≡ true → (stored : List (ℕ × ℕ)) (v : ℕ)
    → taken_on (map (on_volume u w) ns) stored v
    + cond {A = ℕ} (eqb (volume_in ns u) v) (count_by (λ x. eqb x.0 u) stored) 0
    ≡ taken_on ns stored v + cond {A = ℕ} (eqb w v) (count_by (λ x. eqb x.0 u) stored) 0
unfolding taken_on
taken_moved ns u w there stored v = subst (λ (x : ℕ). taken_on (map (on_volume u w) ns) stored v
    + cond {A = ℕ} (eqb (volume_in ns u) v) (count_by (λ x. eqb x.0 u) stored) 0
    ≡ taken_on ns stored v + cond {A = ℕ} (eqb x v) (count_by (λ x. eqb x.0 u) stored) 0) (volume_here u w ns there)
    (moved_sides (volume_in (map (on_volume u w) ns)) (volume_in ns) u (λ x ne. volume_else u w ns x ne) stored v)

-- ---- VTOC entries

none_on : (u w : ℕ) {ns : List Node} → AreBelow u ns → map (on_volume u w) ns ≡ ns
none_on u w {ns = []} below = refl
none_on u w {ns = n ∷ ns} below = (let lt = below.0 in rw (ne_eqb n.uid u (λ e. omega arith))
    (ap (λ (ms : List Node). n ∷ ms) (none_on u w below.1)))

pub entries_moved : (ns : List Node) → IsTree ns → (u w : ℕ) {n : Node} → node_in ns u ≡ Some n → (v : ℕ)
    → entries_on (map (on_volume u w) ns) v + cond {A = ℕ} (eqb n.volume v) 1 0
    ≡ entries_on ns v + cond {A = ℕ} (eqb w v) 1 0
unfolding entries_on
entries_moved [] tree u w found v = cc
entries_moved (m ∷ ns) tree u w {n} found v = elim (cases_eq m.uid u) [
  | inl same ↦
      (let z : Some m ≡ Some n = rw (eq-eqb m.uid u same) at found in
      let is : m ≡ n = cc in
      rw (
        eq-eqb m.uid u same,
        none_on u w {ns = ns} (rw (← same) (joined_below ns m.superior m tree.0)),
        first (record m { volume = w }) ns,
        first m ns,
        ← is,
      ) (omega arith))
  | inr ne ↦
      (let rest = entries_moved ns tree.1 u w {n = n} (rw (ne_eqb m.uid u ne) at found) v in
      rw (ne_eqb m.uid u ne, first m (map (on_volume u w) ns), first m ns) (omega arith))
]
  where
    first : (x : Node) (xs : List Node) → count_by (λ y. eqb y.volume v) (x ∷ xs)
        ≡ cond {A = ℕ} (eqb x.volume v) 1 0 + count_by (λ y. eqb y.volume v) xs
    first x xs = sum_by-cons (λ (y : Node). cond (eqb y.volume v) 1 0) x xs
