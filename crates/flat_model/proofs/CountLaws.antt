-- How many stored pages pass a test, once one is stored or is stored no more.
use Rattle.flat_model.proofs.Prelude.{cases_Bool, ◌≡◌, ℕ, ◌+◌, ◌-◌, ◌≤◌, Bool, true, false, cond, eqb, List, [], ◌∷◌, refl, ap, ◌∙◌, arith, inl, inr, count_by, cases_eq, nat_tests, sum_by-cons, Node, volume_in, taken_on, is_page, is_stored, with_stored, without_stored, IsOnce, second_false, and_both}
use Rattle.flat_model.proofs.PageLaws.{without_absent, without_first}

pub count-cons : {X : Type 0} (test : X → Bool) (x : X) (xs : List X)
    → count_by test (x ∷ xs) ≡ cond {A = ℕ} (test x) 1 0 + count_by test xs
count-cons test = sum_by-cons (λ y. cond (test y) 1 0)

pub count_with : (test : ℕ × ℕ → Bool) (xs : List (ℕ × ℕ)) (u p : ℕ) → is_stored xs u p ≡ false
    → count_by test (with_stored xs u p) ≡ count_by test xs + cond (test (u, p)) 1 0
unfolding with_stored
count_with test xs u p off = rw off (count-cons test (u, p) xs ∙ omega arith)

pub count_without : (test : ℕ × ℕ → Bool) (xs : List (ℕ × ℕ)) (u p : ℕ) → IsOnce xs → is_stored xs u p ≡ true
    → count_by test (without_stored xs u (λ q. eqb q p)) + cond {A = ℕ} (test (u, p)) 1 0 ≡ count_by test xs
count_without test [] u p once on = absurd cc
count_without test (x ∷ xs) u p once on = elim (cases_Bool (is_page u p x)) [
  | inl is ↦
      (let same = and_both x.0 x.1 u p is in
      let value : test x ≡ test (u, p) = ap test (λ i. (same.0 i, same.1 i)) in
      let gone : is_stored xs u p ≡ false = rw (same.0, same.1) at once.0 in
      rw (without_first x xs u (λ q. eqb q p) true is, without_absent xs u p gone, count-cons test x xs, value)
      (omega arith))
  | inr isnt ↦
      (let rest = count_without test xs u p once.1 (rw isnt at on) in
      rw (
        without_first x xs u (λ q. eqb q p) false isnt,
        count-cons test x (without_stored xs u (λ q. eqb q p)),
        count-cons test x xs,
      ) (omega (arith, rest)))
]

-- a new node changes no count of the pages of others
pub taken_new : (n : Node) (ns : List Node) (xs : List (ℕ × ℕ)) (v : ℕ) → ((page : ℕ) → is_stored xs n.uid page ≡ false)
    → taken_on (n ∷ ns) xs v ≡ taken_on ns xs v
unfolding taken_on
taken_new n ns [] v none = refl
taken_new n ns (x ∷ xs) v none =
    let off : is_stored (x ∷ xs) n.uid x.1 ≡ false = none x.1 in
    let other : eqb n.uid x.0 ≡ false = grind (arith, nat_tests) in
    let same : eqb (volume_in (n ∷ ns) x.0) v ≡ eqb (volume_in ns x.0) v = rw other refl in
    let rest = taken_new n ns xs v
    (λ page. second_false (is_page n.uid page x) (is_stored xs n.uid page) (none page)) in
    rw (
      count-cons (λ y. eqb (volume_in (n ∷ ns) y.0) v) x xs,
      count-cons (λ y. eqb (volume_in ns y.0) v) x xs,
      same,
      rest,
    ) refl

-- a stored page counts
pub count_some : (xs : List (ℕ × ℕ)) (u q n : ℕ) → n ≡ count_by (λ x. eqb x.0 u) xs → IsOnce xs
    → is_stored xs u q ≡ true → 1 ≤ n
count_some xs u q n is once on =
    let own : eqb u u ≡ true = grind (arith, nat_tests) in
    let more : count_by (λ x. eqb x.0 u) (without_stored xs u (λ r. eqb r q)) + 1 ≡ count_by (λ x. eqb x.0 u) xs =
    rw own at (count_without (λ x. eqb x.0 u) xs u q once on) in
    omega (arith, more, is)

-- where the pages of each segment are counted, one less of a segment leaves those without that page
pub counted_less : (c d : ℕ → ℕ) (xs : List (ℕ × ℕ)) (u q : ℕ) → ((s : ℕ) → c s ≡ count_by (λ x. eqb x.0 s) xs)
    → IsOnce xs → is_stored xs u q ≡ true → ((s : ℕ) → d s ≡ cond (eqb u s) (c u - 1) (c s)) → (s : ℕ)
    → d s ≡ count_by (λ x. eqb x.0 s) (without_stored xs u (λ r. eqb r q))
counted_less c d xs u q counts once on down s =
    let less = count_without (λ x. eqb x.0 s) xs u q once on in
    let was : c s ≡ count_by (λ x. eqb x.0 s) xs = counts s in
    down s ∙ elim (cases_eq u s) [
      | inl same ↦
          (let own : eqb u s ≡ true = grind (arith, nat_tests) in
          let one : count_by (λ x. eqb x.0 s) (without_stored xs u (λ r. eqb r q)) + 1 ≡ count_by (λ x. eqb x.0 s) xs =
          rw own at less in
          let here : c u ≡ c s = ap c same in
          rw own (omega (arith, one, here, was)))
      | inr other ↦
          (let own : eqb u s ≡ false = grind (arith, nat_tests) in
          let one : count_by (λ x. eqb x.0 s) (without_stored xs u (λ r. eqb r q)) + 0 ≡ count_by (λ x. eqb x.0 s) xs =
          rw own at less in
          rw own (omega (arith, one, was)))
    ]
