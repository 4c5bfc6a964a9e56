-- Which accounts can be above their quotas once quota has moved.
use Rattle.quota_cells.proofs.Prelude.{common_steps, ◌≡◌, ◌≢◌, ℕ, suc, ◌+◌, ◌-◌, ◌<◌, ◌≤◌, ◌^◌, Bool, true, false, eqb, ltb, if◌then◌else◌, List, [], ◌∷◌, length, Some, None, refl, sym, ◌∙◌, arith, get_or, inl, inr, ◌⊎◌, sum, find, cases_Bool, cases_eq, both_ways, eqb-true, eq-eqb, ne_eqb, or_cases, and_parts, or_right, or_left, and_from, false_from_ne_true, above, Node, shapes, has, covers, is_an_account, CellMaps, quota_in, load_in, Fits, IsTable, with_quota, IsRising, is_over, first_over, IsPlaced, CanGive, directories_of, nat_tests}
use Rattle.quota_cells.proofs.AccountLaws.{covers_above}
use Rattle.quota_cells.proofs.ColumnLaws.{two_le_sum}
use Rattle.quota_cells.proofs.FitLaws.{Settled, covered_there, ends_at, falls, load_bound, there}
use Rattle.quota_cells.proofs.MoveLaws.{AreEven, Changing, covers_more, fits_quota, even_quota, quota_own, quota_other, load_falls, load_rises, load_stays, total_quota}

-- ---- the least that passes

pub none_passes : (p : ℕ → Bool) (ks : List ℕ) → ((b : ℕ) → has ks b ≡ true → p b ≡ false) → find p ks ≡ None
none_passes p [] none = refl
none_passes p (k ∷ ks) none = rw (none k (or_left (eqb k k) (has ks k) (eq-eqb k k refl)))
    (none_passes p ks (λ b h. none b (or_right (eqb k b) (has ks b) h)))

later_than : (k : ℕ) (ks : List ℕ) → ((i : ℕ) → i < length ks → k < get_or ks i 0) → (b : ℕ) → has ks b ≡ true → k < b
later_than k [] all b h = cc
later_than k (j ∷ js) all b h = elim (or_cases (eqb j b) (has js b) h) [
  | inl here ↦ (let same : j ≡ b = eqb-true j b here in let lt : k < j = all 0 (omega arith) in omega arith)
  | inr there ↦ later_than k js (λ i lt. all (suc i) (omega arith)) b there
]

pub later : (k : ℕ) (ks : List ℕ) → IsRising (k ∷ ks) → (b : ℕ) → has ks b ≡ true → k < b
later k ks up b h = later_than k ks (λ i lt. up 0 (suc i) (omega arith) (omega arith)) b h

pub first_passes : (p : ℕ → Bool) (ks : List ℕ) (a : ℕ) → IsRising ks → has ks a ≡ true → p a ≡ true
    → ((b : ℕ) → has ks b ≡ true → b < a → p b ≡ false) → find p ks ≡ Some a
first_passes p [] a up h is none = cc
first_passes p (k ∷ ks) a up h is none = elim (cases_eq k a) [
  | inl same ↦ (let here : p k ≡ true = rw same is in rw here (cc))
  | inr other ↦
      (let rest : has ks a ≡ true = rw (ne_eqb k a other) at h in
      let before : k < a = later k ks up a rest in
      let isnt : p k ≡ false = none k (or_left (eqb k k) (has ks k) (eq-eqb k k refl)) before in
      rw isnt (first_passes p ks a (λ i j lt w. up (suc i) (suc j) (omega arith) (omega arith)) rest is
      (λ b hb lt. none b (or_right (eqb k b) (has ks b) hb) lt)))
]

pub passes : (p : ℕ → Bool) (ks : List ℕ) (b : ℕ) → has ks b ≡ true → p b ≡ true → find p ks ≢ None
passes p [] b h is none = cc
passes p (k ∷ ks) b h is none = elim (cases_Bool (p k)) [
  | inl here ↦ (let z : Some k ≡ None = rw here at none in cc)
  | inr off ↦ elim (cases_eq k b) [
    | inl same ↦ both_ways (p k) off (rw same is)
    | inr far ↦ passes p ks b (rw (ne_eqb k b far) at h) is (rw off at none)
  ]
]

-- ---- two changes

-- so many pages of quota move from one directory to another
pub record Moving (nodes : List Node) (c : CellMaps) (g v n : ℕ) : Type 0 where
  pub settled : Settled nodes c
  pub other : g ≢ v
  pub here_g : has c.directories g ≡ true
  pub here_v : has c.directories v ≡ true
  pub some : 0 < n
  pub enough : n ≤ quota_in c v

-- the cells once the one has them, and once the other has given them
abbrev pub one_changed : List Node → CellMaps → ℕ → ℕ → CellMaps
one_changed nodes c g n = with_quota c (above (shapes nodes) g) g (quota_in c g + n)

abbrev pub both_changed : List Node → CellMaps → ℕ → ℕ → ℕ → CellMaps
both_changed nodes c g v n = with_quota (one_changed nodes c g n) (above (shapes nodes) v) v (quota_in c v - n)

pub changing_of : {nodes : List Node} {c : CellMaps} {d : ℕ} → Settled nodes c → has c.directories d ≡ true
    → Changing nodes c d
changing_of settled here = grind (arith, nat_tests, common_steps)

module _ {nodes : List Node} {c : CellMaps} {g v n : ℕ} (moving : Moving nodes c g v n) where
  open moving use {other, here_g, here_v, some, enough, settled.{table, fits, chains}}

  abbrev f : ℕ → List ℕ
  f = above (shapes nodes)

  abbrev q : ℕ → ℕ
  q = quota_in c

  abbrev c1 : CellMaps
  c1 = one_changed nodes c g n

  abbrev c2 : CellMaps
  c2 = both_changed nodes c g v n

  first : Changing nodes c g
  first = changing_of moving.settled here_g

  second : Changing nodes c1 v
  second = assumption (even_quota first (q g + n), fits_quota first (q g + n))

  pub fits2 : Fits nodes c2
  fits2 = fits_quota second (q v - n)

  even2 : AreEven c2
  even2 = even_quota second (q v - n)

  pub q1_g : quota_in c1 g ≡ q g + n
  q1_g = quota_own first (q g + n)

  pub q1_other : (b : ℕ) → b ≢ g → quota_in c1 b ≡ q b
  q1_other = quota_other first (q g + n)

  pub q2_g : quota_in c2 g ≡ q g + n
  q2_g = quota_other second (q v - n) g other ∙ q1_g

  pub q2_v : quota_in c2 v ≡ q v - n
  q2_v = quota_own second (q v - n)

  pub q2_other : (b : ℕ) → b ≢ g → b ≢ v → quota_in c2 b ≡ q b
  q2_other b ne_g ne_v = quota_other second (q v - n) b ne_v ∙ q1_other b ne_g

  pub load1_falls : q g ≡ 0 → (b : ℕ) → has c.directories b ≡ true
      → load_in c1 b ≡ (if covers q (f g) b then load_in c b - load_in c g else load_in c b)
  load1_falls none = load_falls first (q g + n) none (λ e. omega arith)

  pub load1_stays : q g ≢ 0 → (b : ℕ) → has c.directories b ≡ true → load_in c1 b ≡ load_in c b
  load1_stays is = load_stays first (q g + n) is (λ e. omega arith)

  load1_le : (b : ℕ) → has c.directories b ≡ true → load_in c1 b ≤ load_in c b
  load1_le b h = grind (arith, nat_tests, common_steps, load1_falls, load1_stays)

  q1_v : quota_in c1 v ≡ q v
  q1_v = q1_other v (λ e. other (sym e))

  pub load2_rises : q v ≡ n → (b : ℕ) → has c.directories b ≡ true
      → load_in c2 b ≡ (if covers (quota_in c1) (f v) b then load_in c1 b + load_in c1 v else load_in c1 b)
  load2_rises all = load_rises second (q v - n) (λ e. (omega (arith, q1_v))) (omega arith)

  pub load2_stays : q v ≢ n → (b : ℕ) → has c.directories b ≡ true → load_in c2 b ≡ load_in c1 b
  load2_stays part = load_stays second (q v - n) (λ e. (omega (arith, q1_v))) (λ e. part (omega arith))

  within_still : (b : ℕ) → has c.directories b ≡ true → b ≢ g → b ≢ v → load_in c2 b ≤ load_in c b
      → is_over c2 b ≡ false
  within_still b h ne_g ne_v le = grind (arith, nat_tests, common_steps, false_from_ne_true, and_parts, q2_other)

  pub over_who : (b : ℕ) → has c.directories b ≡ true → is_over c2 b ≡ true
      → (b ≡ g) ⊎ ((b ≡ v) ⊎ ((q v ≡ n) × (covers (quota_in c1) (f v) b ≡ true)
      × (is_an_account (quota_in c1) b ≡ true)))
  over_who b h over = elim (cases_eq b g) [
    | inl is_g ↦ inl is_g
    | inr ne_g ↦ elim (cases_eq b v) [
      | inl is_v ↦ inr (inl is_v)
      | inr ne_v ↦ elim (cases_eq (q v) n) [
        | inr part ↦ absurd (both_ways (is_over c2 b) (within_still b h ne_g ne_v
            (rw (load2_stays part b h) (load1_le b h))) over)
        | inl all ↦ elim (cases_Bool (covers (quota_in c1) (f v) b)) [
          | inr off ↦ absurd (both_ways (is_over c2 b) (within_still b h ne_g ne_v
              (rw (load2_rises all b h, off) (load1_le b h))) over)
          | inl on ↦
              (let both = and_parts (is_an_account (quota_in c2) b) (ltb (quota_in c2 b) (load_in c2 b)) over in
              inr (inr (all, on, (rw (q2_other b ne_g ne_v ∙ sym (q1_other b ne_g)) at both.0))))
        ]
      ]
    ]
  ]

  pub conserved : sum c2.quotas ≡ sum c.quotas
  conserved = omega (arith, total_quota first (q g + n), total_quota second (q v - n), q1_v)

  -- where no account is above its quota the cells hold together
  table2 : first_over c2 ≡ None → IsTable c2
  table2 none = grind (arith, nat_tests, common_steps, even2, passes, and_from, conserved)

  -- where the giver is an account no more, its load fits above
  room2 : first_over c2 ≡ None → q v ≡ n → (e : ℕ) → covers (quota_in c1) (f v) e ≡ true
      → load_in c1 e + load_in c1 v < 2 ^ 32
  room2 none all e is =
      let root_no : v ≢ 1 = λ z. both_ways (covers (quota_in c1) (f v) e) (rw (z, chains.root) refl) is in
      let here_e = covered_there (quota_in c1) c.directories (f v) e (there moving.settled v) is in
      let same = covers_above (quota_in c1) (quota_in c2) v (f v) e (quota_other second (q v - n)) (chains.under v) in
      let bound = load_bound (record { table = table2 none; fits = fits2; chains = chains })
      v e (ends_at moving.settled v here_v root_no) (same ∙ is) in
      let rises : load_in c2 e ≡ load_in c1 e + load_in c1 v = rw is at (load2_rises all e here_e) in omega arith

  placed : (u : ℕ) → has c.directories u ≡ true → IsPlaced c.directories u (f u)
  placed u here = assumption (there moving.settled u, falls moving.settled u)

  pub gives : first_over c2 ≡ None → CanGive (directories_of c) g (f g) v (f v) n × IsTable c2
  gives none = (
    record {
      getter_placed = placed g here_g;
      giver_placed = placed v here_v;
      other = other;
      some = some;
      enough = enough;
      fits = omega (arith, two_le_sum c.directories c.quotas g v other);
      appears = λ zeroed e is. covers_more first zeroed e
          (covered_there q c.directories (f g) e (there moving.settled g) is) is;
      vanishes = room2 none;
    },
    table2 none,
  )
