-- The counts that the cells keep are the counts from scratch over the stored pages.
use Rattle.quota_cells.proofs.Prelude.{common_steps, ◌≡◌, ◌≢◌, ℕ, suc, ◌+◌, ◌-◌, ◌<◌, ◌≤◌, Bool, true, false, cond, eqb, ◌&&◌, if◌then◌else◌, List, [], ◌∷◌, length, map, Option, Some, None, Result, Ok, Err, refl, sym, ap, ◌∙◌, arith, get_or, inl, inr, count_by, OnOk, OnErr, find, sum, cases_Bool, cases_eq, cases_lt, both_ways, eqb-true, eq-eqb, ne_eqb, or_cases, and_parts, or_right, or_left, and_from, le-leb, lt-leb, lt-ltb, le-ltb, true_from_ne_false, false_from_ne_true, sum_by-cons, Term, above, account, account_of, quota_at, used_by, superior_of, getter_of, giver_of, with_quota_of, with_moved, tree_moved, is_over_at, lesser, least_where, over_in, Node, as_term, with_quotas, is_directory, is_segment, shapes, shape, HasChains, Full, MoveFault, look, has, with_value, weigh, charged_to, is_an_account, CellMaps, quota_in, load_in, stored_in, used_in, Fits, IsRising, charge_fault, moved, is_over, first_over, over_answer, move_answer, HoldCounts, charge_answer, scratch_answer, above_any, directory_shape, not_in_directory, segment_in, segment_not, uid_shape, look_absent, on_directories, on_segments, least_none, directory_mapped, quota_mapped, nat_tests}
use Rattle.quota_cells.proofs.ColumnLaws.{look_with, length_with, weigh_with}
use Rattle.quota_cells.proofs.PlaceLaws.{look_at}
use Rattle.quota_cells.proofs.AccountLaws.{account_of_chain}
use Rattle.quota_cells.proofs.FitLaws.{Settled, account_there, all_there, counts_used}
use Rattle.quota_cells.proofs.EnterLaws.{no_weight}
use Rattle.quota_cells.proofs.OverLaws.{Moving, passes, later, fits2, conserved, q2_g, q2_v, q2_other}
use Rattle.quota_cells.proofs.TransferLaws.{Between, IsBelow, answer_ok, moving, rising, top}

-- ---- counts of pages beside uids are counts over the pages

zeros : (t : ℕ → Bool) (ks ws : List ℕ) → ((i : ℕ) → i < length ks → get_or ws i 0 ≡ 0) → weigh t ks ws ≡ 0
zeros t [] ws none = refl
zeros t (k ∷ ks) [] none = refl
zeros t (k ∷ ks) (w ∷ ws) none =
    let here : w ≡ 0 = none 0 (omega arith) in
    let rest : weigh t ks ws ≡ 0 = zeros t ks ws (λ i lt. none (suc i) (omega arith)) in
    elim (cases_Bool (t k)) [ inl y ↦ rw y (omega arith) | inr n ↦ rw n (omega arith) ]

count_more : (t : ℕ → Bool) (x : ℕ × ℕ) (xs : List (ℕ × ℕ)) → count_by (λ y. t y.0) (x ∷ xs)
    ≡ cond (t x.0) 1 0 + count_by (λ y. t y.0) xs
count_more t x xs = sum_by-cons (λ y. cond (t y.0) 1 0) x xs

abbrev pages_of : List (ℕ × ℕ) → ℕ → ℕ
pages_of xs s = count_by (λ x. eqb x.0 s) xs

pages_own : (x : ℕ × ℕ) (xs : List (ℕ × ℕ)) → pages_of (x ∷ xs) x.0 ≡ 1 + pages_of xs x.0
pages_own x xs = count_more (λ v. eqb v x.0) x xs ∙ rw (eq-eqb x.0 x.0 refl) refl

pages_other : (x : ℕ × ℕ) (xs : List (ℕ × ℕ)) (s : ℕ) → x.0 ≢ s → pages_of (x ∷ xs) s ≡ pages_of xs s
pages_other x xs s other = count_more (λ v. eqb v s) x xs ∙ rw (ne_eqb x.0 s other) (omega arith)

weigh_pages : (t : ℕ → Bool) (ks ws : List ℕ) (xs : List (ℕ × ℕ)) → IsRising ks → length ws ≡ length ks
    → ((s : ℕ) → look ks ws s ≡ pages_of xs s) → weigh t ks ws ≡ count_by (λ x. t x.0) xs
weigh_pages t ks ws [] up len holds = zeros t ks ws (λ i lt. sym (look_at ks ws i up lt) ∙ holds (get_or ks i 0))
weigh_pages t ks ws (x ∷ xs) up len holds =
    let here : look ks ws x.0 ≡ 1 + pages_of xs x.0 = holds x.0 ∙ pages_own x xs in
    let there : has ks x.0 ≡ true = true_from_ne_false (has ks x.0)
    (λ isnt. (omega (arith, look_absent ks ws x.0 isnt))) in
    let less : ℕ = look ks ws x.0 - 1 in
    let rest : (s : ℕ) → look ks (with_value ks ws x.0 less) s ≡ pages_of xs s =
    λ s. look_with ks ws x.0 less s len there ∙ elim (cases_eq x.0 s) [
      | inl same ↦ rw (eq-eqb x.0 s same, ← same) (omega arith)
      | inr other ↦ rw (ne_eqb x.0 s other) (holds s ∙ pages_other x xs s other)
    ] in
    let ih : weigh t ks (with_value ks ws x.0 less) ≡ count_by (λ y. t y.0) xs =
    weigh_pages t ks (with_value ks ws x.0 less) xs up (length_with ks ws x.0 less ∙ len) rest in
    let w = weigh_with t ks ws x.0 less len there in
    elim (cases_Bool (t x.0)) [
      | inl y ↦
          (let w' = rw y at w in
          let total : weigh t ks ws ≡ 1 + count_by (λ z. t z.0) xs = omega arith in
          total ∙ sym (count_more t x xs ∙ rw y refl))
      | inr n ↦
          (let w' = rw n at w in
          let total : weigh t ks ws ≡ 0 + count_by (λ z. t z.0) xs = omega arith in
          total ∙ sym (count_more t x xs ∙ rw n refl))
    ]

-- ---- quotas and accounts of the nodes with their quotas

used_is : (nodes : List Term) (xs : List (ℕ × ℕ)) (a : ℕ) → used_by nodes xs a
    ≡ count_by (λ x. eqb (account_of nodes x.0) a) xs
unfolding used_by
used_is nodes xs a = refl

module _ (nodes : List Node) (c : CellMaps) (fits : Fits nodes c) (chains : HasChains (shapes nodes)) where
  abbrev f : ℕ → List ℕ
  f = above (shapes nodes)

  abbrev q : ℕ → ℕ
  q = quota_in c

  abbrev tree : List Term
  tree = with_quotas (quota_in c) nodes

  pub quota_same : (u : ℕ) → quota_at tree u ≡ q u
  quota_same u = quota_mapped (as_term q) q (λ n. refl) nodes u (λ e. look_absent c.directories c.quotas u
      (on_directories nodes fits u ∙ not_in_directory nodes u e))

  pub account_same : (s : ℕ) → account_of tree s ≡ account q (f s)
  account_same s = ap (λ (g : ℕ → ℕ). account g (above tree s)) (λ i. λ u. quota_same u i)
      ∙ ap (account q) (above_any q nodes s)

  account_here : (k : ℕ) → has c.segments k ≡ true → has c.directories (account q (f k)) ≡ true
  account_here k is = (let seg : is_segment nodes k ≡ true = sym (on_segments nodes fits k) ∙ is in
      account_there q c.directories (f k) (all_there nodes c fits (f k) (chains.directories k))
      (chains.segments k (uid_shape nodes k ∙ segment_in nodes k seg)
      (directory_shape nodes k ∙ segment_not nodes k seg)))

  used_weighed : (a : ℕ) → used_in c a ≡ charged_to f q c.segments c.stored a
  used_weighed a = elim (cases_Bool (has c.directories a)) [
    | inl there ↦ elim (cases_Bool (is_an_account q a)) [
      | inl y ↦ counts_used nodes c fits chains a there ∙ rw y refl
      | inr n ↦
          (let none = no_weight (λ s. eqb (account q (f s)) a) c.segments
          c.stored (λ k is. ne_eqb _ _ (λ e. both_ways (is_an_account q a) n (rw (← e) (account_of_chain q (f k))))) in
          rw n (sym none))
    ]
    | inr absent ↦
        (let none = no_weight (λ s. eqb (account q (f s)) a) c.segments
        c.stored (λ k is. ne_eqb _ _ (λ e. both_ways (has c.directories a) absent (rw (← e) (account_here k is)))) in
        let zero = look_absent c.directories c.loads a absent in
        let used : used_in c a ≡ 0 = elim (cases_Bool (is_an_account q a)) [ inl y ↦ rw y zero | inr n ↦ rw n refl ] in
        cc)
  ]

  module _ (up : IsRising c.segments) (even : length c.stored ≡ length c.segments) (xs : List (ℕ × ℕ))
      (holds : HoldCounts c xs) where
    -- a used count is that from scratch
    pub used_same : (a : ℕ) → used_in c a ≡ used_by tree xs a
    used_same a = used_weighed a ∙ weigh_pages (λ s. eqb (account q (f s)) a) c.segments c.stored xs up even holds
        ∙ ap (λ (g : ℕ → ℕ). count_by (λ x. eqb (g x.0) a) xs) (λ i. λ s. sym (account_same s) i)
        ∙ sym (used_is tree xs a)

    abbrev answer : ℕ → ℕ → ℕ → Result (Unit {0}) Full
    answer used quota a = if eqb used quota then Err (record { account = a }) else Ok tt

    -- so is what a charge is answered
    pub charge_same : (s : ℕ) → charge_fault c (f s) ≡ charge_answer tree xs s
    charge_same s =
        let a : ℕ = account q (f s) in
        let own : used_in c a ≡ load_in c a = rw (account_of_chain q (f s)) refl in
        rw (sym own ∙ used_same a, ← quota_same a, ← account_same s) refl

    -- and who is above its quota
    over_same : (u : ℕ) → is_over_at tree xs u ≡ (has c.directories u && is_over c u)
    over_same u =
        let dir = directory_mapped (as_term q) shape (λ n. refl) (λ n. refl) nodes u ∙ sym (fits.directories u) in
        rw (dir, quota_same u, sym (used_same u)) (elim (cases_Bool (is_an_account q u))
        [ inl y ↦ rw y refl | inr n ↦ rw n refl ])

-- ---- the least that passes

lesser_same : (a : ℕ) (o : Option ℕ) → ((v : ℕ) → o ≡ Some v → a ≤ v) → lesser a o ≡ a
lesser_same a None le = refl
lesser_same a (Some v) le = rw (le-leb a v (le v refl)) refl

lesser_passes : (t : ℕ → Bool) (u v : ℕ) (o : Option ℕ) → t u ≡ true → ((w : ℕ) → o ≡ Some w → t w ≡ true)
    → Some (lesser u o) ≡ Some v → t v ≡ true
lesser_passes t u v None here rest e = cc
lesser_passes t u v (Some w) here rest e = grind (arith, nat_tests, common_steps)

least_passes : (t : ℕ → Bool) (us : List ℕ) (v : ℕ) → least_where t us ≡ Some v → t v ≡ true
least_passes t [] v e = cc
least_passes t (u ∷ us) v e = elim (cases_Bool (t u)) [
  | inr n ↦ least_passes t us v (rw n at e)
  | inl y ↦ lesser_passes t u v (least_where t us) y (λ w is. least_passes t us w is) (rw y at e)
]

least_some : (t : ℕ → Bool) (us : List ℕ) (a : ℕ) → t a ≡ true → has us a ≡ true → ((b : ℕ) → t b ≡ true → a ≤ b)
    → least_where t us ≡ Some a
least_some t [] a is h least = cc
least_some t (u ∷ us) a is h least = elim (cases_eq u a) [
  | inl same ↦
      (let here : t u ≡ true = rw same is in
      rw here (cc (lesser_same u (least_where t us) (λ v e. (let le : a ≤ v = least v (least_passes t us v e) in omega
      arith)))))
  | inr other ↦
      (let ih : least_where t us ≡ Some a = least_some t us a is (rw (ne_eqb u a other) at h) least in
      elim (cases_Bool (t u)) [
        | inr n ↦ rw n ih
        | inl y ↦ rw (y, ih) (let le : a ≤ u = least u y in rw (lt-leb u a (omega arith)) refl)
      ])
]

first_found : (p : ℕ → Bool) (ks : List ℕ) (a : ℕ) → IsRising ks → find p ks ≡ Some a
    → (has ks a ≡ true) × (p a ≡ true) × ((b : ℕ) → has ks b ≡ true → p b ≡ true → a ≤ b)
first_found p [] a up e = cc
first_found p (k ∷ ks) a up e = elim (cases_Bool (p k)) [
  | inl here ↦
      (let z : Some k ≡ Some a = rw here at e in
      let same : k ≡ a = cc in (
        or_left (eqb k a) (has ks a) (eq-eqb k a same),
        rw (← same) here,
        λ b h is. elim (or_cases (eqb k b) (has ks b) h) [
          | inl first ↦ (omega (arith, eqb-true k b first))
          | inr rest ↦ (omega (arith, later k ks up b rest))
        ],
      ))
  | inr off ↦
      (let ih = first_found p ks a (λ i j lt w. up (suc i) (suc j) (omega arith) (omega arith)) (rw off at e) in (
        or_right (eqb k a) (has ks a) ih.0,
        ih.1,
        λ b h is. elim (or_cases (eqb k b) (has ks b) h) [
          | inl first ↦ (let eq : k ≡ b = eqb-true k b first in absurd (both_ways (p k) off (rw eq is)))
          | inr rest ↦ ih.2 b rest is
        ],
      ))
]

least_first : (t p : ℕ → Bool) (ks us : List ℕ) → IsRising ks → ((u : ℕ) → t u ≡ (has ks u && p u))
    → ((u : ℕ) → has ks u ≡ true → has us u ≡ true) → (o : Option ℕ) → find p ks ≡ o → least_where t us ≡ o
least_first t p ks us up is more None e = least_none t us (λ u. is u ∙ false_from_ne_true _ (λ y.
    (let both = and_parts (has ks u) (p u) y in passes p ks u both.0 both.1 e)))
least_first t p ks us up is more (Some a) e =
    let found = first_found p ks a up e in
    least_some t us a (is a ∙ and_from (has ks a) (p a) found.0 found.1) (more a found.0)
    (λ b y. (let both = and_parts (has ks b) (p b) (sym (is b) ∙ y) in found.2 b both.0 both.1))

-- ---- quota that moves

uids_there : (r : ℕ → ℕ) (ns : List Node) (u : ℕ) → is_directory ns u ≡ true
    → has (map (λ n. n.uid) (with_quotas r ns)) u ≡ true
uids_there r [] u e = cc
uids_there r (n ∷ ns) u e = elim (cases_Bool (eqb n.uid u)) [
  | inl is ↦ rw is refl
  | inr isnt ↦ rw isnt (uids_there r ns u (rw isnt at e))
]

moved_node : (r q : ℕ → ℕ) (g v n : ℕ) → g ≢ v → r g ≡ q g + n → r v ≡ q v - n → ((b : ℕ) → b ≢ g → b ≢ v → r b ≡ q b)
    → (m : Node) → as_term r m ≡ with_quota_of v (λ x. x - n) (with_quota_of g (λ x. x + n) (as_term q m))
moved_node r q g v n other to from rest m = grind (arith, nat_tests, common_steps)

moved_nodes : (r q : ℕ → ℕ) (g v n : ℕ) → g ≢ v → r g ≡ q g + n → r v ≡ q v - n → ((b : ℕ) → b ≢ g → b ≢ v → r b ≡ q b)
    → (ns : List Node) → with_quotas r ns ≡ with_moved (with_quotas q ns) v g n
moved_nodes r q g v n other to from rest [] = refl
moved_nodes r q g v n other to from rest (m ∷ ms) =
    rw (moved_node r q g v n other to from rest m, moved_nodes r q g v n other to from rest ms) refl

-- After a move the cells fit the tree whatever is answered, and the sum of quotas is as it was. Where it is done, the
-- nodes with their quotas are those of the tree once quota has moved.
pub record AfterMove (nodes : List Node) (c new : CellMaps) (d n : ℕ) (down : Bool) (r : Result (Unit {0}) MoveFault) :
    Type 0 where
  pub fits : Fits nodes new
  pub total : sum new.quotas ≡ sum c.quotas
  pub shown : OnOk r (with_quotas (quota_in new) nodes ≡ tree_moved (with_quotas (quota_in c) nodes) d down n)

module _ {nodes : List Node} {c : CellMaps} (settled : Settled nodes c) {d n : ℕ}
    (dir : is_directory nodes d ≡ true) (ne : d ≢ 1) (some : 0 < n) where
  open settled use {table, fits, chains}

  abbrev up : ℕ → List ℕ
  up = above (shapes nodes)

  abbrev nodes_now : List Term
  nodes_now = with_quotas (quota_in c) nodes

  above_d : IsBelow nodes d (superior_of up d)
  above_d = top nodes chains d dir ne

  between : Between nodes c d (superior_of up d) n
  between = record {
    settled = settled;
    up = above_d.chain;
    here_d = on_directories nodes fits d ∙ dir;
    here_s = on_directories nodes fits (superior_of up d) ∙ above_d.directory;
    below = above_d.below;
    some = some;
  }

  up_same : above nodes_now ≡ up
  up_same = λ i. λ u. above_any (quota_in c) nodes u i

  -- who gets the pages, and who gives them
  moves : (down : Bool) → n ≤ quota_in c (giver_of up d down)
      → Moving nodes c (getter_of up d down) (giver_of up d down) n
  moves true enough = moving between enough
  moves false enough = rising between enough

  -- the cells once quota has moved are those of the tree once it has
  pub moved_tree : (down : Bool) → n ≤ quota_in c (giver_of up d down)
      → with_quotas (quota_in (moved c up d down n)) nodes ≡ tree_moved nodes_now d down n
  moved_tree down enough =
      let m = moves down enough in
      moved_nodes _ (quota_in c) (getter_of up d down) (giver_of up d down) n m.other (q2_g m) (q2_v m)
      (q2_other m) nodes
      ∙ ap (λ (h : ℕ → List ℕ). with_moved nodes_now (giver_of h d down) (getter_of h d down) n) (sym up_same)

  pub after_move : (down : Bool) {new : CellMaps} (r : Result (Unit {0}) MoveFault) → r ≡ move_answer c up d down n
      → OnOk r (new ≡ moved c up d down n) → OnErr r (new ≡ c) → AfterMove nodes c new d n down r
  after_move down (Err e) is ok err = rw err assumption
  after_move down (Ok tt) is ok err =
      let enough = (answer_ok c up d down n (sym is)).0 in
      rw ok assumption (fits2 (moves down enough), conserved (moves down enough), moved_tree down enough)

  module _ (xs : List (ℕ × ℕ)) (holds : HoldCounts c xs) where
    over_moved : (down : Bool) → n ≤ quota_in c (giver_of up d down) → over_in (tree_moved nodes_now d down n) xs
        ≡ first_over (moved c up d down n)
    unfolding over_in
    over_moved down enough = cc (
      moved_tree down enough,
      least_first (is_over_at (with_quotas (quota_in (moved c up d down n)) nodes) xs)
          (is_over (moved c up d down n)) c.directories (map (λ n. n.uid) (with_quotas
          (quota_in (moved c up d down n))
          nodes)) table.rising (over_same nodes (moved c up d down n) (fits2 (moves down enough)) chains
          table.segments_rise table.stored_count xs holds) (λ u is. uids_there (quota_in (moved c up d down n))
          nodes u (sym (on_directories nodes fits u) ∙ is)) (first_over (moved c up d down n)) refl,
    )

    -- so the answer is that by counts from scratch
    pub answer_same : (down : Bool) → move_answer c up d down n ≡ scratch_answer nodes_now xs d down n
    answer_same down =
        let giver : quota_at nodes_now (giver_of (above nodes_now) d down) ≡ quota_in c (giver_of up d down) =
        ap (λ (h : ℕ → List ℕ). quota_at nodes_now (giver_of h d down)) up_same
        ∙ quota_same nodes c fits chains (giver_of up d down) in
        rw giver (elim (cases_lt (quota_in c (giver_of up d down)) n) [
          | inl lt ↦ rw (lt-ltb (quota_in c (giver_of up d down)) n lt) refl
          | inr le ↦ rw (le-ltb (quota_in c (giver_of up d down)) n le) (ap over_answer (sym (over_moved down le)))
        ])

-- a move keeps what is stored
pub stored_kept : (c new : CellMaps) (up : ℕ → List ℕ) (d : ℕ) (down : Bool) (n : ℕ) (r : Result (Unit {0}) MoveFault)
    → OnOk r (new ≡ moved c up d down n) → OnErr r (new ≡ c) → (s : ℕ) → stored_in new s ≡ stored_in c s
stored_kept c new up d down n (Ok tt) ok err s = cc
stored_kept c new up d down n (Err e) ok err s = cc
