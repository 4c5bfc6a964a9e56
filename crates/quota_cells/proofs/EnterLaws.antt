-- What a new cell, and a cell less, leave.
use Rattle.quota_cells.proofs.Prelude.{common_steps, ◌≡◌, ◌≢◌, ℕ, ◌+◌, ◌<◌, ◌≤◌, Bool, true, false, eqb, not, ◌&&◌, if◌then◌else◌, List, [], ◌∷◌, length, refl, sym, ◌∙◌, arith, get_or, inl, inr, insert, remove, sum, cases_Bool, cases_eq, both_ways, eqb-true, eq-eqb, ne_eqb, or_parts, or_cases, and_parts, or_right, or_left, false_from_ne_true, length-map, length-insert, length-remove, sum_by-insert, sum_by-remove, above, Node, is_directory, is_segment, is_in, without, shape, shapes, HasChains, look, has, covers, weigh, load, CellMaps, quota_in, load_in, stored_in, Fits, IsTable, Enters, Leaves, has_cell, without_directory, without_segment, entered, left, IsGap, not_in_directory, not_in_segment, directory_shape, segment_shape, look_absent, on_directories, on_segments, and_false, place_there, ◌||◌, with_beside, without_beside, IsRising, nat_tests}
use Rattle.quota_cells.proofs.ColumnLaws.{weigh_same}
use Rattle.quota_cells.proofs.PlaceLaws.{look_at}
use Rattle.quota_cells.proofs.FitLaws.{all_there, covered_there}
use Rattle.quota_cells.proofs.RowLaws.{insert_beside, remove_beside, gap_of}
use Rattle.quota_cells.proofs.EditLaws.{has_insert, look_insert, weigh_insert, has_remove, look_remove, weigh_remove, rising_insert, rising_remove}

-- what no uid passes weighs nothing
pub no_weight : (t : ℕ → Bool) (ks ws : List ℕ) → ((k : ℕ) → has ks k ≡ true → t k ≡ false) → weigh t ks ws ≡ 0
no_weight t [] ws none = refl
no_weight t (k ∷ ks) [] none = refl
no_weight t (k ∷ ks) (w ∷ ws) none = rw (
  none k (or_left (eqb k k) (has ks k) (eq-eqb k k refl)),
  no_weight t ks ws (λ j h. none j (or_right (eqb k j) (has ks j) h)),
) refl

module _ (nodes : List Node) (n : Node) (old new : CellMaps) (fits : Fits nodes old)
    (chains : HasChains (shapes nodes)) (absent : is_in nodes n.uid ≡ false) (enters : Enters old new n.uid n.dir) where
  -- segments of the tree are as they were
  apart : (k : ℕ) → has old.segments k ≡ true → eqb n.uid k ≡ false
  apart k h = ne_eqb n.uid k (λ e. both_ways (is_segment nodes n.uid) (not_in_segment nodes n.uid absent)
      (rw e (sym (on_segments nodes fits k) ∙ h)))

  same_up : (k : ℕ) → has old.segments k ≡ true → above (shapes (n ∷ nodes)) k ≡ above (shapes nodes) k
  same_up k h = rw (apart k h) refl

  quotas : quota_in new ≡ quota_in old
  quotas = λ i d. enters.quotas d i

  loads_same : (e : ℕ) → load (above (shapes (n ∷ nodes))) (quota_in new) new.segments new.stored e
      ≡ load (above (shapes nodes)) (quota_in old) old.segments old.stored e
  loads_same e = grind (arith, nat_tests, common_steps, weigh_same, quotas, same_up)

  -- nothing lies below the new node
  none_below : load (above (shapes nodes)) (quota_in old) old.segments old.stored n.uid ≡ 0
  none_below = no_weight (λ k. covers (quota_in old) (above (shapes nodes) k) n.uid) old.segments old.stored
      (λ k h. false_from_ne_true _ (λ is.
      both_ways (has old.directories n.uid) (on_directories nodes fits n.uid ∙ not_in_directory nodes n.uid absent)
      (covered_there (quota_in old) old.directories (above (shapes nodes) k) n.uid
      (all_there nodes old fits (above (shapes nodes) k) (chains.directories k)) is)))

  absent_load : load_in old n.uid ≡ 0
  absent_load = look_absent old.directories old.loads n.uid
      (on_directories nodes fits n.uid ∙ not_in_directory nodes n.uid absent)

  pub fits_entered : Fits (n ∷ nodes) new
  fits_entered = record {
    count = omega arith;
    directories = λ u. enters.directories u ∙ elim (cases_Bool (eqb n.uid u)) [
      | inl is ↦
          (let off = on_directories nodes fits u ∙ not_in_directory nodes u (rw (eqb-true n.uid u is) at absent) in
          rw (is, off) (elim (cases_Bool n.dir) [ inl t ↦ rw t refl | inr f ↦ rw f refl ]))
      | inr isnt ↦ rw isnt (elim (cases_Bool n.dir)
          [ inl t ↦ rw t (fits.directories u) | inr f ↦ rw f (fits.directories u) ])
    ];
    segments = λ u. enters.segments u ∙ elim (cases_Bool (eqb n.uid u)) [
      | inl is ↦
          (let off = on_segments nodes fits u ∙ not_in_segment nodes u (rw (eqb-true n.uid u is) at absent) in
          rw (is, off) (elim (cases_Bool n.dir) [ inl t ↦ rw t refl | inr f ↦ rw f refl ]))
      | inr isnt ↦ rw isnt (elim (cases_Bool n.dir) [ inl t ↦ rw t (fits.segments u) | inr f ↦ rw f (fits.segments u) ])
    ];
    loads = λ e there. enters.loads e ∙ elim (cases_eq n.uid e) [
      | inl same ↦ rw (← same) (absent_load ∙ sym (loads_same n.uid ∙ none_below))
      | inr other ↦
          (let was : has old.directories e ≡ true = sym (enters.directories e ∙ rw (ne_eqb n.uid e other)
          (elim (cases_Bool n.dir) [ inl t ↦ rw t refl | inr f ↦ rw f refl ])) ∙ there in
          fits.loads e was ∙ sym (loads_same e))
    ];
  }

-- ---- a cell less

-- what tells of the node of a uid, by what it tells of nodes
module _ (is : List Node → ℕ → Bool) (kind : Node → Bool) (none : (u : ℕ) → is [] u ≡ false)
    (first : (n : Node) (ns : List Node) (u : ℕ) → is (n ∷ ns) u ≡ (if eqb n.uid u then kind n else is ns u)) where
  kind_without : (ns : List Node) (u v : ℕ) → is (without u ns) v ≡ (is ns v && not (eqb u v))
  kind_without [] u v = rw (none v) refl
  kind_without (n ∷ ns) u v = elim (cases_eq n.uid u) [
    | inl same ↦ rw (eq-eqb n.uid u same, first n ns v) (kind_without ns u v ∙ elim (cases_eq u v) [
      | inl at ↦ rw (eq-eqb u v at) (and_false (is ns v) ∙ sym (and_false _))
      | inr off ↦ rw (ne_eqb n.uid v (λ q. off (omega arith))) refl
    ])
    | inr other ↦ rw (ne_eqb n.uid u other, first n ns v, first n (without u ns) v) (elim (cases_eq n.uid v) [
      | inl at ↦ rw (eq-eqb n.uid v at, ne_eqb u v (λ q. other (omega arith)))
          (elim (cases_Bool (kind n)) [ inl t ↦ rw t refl | inr f ↦ rw f refl ])
      | inr off ↦ rw (ne_eqb n.uid v off) (kind_without ns u v)
    ])
  ]

directory_without : (ns : List Node) (u v : ℕ) → is_directory (without u ns) v ≡ (is_directory ns v && not (eqb u v))
directory_without = kind_without is_directory (λ n. n.dir) (λ u. refl)
    (λ n ns u. elim (cases_Bool (eqb n.uid u)) [ inl t ↦ rw t refl | inr f ↦ rw f refl ])

segment_without : (ns : List Node) (u v : ℕ) → is_segment (without u ns) v ≡ (is_segment ns v && not (eqb u v))
segment_without = kind_without is_segment (λ n. not n.dir) (λ u. refl)
    (λ n ns u. elim (cases_Bool (eqb n.uid u)) [ inl t ↦ rw t refl | inr f ↦ rw f refl ])

not_gone : (uid u : ℕ) (b : Bool) → (b && not (eqb uid u)) ≡ true → u ≢ uid
not_gone uid u b e same =
    both_ways (not (eqb uid u)) (rw (eq-eqb uid u (sym same)) refl) (and_parts b (not (eqb uid u)) e).1

module _ (nodes : List Node) (uid : ℕ) (old new : CellMaps) (fits : Fits nodes old) (leaves : Leaves old new uid)
    (same_above : (u : ℕ) → u ≢ uid → above (shapes (without uid nodes)) u ≡ above (shapes nodes) u)
    (one_less : length (without uid nodes) + 1 ≡ length nodes) where
  quotas_left : quota_in new ≡ quota_in old
  quotas_left = λ i d. leaves.quotas d i

  loads_left : (e : ℕ) → load (above (shapes (without uid nodes))) (quota_in new) new.segments new.stored e
      ≡ load (above (shapes nodes)) (quota_in old) old.segments old.stored e
  loads_left e = weigh_same (λ k. covers (quota_in new) (above (shapes (without uid nodes)) k) e)
      (λ k. covers (quota_in old) (above (shapes nodes) k) e) new.segments new.stored
      (λ k h. rw (quotas_left, same_above k (not_gone uid k (has old.segments k) (sym (leaves.segments k) ∙ h))) refl)
      ∙ leaves.counts (λ k. covers (quota_in old) (above (shapes nodes) k) e)

  pub fits_left : Fits (without uid nodes) new
  fits_left = record {
    count = (omega (arith, length-map nodes shape, length-map (without uid nodes) shape));
    directories = λ u. rw (leaves.directories u, on_directories nodes fits u, directory_shape (without uid nodes) u)
        (sym (directory_without nodes uid u));
    segments = λ u. rw (leaves.segments u, on_segments nodes fits u, segment_shape (without uid nodes) u)
        (sym (segment_without nodes uid u));
    loads = λ e there.
        (let kept : (has old.directories e && not (eqb uid e)) ≡ true = sym (leaves.directories e) ∙ there in
        leaves.loads e (not_gone uid e (has old.directories e) kept)
        ∙ fits.loads e (and_parts (has old.directories e) (not (eqb uid e)) kept).0 ∙ sym (loads_left e));
  }

-- ---- the columns

-- the values beside rising uids with one more
module _ (ks : List ℕ) (u : ℕ) (rising : IsRising ks) (absent : has ks u ≡ false) where
  gap : (i : ℕ) × IsGap ks u i
  gap = gap_of ks u rising absent

  more_is : (vs : List ℕ) (v : ℕ) → length vs ≡ length ks → with_beside ks vs u v ≡ insert vs gap.0 v
  more_is vs v len = sym (insert_beside ks vs u gap.0 v len gap.1)

  has_more : (w : ℕ) → has (with_beside ks ks u u) w ≡ (eqb u w || has ks w)
  has_more w = rw (more_is ks u refl) (has_insert ks gap.0 u w)

  look_more : (vs : List ℕ) → length vs ≡ length ks → (w : ℕ)
      → look (with_beside ks ks u u) (with_beside ks vs u 0) w ≡ look ks vs w
  look_more vs len w = rw (more_is ks u refl, more_is vs 0 len) (look_insert ks vs gap.0 u w len absent)

  weigh_more : (ws : List ℕ) → length ws ≡ length ks → (t : ℕ → Bool)
      → weigh t (with_beside ks ks u u) (with_beside ks ws u 0) ≡ weigh t ks ws
  weigh_more ws len t = rw (more_is ks u refl, more_is ws 0 len) (weigh_insert t ks ws gap.0 u len)

  rising_more : IsRising (with_beside ks ks u u)
  rising_more = rw (more_is ks u refl) (rising_insert ks u gap.0 rising gap.1)

  length_more : (vs : List ℕ) (v : ℕ) → length vs ≡ length ks → length (with_beside ks vs u v) ≡ length ks + 1
  length_more vs v len = rw (more_is vs v len)
      (let w : gap.0 ≤ length ks = gap.1.within in let n = length-insert vs gap.0 v (omega arith) in omega arith)

  sum_more : (vs : List ℕ) → length vs ≡ length ks → sum (with_beside ks vs u 0) ≡ sum vs
  sum_more vs len = rw (more_is vs 0 len) (let s = sum_by-insert (λ (x : ℕ). x) vs gap.0 0 in omega arith)

-- and with one less
module _ (ks : List ℕ) (u : ℕ) (rising : IsRising ks) (there : has ks u ≡ true) where
  place : (i : ℕ) × (i < length ks) × (get_or ks i 0 ≡ u)
  place = place_there ks u there

  less_is : (vs : List ℕ) → length vs ≡ length ks → without_beside ks vs u ≡ remove vs place.0
  less_is vs len = sym (rw place.2 at (remove_beside ks vs place.0 len rising place.1))

  value_at : (vs : List ℕ) → get_or vs place.0 0 ≡ look ks vs u
  value_at vs = sym (rw place.2 at (look_at ks vs place.0 rising place.1))

  has_less : (w : ℕ) → has (without_beside ks ks u) w ≡ (has ks w && not (eqb u w))
  has_less w = rw (less_is ks refl) (rw place.2 at (has_remove ks place.0 w rising place.1))

  look_less : (vs : List ℕ) → length vs ≡ length ks → (w : ℕ) → w ≢ u
      → look (without_beside ks ks u) (without_beside ks vs u) w ≡ look ks vs w
  look_less vs len w other = rw (less_is ks refl, less_is vs len)
      (look_remove ks vs place.0 w len rising place.1 (λ e. other (e ∙ place.2)))

  look_all : (vs : List ℕ) → length vs ≡ length ks → look ks vs u ≡ 0 → (w : ℕ)
      → look (without_beside ks ks u) (without_beside ks vs u) w ≡ look ks vs w
  look_all vs len none w = elim (cases_eq w u) [
    | inl same ↦ rw same (look_absent (without_beside ks ks u) (without_beside ks vs u) u
        (rw (has_less u, there, eq-eqb u u refl) refl) ∙ sym none)
    | inr other ↦ look_less vs len w other
  ]

  weigh_less : (ws : List ℕ) → length ws ≡ length ks → look ks ws u ≡ 0 → (t : ℕ → Bool)
      → weigh t (without_beside ks ks u) (without_beside ks ws u) ≡ weigh t ks ws
  weigh_less ws len none t = rw (less_is ks refl, less_is ws len)
      (weigh_remove t ks ws place.0 len place.1 (value_at ws ∙ none))

  rising_less : IsRising (without_beside ks ks u)
  rising_less = rw (less_is ks refl) (rising_remove ks place.0 rising place.1)

  length_less : (vs : List ℕ) → length vs ≡ length ks → length (without_beside ks vs u) + 1 ≡ length ks
  length_less vs len = rw (less_is vs len) (let lt = place.1 in length-remove vs place.0 (omega arith) ∙ len)

  sum_less : (vs : List ℕ) → length vs ≡ length ks → look ks vs u ≡ 0 → sum (without_beside ks vs u) ≡ sum vs
  sum_less vs len none = rw (less_is vs len)
      (omega (arith, value_at vs ∙ none, place.1, sum_by-remove (λ (x : ℕ). x) vs place.0 0 (omega (arith, place.1))))

module _ (c : CellMaps) (table : IsTable c) (uid : ℕ) (absent : has_cell c uid ≡ false) where
  no_directory : has c.directories uid ≡ false
  no_directory = (or_parts (has c.directories uid) (has c.segments uid) absent).0

  no_segment : has c.segments uid ≡ false
  no_segment = (or_parts (has c.directories uid) (has c.segments uid) absent).1

  pub enters_entered : (dir : Bool) → Enters c (entered c uid dir) uid dir
  enters_entered true =
      grind (arith, nat_tests, common_steps, has_more, no_directory, quotas, look_more, length_more, sum_more)
  enters_entered false =
      grind (arith, nat_tests, common_steps, has_more, no_segment, quotas, look_more, weigh_more, length_more)

  pub table_entered : (dir : Bool) → IsTable (entered c uid dir)
  table_entered true =
      let enters = enters_entered true in
      let size = length_more c.directories uid table.rising no_directory in record {
        rising = rising_more c.directories uid table.rising no_directory;
        segments_rise = table.segments_rise;
        quota_count = size c.quotas 0 table.quota_count ∙ sym (size c.directories uid refl);
        load_count = size c.loads 0 table.load_count ∙ sym (size c.directories uid refl);
        stored_count = table.stored_count;
        apart = λ u h. elim (cases_Bool (eqb uid u)) [
          | inl is ↦ rw (eqb-true uid u is) at no_segment
          | inr isnt ↦ table.apart u (sym (enters.directories u ∙ rw isnt refl) ∙ h)
        ];
        within = λ a h is. rw (enters.loads a, enters.quotas a) (elim (cases_Bool (eqb uid a)) [
          | inl at ↦ omega (arith, look_absent c.directories c.loads a (rw (eqb-true uid a at) at no_directory))
          | inr off ↦ table.within a (sym (enters.directories a ∙ rw off refl) ∙ h) (rw (enters.quotas a) at is)
        ]);
        total = rw enters.total table.total;
      }
  table_entered false =
      grind (
        arith,
        nat_tests,
        common_steps,
        length_more c.segments uid table.segments_rise no_segment,
        rising_more c.segments uid table.segments_rise no_segment,
        apart,
        enters_entered false,
        both_ways,
        no_directory,
      )

-- a uid that isn't there is left out of no list
left_out : (ks : List ℕ) (uid u : ℕ) → has ks uid ≡ false → has ks u ≡ (has ks u && not (eqb uid u))
left_out ks uid u off = grind (arith, nat_tests, common_steps)

module _ (c : CellMaps) (table : IsTable c) (uid : ℕ) (no_quota : quota_in c uid ≡ 0) (no_pages : stored_in c uid ≡ 0)
  where
    leaves_directory : has c.directories uid ≡ true → Leaves c (without_directory c uid) uid
    leaves_directory dir =
        grind (arith, nat_tests, common_steps, has_less, left_out, quotas, look_all, look_less, length_less, sum_less)

    leaves_segment : has c.directories uid ≡ false → has c.segments uid ≡ true → Leaves c (without_segment c uid) uid
    leaves_segment off seg =
        grind (arith, nat_tests, common_steps, left_out, has_less, quotas, look_all, weigh_less, length_less)

    table_directory : has c.directories uid ≡ true → IsTable (without_directory c uid)
    table_directory dir =
        let leaves = leaves_directory dir in
        let size = length_less c.directories uid table.rising dir in
        let all = size c.directories refl in record {
          rising = rising_less c.directories uid table.rising dir;
          segments_rise = table.segments_rise;
          quota_count = (omega (arith, size c.quotas table.quota_count));
          load_count = (omega (arith, size c.loads table.load_count));
          stored_count = table.stored_count;
          apart = λ u h. table.apart u (and_parts (has c.directories u) (not (eqb uid u))
              (sym (leaves.directories u) ∙ h)).0;
          within = λ a h is. (let kept = sym (leaves.directories a) ∙ h in
              rw (leaves.loads a (not_gone uid a (has c.directories a) kept), leaves.quotas a)
              (table.within a (and_parts (has c.directories a) (not (eqb uid a)) kept).0 (rw (leaves.quotas a) at is)));
          total = rw leaves.total table.total;
        }

    table_segment : has c.segments uid ≡ true → IsTable (without_segment c uid)
    table_segment seg =
        grind (
          arith,
          nat_tests,
          common_steps,
          length_less c.segments uid table.segments_rise seg,
          rising_less c.segments uid table.segments_rise seg,
          apart,
          has_less,
        )

module _ (c : CellMaps) (table : IsTable c) (uid : ℕ) (there : has_cell c uid ≡ true) (no_quota : quota_in c uid ≡ 0)
    (no_pages : stored_in c uid ≡ 0) where
  of_segment : has c.directories uid ≡ false → has c.segments uid ≡ true
  of_segment off = elim (or_cases (has c.directories uid) (has c.segments uid) there)
      [ inl dir ↦ absurd (both_ways _ off dir) | inr seg ↦ seg ]

  pub leaves_left : Leaves c (left c uid) uid
  leaves_left = elim (cases_Bool (has c.directories uid)) [
    | inl dir ↦ rw dir (leaves_directory c table uid no_quota no_pages dir)
    | inr off ↦ rw off (leaves_segment c table uid no_quota no_pages off (of_segment off))
  ]

  pub table_left : IsTable (left c uid)
  table_left = elim (cases_Bool (has c.directories uid)) [
    | inl dir ↦ rw dir (table_directory c table uid no_quota no_pages dir)
    | inr off ↦ rw off (table_segment c table uid no_quota no_pages (of_segment off))
  ]
