-- How many nodes lie in each directory.
use Rattle.dir_tree.proofs.Prelude.{common_steps, ◌≡◌, ◌≢◌, ℕ, suc, ◌+◌, ◌-◌, ◌<◌, ◌≤◌, Bool, true, false, eqb, if◌then◌else◌, List, [], ◌∷◌, ◌++◌, length, Some, refl, sym, ap, ◌∙◌, arith, get_or, set, inl, inr, count_by, ◌^◌, ◌↔◌, remove, cases_Bool, cases_eq, eq-eqb, ne_eqb, false_from_ne_true, ext_get_or, get_or-map, get_or-set_same, get_or-set_other, get_or_append_left, length-map, length-set, length_push, sum_by-cons, sum_by_push, sum_by-remove, count_by-le-length, same_Some, Node, Entry, Places, node_at, is_directory, shapes, no_entry, entry_at, newest, lies_in, recount, recounted, HasEntry, IsAscending, IsCounted, IsKept, IsNamed, directory_in, directory_shape, superior_up, superior_is, is_superior_of, nat_tests}
use Rattle.dir_tree.proofs.EditLemmas.{each_pushed, each_left, was, was_up, was_within, now, was_now, now_within, at_was}
use Rattle.dir_tree.proofs.KeptLemmas.{entry_present, superior_read}

-- ---- entries below a uid

pub lies_since : (u : ℕ) (e : Entry) → e.superior ≡ Some u → lies_in u e ≡ true
lies_since u e is = superior_is u e.superior is

lies_of : (u : ℕ) (e : Entry) → lies_in u e ≡ true → e.superior ≡ Some u
lies_of u e is = is_superior_of u e.superior is

lies_eq : (u s : ℕ) (e : Entry) → e.superior ≡ Some s → lies_in u e ≡ eqb s u
lies_eq u s e is = grind (arith, nat_tests, common_steps, same_Some)

abbrev one_if : Bool → ℕ
one_if b = if b then 1 else 0

count_cons : (u : ℕ) (e : Entry) (es : List Entry) → count_by (lies_in u) (e ∷ es)
    ≡ one_if (lies_in u e) + count_by (lies_in u) es
count_cons u e es = sum_by-cons (λ e. one_if (lies_in u e)) e es

count_push : (u : ℕ) (es : List Entry) (e : Entry) → count_by (lies_in u) (es ++ e ∷ [])
    ≡ count_by (lies_in u) es + one_if (lies_in u e)
count_push u es e = sum_by_push (λ e. one_if (lies_in u e)) es e

count_remove : (u : ℕ) (es : List Entry) (i : ℕ) → i < length es
    → count_by (lies_in u) (remove es i) + one_if (lies_in u (entry_at es i)) ≡ count_by (lies_in u) es
count_remove u es i lt = sum_by-remove (λ e. one_if (lies_in u e)) es i no_entry lt

-- some are counted where there is one
counted_one : (u : ℕ) (es : List Entry) (i : ℕ) → i < length es → lies_in u (entry_at es i) ≡ true
    → 0 < count_by (lies_in u) es
counted_one u es i lt is = let m = rw is at (count_remove u es i lt) in omega arith

one_counted : (u : ℕ) (es : List Entry) → 0 < count_by (lies_in u) es → (i : ℕ) × (i < length es)
    × (lies_in u (entry_at es i) ≡ true)
one_counted u [] lt = absurd (omega arith)
one_counted u (e ∷ es) lt = elim (cases_Bool (lies_in u e)) [
  | inl is ↦ (0, omega arith, is)
  | inr isnt ↦
      (let m = count_cons u e es ∙ ap (λ b. one_if b + count_by (lies_in u) es) isnt in
      let later = one_counted u es (omega arith) in (suc later.0, omega arith, later.2))
]

none_counted : (u : ℕ) (es : List Entry) → ((i : ℕ) → i < length es → lies_in u (entry_at es i) ≡ false)
    → count_by (lies_in u) es ≡ 0
none_counted u [] none = refl
none_counted u (e ∷ es) none =
    let here : lies_in u e ≡ false = none 0 (omega arith) in
    let m = count_cons u e es ∙ ap (λ b. one_if b + count_by (lies_in u) es) here in
    let ih = none_counted u es (λ i lt. none (suc i) (omega arith)) in omega arith

-- ---- entries with the number of one changed

module _ (v : ℕ) (g : ℕ → ℕ) where
  pub length_recounted : (es : List Entry) → length (recounted v g es) ≡ length es
  length_recounted es = length-map es (recount v g)

  entry_recounted : (es : List Entry) (i : ℕ) → i < length es → entry_at (recounted v g es) i
      ≡ recount v g (entry_at es i)
  entry_recounted es i lt = get_or-map (recount v g) es i no_entry no_entry lt

  pub each_recounted : (es : List Entry) (P : Entry → Type 0)
      → ((i : ℕ) → i < length es → P (recount v g (entry_at es i))) → (i : ℕ)
      → i < length (recounted v g es) → P (entry_at (recounted v g es) i)
  each_recounted es P all i lt =
      let n = length_recounted es in rw (entry_recounted es i (omega arith)) (all i (omega arith))

  count_recounted : (u : ℕ) (es : List Entry) → count_by (lies_in u) (recounted v g es) ≡ count_by (lies_in u) es
  count_recounted u [] = refl
  count_recounted u (e ∷ es) =
      rw (count_cons u (recount v g e) (recounted v g es), count_recounted u es) (sym (count_cons u e es))

  pub newest_recounted : (ns : List Node) (es : List Entry) → newest ns (recounted v g es) ≡ newest ns es
  newest_recounted ns [] = refl
  newest_recounted ns (e ∷ es) = rw (newest_recounted ns es) refl

  pub kept_recounted : {nodes : List Node} {es : List Entry} {free : List ℕ} {index : Places} {next : ℕ}
      → IsKept nodes es free index next → IsKept nodes (recounted v g es) free index next
  kept_recounted {nodes} {es} {free} {index} {next} k = record {
    uids = each_recounted es (λ e. (node_at nodes e.place).uid ≡ e.uid) k.uids;
    superiors = each_recounted es (λ e. (node_at nodes e.place).superior ≡ e.superior) k.superiors;
    within = each_recounted es (λ e. e.place < length nodes) k.within;
    rising = λ i j lt in_j. (let n = length_recounted es in
        rw (entry_recounted es i (omega arith), entry_recounted es j (omega arith)) (k.rising i j lt (omega arith)));
    below = each_recounted es (λ e. e.uid < next) k.below;
    free_within = k.free_within;
    free_apart = k.free_apart;
    unused = λ i j lt in_j. each_recounted es (λ e. get_or free i 0 ≢ e.place) (λ j in_j. k.unused i j lt in_j) j in_j;
    count = (omega (arith, length_recounted es));
    few = k.few;
    named = each_recounted es (λ e. IsNamed index.places e.superior e.place) k.named;
    places = λ p pair. (let q = k.places p pair in
        record {
          i = q.i;
          within = (omega (arith, length_recounted es));
          place_is = rw (entry_recounted es q.i q.within) q.place_is;
        });
    order = k.order;
    branches = (omega (arith, length_recounted es));
    room = k.room;
    tree = rw (newest_recounted nodes es) k.tree;
  }

  -- the one entry of a uid written
  set_recounted : (es : List Entry) → IsAscending es → (i : ℕ) → i < length es → (entry_at es i).uid ≡ v
      → (e : Entry) → e ≡ recount v g (entry_at es i) → set es i e ≡ recounted v g es
  set_recounted es rising i within is e e_is = ext_get_or no_entry _ _ (length-set es i e ∙ sym (length_recounted es))
      (λ j lt. at j (omega (arith, length-set es i e)))
    where
      other : (j : ℕ) → j < length es → j ≢ i → (entry_at es j).uid ≢ v
      other j lt ne same = grind (arith, rising i j, rising j i)

      at : (j : ℕ) → j < length es → entry_at (set es i e) j ≡ entry_at (recounted v g es) j
      at j lt = grind (arith, nat_tests, common_steps, get_or-set_same, entry_recounted, other, get_or-set_other)

-- where its count of inferiors alone is another
pub count_set : (uid : ℕ) (g : ℕ → ℕ) (es : List Entry) → IsAscending es → (i : ℕ) → i < length es
    → (entry_at es i).uid ≡ uid → (e : Entry) → e ≡ entry_at es i
    → set es i (record (entry_at es i) { inferiors = g e.inferiors }) ≡ recounted uid g es
count_set uid g es rising i within is e read = set_recounted uid g es rising i within is _
    (rw (eq-eqb (entry_at es i).uid uid is, read) refl)

-- ---- one inferior more, one less

pub few_counted : (es : List Entry) → IsCounted es → length es ≤ 4097 → (i : ℕ) → i < length es
    → (entry_at es i).inferiors ≤ 4097
few_counted es counted few i lt = omega (arith, counted i lt, count_by-le-length (lies_in (entry_at es i).uid) es)

module _ (es : List Entry) (counted : IsCounted es) (e : Entry) (s : ℕ) (up : e.superior ≡ Some s) where
  -- what lies in a node once there is one more entry
  count_pushed : (u : ℕ) → count_by (lies_in u) (es ++ e ∷ []) ≡ count_by (lies_in u) es + one_if (eqb s u)
  count_pushed u = rw (← lies_eq u s e up) (count_push u es e)

  pub counted_added : e.inferiors ≡ 0 → s < e.uid → ((i : ℕ) → i < length es → (t : ℕ) → (entry_at es i).superior
      ≡ Some t → t < e.uid) → IsCounted (recounted s (λ n. n + 1) (es ++ e ∷ []))
  counted_added none older all = each_recounted s (λ n. n + 1) (es ++ e ∷ [])
      (λ d. d.inferiors ≡ count_by (lies_in d.uid) (recounted s (λ n. n + 1) (es ++ e ∷ [])))
      (each_pushed es e no_entry (λ d. (recount s (λ n. n + 1) d).inferiors
      ≡ count_by (lies_in d.uid) (recounted s (λ n. n + 1) (es ++ e ∷ [])))
      (λ i lt. at (entry_at es i) (counted i lt)) (at e (none ∙ sym empty)))
    where
      empty : count_by (lies_in e.uid) es ≡ 0
      empty = none_counted e.uid es (λ i lt. false_from_ne_true _
          (λ is. (omega (arith, all i lt e.uid (lies_of e.uid (entry_at es i) is)))))

      at : (d : Entry) → d.inferiors ≡ count_by (lies_in d.uid) es
          → (recount s (λ n. n + 1) d).inferiors ≡ count_by (lies_in d.uid) (recounted s (λ n. n + 1) (es ++ e ∷ []))
      at d is = grind (arith, nat_tests, common_steps, count_recounted, count_pushed)

module _ (es : List Entry) (counted : IsCounted es) (i : ℕ) (within : i < length es) (s : ℕ)
    (up : (entry_at es i).superior ≡ Some s) where
  -- what lies in a node once the entry is out
  count_left : (u : ℕ) → count_by (lies_in u) (remove es i) + one_if (eqb s u) ≡ count_by (lies_in u) es
  count_left u = rw (← lies_eq u s (entry_at es i) up) (count_remove u es i within)

  pub counted_removed : IsCounted (recounted s (λ n. n - 1) (remove es i))
  counted_removed = each_recounted s (λ n. n - 1) (remove es i)
      (λ d. d.inferiors ≡ count_by (lies_in d.uid) (recounted s (λ n. n - 1) (remove es i)))
      (each_left es i within no_entry (λ d. (recount s (λ n. n - 1) d).inferiors
      ≡ count_by (lies_in d.uid) (recounted s (λ n. n - 1) (remove es i)))
      (λ j lt ne. at (entry_at es j) (counted j lt)))
    where
      at : (d : Entry) → d.inferiors ≡ count_by (lies_in d.uid) es
          → (recount s (λ n. n - 1) d).inferiors ≡ count_by (lies_in d.uid) (recounted s (λ n. n - 1) (remove es i))
      at d is = (let same = count_recounted s (λ n. n - 1) d.uid (remove es i) in
          let less = count_left d.uid in
          elim (cases_eq d.uid s) [
            | inl here ↦ rw (eq-eqb d.uid s here) (let m = rw (eq-eqb s d.uid (sym here)) at less in omega arith)
            | inr there ↦ rw (ne_eqb d.uid s there)
                (let m = rw (ne_eqb s d.uid (λ q. there (sym q))) at less in omega arith)
          ])

  -- the entry that comes out was counted
  pub some_left : (j : ℕ) → j < length (remove es i) → (entry_at (remove es i) j).uid ≡ s
      → 0 < (entry_at (remove es i) j).inferiors
  some_left = each_left es i within no_entry (λ d. d.uid ≡ s → 0 < d.inferiors)
      (λ j lt ne is. (let c : (entry_at es j).inferiors ≡ count_by (lies_in s) es = rw is at (counted j lt) in
      omega (arith, counted_one s es i within (lies_since s (entry_at es i) up))))

-- whether an entry of a uid counts some tells whether there are some
pub counts_some : (es : List Entry) → IsCounted es → (u i : ℕ) → i < length es → (entry_at es i).uid ≡ u
    → (0 < (entry_at es i).inferiors) ↔ ((j : ℕ) × (j < length es) × ((entry_at es j).superior ≡ Some u))
counts_some es counted u i lt is =
    let c : (entry_at es i).inferiors ≡ count_by (lies_in u) es = rw is at (counted i lt) in (
      λ some. (let one = one_counted u es (omega arith) in (one.0, one.1, lies_of u (entry_at es one.0) one.2)),
      λ one. (omega (arith, counted_one u es one.0 one.1 (lies_since u (entry_at es one.0) one.2))),
    )

-- ---- as the calls leave them

pub pushed_few : (es : List Entry) (e : Entry) → IsCounted es → length es ≤ 4097 → e.inferiors ≡ 0 → (i : ℕ)
    → i < length (es ++ e ∷ []) → (entry_at (es ++ e ∷ []) i).inferiors + 1 < 2 ^ 32
pushed_few es e counted few none = each_pushed es e no_entry (λ d. d.inferiors + 1 < 2 ^ 32)
    (λ i lt. (omega (arith, few_counted es counted few i lt))) (omega arith)

module _ {nodes : List Node} {es : List Entry} {free : List ℕ} {index : Places} {next : ℕ}
    (k : IsKept nodes es free index next) where
  -- a directory is older than what lies in it
  pub superior_older : (s i : ℕ) → i < length es → (entry_at es i).superior ≡ Some s → (s < (entry_at es i).uid)
      × (is_directory (newest nodes es) s ≡ true)
  superior_older s i lt is =
      let entry : HasEntry es (entry_at es i).uid (entry_at es i) =
      record { i = i; within = lt; entry_is = refl; uid_is = refl } in
      let older = rw (superior_read k (entry_at es i).uid (entry_at es i) entry ∙ is)
      at (superior_up (shapes (newest nodes es)) k.tree (entry_at es i).uid) in
      (older.0, cc (directory_shape (newest nodes es) s))

  -- a directory stays when one that lies in it comes out
  pub superior_left : (s i : ℕ)
      → i < length es → (entry_at es i).superior ≡ Some s → (j : ℕ) × (j < length (remove es i))
      × ((entry_at (remove es i) j).uid ≡ s)
  superior_left s i lt is =
      let older = superior_older s i lt is in
      let less : s < (entry_at es i).uid = older.0 in
      let there : (j : ℕ) × (j < length es) × ((entry_at es j).uid ≡ s) =
      entry_present k s (directory_in (newest nodes es) s older.1) in
      let other : there.0 ≢ i = λ q. (let same : (entry_at es i).uid ≡ s = rw q at there.2 in omega arith) in (
        now i there.0,
        now_within es i lt there.0 there.1 other,
        cc (at_was es i lt (now i there.0) no_entry, was_now i there.0 other),
      )

  pub superior_there : (s : ℕ)
      → is_directory (newest nodes es) s ≡ true → (e : Entry) → (j : ℕ) × (j < length (es ++ e ∷ []))
      × ((entry_at (es ++ e ∷ []) j).uid ≡ s)
  superior_there s is e =
      let there = entry_present k s (directory_in (newest nodes es) s is) in
      let n = length_push es e in (
        there.0,
        omega arith,
        cc (get_or_append_left es (e ∷ []) no_entry there.0 there.1),
      )

  pub counted_with : IsCounted es
      → (s : ℕ) → is_directory (newest nodes es) s ≡ true → (e : Entry) → e.uid ≡ next → e.superior ≡ Some s
      → e.inferiors ≡ 0 → IsCounted (recounted s (λ n. n + 1) (es ++ e ∷ []))
  counted_with counted s is e new up none =
      let there = entry_present k s (directory_in (newest nodes es) s is) in
      counted_added es counted e s up none (omega (arith, k.below there.0 there.1))
      (λ i lt t lies. (omega (arith, superior_older t i lt lies, k.below i lt)))

  pub removed_rising : (i : ℕ) → i < length es → IsAscending (remove es i)
  removed_rising i within a b lt in_b = rw (at_was es i within a no_entry, at_was es i within b no_entry)
      (k.rising (was i a) (was i b) (was_up i a b lt) (was_within es i within b in_b))
