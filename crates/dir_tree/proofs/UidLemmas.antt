-- The table of places by uid, and the places that stand in it.
use Rattle.dir_tree.proofs.Prelude.{common_steps, ◌≡◌, ◌≢◌, ℕ, zero, suc, ◌+◌, ◌-◌, ◌<◌, ◌≤◌, eqb, true, false, List, [], ◌∷◌, ◌++◌, length, set, get_or, replicate, refl, sym, ap, ◌∙◌, arith, inl, inr, remove, cases_eq, eq-eqb, ne_eqb, get_or_append_left, get_or-set_same, get_or-set_other, length-set, get_or_read, append_assoc, replicate-append-replicate, get_or-replicate, length-append, length-replicate, length_push, Entry, no_entry, entry_at, listed, recounted, IsAscending, IsListed, taken, IsTabled, IsRemoved, nat_tests}
use Rattle.dir_tree.proofs.SlotLemmas.{listed_at, length_listed, place_listed, remove_listed, set_listed, still_listed, more_listed, push_listed, less_listed}
use Rattle.dir_tree.proofs.EditLemmas.{fewer}
use Rattle.dir_tree.proofs.CountLemmas.{count_set}

-- ---- what is taken

-- nothing is taken past the uids that the table holds
pub taken_past : (t : List ℕ) (n : ℕ) → taken (t ++ replicate n 65535) ≡ taken t
unfolding taken
taken_past [] zero = refl
taken_past [] (suc n) = taken_past [] n
taken_past (p ∷ t) n = grind (arith, nat_tests, common_steps, taken_past t n)

taken_none : (t : List ℕ) → ((v : ℕ) → v < length t → get_or t v 0 ≡ 65535) → taken t ≡ []
unfolding taken
taken_none [] none = refl
taken_none (p ∷ t) none = rw (eq-eqb p 65535 (none 0 (omega arith))) (taken_none t (λ v lt. none (suc v) (omega arith)))

-- each place that stands in the table is taken, and comes out with its uid
pub taken_out : (t : List ℕ) (u : ℕ) → u < length t → get_or t u 0 ≢ 65535 → (i : ℕ) × (i < length (taken t))
    × (get_or (taken t) i 0 ≡ get_or t u 0) × (taken (set t u 65535) ≡ remove (taken t) i)
unfolding taken
taken_out [] u lt some = absurd (omega arith)
taken_out (p ∷ t) zero lt some = rw (ne_eqb p 65535 some) (0, omega arith, refl, refl)
taken_out (p ∷ t) (suc u) lt some =
    let ih = taken_out t u (omega arith) some in
    elim (cases_eq p 65535) [
      | inl none ↦ rw (eq-eqb p 65535 none) ih
      | inr is ↦ rw (ne_eqb p 65535 is) (suc ih.0, omega arith, ih.2, rw ih.3 refl)
    ]

-- and what is taken stands in it
pub taken_from : (t : List ℕ) (i : ℕ) → i < length (taken t) → (u : ℕ) × (u < length t) × (get_or t u 0 ≢ 65535)
    × (get_or t u 0 ≡ get_or (taken t) i 0)
unfolding taken
taken_from [] i lt = absurd (omega arith)
taken_from (p ∷ t) zero lt = elim (cases_eq p 65535) [
  | inl none ↦
      (let off : eqb p 65535 ≡ true = eq-eqb p 65535 none in
      let ih = taken_from t 0 (rw off at lt) in rw off (suc ih.0, omega arith, ih.2, ih.3))
  | inr is ↦ rw (ne_eqb p 65535 is) (0, omega arith, is, refl)
]
taken_from (p ∷ t) (suc i) lt = elim (cases_eq p 65535) [
  | inl none ↦
      (let off : eqb p 65535 ≡ true = eq-eqb p 65535 none in
      let ih = taken_from t (suc i) (rw off at lt) in rw off (suc ih.0, omega arith, ih.2, ih.3))
  | inr is ↦
      (let on : eqb p 65535 ≡ false = ne_eqb p 65535 is in
      let more : suc i < length (p ∷ taken t) = rw on at lt in
      let ih = taken_from t i (omega arith) in rw on (suc ih.0, omega arith, ih.2, ih.3))
]

-- past all others a place comes in at the end
pub taken_in : (t : List ℕ) (u p : ℕ) → u < length t → p ≢ 65535
    → ((v : ℕ) → u ≤ v → v < length t → get_or t v 0 ≡ 65535) → taken (set t u p) ≡ taken t ++ p ∷ []
unfolding taken
taken_in [] u p lt is none = absurd (omega arith)
taken_in (q ∷ t) zero p lt is none =
    let rest : taken t ≡ [] = taken_none t (λ v in_v. none (suc v) (omega arith) (omega arith)) in
    rw (ne_eqb p 65535 is, eq-eqb q 65535 (none 0 (omega arith) (omega arith)), rest) refl
taken_in (q ∷ t) (suc u) p lt is none =
    let ih = taken_in t u p (omega arith) is (λ v le in_v. none (suc v) (omega arith) (omega arith)) in
    elim (cases_eq q 65535) [
      | inl off ↦ rw (eq-eqb q 65535 off) ih
      | inr on ↦ rw (ne_eqb q 65535 on, ih) refl
    ]

-- ---- the entries of a table

module _ {slots : List Entry} {table : List ℕ} (l : IsListed slots (taken table)) (t : IsTabled slots table) where
  abbrev es : List Entry
  es = listed slots (taken table)

  pub place_found : (u : ℕ) → u < length table → get_or table u 0 ≢ 65535 → (i : ℕ) × (i < length es)
      × ((entry_at es i).uid ≡ u) × ((entry_at es i).place ≡ get_or table u 0)
  place_found u lt some =
      let x = taken_out table u lt some in (
        x.0,
        omega (arith, length_listed slots (taken table)),
        rw (listed_at slots (taken table) x.0 x.1, x.2) (t.uids u lt some),
        place_listed l x.0 x.1 ∙ x.2,
      )

  -- the place of an entry stands in the table
  stands : (i : ℕ) → i < length es → ((entry_at es i).uid < length table)
      × (get_or table (entry_at es i).uid 0 ≢ 65535) × (get_or table (entry_at es i).uid 0 ≡ (entry_at es i).place)
  stands i lt =
      let within : i < length (taken table) = omega (arith, length_listed slots (taken table)) in
      let x = taken_from table i within in
      let own : (entry_at es i).uid ≡ x.0 = rw (listed_at slots (taken table) i within, ← x.3) (t.uids x.0 x.1 x.2) in
      rw own (x.1, x.2, x.3 ∙ sym (place_listed l i within))

  pub place_missing : (uid : ℕ) → (uid < length table → get_or table uid 0 ≡ 65535) → (i : ℕ) → i < length es
      → (entry_at es i).uid ≢ uid
  place_missing uid none i lt is = let x = stands i lt in x.1 (rw is (none (rw is at x.0)))

  -- an entry more, of a place that no other has
  pub tabled_more : (e : Entry) → e.place < length slots → ((i : ℕ) → i < length es → (entry_at es i).place ≢ e.place)
      → e.uid < length table → IsTabled (set slots e.place e) (set table e.uid e.place)
  tabled_more e room new in_table =
      grind (arith, nat_tests, common_steps, get_or-set_same, length-set, get_or-set_other, place_found)

  -- no place stands where all uids are lower
  pub none_later : (uid : ℕ) → ((i : ℕ) → i < length es → (entry_at es i).uid < uid)
      → (v : ℕ) → uid ≤ v → v < length table → get_or table v 0 ≡ 65535
  none_later uid later v le lt = grind (arith, nat_tests, common_steps, place_found)

  -- an entry less
  pub tabled_less : (uid : ℕ) → uid < length table → IsTabled slots (set table uid 65535)
  tabled_less uid in_table = grind (arith, nat_tests, common_steps, get_or-set_same, get_or-set_other, length-set)

  pub removed_entry : (uid : ℕ) → uid < length table → get_or table uid 0 ≢ 65535 → (x : Entry)
      → x ≡ entry_at slots (get_or table uid 0) → IsRemoved es uid x (listed slots (taken (set table uid 65535)))
  removed_entry uid lt some x read =
      let o = taken_out table uid lt some in
      let n = length_listed slots (taken table) in
      let here : entry_at es o.0 ≡ entry_at slots (get_or table uid 0) =
      rw (← o.2) (listed_at slots (taken table) o.0 o.1) in
      record {
        at = o.0;
        within = omega arith;
        entry_is = cc;
        uid_is = rw here (t.uids uid lt some);
        rest = rw o.3 (remove_listed l o.0 o.1);
      }

  -- an entry changed, but for its uid
  pub tabled_set : (p : ℕ) (e : Entry) → p < length slots → e.uid ≡ (entry_at slots p).uid
      → IsTabled (set slots p e) table
  tabled_set p e room same = grind (arith, nat_tests, common_steps, get_or-set_same, get_or-set_other)

  -- the place of a uid that an entry has stands in the table
  pub place_stands : (uid i : ℕ) → i < length es → (entry_at es i).uid ≡ uid → (uid < length table)
      × (get_or table uid 0 ≢ 65535) × (get_or table uid 0 ≡ (entry_at es i).place)
  place_stands uid i lt is = rw is at (stands i lt)

-- an entry of a uid stands in a place
abbrev pub IsThere : List Entry → ℕ → ℕ → Type 0
IsThere es uid place = (i : ℕ) × (i < length es) × ((entry_at es i).uid ≡ uid) × ((entry_at es i).place ≡ place)

module _ {slots : List Entry} {order : List ℕ} (l : IsListed slots order) (now : List Entry)
    (view : listed slots order ≡ now) (uid place : ℕ) (at : IsThere now uid place) where
  ordered : at.0 < length order
  ordered = (let n = length_listed slots order in let lt = rw (← view) at at.1 in omega arith)

  place_at : get_or order at.0 0 ≡ place
  place_at = sym (place_listed l at.0 ordered) ∙ (rw (← view) at at.3)

  pub slot_there : place < length slots
  slot_there = omega (arith, l.within at.0 ordered, l.size, place_at)

  slot_read : (x : Entry) → x ≡ get_or slots place x → x ≡ entry_at slots place
  slot_read x read = get_or_read slots place x slot_there read no_entry

  pub entry_there : (x : Entry) → x ≡ get_or slots place x → x ≡ entry_at now at.0
  entry_there x read = rw (← view, listed_at slots order at.0 ordered, place_at) (slot_read x read)

-- the number of those that lie in a node changed
module _ {slots : List Entry} {table : List ℕ} (l : IsListed slots (taken table)) (t : IsTabled slots table)
    (now : List Entry) (view : listed slots (taken table) ≡ now) (rising : IsAscending now) (uid place : ℕ)
    (at : IsThere now uid place) (g : ℕ → ℕ) (x : Entry) (read : x ≡ get_or slots place x) where
  abbrev changed : Entry
  changed = record x { inferiors = g x.inferiors }

  pub inferiors_changed : IsListed (set slots place changed) (taken table) × IsTabled (set slots place changed) table
      × (listed (set slots place changed) (taken table) ≡ recounted uid g now)
  inferiors_changed =
      let lt = ordered l now view uid place at in
      let is : get_or (taken table) at.0 0 ≡ place = place_at l now view uid place at in
      let own : x ≡ entry_at slots place = slot_read l now view uid place at x read in
      let own_place : x.place ≡ get_or (taken table) at.0 0 = ap (λ (e : Entry). e.place) own
      ∙ (rw is at (l.places at.0 lt)) ∙ sym is in
      let there = entry_there l now view uid place at x read in
      rw (← is) (
        still_listed l at.0 lt changed own_place,
        tabled_set l t (get_or (taken table) at.0 0) changed (rw is (slot_there l now view uid place at)) (cc),
        set_listed l at.0 lt changed own_place
            ∙ rw (view, there) (count_set uid g now rising at.0 at.1 at.2 (entry_at now at.0) refl),
      )

-- ---- as the calls leave them

-- a uid more that is nowhere
pub nowhere_next : (xs ys : List ℕ) (n : ℕ) → ys ≡ xs ++ replicate (n - length xs) 65535 → length xs ≤ n
    → ys ++ 65535 ∷ [] ≡ xs ++ replicate (n + 1 - length xs) 65535
nowhere_next xs ys n is le = grind (arith, nat_tests, common_steps, append_assoc, replicate-append-replicate)

-- how many uids the table holds by then
pub reached : (table wide : List ℕ) (uid : ℕ) → wide ≡ table ++ replicate (uid + 1 - length table) 65535
    → length wide ≡ length table + (uid + 1 - length table)
reached table wide uid is = grind (arith, nat_tests, common_steps, length-append, length-replicate)

pub blank_taken : (table : List ℕ) → table ≡ [] → taken table ≡ []
unfolding taken
blank_taken table is = ap taken is

pub blank_listed : (slots : List Entry) (table : List ℕ) → length slots ≡ 4097 → table ≡ []
    → IsListed slots (taken table)
blank_listed slots table size is = grind (arith, nat_tests, common_steps, blank_taken)

pub blank_tabled : (slots : List Entry) (table : List ℕ) → table ≡ [] → IsTabled slots table
blank_tabled slots table is = rw is (record { uids = λ u lt some. absurd (omega arith) })

-- the uids that the table holds from then on are nowhere
past_tabled : (slots : List Entry) (table : List ℕ) (n : ℕ) → IsTabled slots table
    → IsTabled slots (table ++ replicate n 65535)
past_tabled slots table n t =
    grind (arith, nat_tests, common_steps, length-replicate, get_or-replicate, get_or_append_left)

module _ {slots : List Entry} {table : List ℕ} (l : IsListed slots (taken table)) (t : IsTabled slots table)
    (now : List Entry) (view : listed slots (taken table) ≡ now) where
  pub place_given : (uid value : ℕ) → value ≡ get_or table uid value → uid < length table → value ≢ 65535
      → IsThere now uid value
  place_given uid value read lt some =
      grind (arith, nat_tests, common_steps, get_or table uid 0, get_or_read table uid value lt read 0, place_found)

  pub place_absent : (uid : ℕ) → (uid < length table → get_or table uid 0 ≡ 65535) → (i : ℕ) → i < length now
      → (entry_at now i).uid ≢ uid
  place_absent uid none = rw (← view) (place_missing l t uid none)

  module _ (uid place : ℕ) (at : IsThere now uid place) where
    here : (uid < length table) × (get_or table uid 0 ≢ 65535) × (get_or table uid 0 ≡ place)
    here = (let p = place_stands l t uid at.0 (rw (← view) at at.1) (rw (← view) at at.2) in
        (p.0, p.1, p.2 ∙ (rw (← view) at at.3)))

    pub in_table : uid < length table
    in_table = here.0

    pub some_taken : 0 < length (taken table)
    some_taken = (omega (arith, taken_out table uid here.0 here.1))

    pub left_listed : IsListed slots (taken (set table uid 65535))
    left_listed = (let o = taken_out table uid here.0 here.1 in rw o.3 (less_listed l o.0 o.1))

    pub left_tabled : IsTabled slots (set table uid 65535)
    left_tabled = tabled_less l t uid here.0

    pub left_taken : length (taken (set table uid 65535)) + 1 ≡ length (taken table)
    left_taken = (let o = taken_out table uid here.0 here.1 in rw o.3 (fewer (taken table) o.0 o.1))

    pub left_removed : (x : Entry) → x ≡ get_or slots place x
        → IsRemoved now uid x (listed slots (taken (set table uid 65535)))
    left_removed x read = rw (← view) (removed_entry l t uid here.0 here.1 x
        (rw here.2 (slot_read l now view uid place at x read)))

-- an entry of a uid that the table holds by then
module _ {slots : List Entry} {table : List ℕ} (l : IsListed slots (taken table)) (t : IsTabled slots table)
    (now : List Entry) (view : listed slots (taken table) ≡ now) (n : ℕ) (wide : List ℕ)
    (is : wide ≡ table ++ replicate n 65535) where
  same : taken wide ≡ taken table
  same = ap taken is ∙ taken_past table n

  pub pushed_past : (e : Entry) → e.place < 4097 → ((i : ℕ) → i < length now → (entry_at now i).place ≢ e.place)
      → e.uid < length wide → ((i : ℕ) → i < length now → (entry_at now i).uid < e.uid)
      → IsListed (set slots e.place e) (taken (set wide e.uid e.place))
      × IsTabled (set slots e.place e) (set wide e.uid e.place)
      × (length (taken (set wide e.uid e.place)) ≡ length (taken table) + 1)
      × (listed (set slots e.place e) (taken (set wide e.uid e.place)) ≡ now ++ e ∷ [])
  pushed_past e room new in_table later =
      let wide_listed : IsListed slots (taken wide) = rw same l in
      let wide_tabled : IsTabled slots wide = rw is (past_tabled slots table n t) in
      let wide_view : listed slots (taken wide) ≡ now = cc (same, view) in
      let new' = rw (← wide_view) at new in
      let later' = rw (← wide_view) at later in
      let grown : taken (set wide e.uid e.place) ≡ taken wide ++ e.place ∷ [] =
      taken_in wide e.uid e.place in_table (λ z. omega arith) (none_later wide_listed wide_tabled e.uid later') in (
        rw grown (more_listed wide_listed e room new'),
        tabled_more wide_listed wide_tabled e (omega (arith, room, l.size)) new' in_table,
        rw (grown, same) (length_push (taken table) e.place),
        rw (grown, ← wide_view) (push_listed wide_listed e room new'),
      )
