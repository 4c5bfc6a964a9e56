-- What a search finds among ascending uids, and what an edit at that place does.
pub use Rattle.active_segs.proofs.Prelude.{BelongsAt, Err, IfErr, IfOk, IsAscending, IsBinarySearchResult, IsFoundAt, IsNonDecreasingBy, IsNonDecreasingBy-from_default, IsSearchInRange, List, None, Ok, Pairs, Result, SetsPlace, Some, [], answers_always, ap, arith, both_ways, eqb, get_or, get_or-insert_above, get_or-insert_at, get_or-insert_below, get_or_default, if◌then◌else◌, insert, is_some, length, length-insert, nat_cmp, nat_tests, ordering_index, place_of, ranked, refl, remove, rules, subst, suc, sym, zero, ℕ, ◌+◌, ◌-◌, ◌<◌, ◌∙◌, ◌∷◌, ◌≡◌, ◌≢◌}
use Rattle.active_segs.specs.Pairs.{uid_in}

-- no pair before the k-th has the uid
abbrev pub NotBefore : List (ℕ × ℕ) → ℕ → ℕ → Type 0
NotBefore pairs uid k = (j : ℕ) → j < k → uid_in pairs j ≢ uid

not_before_tail : (x : ℕ × ℕ) (l : List (ℕ × ℕ)) (uid i : ℕ) → NotBefore (x ∷ l) uid (suc i) → NotBefore l uid i
not_before_tail x l uid i not_before j lt = not_before (suc j) (omega arith)

found_tail : (x : ℕ × ℕ) (l : List (ℕ × ℕ)) (uid i : ℕ) → IsFoundAt (x ∷ l) uid (suc i) → IsFoundAt l uid i
found_tail x l uid i found = record { within = omega (arith, found.within); is = found.is }

-- a uid that no pair has is not found
pub place_absent : (l : List (ℕ × ℕ)) (uid : ℕ) → NotBefore l uid (length l) → place_of l uid ≡ None
place_absent [] uid not_before = refl
place_absent (x ∷ l) uid not_before = grind
    (arith, nat_tests, not_before 0 (omega arith), place_absent l uid (not_before_tail x l uid _ not_before))

-- the first pair that has the uid gives the place
pub place_present : (l : List (ℕ × ℕ)) (uid i : ℕ) → IsFoundAt l uid i → NotBefore l uid i → place_of l uid
    ≡ Some (get_or l i (0, 0)).1
place_present [] uid i found not_before = absurd (omega (arith, found.within))
place_present (x ∷ l) uid zero found not_before = grind (arith, nat_tests, found.is)
place_present (x ∷ l) uid (suc i) found not_before = grind (
  arith,
  nat_tests,
  not_before 0 (omega arith),
  place_present l uid i (found_tail x l uid i found) (not_before_tail x l uid i not_before),
)

-- a new pair before any pair that has the uid sets its place
pub place_inserted : (l : List (ℕ × ℕ)) (uid place i : ℕ) → NotBefore l uid i
    → SetsPlace l (insert l i (uid, place)) uid (Some place)
place_inserted l uid place zero not_before q = refl
place_inserted [] uid place (suc i) not_before q = refl
place_inserted (x ∷ l) uid place (suc i) not_before q = grind (
  arith,
  nat_tests,
  not_before 0 (omega arith),
  place_inserted l uid place i (not_before_tail x l uid i not_before) q,
)

ascending_tail : (x : ℕ × ℕ) (l : List (ℕ × ℕ)) → IsAscending (x ∷ l) → IsAscending l
ascending_tail x l ascending i j lt within = ascending (suc i) (suc j) (omega arith) (omega arith)

-- without the one pair that has the uid, the uid has no place
pub place_removed : (l : List (ℕ × ℕ)) (uid i : ℕ) → IsAscending l → IsFoundAt l uid i
    → SetsPlace l (remove l i) uid None
place_removed [] uid i ascending found q = absurd (omega (arith, found.within))
place_removed (x ∷ l) uid zero ascending found q =
    let absent : place_of l uid ≡ None = place_absent l uid
    (λ j lt same. omega (arith, ascending 0 (suc j) (omega arith) (omega arith), found.is)) in
    grind (arith, nat_tests, found.is)
place_removed (x ∷ l) uid (suc i) ascending found q =
    let ih : place_of (remove l i) q ≡ (if eqb uid q then None else place_of l q) =
    place_removed l uid i (ascending_tail x l ascending) (found_tail x l uid i found) q in
    let below : x.0 < uid = omega (arith, ascending 0 (suc i) (omega arith) found.within, found.is) in
    grind (arith, nat_tests)

module _ (l : List (ℕ × ℕ)) (ascending : IsAscending l) (uid : ℕ) where
  -- the comparisons with the uid rise along the list, as a binary search asks
  comparisons_rise : IsNonDecreasingBy (λ pair. ordering_index (nat_cmp pair.0 uid)) l
  comparisons_rise = IsNonDecreasingBy-from_default
      (λ pair. ordering_index (nat_cmp pair.0 uid)) l (0, 0) (λ i j le within. grind (arith, nat_tests))

  -- a binary search ends at the uid, or at the gap for it
  pub searched : (r : Result ℕ ℕ) → IsSearchInRange r (length l) → IsBinarySearchResult (λ pair. nat_cmp pair.0 uid) l r
      → record { found : IfOk r (IsFoundAt l uid); absent : IfErr r (BelongsAt l uid) }
  searched (Ok at) within equal =
      record { found = record { within = within; is = ranked _ uid _ (sym (equal (0, 0))) }; absent = tt }
  searched (Err at) within parted = record {
    found = tt;
    absent = record {
      within = within;
      below = λ j lt. ranked _ uid _ (sym ((parted comparisons_rise).0 j (0, 0) (omega arith) lt));
      above = λ j le lt. ranked _ uid _ (sym ((parted comparisons_rise).1 j (0, 0) le lt));
    };
  }

module _ (l : List (ℕ × ℕ)) (ascending : IsAscending l) (uid at : ℕ) (found : IsFoundAt l uid at) where
  not_before_found : NotBefore l uid at
  not_before_found j lt same = omega (arith, ascending j at lt found.within, found.is)

  -- the uid is found at its place
  pub place_found : place_of l uid ≡ Some (get_or l at (0, 0)).1
  place_found = place_present l uid at found not_before_found

module _ (l : List (ℕ × ℕ)) (uid at : ℕ) (gap : BelongsAt l uid at) where
  -- a uid that has a gap has no place
  pub place_in_gap : place_of l uid ≡ None
  place_in_gap = place_absent l uid (λ j lt same. grind (arith, gap.below j, gap.above j))

  -- a new pair in the gap sets the place of that uid alone
  pub sets_inserted : (place : ℕ) → SetsPlace l (insert l at (uid, place)) uid (Some place)
  sets_inserted place = place_inserted l uid place at (λ j lt same. omega (arith, gap.below j lt))

  -- and keeps the order: each uid is an old one below the gap, the new one at it, or an old one moved up by one
  pub ascending_inserted : (place : ℕ) → IsAscending l → IsAscending (insert l at (uid, place))
  ascending_inserted place ascending i j lt within =
      let new = insert l at (uid, place) in
      let key = λ (x : ℕ × ℕ). x.0 in
      let length_new = length-insert l at (uid, place) gap.within in
      let key_below : (i : ℕ) → i < at → uid_in new i ≡ uid_in l i =
      λ i below. ap key (get_or-insert_below l at (uid, place) (0, 0) i below gap.within) in
      let key_here : (i : ℕ) → i ≡ at → uid_in new i ≡ uid =
      λ i here. rw here (ap key (get_or-insert_at l at (uid, place) (0, 0) gap.within)) in
      let key_above : (i : ℕ) → at < i → uid_in new i ≡ uid_in l (i - 1) =
      λ i above. subst (λ q. uid_in new q ≡ uid_in l (i - 1)) {x = i - 1 + 1} (omega arith)
      (ap key (get_or-insert_above l at (uid, place) (0, 0) (i - 1) (omega arith) gap.within)) in
      grind (
        arith,
        key_below i,
        key_here i,
        key_above i,
        key_below j,
        key_here j,
        key_above j,
        ascending i j,
        ascending i (j - 1),
        ascending (i - 1) (j - 1),
        gap.below i,
        gap.above (j - 1),
      )
