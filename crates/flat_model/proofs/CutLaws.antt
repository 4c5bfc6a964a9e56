-- Words that are cut off from an offset on.
use Rattle.flat_model.proofs.Prelude.{common_steps, cases_Bool, and_parts, ◌≡◌, ◌≢◌, ℕ, suc, zero, ◌+◌, ◌-◌, ◌*◌, ◌/◌, ◌%◌, ◌<◌, ◌≤◌, Bool, true, false, not, cond, eqb, ◌&&◌, ◌||◌, ◌++◌, List, [], ◌∷◌, length, take, replicate, get_or, Ok, Err, All, IsTrue, ◌↔◌, refl, sym, ap, ◌∙◌, arith, inl, inr, nat_le, nat_lt, cases_eq, nat_tests, get_or_past, length-append, length-replicate, length-take, Reply, Node, segment_at, cleared, cut_at, cut_once, without_pages, Words, is_stored, is_zero_page, without_stored, without_words, after_truncate, cut_off, is_lost, truncated, Store, get_or_default_zero, zeros_read, or_true, and_both, from_first}
use Rattle.flat_model.proofs.DropLaws.{stored_fused, stored_same}
use Rattle.flat_model.proofs.PageLaws.{is_stored-without}
use Rattle.flat_model.proofs.ZeroLaws.{words_zero, zero_words}

-- a word of a page that is cut
pub get_cut : (at i n : ℕ) (ws : List ℕ)
    → get_or (take at ws ++ replicate n 0) i 0 ≡ cond (nat_le at i) 0 (get_or ws i 0)
get_cut zero i n [] = rw (from_first i) (zeros_read n i)
get_cut zero i n (w ∷ ws) = rw (from_first i) (zeros_read n i)
get_cut (suc at) i n [] = grind (arith, nat_tests, common_steps, zeros_read)
get_cut (suc at) zero n (w ∷ ws) = let off : nat_le (suc at) 0 ≡ false = grind (arith, nat_tests) in rw off refl
get_cut (suc at) (suc i) n (w ∷ ws) =
    let same : nat_le (suc at) (suc i) ≡ nat_le at i = grind (arith, nat_tests) in rw same (get_cut at i n ws)

pub cut_size : (at : ℕ) (ws : List ℕ) → length ws ≡ 1024 → at ≤ 1024 → length (cut_at at ws) ≡ 1024
cut_size at ws size le = length-append (take at ws) (replicate (1024 - at) 0)
    ∙ omega (arith, length-take at ws, length-replicate {A = ℕ} (1024 - at) 0, size, le)

-- a page is all zeros_read exactly where its words are
pub zero_words_told : (words : Words) (u q : ℕ) (ws : List ℕ) (r : Bool) → length ws ≤ 1024
    → ((i : ℕ) → i < 1024 → words u (1024 * q + i) ≡ get_or ws i 0)
    → (IsTrue r ↔ All (λ word. word ≡ 0) ws) → r ≡ is_zero_page words u q
zero_words_told words u q ws r size word told = agree r (is_zero_page words u q) forth back
  where
    forth : r ≡ true → is_zero_page words u q ≡ true
    forth is = grind (arith, nat_tests, common_steps, words_zero, get_or_past)

    back : is_zero_page words u q ≡ true → r ≡ true
    back is = told.1 (λ k d lt. get_or_default_zero ws k d lt ∙ sym (word k (omega (arith, lt, size)))
        ∙ zero_words words u q k is (omega (arith, lt, size)))

    agree : (a b : Bool) → (a ≡ true → b ≡ true) → (b ≡ true → a ≡ true) → a ≡ b
    agree true b f g = sym (f refl)
    agree false true f g = g refl
    agree false false f g = refl

-- the words of a page that isn't stored are 0 already
pub cleared_absent : (s : Store) (u q at : ℕ) → ((o : ℕ) → o / 1024 ≡ q → s.words u o ≡ 0) → cleared s u q at ≡ s
cleared_absent s u q at none = ap (λ (w : Words). record s { words = w }) (λ i. λ v. λ o. word v o i)
  where
    word : (v o : ℕ) → cond (eqb v u && (eqb (o / 1024) q && nat_le at (o % 1024))) 0 (s.words v o) ≡ s.words v o
    word v o = elim (cases_Bool (eqb v u && (eqb (o / 1024) q && nat_le at (o % 1024)))) [
      | inl is ↦
          (let parts = and_parts (eqb v u) (eqb (o / 1024) q && nat_le at (o % 1024)) is in
          let page = (and_parts (eqb (o / 1024) q) (nat_le at (o % 1024)) parts.1).0 in
          let same : v ≡ u = (let own = parts.0 in grind (arith, nat_tests)) in
          let there : o / 1024 ≡ q = grind (arith, nat_tests) in
          rw is (sym (rw same (none o there))))
      | inr other ↦ rw other refl
    ]

-- ---- the whole truncation

past_page : (from o : ℕ)
    → ((eqb (o / 1024) (from / 1024) && nat_le (from % 1024) (o % 1024)) || nat_le (from / 1024 + 1) (o / 1024))
    ≡ nat_le from o
past_page from o = grind (arith, nat_tests)

module _ (s : Store) (u from : ℕ) where
  abbrev later_page : ℕ → Bool
  later_page q = nat_le (from / 1024 + 1) q

  abbrev left : List (ℕ × ℕ)
  left = without_stored s.stored u later_page

  abbrev page : ℕ
  page = from / 1024

  -- the store once the cut page's words are these
  abbrev ends : Words → Store
  ends w = cond (is_stored left u page && is_zero_page w u page) (record s {
    words = λ v o. cond (eqb v u && eqb (o / 1024) page) 0 (w v o);
    stored = without_stored left u (λ q. eqb q page);
  }) (record s { words = w; stored = left })

  words_same : (v o : ℕ) → cond (eqb v u && (eqb (o / 1024) page && nat_le (from % 1024) (o % 1024))) 0
      (cond (eqb v u && later_page (o / 1024)) 0 (s.words v o)) ≡ without_words s.words u from v o
  words_same v o = grind (arith, nat_tests, common_steps, past_page)

  zero_past : from ≤ 1024 * page → is_zero_page (without_words s.words u from) u page ≡ true
  zero_past le = words_zero (without_words s.words u from) u page each
    where
      each : (i : ℕ) → i < 1024 → without_words s.words u from u (1024 * page + i) ≡ 0
      each i lt =
          let own : eqb u u ≡ true = grind (arith, nat_tests) in
          let past : nat_le from (1024 * page + i) ≡ true = (let at : from ≤ 1024 * page + i = omega (arith, le) in
          grind (arith, nat_tests)) in
          rw (own, past) refl

  lost : ℕ → Bool
  lost q = is_lost (without_words s.words u from) u from q

  below : (q : ℕ) → q < page → lost q ≡ false
  unfolding lost
  below q lt = grind (arith, nat_tests, common_steps)

  beyond : (q : ℕ) → page < q → lost q ≡ true
  unfolding lost
  beyond q lt = let first : nat_le from (1024 * q) ≡ true = (let le : from ≤ 1024 * q = omega (arith, lt) in
      grind (arith, nat_tests)) in rw first refl

  at_page : lost page ≡ is_zero_page (without_words s.words u from) u page
  unfolding lost
  at_page = grind (arith, nat_tests, common_steps, zero_past)

  -- pages other than the cut one
  side : (q : ℕ) → q ≢ page → later_page q ≡ lost q
  side q other = elim (cases_Bool (later_page q)) [
    | inl past ↦ past ∙ sym (beyond q (let lt : page + 1 ≤ q = grind (arith, nat_tests) in omega (arith, lt)))
    | inr early ↦ early ∙ sym (below q (let lt : q < page + 1 = grind (arith, nat_tests) in omega (arith, lt, other)))
  ]

  -- the cut page goes with the later ones
  gone : is_zero_page (without_words s.words u from) u page ≡ true → (q : ℕ) → is_stored s.stored u q ≡ true
      → (later_page q || eqb q page) ≡ lost q
  gone zero_is q on = elim (cases_eq q page) [
    | inl same ↦ (let here : eqb q page ≡ true = grind (arith, nat_tests) in
        rw here (or_true (later_page q) ∙ sym (ap lost same ∙ at_page ∙ zero_is)))
    | inr other ↦ (let here : eqb q page ≡ false = grind (arith, nat_tests) in
        rw here (alone (later_page q) ∙ side q other))
  ]
    where
      alone : (z : Bool) → (z || false) ≡ z
      alone true = refl
      alone false = refl

  -- the cut page stays, or isn't stored
  stays : (is_stored left u page && is_zero_page (without_words s.words u from) u page) ≡ false → (q : ℕ)
      → is_stored s.stored u q ≡ true → later_page q ≡ lost q
  stays none q on = elim (cases_eq q page) [
    | inl same ↦
        (let before : later_page page ≡ false = grind (arith, nat_tests) in
        let there : is_stored left u page ≡ true =
        rw (is_stored-without s.stored u later_page u page, before) (own (eqb u u) (is_stored s.stored u page)
        (rw same at on)) in
        let words : is_zero_page (without_words s.words u from) u page ≡ false = rw there at none in
        ap later_page same ∙ before ∙ sym words ∙ sym at_page ∙ ap lost (sym same))
    | inr other ↦ side q other
  ]
    where
      own : (a b : Bool) → b ≡ true → (not (a && false) && b) ≡ true
      own true b e = e
      own false b e = e

  -- the words of a page of zeros_read are 0 already
  zero_words_same : is_zero_page (without_words s.words u from) u page ≡ true → (v o : ℕ)
      → cond (eqb v u && eqb (o / 1024) page) 0 (without_words s.words u from v o) ≡ without_words s.words u from v o
  zero_words_same zero_is v o = elim (cases_Bool (eqb v u && eqb (o / 1024) page)) [
    | inl is ↦
        (let same = and_both v (o / 1024) u page is in
        let at : 1024 * page + o % 1024 ≡ o = omega (arith, same.1) in
        rw (is, same.0) (sym (rw at at (zero_words (without_words s.words u from) u page (o % 1024) zero_is
        (omega arith)))))
    | inr other ↦ rw other refl
  ]

  ends_cut : ends (without_words s.words u from) ≡ cut_off s u from
  unfolding lost
  ends_cut = by_zero (is_stored left u page && is_zero_page (without_words s.words u from) u page) refl
    where
      by_zero : (z : Bool) → (is_stored left u page && is_zero_page (without_words s.words u from) u page) ≡ z
          → cond z (record s {
            words = λ v o. cond (eqb v u && eqb (o / 1024) page) 0 (without_words s.words u from v o);
            stored = without_stored left u (λ q. eqb q page);
          }) (record s { words = without_words s.words u from; stored = left }) ≡ cut_off s u from
      by_zero true e =
          let zero_is = (and_parts (is_stored left u page) (is_zero_page (without_words s.words u from) u page) e).1 in
          ap (λ (w : Words). record s { words = w; stored = without_stored left u (λ q. eqb q page) })
          (λ i. λ v. λ o. zero_words_same zero_is v o i)
          ∙ ap (λ (xs : List (ℕ × ℕ)). record s { words = without_words s.words u from; stored = xs })
          (stored_fused s.stored u later_page (λ q. eqb q page)
          ∙ stored_same s.stored u (λ q. later_page q || eqb q page) lost (gone zero_is))
      by_zero false e = ap (λ (xs : List (ℕ × ℕ)). record s { words = without_words s.words u from; stored = xs })
          (stored_same s.stored u later_page lost (stays e))

  pub whole_cut : cut_once (without_pages s u later_page) u from ≡ cut_off s u from
  whole_cut = ap ends (λ i. λ v. λ o. words_same v o i) ∙ ends_cut

-- a cut at the start of a page takes it and the later ones
pub even_cut : (s : Store) (u from : ℕ) → from % 1024 ≡ 0
    → without_pages s u (λ q. nat_le (from / 1024) q) ≡ cut_off s u from
even_cut s u from start =
    ap (λ (w : Words). record s { words = w; stored = without_stored s.stored u (λ q. nat_le (from / 1024) q) })
    (λ i. λ v. λ o. ap (λ (z : Bool). cond (eqb v u && z) 0 (s.words v o)) (past o) i)
    ∙ ap (λ (xs : List (ℕ × ℕ)). record s { words = without_words s.words u from; stored = xs })
    (stored_same s.stored u (λ q. nat_le (from / 1024) q) (is_lost (without_words s.words u from) u from)
    (λ q on. lost q))
  where
    past : (o : ℕ) → nat_le (from / 1024) (o / 1024) ≡ nat_le from o
    past o = by (nat_le from o) refl
      where
        by : (z : Bool) → nat_le from o ≡ z → nat_le (from / 1024) (o / 1024) ≡ z
        by true e = (let le : from ≤ o = grind (arith, nat_tests) in
            let at : from / 1024 ≤ o / 1024 = omega (arith, le) in grind (arith, nat_tests))
        by false e = (let lt : o < from = grind (arith, nat_tests) in
            let at : o / 1024 < from / 1024 = omega (arith, lt, start) in grind (arith, nat_tests))

    lost : (q : ℕ) → nat_le (from / 1024) q ≡ is_lost (without_words s.words u from) u from q
    lost q = by (nat_le (from / 1024) q) refl
      where
        by : (z : Bool) → nat_le (from / 1024) q ≡ z → z ≡ is_lost (without_words s.words u from) u from q
        by true e = (let le : from / 1024 ≤ q = grind (arith, nat_tests) in
            let first : nat_le from (1024 * q) ≡ true = (let at : from ≤ 1024 * q = omega (arith, le, start) in
            grind (arith, nat_tests)) in rw first refl)
        by false e = (let lt : q < from / 1024 = grind (arith, nat_tests) in
            let first : nat_le from (1024 * q) ≡ false = (let at : 1024 * q < from = omega (arith, lt) in
            grind (arith, nat_tests)) in
            let second : nat_lt from (1024 * q + 1024) ≡ false = (let at : 1024 * q + 1024 ≤ from = omega (arith, lt) in
            grind (arith, nat_tests)) in rw (first, second) refl)

-- ---- by its path

pub truncate_refused : (s : Store) (path : List (List ℕ)) (from : ℕ) (r : Reply) → segment_at s.nodes path ≡ Err r
    → after_truncate s path from ≡ s
unfolding after_truncate
truncate_refused s path from r found = ap (truncated s from) found

pub truncate_done : (s : Store) (path : List (List ℕ)) (from : ℕ) (n : Node) → segment_at s.nodes path ≡ Ok n
    → after_truncate s path from ≡ cut_off s n.uid from
unfolding after_truncate
truncate_done s path from n found = ap (truncated s from) found
