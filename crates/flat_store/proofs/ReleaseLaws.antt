-- A page of zeros is given up; the zeros of a page that is cut.
use Rattle.std.proofs.lemmas.Grind.{common_steps}
use Rattle.flat_store.proofs.Prelude.{◌≡◌, ◌<◌, ◌≤◌, ℕ, ◌+◌, ◌*◌, ◌/◌, ◌%◌, Bool, true, false, cond, eqb, ◌&&◌, List, Some, None, IsTrue, ◌↔◌, refl, sym, ap, ◌∙◌, arith, inl, inr, nat_le, Decides, slice_index, cases_Bool, nat_tests, AreZero, Plan, Words, is_zero_page, without_stored, without_words, Store, without_pages, MayRelease, words_zero, zero_words, page_at, Held, Holds}
use Rattle.laws.proofs.Numbers.{and_both, eqb_self}
use Rattle.flat_store.proofs.CutLaws.{zero_told}
use Rattle.flat_store.proofs.DropLaws.{no_word, word_at}

pub may_release : {p : Plan} {s : Store} {h : Held} (u q : ℕ) {ws : List ℕ} (r : Bool) → Holds p h s
    → page_at h.pages u q ≡ Some ws → (IsTrue r ↔ AreZero ws) → IsTrue r ↔ MayRelease s u q
may_release u q r holds found told = grind (arith, nat_tests, common_steps, zero_told u q r holds.pages found told)

pub not_there : {p : Plan} {s : Store} {h : Held} (u q : ℕ) → Holds p h s → page_at h.pages u q ≡ None
    → IsTrue false ↔ MayRelease s u q
not_there u q holds none =
    (λ is. cc, λ may. let clash : true ≡ false = sym may.there ∙ rw (holds.pages.there u q, none) refl in cc)

pub released_is : (s : Store) (u q : ℕ) → MayRelease s u q
    → without_pages s u (λ r. eqb r q) ≡ record s { stored = without_stored s.stored u (λ r. eqb r q) }
released_is s u q may = ap (λ (w : Words). record s { words = w; stored = without_stored s.stored u (λ r. eqb r q) })
    (λ i. λ v. λ o. word v o i)
  where
    word : (v o : ℕ) → cond (eqb v u && eqb (o / 1024) q) 0 (s.words v o) ≡ s.words v o
    word v o = elim (cases_Bool (eqb v u && eqb (o / 1024) q)) [
      | inl is ↦
          (let same = and_both v (o / 1024) u q is in
          let at : 1024 * q + o % 1024 ≡ o = omega (arith, same.1) in
          rw (is, same.0) (sym (rw at at (zero_words s.words u q (o % 1024) may.zeros (omega arith)))))
      | inr other ↦ rw other refl
    ]

-- ---- the zeros of a page that is cut

all_zero : (s : Store) (u from : ℕ) → ((o : ℕ) → from / 1024 * 1024 ≤ o → o < from → s.words u o ≡ 0)
    → true ≡ is_zero_page (without_words s.words u from) u (from / 1024)
all_zero s u from zeros = sym (words_zero (without_words s.words u from) u (from / 1024) each)
  where
    each : (i : ℕ) → i < 1024 → without_words s.words u from u (1024 * (from / 1024) + i) ≡ 0
    each i lt = elim (cases_Bool (nat_le from (1024 * (from / 1024) + i))) [
      | inl past ↦ rw (eqb_self u, past) refl
      | inr early ↦ (let below : 1024 * (from / 1024) + i < from = grind (arith, nat_tests) in
          rw (eqb_self u, early) (zeros (1024 * (from / 1024) + i) (omega arith) below))
    ]

-- the page that is cut is stored, with these words
pub cut_told : {p : Plan} {s : Store} {h : Held} (u from : ℕ) {ws : List ℕ} (r : Bool) → Holds p h s
    → page_at h.pages u (from / 1024) ≡ Some ws → Decides r ((i : ℕ) → i < from % 1024 → slice_index ws i ≡ 0)
    → r ≡ is_zero_page (without_words s.words u from) u (from / 1024)
cut_told {s = s} u from {ws} r holds found told = by r told
  where
    word : (i : ℕ) → i < from % 1024 → s.words u (1024 * (from / 1024) + i) ≡ slice_index ws i
    word i lt = word_at u (from / 1024) holds.pages found i (omega (arith, lt))

    zeros : ((i : ℕ) → i < from % 1024 → slice_index ws i ≡ 0) → (o : ℕ) → from / 1024 * 1024 ≤ o → o < from
        → s.words u o ≡ 0
    zeros each o le lt = grind (arith, nat_tests, common_steps, word, each)

    stays : is_zero_page (without_words s.words u from) u (from / 1024) ≡ true → (i : ℕ) → i < from % 1024
        → slice_index ws i ≡ 0
    stays zero_is i lt =
        let early : nat_le from (1024 * (from / 1024) + i) ≡ false = grind (arith, nat_tests) in
        sym (word i lt) ∙ rw (eqb_self u, early) at (zero_words (without_words s.words u from) u (from / 1024) i
        zero_is (omega (arith, lt)))

    by : (z : Bool) → Decides z ((i : ℕ) → i < from % 1024 → slice_index ws i ≡ 0)
        → z ≡ is_zero_page (without_words s.words u from) u (from / 1024)
    by true d = all_zero s u from (zeros (d.0 refl))
    by false d = elim (cases_Bool (is_zero_page (without_words s.words u from) u (from / 1024))) [
      | inl zero_is ↦ (let clash : false ≡ true = d.1 (stays zero_is) in absurd cc)
      | inr isnt ↦ sym isnt
    ]

-- it isn't stored
pub cut_absent : {p : Plan} {s : Store} {h : Held} (u from : ℕ) → Holds p h s → page_at h.pages u (from / 1024) ≡ None
    → true ≡ is_zero_page (without_words s.words u from) u (from / 1024)
cut_absent {s = s} u from holds none = all_zero s u from (λ o le lt.
    let page : o / 1024 ≡ from / 1024 = omega (arith, le, lt) in no_word holds.pages u o (rw (page, none) refl))
