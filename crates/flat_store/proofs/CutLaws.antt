-- A segment is truncated.
use Rattle.std.proofs.lemmas.Grind.{common_steps}
use Rattle.flat_store.proofs.Prelude.{◌≡◌, ◌≤◌, ℕ, ◌-◌, ◌/◌, ◌%◌, Bool, false, eqb, ◌&&◌, ◌||◌, List, get_or, Option, Some, None, IsTrue, ◌↔◌, refl, arith, nat_le, nat_tests, AreZero, Plan, Words, is_page, is_stored, is_zero_page, Store, zero_words_told, cleared, cleared_absent, cut_at, cut_size, get_cut, has_cleared, Paged, Cuts, page_at, Held, HoldPages, Holds}
use Rattle.laws.proofs.Numbers.{and_both, eqb_self}
use Rattle.flat_store.proofs.DropLaws.{no_word, word_at}
use Rattle.flat_store.proofs.PutLaws.{pages_put}

-- ---- one page is cleared from a place on

pages_cut : {old new : Paged} (s : Store) (u q at : ℕ) {ws : List ℕ} → HoldPages old s.words s.stored
    → page_at old u q ≡ Some ws → at ≤ 1024 → Cuts old new u q at ws → HoldPages new (cleared s u q at).words s.stored
pages_cut {old} s u q at {ws} h found le cut =
    pages_put h cut (cut_size at ws (h.sizes u q ws found) le) there h.once own (λ v o off. rw (elsewhere v o off) refl)
  where
    there : (v r : ℕ) → is_stored s.stored v r ≡ (is_page v r (u, q) || is_stored s.stored v r)
    there v r = grind (arith, nat_tests, common_steps, and_both)

    own : (o : ℕ) → q ≡ o / 1024 → (cleared s u q at).words u o ≡ get_or (cut_at at ws) (o % 1024) 0
    own o page = rw (get_cut at (o % 1024) (1024 - at) ws, h.values u o, ← page, found, eqb_self u, eqb_self q) refl

    elsewhere : (v o : ℕ) → is_page v (o / 1024) (u, q) ≡ false
        → (eqb v u && (eqb (o / 1024) q && nat_le at (o % 1024))) ≡ false
    elsewhere v o off = grind (arith, nat_tests)

-- a page is all zeros exactly where its words are
pub zero_told : {pages : Paged} {words : Words} {xs : List (ℕ × ℕ)} (u q : ℕ) {ws : List ℕ} (r : Bool)
    → HoldPages pages words xs → page_at pages u q ≡ Some ws → (IsTrue r ↔ AreZero ws) → r ≡ is_zero_page words u q
zero_told {words = words} u q {ws} r h found told =
    zero_words_told words u q ws r (let size = h.sizes u q ws found in omega arith) (word_at u q h found) told

-- the holdings once a page is cleared, and what is told of it
pub clear_shown : {p : Plan} {s : Store} {h : Held} {new : Paged} (u q at : ℕ) → Holds p h s → at ≤ 1024
    → ((ws : List ℕ) → page_at h.pages u q ≡ Some ws → Cuts h.pages new u q at ws)
    → (page_at h.pages u q ≡ None → new ≡ h.pages) → Holds p (record h { pages = new }) (cleared s u q at)
clear_shown {p} {s} {h} {new} u q at holds le some none = let pages = each (page_at h.pages u q) refl in assumption
  where
    each : (o : Option (List ℕ)) → page_at h.pages u q ≡ o → HoldPages new (cleared s u q at).words s.stored
    each (Some ws) e = pages_cut s u q at holds.pages e le (some ws e)
    each None e = rw (none e, cleared_absent s u q at (λ o page. no_word holds.pages u o (rw (page, e) refl)))
        holds.pages

pub clear_told : {p : Plan} {s : Store} {h : Held} {new : Paged} (u q at : ℕ) (r : Bool) → Holds p h s → at ≤ 1024
    → ((ws : List ℕ) → page_at h.pages u q ≡ Some ws → Cuts h.pages new u q at ws × (IsTrue r ↔ AreZero (cut_at at ws)))
    → (page_at h.pages u q ≡ None → r ≡ false) → r ≡ has_cleared s u q at
clear_told {s = s} {h} {new} u q at r holds le some none = each (page_at h.pages u q) refl
  where
    each : (o : Option (List ℕ)) → page_at h.pages u q ≡ o → r ≡ has_cleared s u q at
    each (Some ws) e =
        let its = some ws e in
        let page : page_at new u q ≡ Some (cut_at at ws) = rw (its.0.at u q, eqb_self u, eqb_self q) refl in
        rw (holds.pages.there u q, e) (zero_told u q r (pages_cut s u q at holds.pages e le its.0) page its.1)
    each None e = rw (holds.pages.there u q, e) (none e)
