-- A page has other words: a word is written.
use Rattle.std.proofs.lemmas.Grind.{common_steps}
use Rattle.flat_store.proofs.Prelude.{◌≡◌, ◌≢◌, ◌<◌, ℕ, ◌+◌, ◌/◌, ◌%◌, Bool, true, false, not, cond, eqb, ◌&&◌, ◌||◌, List, length, set, get_or, Option, Some, None, Err, is_some, refl, sym, ◌∙◌, arith, inl, inr, cases_eq, nat_tests, get_or-set_same, get_or-set_other, length-set, zeros_read, AccountMaps, count_of, Recounts, Full, charge_answer, Plan, new_word, RefKind, Node, volume_in, taken_on, has_segment, Words, is_page, is_stored, with_stored, with_word, is_used_up, is_volume_full, written, Store, records_of, is_stored-with, once_with, with_old, count_with, Gauge, gauge_at, filled, Paged, Puts, page_at, word_in, words_in, Held, pages_in, HoldPages, AreInside, Holds, IsHeld, has_room, IsOnce}
use Rattle.laws.proofs.Numbers.{and_both, eqb_self}
use Rattle.flat_store.proofs.GaugeLaws.{counts_more}

word_of : (o : Option (List ℕ)) (i : ℕ) → get_or (words_in o) i 0 ≡ word_in o i
word_of None i = zeros_read 1024 i
word_of (Some ws) i = refl

-- the pages once one has these words, where the words elsewhere and the other pages are as they were
pub pages_put : {old new : Paged} {words told : Words} {xs ys : List (ℕ × ℕ)} {u q : ℕ} {page : List ℕ}
    → HoldPages old words xs → Puts old new u q (Some page) → length page ≡ 1024
    → ((v r : ℕ) → is_stored ys v r ≡ (is_page v r (u, q) || is_stored xs v r)) → IsOnce ys
    → ((o : ℕ) → q ≡ o / 1024 → told u o ≡ get_or page (o % 1024) 0)
    → ((v o : ℕ) → is_page v (o / 1024) (u, q) ≡ false → told v o ≡ words v o) → HoldPages new told ys
pages_put {old} {u = u} {q} {page} h put size there once own other = grind (arith, nat_tests, common_steps, and_both)

-- the words of a page, and with one written
abbrev page_of : Paged → ℕ → ℕ → List ℕ
page_of pages u o = words_in (page_at pages u (o / 1024))

abbrev pub with_one : Paged → ℕ → ℕ → ℕ → List ℕ
with_one pages u o w = set (page_of pages u o) (o % 1024) w

word_put : {old new : Paged} {words : Words} {xs : List (ℕ × ℕ)} (u o w : ℕ) → HoldPages old words xs
    → Puts old new u (o / 1024) (Some (with_one old u o w))
    → HoldPages new (with_word words u o w) (with_stored xs u (o / 1024))
word_put {old} {words = words} {xs} u o w h put = pages_put h put (length-set (page_of old u o) (o % 1024) w ∙ size)
    (is_stored-with xs u (o / 1024)) (once_with xs u (o / 1024) h.once) own (λ v x off. rw (elsewhere v x off) refl)
  where
    size : length (page_of old u o) ≡ 1024
    size = grind (arith, nat_tests, common_steps)

    own : (x : ℕ) → o / 1024 ≡ x / 1024
        → cond (eqb u u && eqb x o) w (words u x) ≡ get_or (with_one old u o w) (x % 1024) 0
    own x page = elim (cases_eq x o) [
      | inl same ↦ rw (same, eqb_self u, eqb_self o)
          (sym (get_or-set_same (page_of old u o) (o % 1024) w 0 (omega (arith, size))))
      | inr apart ↦
          (let other : eqb x o ≡ false = grind (arith, nat_tests) in
          let place : x % 1024 ≢ o % 1024 = omega (arith, page, apart) in
          rw (eqb_self u, other, get_or-set_other (page_of old u o) (o % 1024) (x % 1024) w 0 place, h.values u x)
          (rw page (sym (word_of (page_at old u (x / 1024)) (x % 1024)))))
    ]

    elsewhere : (v x : ℕ) → is_page v (x / 1024) (u, o / 1024) ≡ false → (eqb v u && eqb x o) ≡ false
    elsewhere v x off = grind (arith, nat_tests)

-- a word is written into a page that is stored
pub put_shown : {p : Plan} {s : Store} {h : Held} {new : Paged} (u o w : ℕ) → Holds p h s
    → is_some (page_at h.pages u (o / 1024)) ≡ true → Puts h.pages new u (o / 1024) (Some (with_one h.pages u o w))
    → Holds p (record h { pages = new }) (written s u o w)
put_shown {p} {s} {h} {new} u o w holds there put = grind (arith, nat_tests, common_steps, with_old, word_put)

-- a reference alters a word of a page that is stored
pub alter_shown : {p : Plan} {s : Store} {h : Held} {new : Paged} (u o : ℕ) (how : RefKind) → Holds p h s
    → is_some (page_at h.pages u (o / 1024)) ≡ true → Puts h.pages new u (o / 1024)
    (Some (with_one h.pages u o (new_word (word_in (page_at h.pages u (o / 1024)) (o % 1024)) how)))
    → Holds p (record h { pages = new }) (written s u o (new_word (s.words u o) how))
alter_shown {s = s} u o how holds there put =
    put_shown u o (new_word (s.words u o) how) holds there (rw (holds.pages.values u o) put)

-- and nothing where it isn't
pub held_altered : {h : Held} {new : Paged} (u o : ℕ) (how : RefKind) (z : Bool) → IsHeld h
    → z ≡ is_some (page_at h.pages u (o / 1024)) → (z ≡ true → Puts h.pages new u (o / 1024)
    (Some (with_one h.pages u o (new_word (word_in (page_at h.pages u (o / 1024)) (o % 1024)) how))))
    → (z ≡ false → new ≡ h.pages) → IsHeld (record h { pages = new })
held_altered u o how true (p, s, h) there put kept =
    (p, written s u o (new_word (s.words u o) how), alter_shown u o how h (sym there) (put refl))
held_altered u o how false held there put kept = rw (kept refl) held

inside_with : (nodes : List Node) (xs : List (ℕ × ℕ)) (u q : ℕ) → AreInside nodes xs → has_segment nodes u ≡ true
    → q < pages_in nodes u → AreInside nodes (with_stored xs u q)
inside_with nodes xs u q inside segment lt v r on =
    grind (arith, nat_tests, common_steps, and_both, is_stored-with xs u q v r)

both_not : (a b : Bool) → (not a && not b) ≡ true → (a ≡ false) × (b ≡ false)
both_not true b e = cc
both_not false true e = cc
both_not false false e = (refl, refl)

-- a word other than 0 is written into a page that wasn't stored
pub store_shown : {p : Plan} {s : Store} {h : Held} {accounts : AccountMaps} {new : Paged} {records : List Gauge}
    (u o w : ℕ) → Holds p h s → has_segment h.accounts.nodes u ≡ true → o / 1024 < pages_in h.accounts.nodes u
    → is_some (page_at h.pages u (o / 1024)) ≡ false → w ≢ 0 → has_room p s u ≡ true
    → Recounts h.accounts accounts u (count_of h.accounts u + 1)
    → Puts h.pages new u (o / 1024) (Some (with_one h.pages u o w)) → (v : ℕ) → v ≡ volume_in h.accounts.nodes u
    → records ≡ set h.records v (filled (gauge_at h.records v))
    → Holds p (record h { accounts = accounts; pages = new; records = records }) (written s u o w)
unfolding taken_on
store_shown {p} {s} {h} u o w holds segment lt none other room up put v at filled_are =
    let off : is_stored s.stored u (o / 1024) ≡ false = holds.pages.there u (o / 1024) ∙ none in
    let apart : eqb w 0 ≡ false = grind (arith, nat_tests) in
    let space = (both_not (is_used_up s u) (is_volume_full p s (volume_in s.nodes u)) room).1 in
    rw apart (record {
      nodes = holds.nodes ∙ sym up.nodes;
      next = holds.next ∙ sym up.next;
      counts = λ x. up.counts x ∙ (let more = count_with (λ y. eqb y.0 x) s.stored u (o / 1024) off in
          let was = holds.counts x in grind (arith, nat_tests));
      pages = word_put u o w holds.pages put;
      inside = inside_with s.nodes s.stored u (o / 1024) holds.inside (rw holds.nodes segment) (rw holds.nodes lt);
      flat = holds.flat;
      records = rw (filled_are, at, ← holds.nodes) (counts_more h.records (taken_on s.nodes s.stored)
          (taken_on s.nodes (with_stored s.stored u (o / 1024))) (records_of p) (volume_in s.nodes u) holds.records
          space (λ x. count_with (λ y. eqb (volume_in s.nodes y.0) x) s.stored u (o / 1024) off));
      entries = holds.entries;
    })

-- a charge that is refused tells that the account is full
pub never_full : {p : Plan} {s : Store} {h : Held} (u : ℕ) (e : Full) → Holds p h s → has_room p s u ≡ true
    → Err e ≡ charge_answer h.accounts.nodes s.stored u → ⊥
never_full {p} {s} u e holds room answer =
    grind (arith, nat_tests, common_steps, both_not (is_used_up s u) (is_volume_full p s (volume_in s.nodes u)) room)
