-- The pages of a segment that pass a test are stored no more, all at once.
use Rattle.std.proofs.lemmas.Grind.{common_steps}
use Rattle.flat_store.proofs.Prelude.{◌≡◌, ◌<◌, ◌≤◌, ℕ, ◌+◌, ◌-◌, Bool, true, false, not, cond, eqb, leb, ltb, ◌&&◌, List, filter, length, set, Option, None, is_some, refl, sym, ap, ◌∙◌, arith, count_by, range_contains, IsStrictlySortedBy, keys_of, Included, Excluded, nat_tests, filter_agree, length-filter_both, length-filter, lookup-filter-keys, AccountMaps, count_of, Recounts, Plan, volume_in, taken_on, has_segment, without_pages, without_stored, Store, records_of, key_is, flip_page, is_stored-without, once_without, count_without, Gauge, gauge_at, drained, Paged, Puts, is_key, page_at, Sheds, Held, HoldPages, Holds, by_both}
use Rattle.laws.proofs.Numbers.{and_both}
use Rattle.flat_store.proofs.DropLaws.{inside_without}
use Rattle.flat_store.proofs.ExtractLaws.{length_passing}
use Rattle.flat_store.proofs.GaugeLaws.{counts_less, gauge}
use Rattle.flat_store.proofs.OrderLaws.{in_range, keys_once, keys_stored}
use Rattle.flat_store.proofs.PassLaws.{count_less, few, one_there, same_count}

-- ---- the pages of a segment from one on and below an end

abbrev pub between : ℕ → ℕ → ℕ → Bool
between from end q = leb from q && ltb q end

abbrev of : ℕ → ℕ → ℕ → ℕ × ℕ → Bool
of u from end k = eqb k.0 u && between from end k.1

module _ (u from end : ℕ) (old new : Paged)
    (left : new ≡ filter (λ e. not (range_contains by_both (Included (u, from)) (Excluded (u, end)) e.0)) old) where
  left_of : new ≡ filter (λ e. not (of u from end e.0)) old
  left_of = left ∙ filter_agree (λ e. not (range_contains by_both (Included (u, from)) (Excluded (u, end)) e.0))
      (λ e. not (of u from end e.0)) (λ e. ap not (in_range u from end e.0)) old

  at : (v q : ℕ) → page_at new v q ≡ cond (eqb v u && between from end q) None (page_at old v q)
  at v q = ap (λ es. page_at es v q) left_of
      ∙ lookup-filter-keys (is_key v q) (λ k. not (of u from end k)) (not (eqb v u && between from end q))
      (λ k is. let same = and_both v q k.0 k.1 (sym (key_is v q k.0 k.1) ∙ is) in rw (same.0, same.1) refl) old
      ∙ turned (eqb v u && between from end q) (page_at old v q)
    where
      turned : (z : Bool) (o : Option (List ℕ)) → cond (not z) o None ≡ cond z None o
      turned true o = refl
      turned false o = refl

  -- how many are gone, by the lengths
  pub gone : length new + count_by (of u from end) (keys_of old) ≡ length old
  gone =
      let parts = length-filter_both (λ e. of u from end e.0) (λ e. not (of u from end e.0)) (λ e. refl) old in
      let some = length_passing (of u from end) old ∙ length-filter (of u from end) (keys_of old) in
      rw left_of (omega (arith, parts, some))

  pub sheds : IsStrictlySortedBy by_both (keys_of old) → (n : ℕ) → n ≡ length old - length new
      → Sheds old new u (between from end) n
  sheds sorted n is = record {
    at = at;
    counted = λ stored once there.
        let same = same_count (of u from end) (keys_of old) stored (keys_once (keys_of old) sorted) once
        (λ v q. keys_stored old v q ∙ sym (there v q)) in
        omega (arith, is, same, gone);
  }

  -- no more than there are numbers
  pub gone_few : IsStrictlySortedBy by_both (keys_of old) → length old - length new ≤ end
  gone_few sorted = let most = few u from end (keys_of old) sorted in omega (arith, most, gone)

-- one page that was there
pub page_sheds : {old new : Paged} {u q : ℕ} → Puts old new u q None → is_some (page_at old u q) ≡ true
    → Sheds old new u (λ r. eqb r q) 1
page_sheds {old} {new} {u} {q} put there = record {
  at = λ v r. put.at v r ∙ ap (λ z. cond z None (page_at old v r)) (flip_page u q v r);
  counted = λ stored once are.
      let all = count_less (λ v. true) stored u (λ r. eqb r q) in
      let own = count_without (λ x. true) stored u q once (are u q ∙ there) in
      omega (arith, all, own);
}

-- ---- the holdings once they are gone

module _ {p : Plan} {s : Store} {h : Held} {new : Paged} {u n : ℕ} {t : ℕ → Bool} (holds : Holds p h s)
    (shed : Sheds h.pages new u t n) where
  pages_shed : HoldPages new (without_pages s u t).words (without_stored s.stored u t)
  pages_shed = grind (arith, nat_tests, common_steps, is_stored-without, once_without s.stored u t holds.pages.once)

  -- so many less for each that counts those of the segment
  less : (c : ℕ → Bool) → count_by (λ x. c x.0) (without_stored s.stored u t) + cond {A = ℕ} (c u) n 0
      ≡ count_by (λ x. c x.0) s.stored
  less c = rw (shed.counted s.stored holds.pages.once holds.pages.there) (count_less c s.stored u t)

  pub counted_most : n ≤ count_of h.accounts u
  counted_most = let those = less (λ v. eqb v u) in let all = holds.counts u in grind (arith, nat_tests)

  -- what the call that credits the account asks
  pub segment_shed : 0 < n → has_segment h.accounts.nodes u ≡ true
  segment_shed some =
      let found = one_there s.stored u t (rw (shed.counted s.stored holds.pages.once holds.pages.there) at some) in
      rw holds.nodes at (holds.inside u found.0 found.1).0

  -- the account and the gauge of the volume count so many less
  pub shed_shown : {accounts : AccountMaps} {records : List Gauge}
      → Recounts h.accounts accounts u (count_of h.accounts u - n) → (v : ℕ) → v ≡ volume_in h.accounts.nodes u
      → records ≡ set h.records v (drained n (gauge_at h.records v))
      → Holds p (record h { accounts = accounts; pages = new; records = records }) (without_pages s u t)
  unfolding taken_on
  shed_shown down v at drained_are = record {
    nodes = holds.nodes ∙ sym down.nodes;
    next = holds.next ∙ sym down.next;
    counts = λ w. down.counts w ∙ counted w;
    pages = pages_shed;
    inside = inside_without s.nodes s.stored u t holds.inside;
    flat = holds.flat;
    records = rw (drained_are, at, ← holds.nodes) (counts_less h.records (taken_on s.nodes s.stored)
        (taken_on s.nodes (without_stored s.stored u t)) (records_of p) n (volume_in s.nodes u) holds.records
        (λ w. less (λ x. eqb (volume_in s.nodes x) w)));
    entries = holds.entries;
  }
    where
      counted : (w : ℕ) → cond (eqb u w) (count_of h.accounts u - n) (count_of h.accounts w)
          ≡ count_by (λ x. eqb x.0 w) (without_stored s.stored u t)
      counted w = let those = less (λ x. eqb x w) in let all = holds.counts w in grind (arith, nat_tests)

  -- where none was there, the pages alone are looked at
  pub none_shed : n ≡ 0 → Holds p (record h { pages = new }) (without_pages s u t)
  unfolding taken_on
  none_shed none = record {
    nodes = holds.nodes;
    next = holds.next;
    counts = λ v. holds.counts v ∙ kept (λ w. eqb w v);
    pages = pages_shed;
    inside = inside_without s.nodes s.stored u t holds.inside;
    flat = holds.flat;
    records = λ v. holds.records v ∙ ap (λ m. gauge m (records_of p v)) (kept (λ w. eqb (volume_in s.nodes w) v));
    entries = holds.entries;
  }
    where
      kept : (c : ℕ → Bool) → count_by (λ x. c x.0) s.stored ≡ count_by (λ x. c x.0) (without_stored s.stored u t)
      kept c = let those = less c in grind arith
