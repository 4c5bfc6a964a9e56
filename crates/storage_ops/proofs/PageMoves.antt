-- A page of a segment is stored, or is stored no more.
use Rattle.storage_ops.proofs.Prelude.{◌≡◌, ◌≢◌, ℕ, ◌+◌, ◌-◌, ◌<◌, ◌≤◌, Bool, true, false, cond, eqb, List, [], ◌∷◌, length, Option, Some, None, get_or, is_some, refl, sym, ap, ◌∙◌, arith, inl, inr, count_by, cases_eq, eqb-true, ne_eqb, length-set, sum_by-cons, sum_by-set, Who, AccountMaps, Counts, Recounts, count_of, Node, taken_on, volume_in, VtocEntry, ActiveSegs, Home, Plain, KeepsCounts, entries, one_less, one_more, taken, is_filed_at, map_at, uid_at, Links, AreCounted, AreHoused, IsStore, home_of, is_there, named_at, pages_in, eqb_turned, eq-eqb, ◌/◌, ◌%◌, not, ◌&&◌, Plan, is_stored, Store, counted_less, is_stored-without, once_without, ChangesStored, words_at, plain, Shows, Storage, is_filed, picture, IsOnce, without_stored}
use Rattle.storage_ops.proofs.Dropped.{recount_here, recount_homes, recount_other, recount_there, same_sizes, same_used, HasDropped, same_entries}
use Rattle.storage_ops.proofs.Entries.{map_put, put_here, put_other, put_uid}
use Rattle.storage_ops.proofs.Homes.{filed_map}
use Rattle.storage_ops.proofs.PageFacts.{within_some}
use Rattle.storage_ops.proofs.Still.{tree_still}
use Rattle.storage_ops.proofs.Lengths.{filed_there}

-- ---- lists of stored pages, by their uids

abbrev pub weight : Bool → ℕ
weight b = cond b 1 0

abbrev pub pages_by : (ℕ → Bool) → List (ℕ × ℕ) → ℕ
pages_by test xs = count_by (λ x. test x.0) xs

-- some pages are these and one more of a segment
pub record IsOneMore (small large : List (ℕ × ℕ)) (uid : ℕ) : Type 0 where
  pub each : (test : ℕ → Bool) → pages_by test large ≡ weight (test uid) + pages_by test small

pub one_first : (x : ℕ × ℕ) {xs : List (ℕ × ℕ)} {uid : ℕ} → x.0 ≡ uid → IsOneMore xs (x ∷ xs) uid
one_first x {xs} is = record {
  each = λ test. cc (sum_by-cons (λ (y : ℕ × ℕ). weight (test y.0)) x xs, is);
}

-- one of a segment is left out
pub one_out : {xs : List (ℕ × ℕ)} {uid : ℕ} → 1 ≤ pages_by (λ n. eqb n uid) xs
    → (ys : List (ℕ × ℕ)) × IsOneMore ys xs uid
one_out {xs = []} some = absurd (omega arith)
one_out {xs = x ∷ xs} {uid} some = by (eqb x.0 uid) refl (λ rest. one_out rest)
  where
    first : pages_by (λ n. eqb n uid) (x ∷ xs) ≡ weight (eqb x.0 uid) + pages_by (λ n. eqb n uid) xs
    first = sum_by-cons (λ (y : ℕ × ℕ). weight (eqb y.0 uid)) x xs

    by : (z : Bool) → eqb x.0 uid ≡ z → (1 ≤ pages_by (λ n. eqb n uid) xs → (ys : List (ℕ × ℕ)) × IsOneMore ys xs uid)
        → (ys : List (ℕ × ℕ)) × IsOneMore ys (x ∷ xs) uid
    by true is ih = (xs, one_first x (eqb-true x.0 uid is))
    by false is ih =
        let none = ap weight is in
        let sum = first in
        let out = ih (omega arith) in (
          x ∷ out.0,
          record {
            each = λ test. (
                let here = sum_by-cons (λ (y : ℕ × ℕ). weight (test y.0)) x xs in
                let left = sum_by-cons (λ (y : ℕ × ℕ). weight (test y.0)) x out.0 in
                omega (arith, out.1.each test));
          },
        )

-- ---- a file map names a record more, or one less

module _ (vtocs : List (List (Option VtocEntry))) (home : Home) {u : ℕ} (used_for : uid_at vtocs home ≡ Some u)
    (p : ℕ) (place : Option ℕ) where
  recounted : p < length (map_at vtocs home)
      → named_at (map_put vtocs home p place) home + weight (is_some (get_or (map_at vtocs home) p None))
      ≡ named_at vtocs home + weight (is_some place)
  recounted lt = rw (put_here vtocs home p place used_for)
      (sum_by-set (λ (o : Option ℕ). weight (is_some o)) (map_at vtocs home) p place None lt)

-- a page was filed, and is no more
pub named_less : (vtocs : List (List (Option VtocEntry))) (home : Home) {u : ℕ} (p : ℕ) → uid_at vtocs home ≡ Some u
    → is_filed_at vtocs home p ≡ true → named_at (map_put vtocs home p None) home + 1 ≡ named_at vtocs home
named_less vtocs home {u} p used_for on =
    let filed = sym (filed_map vtocs home p) ∙ on in
    omega (arith, (recounted vtocs home used_for p None (within_some (map_at vtocs home) p filed)), ap weight filed)

-- a page wasn't filed, and is now
pub named_more : (vtocs : List (List (Option VtocEntry))) (home : Home) {u : ℕ} (p r : ℕ) → uid_at vtocs home ≡ Some u
    → is_filed_at vtocs home p ≡ false → is_filed_at (map_put vtocs home p (Some r)) home p ≡ true
    → named_at (map_put vtocs home p (Some r)) home ≡ named_at vtocs home + 1
named_more vtocs home {u} p r used_for off on =
    let lt = within_some (map_at (map_put vtocs home p (Some r)) home) p (sym
    (filed_map (map_put vtocs home p (Some r)) home p) ∙ on) in
    let long = ap length (put_here vtocs home p (Some r) used_for) ∙ length-set (map_at vtocs home) p (Some r) in
    let sum = recounted vtocs home used_for p (Some r) (omega arith) in
    omega (arith, ap weight (sym (filed_map vtocs home p) ∙ off))

-- ---- the records in use, by the accounts before and after

-- the stored pages that the accounts count on a volume, with one of a segment there and without it
taken_one : (ns : List Node) {small large : List (ℕ × ℕ)} {uid : ℕ} (v : ℕ) → IsOneMore small large uid
    → taken_on ns large v ≡ weight (eqb (volume_in ns uid) v) + taken_on ns small v
unfolding taken_on
taken_one ns v more = more.each (λ n. eqb (volume_in ns n) v)

more_taken : (count : ℕ → ℕ) (volume v : ℕ) {n : ℕ} → n ≡ weight (eqb v volume) + count v → one_more count volume v ≡ n
unfolding one_more
more_taken count volume v {n} = grind arith

less_taken : (count : ℕ → ℕ) (volume v : ℕ) {n : ℕ} → count v ≡ weight (eqb v volume) + n → one_less count volume v ≡ n
unfolding one_less
less_taken count volume v {n} = grind arith

module _ {a b : AccountMaps} {uid : ℕ} (old now : List (List Bool)) where
  -- a page more
  pub records_more : Recounts a b uid (count_of a uid + 1) → taken now ≡ one_more (taken old) (volume_in a.nodes uid)
      → ((stored : List (ℕ × ℕ)) (v : ℕ) → Counts a stored → taken old v ≡ taken_on a.nodes stored v)
      → (stored : List (ℕ × ℕ)) (v : ℕ) → Counts b stored → taken now v ≡ taken_on b.nodes stored v
  records_more change counted was stored v counts =
      let here = recount_here change in
      let all = counts uid in
      let out = one_out (omega arith) in
      let rest : taken old v ≡ taken_on a.nodes out.0 v = was out.0 v (λ u. before u (pages_by (λ n. eqb n u) out.0)
      change (counts u ∙ out.1.each (λ n. eqb n u))) in
      ap (λ (f : ℕ → ℕ). f v) counted ∙ rw change.nodes (more_taken (taken old) (volume_in a.nodes uid) v
      (rw (eqb_turned v (volume_in a.nodes uid), rest) (taken_one a.nodes v out.1)))
    where
      before : (u n : ℕ) → Recounts a b uid (count_of a uid + 1) → count_of b u ≡ weight (eqb uid u) + n
          → count_of a u ≡ n
      before u n change e = elim (cases_eq u uid) [
        | inl is ↦ (let here = recount_here change in
            let all = rw (is, eq-eqb uid uid refl) at e in rw is (omega arith))
        | inr ne ↦ (let none = ap weight (ne_eqb uid u (λ x. ne (sym x))) in
            omega (arith, recount_other change u ne))
      ]

  -- a page less
  pub records_less : Recounts a b uid (count_of a uid - 1) → 1 ≤ count_of a uid
      → taken now ≡ one_less (taken old) (volume_in a.nodes uid)
      → ((stored : List (ℕ × ℕ)) (v : ℕ) → Counts a stored → taken old v ≡ taken_on a.nodes stored v)
      → (stored : List (ℕ × ℕ)) (v : ℕ) → Counts b stored → taken now v ≡ taken_on b.nodes stored v
  records_less change some counted was stored v counts =
      let one = one_first (uid, 0) refl in
      let large : taken old v ≡ taken_on a.nodes ((uid, 0) ∷ stored) v = was ((uid, 0) ∷ stored) v
      (λ u. after u change (counts u) ∙ sym (one.each (λ n. eqb n u))) in
      ap (λ (f : ℕ → ℕ). f v) counted ∙ rw change.nodes (less_taken (taken old) (volume_in a.nodes uid) v
      (rw (eqb_turned v (volume_in a.nodes uid)) (large ∙ taken_one a.nodes v one)))
    where
      after : (u : ℕ) → Recounts a b uid (count_of a uid - 1) → count_of b u ≡ pages_by (λ n. eqb n u) stored
          → count_of a u ≡ weight (eqb uid u) + pages_by (λ n. eqb n u) stored
      after u change e = elim (cases_eq u uid) [
        | inl is ↦ (let here = recount_here change in
            let all = rw is at e in rw (is, eq-eqb uid uid refl) (omega arith))
        | inr ne ↦ (let none = ap weight (ne_eqb uid u (λ x. ne (sym x))) in
            omega (arith, recount_other change u ne))
      ]

-- ---- the whole

-- the file map of one segment has changed, and its count with it
module _ (old now : Plain) {a b : AccountMaps} {uid count : ℕ} (change : Recounts a b uid count)
    (there : is_there a.nodes uid ≡ true) (uids : (other : Home) → uid_at now.vtocs other ≡ uid_at old.vtocs other)
    (maps : (other : Home) → other ≢ home_of a uid → map_at now.vtocs other ≡ map_at old.vtocs other)
    (housed : AreHoused a old.vtocs) where
  pub housed_recounted : AreHoused b now.vtocs
  housed_recounted = record {
    homes = λ u t. cc (recount_homes change u, uids (home_of a u), housed.homes u (sym (recount_there change u) ∙ t));
    there = λ home u e. recount_there change u ∙ housed.there home u (sym (uids home) ∙ e);
    only = λ home u e. housed.only home u (sym (uids home) ∙ e) ∙ sym (recount_homes change u);
  }

  -- another node has another home
  pub other_home : (u : ℕ) → is_there a.nodes u ≡ true → u ≢ uid → home_of a u ≢ home_of a uid
  other_home u t ne same = ne (cc (housed.homes u t, housed.homes uid there))

  filed_other : (u q : ℕ) → is_there a.nodes u ≡ true → u ≢ uid
      → is_filed_at now.vtocs (home_of a u) q ≡ is_filed_at old.vtocs (home_of a u) q
  filed_other u q t ne = cc (
    filed_map now.vtocs (home_of a u) q,
    maps (home_of a u) (other_home u t ne),
    filed_map old.vtocs (home_of a u) q,
  )

  pub counted_recounted : named_at now.vtocs (home_of a uid) ≡ count
      → ((q : ℕ) → is_filed_at now.vtocs (home_of a uid) q ≡ true → q < pages_in a.nodes uid)
      → AreCounted a old.vtocs → AreCounted b now.vtocs
  counted_recounted named inside h = record {
    counts = λ u t. elim (cases_eq u uid) [
      | inl is ↦ rw (is, recount_here change) (cc (recount_homes change uid))
      | inr ne ↦ (let was = sym (recount_there change u) ∙ t in
          cc (
            recount_homes change u,
            maps (home_of a u) (other_home u was ne),
            h.counts u was,
            recount_other change u ne,
          ))
    ];
    inside = λ u q t on. (
        let was = sym (recount_there change u) ∙ t in
        let filed = rw (recount_homes change u) at on in
        rw change.nodes (elim (cases_eq u uid) [
          | inl is ↦ rw is (inside q (rw is at filed))
          | inr ne ↦ h.inside u q was (sym (filed_other u q was ne) ∙ filed)
        ]));
    absent = λ u off. elim (cases_eq u uid) [
      | inl is ↦ cc (there, recount_there change u)
      | inr ne ↦ recount_other change u ne ∙ h.absent u (sym (recount_there change u) ∙ off)
    ];
    most = rw change.nodes h.most;
    flat = rw change.nodes h.flat;
  }

  pub store_recounted : {ast next : ActiveSegs} {links : Links} {whos : List Who}
      → next.entries ≡ ast.entries → next.sizes ≡ ast.sizes → KeepsCounts old now
      → named_at now.vtocs (home_of a uid) ≡ count
      → ((q : ℕ) → is_filed_at now.vtocs (home_of a uid) q ≡ true → q < pages_in a.nodes uid)
      → ((stored : List (ℕ × ℕ)) (v : ℕ) → Counts b stored → taken now.records v ≡ taken_on b.nodes stored v)
      → IsStore old ast links a whos → IsStore now next links b whos
  store_recounted {ast} {next} entries sizes keeps named inside records h = record {
    housed = housed_recounted;
    counted = counted_recounted named inside h.counted;
    taken = record {
      records = records;
      entries = λ v. rw change.nodes (same_used v keeps ∙ h.taken.entries v);
      short = λ v. rw (same_sizes v keeps) (h.taken.short v);
    };
    active = rw change.nodes (tree_still entries sizes h.active);
    rights = rw (change.nodes, entries) h.rights;
    known = rw change.next h.known;
  }

-- a page is stored no more
pub store_dropped : {old now : Plain} {ast next : ActiveSegs} {links : Links} {a b : AccountMaps} {whos : List Who}
    {u q : ℕ} → HasDropped old now a b u q → 1 ≤ count_of a u
    → taken now.records ≡ one_less (taken old.records) (home_of a u).volume → next.entries ≡ ast.entries
    → next.sizes ≡ ast.sizes → IsStore old ast links a whos → IsStore now next links b whos
store_dropped {old} {now} {a} {b} {u} {q} d some less entries sizes h =
    let own = h.housed.homes u d.there in
    let on = sym (filed_there a old.vtocs u q d.there) ∙ d.filed in
    let named : named_at now.vtocs (home_of a u) + 1 ≡ named_at old.vtocs (home_of a u)
    = rw d.vtocs (named_less old.vtocs (home_of a u) q own on) in
    store_recounted old now d.accounts d.there (λ other. cc (d.vtocs, put_uid old.vtocs (home_of a u) q None own other))
    (λ other ne. cc (d.vtocs, put_other old.vtocs (home_of a u) q None own other ne)) h.housed entries sizes d.counts
    (omega (arith, h.counted.counts u d.there)) (λ r filed. elim (cases_eq r q) [
      | inl same ↦ cc d.stored.here
      | inr ne ↦ h.counted.inside u r d.there (sym (d.stored.others (home_of a u) r (λ s at. ne at)) ∙ filed)
    ]) (records_less old.records now.records d.accounts some less h.taken.records) h

-- ---- what is shown

-- what is filed, where one page is or isn't from now on
pub filed_changed : {a : AccountMaps} {old now : Plain} (uid : ℕ) {p : ℕ} {flag : Bool} → AreHoused a old.vtocs
    → is_there a.nodes uid ≡ true → ChangesStored old now (home_of a uid) p flag
    → (v q : ℕ) → is_filed a now.vtocs v q ≡ cond (eqb v uid && eqb q p) flag (is_filed a old.vtocs v q)
unfolding is_filed
filed_changed {a} {old} {now} uid {p} {flag} housed there change v q = by (is_there a.nodes v) refl
  where
    apart : is_there a.nodes v ≡ true → v ≢ uid → home_of a v ≢ home_of a uid
    apart t ne same = ne (cc (housed.homes v t, housed.homes uid there))

    by : (z : Bool) → is_there a.nodes v ≡ z → (z && is_filed_at now.vtocs (home_of a v) q)
        ≡ cond (eqb v uid && eqb q p) flag (z && is_filed_at old.vtocs (home_of a v) q)
    by false t = rw (ne_eqb v uid (λ e. cc there)) refl
    by true t = elim (cases_eq v uid) [
      | inr ne ↦ rw (ne_eqb v uid ne) (change.others (home_of a v) q (λ same page. apart t ne same))
      | inl is ↦ elim (cases_eq q p) [
        | inr ne ↦ rw (eq-eqb v uid is, ne_eqb q p ne) (change.others (home_of a v) q (λ same page. ne page))
        | inl same ↦ rw (is, same, eq-eqb uid uid refl, eq-eqb p p refl) change.here
      ]
    ]

-- nodes and homes are as before
pub filed_recounted : {a b : AccountMaps} {uid count : ℕ} → Recounts a b uid count
    → (vtocs : List (List (Option VtocEntry))) (u q : ℕ) → is_filed b vtocs u q ≡ is_filed a vtocs u q
unfolding is_filed
filed_recounted {a} {b} {uid} {count} change vtocs u q = cc (recount_there change u, recount_homes change u)

pub picture_recounted : {a b : AccountMaps} {uid count : ℕ} → Recounts a b uid count
    → (image : ℕ → Home → ℕ → List ℕ) (u q : ℕ) → picture b image u q ≡ picture a image u q
unfolding picture
picture_recounted {a} {b} {uid} {count} change image u q = cc (recount_there change u, recount_homes change u)

-- the stored pages and the words of one segment are others, and its account counts otherwise
pub shown_recounted : {D : Type 0} {drive : D → List (List ℕ)} {p : Plan} {s : Store} {t u : Storage D} {uid n : ℕ}
    {stored : List (ℕ × ℕ)} {words : ℕ → ℕ → ℕ} → Recounts t.accounts u.accounts uid n → u.whos ≡ t.whos
    → u.segs.links.known ≡ t.segs.links.known → KeepsCounts (plain drive t.segs.pages) (plain drive u.segs.pages)
    → Counts u.accounts stored → IsOnce stored
    → ((v q : ℕ) → is_stored stored v q ≡ is_filed t.accounts u.segs.pages.volumes.vtocs v q)
    → ((v o : ℕ) → words v o
    ≡ get_or (picture t.accounts (words_at (plain drive u.segs.pages)) v (o / 1024)) (o % 1024) 0)
    → Shows drive p s t → Shows drive p (record s { words = words; stored = stored }) u
shown_recounted {drive} {t} {u} change whos known keeps counts once filed words h = record {
  tree = assumption (h.tree.nodes ∙ sym change.nodes, h.tree.next ∙ sym change.next, counts);
  known = cc;
  pages = record {
    stored = λ v q. filed v q ∙ sym (filed_recounted change u.segs.pages.volumes.vtocs v q);
    once = once;
    words = λ v o. cc (words v o, picture_recounted change (words_at (plain drive u.segs.pages)) v (o / 1024));
  };
  script = record {
    records = λ v. h.script.records v ∙ sym (same_sizes v keeps);
    entries = λ v. h.script.entries v
        ∙ sym (same_entries (plain drive t.segs.pages) (plain drive u.segs.pages) v keeps);
    whos = cc;
  };
}

-- a page is stored no more
pub shown_dropped : {D : Type 0} {drive : D → List (List ℕ)} {p : Plan} {s : Store} {t n : Storage D} {u q : ℕ}
    {words : ℕ → ℕ → ℕ} → HasDropped (plain drive t.segs.pages) (plain drive n.segs.pages) t.accounts n.accounts u q
    → AreHoused t.accounts t.segs.pages.volumes.vtocs → n.segs.links.known ≡ t.segs.links.known → n.whos ≡ t.whos
    → ((v o : ℕ) → words v o
    ≡ get_or (picture t.accounts (words_at (plain drive n.segs.pages)) v (o / 1024)) (o % 1024) 0)
    → Shows drive p s t
    → Shows drive p (record s { words = words; stored = without_stored s.stored u (λ r. eqb r q) }) n
shown_dropped {s} {t} {n} {u} {q} d housed known whos words h =
    shown_recounted d.accounts whos known d.counts (counted_less (count_of t.accounts) (count_of n.accounts) s.stored u
    q h.tree.counts h.pages.once (h.pages.stored u q ∙ d.filed) d.accounts.counts)
    (once_without s.stored u (λ r. eqb r q) h.pages.once) (λ v r. cc (
      is_stored-without s.stored u (λ x. eqb x q) v r,
      h.pages.stored v r,
      not_or (eqb v u && eqb r q) (is_filed t.accounts t.segs.pages.volumes.vtocs v r),
      filed_changed u housed d.there d.stored v r,
    )) words h
  where
    not_or : (x y : Bool) → (not x && y) ≡ cond x false y
    not_or true y = refl
    not_or false y = refl
