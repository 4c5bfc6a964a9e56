-- A node is added, with a home of its own.
use Rattle.storage_ops.proofs.Prelude.{◌≡◌, ◌≢◌, ℕ, ◌+◌, ◌≤◌, ◌/◌, Bool, true, false, cond, eqb, List, [], ◌∷◌, Option, Some, None, get_or, is_some, is_none, replicate, refl, sym, ap, ◌∙◌, arith, inl, inr, length, count_by, position, cases_eq, cases_lt, ne_eqb, get_or-replicate, get_or_past, sum_by-cons, position-Some, Who, Plan, AccountMaps, Gains, Node, entries_on, has_directory, node_in, is_stored, Store, taken_new, VtocEntry, entry_at, least_free_entry, record_at, records_in, no_records, ActiveSegs, uid_in_place, Home, Plain, bindings, binding_at, plain, map_at, uid_at, vtoc_in, one_more, used, is_binding, is_filed_at, words_at, words_of_page, words_held, Links, IsKept, AreCounted, AreHoused, IsStore, Shows, Storage, home_of, is_filed, is_there, named_at, pages_in, pages_of, picture, eqb_turned, and_false, and_both, eq-eqb, Vtoc_uid_of as uid_of, home_cases}

-- ---- words of pages that aren't stored

pub bound_of : (bound : List (Option (ℕ × ℕ))) (u q : ℕ) {f : ℕ} → position (is_binding u q) bound ≡ Some f
    → binding_at bound f ≡ Some (u, q)
bound_of bound u q {f} e = by (binding_at bound f) refl (let h = position-Some (is_binding u q) bound f None e in h.1)
  where
    by : (o : Option (ℕ × ℕ)) → binding_at bound f ≡ o → is_binding u q o ≡ true → o ≡ Some (u, q)
    by None e t = cc
    by (Some x) e t =
        let same = and_both x.0 x.1 u q t in λ i. Some (same.0 i, same.1 i)

-- a page that is in no frame and has no record is all zeros
pub words_none : (now : Plain) (u q : ℕ) (home : Home) → ((f : ℕ) → binding_at (bindings now.core) f ≢ Some (u, q))
    → is_filed_at now.vtocs home q ≡ false → words_at now u home q ≡ replicate 1024 0
unfolding words_of_page is_filed_at
words_none now u q home unbound off =
    by (position (is_binding u q) (bindings now.core)) refl (record_at (vtoc_in now.vtocs home.volume) home.entry q) off
  where
    by : (o : Option ℕ) → position (is_binding u q) (bindings now.core) ≡ o → (r : Option ℕ) → is_some r ≡ false
        → words_held now.frames (get_or now.disks home.volume []) r o ≡ replicate 1024 0
    by (Some f) e r none = absurd (unbound f (bound_of (bindings now.core) u q e))
    by None e None none = refl
    by None e (Some r) none = cc

-- what a segment isn't active has no page in a frame
pub unbound_inactive : {now : Plain} {ast : ActiveSegs} {links : Links} {u : ℕ} (q : ℕ) → IsKept now ast links
    → ((place : ℕ) → uid_in_place ast.entries place ≢ Some u) → (f : ℕ) → binding_at (bindings now.core) f ≢ Some (u, q)
unbound_inactive {u} q k inactive f e = (let at = k.paged.bound f u q e in inactive at.0 at.1)

-- ---- a free entry

free_entry : (o : Option VtocEntry) → is_none o ≡ true → (uid_of o ≡ None) × (records_in o ≡ no_records)
free_entry None e = (refl, refl)
free_entry (Some x) e = cc

pub was_free : (vtocs : List (List (Option VtocEntry))) (v : ℕ) {e : ℕ} → Some e ≡ least_free_entry (vtoc_in vtocs v)
    → (uid_at vtocs (record { volume = v; entry = e }) ≡ None) × (map_at vtocs
    (record { volume = v; entry = e }) ≡ no_records)
was_free vtocs v {e} least =
    free_entry (entry_at (vtoc_in vtocs v) e) (position-Some is_none (vtoc_in vtocs v) e None (sym least)).1

none_named : count_by is_some no_records ≡ 0
unfolding no_records
none_named = refl

none_filed : (q : ℕ) → is_some (get_or no_records q None) ≡ false
unfolding no_records
none_filed q = elim (cases_lt q 256) [
  | inl lt ↦ ap is_some (get_or-replicate 256 q None None lt)
  | inr past ↦ ap is_some (get_or_past (replicate 256 None) q None past)
]

pub filed_map : (vtocs : List (List (Option VtocEntry))) (home : Home) (q : ℕ)
    → is_filed_at vtocs home q ≡ is_some (get_or (map_at vtocs home) q None)
unfolding is_filed_at
filed_map vtocs home q = refl

-- no pair of a uid that is counted 0 times
pub none_counted : (xs : List (ℕ × ℕ)) (u q : ℕ) → count_by (λ x. eqb x.0 u) xs ≡ 0 → is_stored xs u q ≡ false
none_counted [] u q none = refl
none_counted (x ∷ xs) u q none = by (eqb x.0 u) refl
    (sym none ∙ sum_by-cons (λ (y : ℕ × ℕ). cond (eqb y.0 u) 1 0) x xs) (λ e. none_counted xs u q e)
  where
    by : (z : Bool) → eqb x.0 u ≡ z → 0 ≡ cond {A = ℕ} z 1 0 + count_by (λ y. eqb y.0 u) xs
        → (count_by (λ y. eqb y.0 u) xs ≡ 0 → is_stored xs u q ≡ false) → is_stored (x ∷ xs) u q ≡ false
    by true is e rest = absurd (omega arith)
    by false is e rest = rw is (rest (omega arith))

-- one more of the nodes on its volume
pub entries_more : (n : Node) (ns : List Node) (count : ℕ → ℕ) (v : ℕ) → count v ≡ entries_on ns v
    → one_more count n.volume v ≡ entries_on (n ∷ ns) v
unfolding one_more entries_on
entries_more n ns count v is = rw (eqb_turned v n.volume) (by (eqb n.volume v) is)
    ∙ sym (sum_by-cons (λ (x : Node). cond (eqb x.volume v) 1 0) n ns)
  where
    by : (z : Bool) {more all : ℕ} → more ≡ all → cond z (more + 1) more ≡ cond {A = ℕ} z 1 0 + all
    by true same = omega arith
    by false same = omega arith

-- ---- a node is added

-- A node more, which wasn't there before, has the least free entry of its volume for its home. All other homes are as
-- they were, and so are the file maps and the records in use.
pub record HasNewHome (a b : AccountMaps) (n : Node) (entry : ℕ) (old now : Plain) : Type 0 where
  pub gains : Gains a b n entry
  pub fresh : node_in a.nodes n.uid ≡ None
  pub home : uid_at now.vtocs (record { volume = n.volume; entry = entry }) ≡ Some n.uid
  pub least : Some entry ≡ least_free_entry (vtoc_in old.vtocs n.volume)
  pub uids : (other : Home) → other ≢ record { volume = n.volume; entry = entry }
      → uid_at now.vtocs other ≡ uid_at old.vtocs other
  pub maps : (other : Home) → map_at now.vtocs other ≡ map_at old.vtocs other
  pub flags : now.records ≡ old.records
  pub count : used now.vtocs ≡ one_more (used old.vtocs) n.volume

module _ {a b : AccountMaps} {n : Node} {entry : ℕ} {old now : Plain} (made : HasNewHome a b n entry old now) where
  abbrev new_home : Home
  new_home = record { volume = n.volume; entry = entry }

  -- the new home was free, and is used for the node now
  free_home : (uid_at old.vtocs new_home ≡ None) × (map_at old.vtocs new_home ≡ no_records)
  free_home = was_free old.vtocs n.volume made.least

  there_new : (u : ℕ) → u ≢ n.uid → is_there b.nodes u ≡ is_there a.nodes u
  there_new u ne = ap (λ (ns : List Node). is_there ns u) made.gains.nodes ∙ rw (ne_eqb n.uid u (λ e. ne (sym e))) refl

  own : eqb n.uid n.uid ≡ true
  own = eq-eqb n.uid n.uid refl

  there_own : is_there b.nodes n.uid ≡ true
  there_own = ap (λ (ns : List Node). is_there ns n.uid) made.gains.nodes ∙ rw own refl

  node_new : (u : ℕ) → u ≢ n.uid → node_in b.nodes u ≡ node_in a.nodes u
  node_new u ne = ap (λ (ns : List Node). node_in ns u) made.gains.nodes ∙ rw (ne_eqb n.uid u (λ e. ne (sym e))) refl

  home_new : (u : ℕ) → u ≢ n.uid → home_of b u ≡ home_of a u
  home_new u ne = rw (made.gains.nodes, made.gains.entries, ne_eqb n.uid u (λ e. ne (sym e))) refl

  home_own : home_of b n.uid ≡ new_home
  home_own = rw (made.gains.nodes, made.gains.entries, own) refl

  apart : (u : ℕ) → AreHoused a old.vtocs → is_there a.nodes u ≡ true → home_of a u ≢ new_home
  apart u h t same = cc (free_home.0, ap (uid_at old.vtocs) same, h.homes u t)

  not_own : (u : ℕ) → is_there a.nodes u ≡ true → u ≢ n.uid
  not_own u t is = cc made.fresh

  pub housed_new : AreHoused a old.vtocs → AreHoused b now.vtocs
  housed_new h = record {
    homes = λ u t. elim (cases_eq u n.uid) [
      | inl is ↦ ap (uid_at now.vtocs) (cc (is, home_own)) ∙ made.home ∙ ap (λ (x : ℕ). Some x) (sym is)
      | inr ne ↦ (let was = sym (there_new u ne) ∙ t in
          cc (home_new u ne, made.uids (home_of a u) (apart u h was), h.homes u was))
    ];
    there = λ home u e. elim (home_cases home new_home) [
      | inl is ↦ (let same : n.uid ≡ u = cc (ap (uid_at now.vtocs) is) in cc (same, there_own))
      | inr ne ↦ (let was = h.there home u (sym (made.uids home ne) ∙ e) in there_new u (not_own u was) ∙ was)
    ];
    only = λ home u e. elim (home_cases home new_home) [
      | inl is ↦ (is ∙ sym home_own ∙ ap (home_of b) (cc (ap (uid_at now.vtocs) is)))
      | inr ne ↦ (let was = sym (made.uids home ne) ∙ e in h.only home u was
          ∙ sym (home_new u (not_own u (h.there home u was))))
    ];
  }

  filed_same : (home : Home) (q : ℕ) → is_filed_at now.vtocs home q ≡ is_filed_at old.vtocs home q
  filed_same home q = cc (filed_map now.vtocs home q, made.maps home, filed_map old.vtocs home q)

  filed_own : (q : ℕ) → is_filed_at now.vtocs (home_of b n.uid) q ≡ false
  filed_own q = rw home_own (cc (filed_same new_home q, filed_map old.vtocs new_home q, free_home.1, none_filed q))

  pages_own : pages_in b.nodes n.uid ≡ n.pages
  pages_own = rw (made.gains.nodes, own) refl

  pages_new : (u : ℕ) → u ≢ n.uid → pages_in b.nodes u ≡ pages_in a.nodes u
  pages_new u ne = ap pages_of (node_new u ne)

  kind_new : (u : ℕ) → u ≢ n.uid → has_directory b.nodes u ≡ has_directory a.nodes u
  kind_new u ne = ap (λ (ns : List Node). has_directory ns u) made.gains.nodes
      ∙ rw (ne_eqb n.uid u (λ e. ne (sym e))) refl

  kind_own : has_directory b.nodes n.uid ≡ n.directory
  kind_own = rw (made.gains.nodes, own) refl

  pub counted_new : n.pages ≤ 256 → (n.directory ≡ true → n.pages ≡ 0) → AreCounted a old.vtocs → AreCounted b now.vtocs
  counted_new most flat h = record {
    counts = λ u t. elim (cases_eq u n.uid) [
      | inl is ↦ ap (named_at now.vtocs) (cc (is, home_own)) ∙ ap (count_by is_some) (made.maps new_home ∙ free_home.1)
          ∙ none_named ∙ sym (cc (made.gains.counts u, h.absent n.uid (ap is_some made.fresh)))
      | inr ne ↦ ap (named_at now.vtocs) (home_new u ne) ∙ ap (count_by is_some) (made.maps (home_of a u))
          ∙ h.counts u (sym (there_new u ne) ∙ t) ∙ sym (made.gains.counts u)
    ];
    inside = λ u q t on. elim (cases_eq u n.uid) [
      | inl is ↦ cc (filed_own q, ap (λ (x : ℕ). is_filed_at now.vtocs (home_of b x) q) is)
      | inr ne ↦ rw (pages_new u ne)
          (h.inside u q (sym (there_new u ne) ∙ t) (cc (home_new u ne, filed_same (home_of a u) q)))
    ];
    absent = λ u off. elim (cases_eq u n.uid) [
      | inl is ↦ cc there_own
      | inr ne ↦ made.gains.counts u ∙ h.absent u (sym (there_new u ne) ∙ off)
    ];
    most = λ u. elim (cases_eq u n.uid) [
      | inl is ↦ rw (is, pages_own) most
      | inr ne ↦ rw (pages_new u ne) (h.most u)
    ];
    flat = λ u d. elim (cases_eq u n.uid) [
      | inl is ↦ ap (pages_in b.nodes) is ∙ pages_own ∙ flat (sym kind_own ∙ ap (has_directory b.nodes) (sym is) ∙ d)
      | inr ne ↦ pages_new u ne ∙ h.flat u (sym (kind_new u ne) ∙ d)
    ];
  }

  pub filed_new : (u q : ℕ) → is_filed b now.vtocs u q ≡ is_filed a old.vtocs u q
  unfolding is_filed
  filed_new u q = elim (cases_eq u n.uid) [
    | inl is ↦ rw (is, filed_own q, and_false (is_there b.nodes n.uid), ap is_some made.fresh) refl
    | inr ne ↦ cc (there_new u ne, home_new u ne, filed_same (home_of a u) q)
  ]

  pub picture_new : (image : ℕ → Home → ℕ → List ℕ) → ((q : ℕ) → image n.uid new_home q ≡ replicate 1024 0)
      → (u q : ℕ) → picture b image u q ≡ picture a image u q
  unfolding picture
  picture_new image zeros u q = grind (arith, there_own, home_own, there_new, home_new)

  -- ---- the whole

  pub store_new : {ast : ActiveSegs} {links : Links} {whos : List Who} → n.pages ≤ 256
      → (n.directory ≡ true → n.pages ≡ 0)
      → IsStore old ast links a whos → IsStore now ast links b whos
  store_new {ast} {links} most flat h = record {
    housed = housed_new h.housed;
    counted = counted_new most flat h.counted;
    taken = record {
      records = λ stored v counts. cc (
        h.taken.records stored v (λ u. sym (made.gains.counts u) ∙ counts u),
        taken_new n a.nodes stored v (λ q. none_counted stored n.uid q (sym (counts n.uid) ∙ made.gains.counts n.uid
            ∙ h.counted.absent n.uid (ap is_some made.fresh))),
      );
      entries = λ v. ap (λ (f : ℕ → ℕ). f v) made.count
          ∙ rw made.gains.nodes (entries_more n a.nodes (used old.vtocs) v (h.taken.entries v));
      short = rw made.flags h.taken.short;
    };
    active = record {
      there = λ place u e. (let was = h.active.there place u e in there_new u (not_own u was) ∙ was);
      superiors = λ place u m e found. h.active.superiors place u m e
          (sym (node_new u (not_own u (h.active.there place u e))) ∙ found);
      pools = λ place u m e found. h.active.pools place u m e
          (sym (node_new u (not_own u (h.active.there place u e))) ∙ found);
    };
    rights = record {
      modes = λ process number place pages u mode m d e found. h.rights.modes process number place pages u mode m d e
          (sym (node_new u (not_own u (h.active.there place u e))) ∙ found);
      lengths = λ process number place pages u mode m d e found. h.rights.lengths process number place pages u mode m
          d e (sym (node_new u (not_own u (h.active.there place u e))) ∙ found);
    };
    known = record {
      older = λ process number u e. (omega (arith, h.known.older process number u e));
      processes = h.known.processes;
    };
  }

-- the flat store has the node too
pub shown_new : {D : Type 0} {drive : D → List (List ℕ)} {p : Plan} {s : Store} {t u : Storage D} {n : Node} {entry : ℕ}
    → HasNewHome t.accounts u.accounts n entry (plain drive t.segs.pages) (plain drive u.segs.pages)
    → u.segs.links ≡ t.segs.links → u.whos ≡ t.whos
    → words_at (plain drive u.segs.pages) ≡ words_at (plain drive t.segs.pages) → ((v : ℕ)
    → length (vtoc_in u.segs.pages.volumes.vtocs v) ≡ length (vtoc_in t.segs.pages.volumes.vtocs v))
    → IsKept (plain drive t.segs.pages) t.segs.ast t.segs.links
    → ((place : ℕ) → uid_in_place t.segs.ast.entries place ≢ Some n.uid)
    → Shows drive p s t → Shows drive p (record s { nodes = n ∷ s.nodes; next = s.next + 1 }) u
shown_new {drive} {t} {u} {n} made links whos words sizes kept inactive h = record {
  tree = record {
    nodes = cc (h.tree.nodes, made.gains.nodes);
    next = cc (h.tree.next, made.gains.next);
    counts = λ v. made.gains.counts v ∙ h.tree.counts v;
  };
  known = rw links h.known;
  pages = record {
    stored = λ v q. h.pages.stored v q ∙ sym (filed_new made v q);
    once = h.pages.once;
    words = λ v o. cc (
      h.pages.words v o,
      words,
      picture_new made (words_at (plain drive u.segs.pages)) zeros v (o / 1024),
    );
  };
  script = record {
    records = λ v. cc (h.script.records v, made.flags);
    entries = λ v. cc (h.script.entries v, sizes v);
    whos = cc;
  };
}
  where
    old : Plain
    old = plain drive t.segs.pages

    zeros : (q : ℕ) → words_at (plain drive u.segs.pages) n.uid (new_home made) q ≡ replicate 1024 0
    zeros q = rw words (words_none old n.uid q (new_home made) (unbound_inactive q kept inactive)
        (cc (filed_map old.vtocs (new_home made) q, (free_home made).1, none_filed q)))
