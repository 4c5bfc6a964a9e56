-- A node is taken out, with its home and its pages.
use Rattle.storage_ops.proofs.Prelude.{◌≡◌, ◌≢◌, ℕ, ◌+◌, ◌/◌, ◌%◌, Bool, true, false, cond, eqb, not, ◌&&◌, List, [], ◌∷◌, get_or, length, set, Option, Some, None, refl, sym, ap, All, subst, ◌∙◌, arith, inl, inr, count_by, nat_le, list_any, cases_Bool, cases_eq, eq-eqb, eqb-true, ne_eqb, nat_tests, get_or-set_other, length-set, sum_by-cons, get_or-map, Who, Plan, AccountMaps, Loses, Recounts, count_of, Node, is_inferior, node_in, taken_on, without_node, IsTree, without_branch, without_pages, Words, is_stored, without_stored, Store, stored_fused, volume_found, is_stored-without, once_without, without_first, without_none, directory_left, node_gone, taken_left, volume_left, entries_less, Core, frame_at, started_page, Free, Null, leads_to, trailers_of, Entry, ActiveSegs, HasNoInferior, IsAway, IsOneToOne, entry_in_place, superior_in, table_at, uid_in_place, uid_in, Home, entries, named_on, one_less, size, taken, used, words_at, erased, freed, Plain, file_map_of, flags_of, plain, IsNotStarted, map_at, uid_at, Links, leads_at, place_of, word_of, AreExact, IsInactive, IsNotRead, times, AreCounted, AreHoused, AreInTree, AreTaken, IsCut, IsStore, Shows, Storage, home_of, is_filed, is_there, pages_in, pages_of, picture, node_without, all_same, get_or_any, counts_none, from_first, none_put, or_true, and-true, started_from}
use Rattle.storage_ops.proofs.Dropped.{counts_more, recount_here, recount_homes, recount_other, taken_more, with_more}
use Rattle.storage_ops.proofs.Homes.{filed_map, none_counted}
use Rattle.storage_ops.proofs.Known.{size_set}
use Rattle.storage_ops.proofs.Lengths.{filed_there}
use Rattle.storage_ops.proofs.Made.{length_inside}
use Rattle.storage_ops.proofs.NodeLaws.{found_there}
use Rattle.storage_ops.proofs.Paged.{active_place, filed_absent, picture_absent, picture_there}

-- a node is taken out whose pages are counted no more and whose home is free
pub record HasRemoved (old now : Plain) (a mid b : AccountMaps) (u : ℕ) : Type 0 where
  pub there : is_there a.nodes u ≡ true
  pub counted : Recounts a mid u 0
  pub loses : Loses mid b u
  pub free : uid_at now.vtocs (home_of a u) ≡ None
  pub uids : (other : Home) → other ≢ home_of a u → uid_at now.vtocs other ≡ uid_at old.vtocs other
  pub maps : (other : Home) → other ≢ home_of a u → map_at now.vtocs other ≡ map_at old.vtocs other
  pub words : (v : ℕ) (other : Home) (q : ℕ) → other ≢ home_of a u → words_at now v other q ≡ words_at old v other q
  pub used_less : used now.vtocs ≡ one_less (used old.vtocs) (home_of a u).volume
  pub taken_less : (v : ℕ) → taken now.records v + named_on old.vtocs (home_of a u) v ≡ taken old.records v
  pub sizes : (v : ℕ) → size now.records v ≡ size old.records v
  pub places : (v : ℕ) → entries now.vtocs v ≡ entries old.vtocs v

module _ {old now : Plain} {a mid b : AccountMaps} {u : ℕ} (d : HasRemoved old now a mid b u)
    (housed : AreHoused a old.vtocs) where
  nodes_left : b.nodes ≡ without_node a.nodes u
  nodes_left = cc

  there_left : (v : ℕ) → v ≢ u → is_there b.nodes v ≡ is_there a.nodes v
  there_left v ne = cc (node_without a.nodes u v ne)

  there_gone : is_there b.nodes u ≡ false
  there_gone = cc (node_gone a.nodes u)

  found_left : (v : ℕ) → v ≢ u → node_in b.nodes v ≡ node_in a.nodes v
  found_left v ne = cc (node_without a.nodes u v ne)

  pages_left : (v : ℕ) → v ≢ u → pages_in b.nodes v ≡ pages_in a.nodes v
  pages_left v ne = ap pages_of (found_left v ne)

  home_left : (v : ℕ) → v ≢ u → home_of b v ≡ home_of a v
  home_left v ne = cc (nodes_left, volume_left a.nodes u v ne, d.loses.entries v ne, recount_homes d.counted v)

  own : uid_at old.vtocs (home_of a u) ≡ Some u
  own = housed.homes u d.there

  apart : (v : ℕ) → v ≢ u → is_there a.nodes v ≡ true → home_of a v ≢ home_of a u
  apart v ne t same = ne (cc (housed.homes v t, own))

  other_home : (home : Home) (v : ℕ) → uid_at now.vtocs home ≡ Some v → home ≢ home_of a u
  other_home home v e same = cc (d.free, ap (uid_at now.vtocs) same)

  other_uid : (home : Home) {v : ℕ} → uid_at now.vtocs home ≡ Some v → v ≢ u
  other_uid home {v} e same = other_home home v e (cc (housed.only home v
      (sym (d.uids home (other_home home v e)) ∙ e)))

  remaining : (v : ℕ) → is_there b.nodes v ≡ true → v ≢ u
  remaining v t same = cc there_gone

  removed_housed : AreHoused b now.vtocs
  removed_housed = record {
    homes = λ v t.
        let ne = remaining v t in
        let was = sym (there_left v ne) ∙ t in
        cc (home_left v ne, d.uids (home_of a v) (apart v ne was), housed.homes v was);
    there = λ home v e. there_left v (other_uid home e)
        ∙ housed.there home v (sym (d.uids home (other_home home v e)) ∙ e);
    only = λ home v e. housed.only home v (sym (d.uids home (other_home home v e)) ∙ e)
        ∙ sym (home_left v (other_uid home e));
  }

  counts_left : (v : ℕ) → v ≢ u → count_of b v ≡ count_of a v
  counts_left v ne = d.loses.counts v ∙ recount_other d.counted v ne

  counts_gone : count_of b u ≡ 0
  counts_gone = d.loses.counts u ∙ recount_here d.counted

  removed_counted : AreCounted a old.vtocs → AreCounted b now.vtocs
  removed_counted h = record {
    counts = λ v t.
        let ne = remaining v t in
        let was = sym (there_left v ne) ∙ t in
        cc (home_left v ne, d.maps (home_of a v) (apart v ne was), h.counts v was, counts_left v ne);
    inside = λ v q t on.
        let ne = remaining v t in
        let was = sym (there_left v ne) ∙ t in
        rw (pages_left v ne) (h.inside v q was (cc (
          filed_map old.vtocs (home_of a v) q,
          d.maps (home_of a v) (apart v ne was),
          filed_map now.vtocs (home_of a v) q,
          home_left v ne,
        )));
    absent = λ v off. elim (cases_eq v u) [
      | inl same ↦ ap (count_of b) same ∙ counts_gone
      | inr ne ↦ counts_left v ne ∙ h.absent v (sym (there_left v ne) ∙ off)
    ];
    most = λ v. elim (cases_eq v u) [
      | inl same ↦ omega (arith, ap (pages_in b.nodes) same, no_pages_left)
      | inr ne ↦ rw (pages_left v ne) (h.most v)
    ];
    flat = λ v is. elim (cases_eq v u) [
      | inl same ↦ ap (pages_in b.nodes) same ∙ no_pages_left
      | inr ne ↦ pages_left v ne ∙ h.flat v (cc (nodes_left, directory_left a.nodes u v ne))
    ];
  }
    where
      no_pages_left : pages_in b.nodes u ≡ 0
      no_pages_left = cc (node_gone a.nodes u)

  removed_taken : {n : Node} → IsTree a.nodes → node_in a.nodes u ≡ Some n → AreCounted a old.vtocs
      → AreTaken a old.records old.vtocs → AreTaken b now.records now.vtocs
  unfolding one_less named_on
  removed_taken {n} tree found counted h = record {
    records = λ stored v counts.
        let pages : ℕ = count_of a u in
        let all = h.records (with_more u pages stored) v (counts_more a b u pages stored counts more) in
        let sum = taken_more a.nodes u pages stored v in
        let less = d.taken_less v in
        let named = counted.counts u d.there in
        let same : taken_on b.nodes stored v ≡ taken_on a.nodes stored v = rw nodes_left
        (taken_left a.nodes stored u v (λ page. none_counted stored u page (sym (counts u) ∙ counts_gone))) in
        grind (arith, nat_tests);
    entries = λ v.
        let less = ap (λ (f : ℕ → ℕ). f v) d.used_less in
        let all = h.entries v in
        let rest = entries_less a.nodes u n tree found v in
        rw nodes_left (grind (arith, nat_tests, volume_found a.nodes u n found));
    short = λ v. rw (d.sizes v) (h.short v);
  }
    where
      more : (s : ℕ) → count_of a s ≡ cond {A = ℕ} (eqb u s) (count_of a u) 0 + count_of b s
      more s = elim (cases_eq s u) [
        | inr ne ↦ rw (ne_eqb u s (λ e. ne (sym e)), counts_left s ne) (omega arith)
        | inl same ↦ rw (same, eq-eqb u u refl, counts_gone) (omega arith)
      ]

  pub store_removed : {ast : ActiveSegs} {links : Links} {whos : List Who} {n : Node} → IsTree a.nodes
      → node_in a.nodes u ≡ Some n → IsInactive ast.entries u → IsStore old ast links a whos
      → IsStore now ast links b whos
  store_removed {ast} {n} tree found inactive h = record {
    housed = removed_housed;
    counted = removed_counted h.counted;
    taken = removed_taken tree found h.counted h.taken;
    active = record {
      there = λ place v e. there_left v (else place v e) ∙ h.active.there place v e;
      superiors = λ place v m e at. h.active.superiors place v m e (sym (found_left v (else place v e)) ∙ at);
      pools = λ place v m e at. h.active.pools place v m e (sym (found_left v (else place v e)) ∙ at);
    };
    rights = record {
      modes = λ process number place pages v mode m w e at. h.rights.modes process number place pages v mode m w e
          (sym (found_left v (else place v e)) ∙ at);
      lengths = λ process number place pages v mode m w e at. h.rights.lengths process number place pages v mode m w e
          (sym (found_left v (else place v e)) ∙ at);
    };
    known = record {
      older = λ process number v e. rw (d.loses.next ∙ d.counted.next) (h.known.older process number v e);
      processes = h.known.processes;
    };
  }
    where
      else : (place v : ℕ) → uid_in_place ast.entries place ≡ Some v → v ≢ u
      else place v e same = inactive.nowhere place (cc)

-- the pages of one segment, once those of another are taken out
count_left : (xs : List (ℕ × ℕ)) (u v : ℕ) → v ≢ u
    → count_by (λ x. eqb x.0 v) (without_stored xs u (λ page. true)) ≡ count_by (λ x. eqb x.0 v) xs
count_left [] u v ne = cc (without_none u (λ page. true))
count_left (x ∷ xs) u v ne = ap (count_by (λ y. eqb y.0 v)) (without_first x xs u (λ page. true) (eqb x.0 u)
    (and-true (eqb x.0 u))) ∙ by (count_left xs u v ne) (eqb x.0 u) refl
  where
    by : count_by (λ y. eqb y.0 v) (without_stored xs u (λ page. true)) ≡ count_by (λ y. eqb y.0 v) xs
        → (z : Bool) → eqb x.0 u ≡ z
        → count_by (λ y. eqb y.0 v) (cond z (without_stored xs u (λ page. true)) (x ∷ without_stored xs u (λ page.
        true))) ≡ count_by (λ y. eqb y.0 v) (x ∷ xs)
    by ih true e = ih ∙ sym (sum_by-cons (λ (y : ℕ × ℕ). cond (eqb y.0 v) 1 0) x xs
        ∙ ap (λ (z : Bool). cond {A = ℕ} z 1 0 + count_by (λ y. eqb y.0 v) xs)
        (ne_eqb x.0 v (λ same. ne (sym same ∙ eqb-true x.0 u e))) ∙ omega arith)
    by ih false e = cc (
      sum_by-cons (λ (y : ℕ × ℕ). cond (eqb y.0 v) 1 0) x (without_stored xs u (λ page. true)),
      sum_by-cons (λ (y : ℕ × ℕ). cond (eqb y.0 v) 1 0) x xs,
    )

count_gone : (xs : List (ℕ × ℕ)) (u : ℕ) → count_by (λ x. eqb x.0 u) (without_stored xs u (λ page. true)) ≡ 0
count_gone xs u = counts_none (without_stored xs u (λ page. true)) u
    (λ page. is_stored-without xs u (λ q. true) u page ∙ rw (eq-eqb u u refl) refl)

pub shown_removed : {D : Type 0} (drive : D → List (List ℕ)) (p : Plan) (s : Store) (t n : Storage D)
    (mid : AccountMaps) (u : ℕ)
    → HasRemoved (plain drive t.segs.pages) (plain drive n.segs.pages) t.accounts mid n.accounts u
    → AreHoused t.accounts t.segs.pages.volumes.vtocs → n.segs.links ≡ t.segs.links → n.whos ≡ t.whos
    → Shows drive p s t → Shows drive p (without_branch s (Some u)) n
shown_removed {D} drive p s t n mid u d housed links whos h = record {
  tree = record {
    nodes = cc (nodes_left d housed);
    next = cc;
    counts = λ v. elim (cases_eq v u) [
      | inl same ↦ rw same (counts_gone d housed ∙ sym (count_gone s.stored u))
      | inr ne ↦ counts_left d housed v ne ∙ h.tree.counts v ∙ sym (count_left s.stored u v ne)
    ];
  };
  known = rw links h.known;
  pages = record {
    stored = λ v r. is_stored-without s.stored u (λ page. true) v r ∙ stored v r (eqb v u) refl;
    once = once_without s.stored u (λ page. true) h.pages.once;
    words = λ v o. words v o (eqb v u) refl;
  };
  script = record {
    records = λ v. h.script.records v ∙ sym (d.sizes v);
    entries = λ v. h.script.entries v ∙ sym (d.places v);
    whos = cc;
  };
}
  where
    old : Plain
    old = plain drive t.segs.pages

    now : Plain
    now = plain drive n.segs.pages

    a : AccountMaps
    a = t.accounts

    b : AccountMaps
    b = n.accounts

    filed_else : (v r : ℕ) → v ≢ u → is_filed b now.vtocs v r ≡ is_filed a old.vtocs v r
    filed_else v r ne = elim (cases_Bool (is_there a.nodes v)) [
      | inl on ↦ cc (
        filed_there b now.vtocs v r (there_left d housed v ne ∙ on),
        home_left d housed v ne,
        filed_map now.vtocs (home_of a v) r,
        d.maps (home_of a v) (apart d housed v ne on),
        filed_map old.vtocs (home_of a v) r,
        filed_there a old.vtocs v r on,
      )
      | inr off ↦ filed_absent b now.vtocs v r (there_left d housed v ne ∙ off) ∙ sym (filed_absent a old.vtocs v r off)
    ]

    words_else : (v r : ℕ) → v ≢ u → picture b (words_at now) v r ≡ picture a (words_at old) v r
    words_else v r ne = elim (cases_Bool (is_there a.nodes v)) [
      | inl on ↦ cc (
        picture_there b (words_at now) v r (there_left d housed v ne ∙ on),
        home_left d housed v ne,
        d.words v (home_of a v) r (apart d housed v ne on),
        picture_there a (words_at old) v r on,
      )
      | inr off ↦ picture_absent b (words_at now) v r (there_left d housed v ne ∙ off)
          ∙ sym (picture_absent a (words_at old) v r off)
    ]

    stored : (v r : ℕ) (z : Bool) → eqb v u ≡ z → (not (z && true) && is_stored s.stored v r) ≡ is_filed b now.vtocs v r
    stored v r true e = rw (eqb-true v u e) (sym (filed_absent b now.vtocs u r (there_gone d housed)))
    stored v r false e = h.pages.stored v r ∙ sym (filed_else v r (λ same. cc (eq-eqb v u same)))

    words : (v o : ℕ) (z : Bool) → eqb v u ≡ z
        → cond (z && nat_le 0 o) 0 (s.words v o) ≡ get_or (picture b (words_at now) v (o / 1024)) (o % 1024) 0
    words v o true e = cc (
      from_first o,
      eqb-true v u e,
      picture_absent b (words_at now) u (o / 1024) (there_gone d housed),
      all_same {X = ℕ} 1024 (o % 1024) 0,
    )
    words v o false e = cc (h.pages.words v o, words_else v (o / 1024) (λ same. cc (eq-eqb v u same)))

-- ---- a node without inferior becomes inactive

inferior_any : (ns : List Node) {u : ℕ} (v : ℕ) {n : Node} → node_in ns v ≡ Some n → n.superior ≡ Some u
    → list_any (is_inferior u) ns ≡ true
inferior_any [] v found e = cc
inferior_any (m ∷ ns) {u} v {n} found e = elim (cases_Bool (eqb m.uid v)) [
  | inl is ↦
      (let z : Some m ≡ Some n = rw is at found in let same : m ≡ n = cc in
      rw (same, e, eq-eqb u u refl) refl)
  | inr isnt ↦ rw (inferior_any ns v (rw isnt at found) e) (or_true (is_inferior u m))
]

pub leaf_place : (a : AccountMaps) (ast : ActiveSegs) (place u : ℕ) → AreInTree a.nodes ast
    → list_any (is_inferior u) a.nodes ≡ false → uid_in_place ast.entries place ≡ Some u
    → HasNoInferior ast.entries place
leaf_place a ast place u h none at q v is up = by (entry_in_place ast.entries q) refl
  where
    by : (o : Option Entry) → entry_in_place ast.entries q ≡ o → ⊥
    by None e = cc (ap superior_in e)
    by (Some x) e =
        let here = ap uid_in e in
        let found = found_there a.nodes x.uid (h.there q x.uid here) in
        let above : found.0.superior ≡ Some u = cc (h.superiors q x.uid found.0 here found.1) in
        cc (inferior_any a.nodes x.uid found.1 above)

pub place_away : (ast : ActiveSegs) (place u : ℕ) → IsOneToOne ast.entries → uid_in_place ast.entries place ≡ Some u
    → ((q : ℕ) → word_of ast u q ≡ Null) → All IsAway (table_at ast.tables place)
place_away ast place u once at null k d lt =
    let word : get_or (table_at ast.tables place) k d ≡ Null = cc (
      get_or_any (table_at ast.tables place) k d Null lt,
      (once (place_of ast.entries u) place u (active_place ast.entries u (place, at)) at),
      null k,
    ) in subst IsAway (sym word) tt

pub place_idle : (core : Core) (entries : List (Option Entry)) (place u : ℕ) → uid_in_place entries place ≡ Some u
    → ((q : ℕ) → IsNotStarted core u q) → IsNotRead core entries place
place_idle core entries place u at idle = record {
  none = λ f v q is read. (idle q).none f
      (cc (started_from (frame_at core f) v q (sym (get_or-map started_page core.frames f Free) ∙ read)));
}

no_trailer : {xs : List (ℕ × ℕ)} → ((process number : ℕ) → count_by (leads_to process number) xs ≡ 0) → xs ≡ []
no_trailer {xs = []} none = refl
no_trailer {xs = x ∷ xs} none =
    let first = sum_by-cons (λ (y : ℕ × ℕ). cond (leads_to x.0 x.1 y) 1 0) x xs in
    let own : cond {A = ℕ} (leads_to x.0 x.1 x) 1 0 ≡ 1 = rw (eq-eqb x.0 x.0 refl, eq-eqb x.1 x.1 refl) refl in
    let zero_count = none x.0 x.1 in
    absurd (omega arith)

pub place_cut : (entries : List (Option Entry)) (links : Links) (place u : ℕ)
    → AreExact links.trailers links.descriptors
    → IsCut entries links u → uid_in_place entries place ≡ Some u → trailers_of links.trailers place ≡ []
place_cut entries links place u exact cut at = no_trailer (λ process number. exact place process number
    ∙ by process number (leads_at links.descriptors process number) refl)
  where
    by : (process number : ℕ) (o : Option ℕ) → leads_at links.descriptors process number ≡ o → times o place ≡ 0
    by process number None e = refl
    by process number (Some x) e = elim (cases_eq x place) [
      | inl same ↦ absurd (cut.none process number place (cc) at)
      | inr apart ↦ ap (λ (z : Bool). cond {A = ℕ} z 1 0) (ne_eqb x place apart)
    ]

pub inactive_now : (entries : List (Option Entry)) (place u : ℕ) → IsOneToOne entries
    → uid_in_place entries place ≡ Some u → IsInactive (set entries place None) u
inactive_now entries place u once at = grind (arith, none_put, apart, get_or-set_other)

-- what is taken out is the same, whether its pages went before or not
pub branch_same : (s : Store) (u : ℕ)
    → without_branch (without_pages s u (λ q. nat_le 0 q)) (Some u) ≡ without_branch s (Some u)
branch_same s u = ap (λ (w : Words). record s {
  nodes = without_node s.nodes u;
  words = w;
  stored = without_stored (without_stored s.stored u (λ q. nat_le 0 q)) u (λ page. true);
}) (λ i. λ v. λ o. words (eqb v u) (nat_le 0 (o / 1024)) (nat_le 0 o) (s.words v o) (from_first o) i)
    ∙ ap (λ (xs : List (ℕ × ℕ)). record s {
      nodes = without_node s.nodes u;
      words = λ v o. cond (eqb v u && nat_le 0 o) 0 (s.words v o);
      stored = xs;
    }) (stored_fused s.stored u (λ q. nat_le 0 q) (λ page. true)
    ∙ ap (without_stored s.stored u) (λ i. λ q. or_true (nat_le 0 q) i))
  where
    words : (x y z : Bool) (w : ℕ) → z ≡ true → cond (x && z) 0 (cond (x && y) 0 w) ≡ cond (x && z) 0 w
    words true y z w e = rw e refl
    words false y z w e = refl

-- ---- an entry that is freed

freed_length : (flags : List Bool) (places : List (Option ℕ)) → length (freed flags places) ≡ length flags
freed_length flags [] = refl
freed_length flags (None ∷ places) = freed_length flags places
freed_length flags (Some r ∷ places) = freed_length (set flags r false) places ∙ length-set flags r false

pub removed_done : {old now : Plain} {a mid b : AccountMaps} {u : ℕ} {home : Home} → home ≡ home_of a u
    → is_there a.nodes u ≡ true → Recounts a mid u 0 → Loses mid b u → now ≡ erased old home
    → uid_at now.vtocs home ≡ None → ((other : Home) → other ≢ home → uid_at now.vtocs other ≡ uid_at old.vtocs other)
    → ((other : Home) → other ≢ home → map_at now.vtocs other ≡ map_at old.vtocs other)
    → ((v : ℕ) (other : Home) (q : ℕ) → other ≢ home → words_at now v other q ≡ words_at old v other q)
    → used now.vtocs ≡ one_less (used old.vtocs) home.volume
    → ((v : ℕ) → taken now.records v + named_on old.vtocs home v ≡ taken old.records v) → HasRemoved old now a mid b u
removed_done {old} {now} {home} is there counted loses effect free uids maps words used_less taken_less = record {
  there = there;
  counted = counted;
  loses = loses;
  free = cc;
  uids = λ other ne. uids other (λ same. ne (same ∙ is));
  maps = λ other ne. maps other (λ same. ne (same ∙ is));
  words = λ v other q ne. words v other q (λ same. ne (same ∙ is));
  used_less = cc;
  taken_less = λ v. cc (taken_less v);
  sizes = λ v. rw effect
      (size_set old.records home.volume _ (freed_length (flags_of old home.volume) (file_map_of old home)) v);
  places = λ v. length_inside old.vtocs home.volume home.entry v None (cc effect);
}
