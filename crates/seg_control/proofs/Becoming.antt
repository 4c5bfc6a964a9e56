-- A segment becomes active, or inactive: what is kept.
pub use Rattle.seg_control.proofs.Prelude.{ActiveSegs, All, All-get_or, AreActive, AreLinked, Contains, Entry, FitsIn, HasItsSuperiors, HasTable, Here, Home, IfNone, IsActive, IsAway, IsFirstInactive, IsFull, IsGoing, IsHomeOf, IsInactive, IsKept, IsKnownAt, IsMapOf, IsNotRead, IsStuck, IsTableOf, IsTied, IsTree, IsVictim, Leaving, Link, Links, List, MayActivate, None, Null, Option, Out, Plain, Ptw, Some, Victim, VtocEntry, [], activated, add-one, all_same, ap, arith, at_rest, binding_at, bindings, cases_eq, cases_lt, deactivated, entry_at, filed_word, frame_of, get_or, get_or-append, get_or-append_seam, get_or-set_other, get_or-set_same, get_or_past, has_record, inl, inr, is_some, leads_at, length, length-map, length-replicate, length-set, length_push, link_at, made_active, map_at, no_link, none-some, ptw_at, records_in, refl, replicate, rules, same_Some, set, suc, superior_of, sym, table_at, table_for, take, take-suc-set, trailers_of, true, uid_at, uid_homed, uid_in, uids_of, vtoc_entry, words_in, zero, ℕ, ◌++◌, ◌+◌, ◌<◌, ◌↔◌, ◌∙◌, ◌∷◌, ◌≡◌, ◌≢◌, ◌≤◌}
use Rattle.seg_control.proofs.Calls.{each_set, sizes_kept}
use Rattle.seg_control.proofs.Linked.{times_same}

-- ---- the page table by a file map

pub table_zero : (places : List (Option ℕ)) → table_for places 0 ≡ []
unfolding table_for
table_zero places = refl

pub table_suc : (places : List (Option ℕ)) (n : ℕ) → table_for places (suc n) ≡ table_for places n
    ++ filed_word (get_or places n None) ∷ []
unfolding table_for
table_suc places n = refl

pub table_length : (places : List (Option ℕ)) (n : ℕ) → length (table_for places n) ≡ n
table_length places zero = ap length (table_zero places)
table_length places (suc n) = rw (table_suc places n, length_push, table_length places n, add-one)

-- word p of it, where the file map names no page past its end
pub table_word : (places : List (Option ℕ)) (n p : ℕ) → p < n → ptw_at (table_for places n) p
    ≡ filed_word (get_or places p None)
table_word places zero p lt = absurd (omega arith)
table_word places (suc n) p lt = elim (cases_lt p n) [
  | inl less ↦ rw (table_suc places n, get_or-append (table_for places n) _ Null p (rw (table_length places n) less))
      (table_word places n p less)
  | inr past ↦
      (let same : p ≡ n = omega arith in
      let seam = get_or-append_seam (table_for places n) (filed_word (get_or places n None)) [] Null in
      rw (table_suc places n, same) (rw (table_length places n) at seam))
]

pub filed_everywhere : {places : List (Option ℕ)} {n : ℕ} (p : ℕ) → FitsIn places n → ptw_at (table_for places n) p
    ≡ filed_word (get_or places p None)
filed_everywhere {places} {n} p fits = elim (cases_lt p n) [
  | inl lt ↦ table_word places n p lt
  | inr past ↦ rw (fits.none p past) (get_or_past (table_for places n) p Null (rw (table_length places n) past))
]

filed_is : (place : Option ℕ) → (is_some place ≡ has_record (filed_word place)) × (frame_of (filed_word place) ≡ None)
filed_is None = (refl, refl)
filed_is (Some r) = (refl, refl)

filed_out : (place : Option ℕ) (r : ℕ) → filed_word place ≡ Out r → place ≡ Some r
filed_out None r e = cc
filed_out (Some q) r e = cc

pub map_filed : {places : List (Option ℕ)} {n : ℕ} → FitsIn places n → IsMapOf places (table_for places n)
map_filed {places} fits = record {
  stored = λ p. rw (filed_everywhere p fits) (filed_is (get_or places p None)).0;
  out = λ p r e. filed_out (get_or places p None) r (rw (filed_everywhere p fits) at e);
}

-- a table by a file map is that of a segment that no frame has a page of
pub table_filed : (bound : List (Option (ℕ × ℕ))) (uid : ℕ) {n : ℕ} {places : List (Option ℕ)} → FitsIn places n
    → ((f p : ℕ) → binding_at bound f ≢ Some (uid, p)) → IsTableOf bound uid (table_for places n)
table_filed bound uid {places} fits none = record {
  named = λ f p e. absurd (none f p e);
  back = λ f p e. absurd (none-some f (sym (filed_is (get_or places p None)).1 ∙ rw (filed_everywhere p fits) at e));
}

-- another table of the same segment at the same home
pub retied : {now : Plain} {uid : ℕ} {home : Home} {t u : List Ptw} → IsTied now uid home t → length u ≤ 256
    → IsTableOf (bindings now.core) uid u → IsMapOf (map_at now.vtocs home) u → IsTied now uid home u
retied tie few table map = assumption (few, table, map, tie)

-- links stay, where what they lead to is active still
linked_entries : {was entries : List (Option Entry)} {links : Links} → length entries ≡ length was
    → ((process number place : ℕ) → leads_at links.descriptors process number ≡ Some place
    → IsKnownAt entries links.known process number place) → AreLinked was links → AreLinked entries links
linked_entries long known k = record {
  exact = k.exact;
  known = known;
  each = k.each;
  lists = assumption (k.lists.places ∙ sym long, k.lists);
}

-- ---- a segment becomes active

module _ (now : Plain) (ast : ActiveSegs) (links : Links) (place uid n : ℕ) (superior : Option ℕ) (home : Home)
    (k : IsKept now ast links) (within : place < length ast.entries) (free : entry_at ast.entries place ≡ None)
    (inactive : IsInactive ast.entries uid)
    (homed : uid_homed now.vtocs home ≡ Some uid) (fits : FitsIn (map_at now.vtocs home) n) (few : n ≤ 256)
    (long : length (table_at ast.tables place) ≡ n) (tree : IsTree (activated ast place uid superior).entries) where
  table_within : place < length ast.tables
  table_within = (omega arith)

  uid_here : uid_at (activated ast place uid superior).entries place ≡ Some uid
  uid_here = ap uid_in (get_or-set_same ast.entries place (Some (record { uid = uid; superior = superior })) None
      within)

  uid_there : (q : ℕ) → q ≢ place → uid_at (activated ast place uid superior).entries q ≡ uid_at ast.entries q
  uid_there q ne = ap uid_in (get_or-set_other ast.entries place q (Some (record { uid = uid; superior = superior }))
      None ne)

  entry_there : (q : ℕ) → q ≢ place → entry_at (activated ast place uid superior).entries q ≡ entry_at ast.entries q
  entry_there q ne = get_or-set_other ast.entries place q (Some (record { uid = uid; superior = superior })) None ne

  -- what was active was in another place
  elsewhere : (q u : ℕ) → uid_at ast.entries q ≡ Some u → q ≢ place
  elsewhere q u e same = none-some u (cc)

  still : (q u : ℕ) → uid_at ast.entries q ≡ Some u → uid_at (activated ast place uid superior).entries q ≡ Some u
  still q u e = uid_there q (elsewhere q u e) ∙ e

  no_frame : (f p : ℕ) → binding_at (bindings now.core) f ≢ Some (uid, p)
  no_frame f p e = (let active = k.paged.bound f uid p e in inactive.nowhere active.0 active.1)

  pub kept_activated : IsKept now (made_active ast place uid superior (table_for (map_at now.vtocs home) n)) links
  kept_activated =
      let t : List Ptw = table_for (map_at now.vtocs home) n in
      let entries : List (Option Entry) = (activated ast place uid superior).entries in
      let its_table : IsTableOf (bindings now.core) uid t = table_filed (bindings now.core) uid fits no_frame in
      let its : (u : ℕ) → uid_at entries place ≡ Some u → u ≡ uid = λ u e. same_Some _ _ (sym e ∙ uid_here) in
      let size = table_length (map_at now.vtocs home) n in
      record {
        paged = record {
          tables = λ q u e. each_set ast.tables t [] (λ m those. uid_at entries m ≡ Some u
              → IsTableOf (bindings now.core) u those) table_within (λ at. rw (its u at) its_table)
              (λ m ne at. k.paged.tables m u (rw (uid_there m ne) at at)) q e;
          ties = λ q u h e is. each_set ast.tables t [] (λ m those. uid_at entries m ≡ Some u → IsTied now u h those)
              table_within (λ at. (let is' : IsHomeOf now.vtocs uid h = rw (← its u at) is in
              let same : home ≡ h = is'.only home homed in
              rw (its u at) (retied (k.paged.rest uid h inactive is').tie (omega (arith, size, few)) its_table
              (rw (← same) (map_filed fits))))) (λ m ne at. k.paged.ties m u h (rw (uid_there m ne) at at) is) q e;
          rest = λ u h off is. k.paged.rest u h (record { nowhere = λ q e. off.nowhere q (still q u e) }) is;
          blank = λ q p e. each_set ast.tables t [] (λ m those. entry_at entries m ≡ None → ptw_at those p ≡ Null)
              table_within (λ none. absurd (none-some uid (sym (ap uid_in none) ∙ uid_here)))
              (λ m ne none. k.paged.blank m p (rw (entry_there m ne) at none)) q e;
          bound = λ f u p e. (let active = k.paged.bound f u p e in (active.0, still active.0 u active.1));
          started = λ f u p e. (let was = k.paged.started f u p e in
              record {
                place = was.place;
                active = still was.place u was.active;
                out = rw (get_or-set_other ast.tables place was.place t [] (elsewhere was.place u was.active)) was.out;
              });
          once = k.paged.once;
          filed = k.paged.filed;
        };
        tree = tree;
        places = cc (
          length-set ast.tables place t,
          length-set ast.entries place (Some (record { uid = uid; superior = superior })),
        );
        sized = sizes_kept ast.sizes ast.tables place t table_within (size ∙ sym long) k.sized;
        linked = linked_entries (length-set ast.entries place (Some (record { uid = uid; superior = superior })))
            (λ q m pl e. (let was = k.linked.known q m pl e in
            record { uid = was.uid; active = still pl was.uid was.active; known_as = was.known_as })) k.linked;
      }

-- ---- a segment becomes inactive

away_frame : (w : Ptw) → IsAway w → frame_of w ≡ None
away_frame (Here f) away = absurd away
away_frame (Leaving f) away = absurd away
away_frame _ away = refl

null_word : (n p : ℕ) → ptw_at (replicate n Null) p ≡ Null
null_word n p = all_same n p Null

module _ (now : Plain) (ast : ActiveSegs) (links : Links) (place : ℕ) (k : IsKept now ast links) (within : place
    < length ast.entries) (away : All IsAway (table_at ast.tables place)) (idle : IsNotRead now.core ast.entries place)
    (cut : trailers_of links.trailers place ≡ []) (tree : IsTree (deactivated ast place).entries) where
  gone_within : place < length ast.tables
  gone_within = (omega arith)

  gone_here : uid_at (deactivated ast place).entries place ≡ None
  gone_here = ap uid_in (get_or-set_same ast.entries place None None within)

  gone_there : (q : ℕ) → q ≢ place → uid_at (deactivated ast place).entries q ≡ uid_at ast.entries q
  gone_there q ne = ap uid_in (get_or-set_other ast.entries place q None None ne)

  -- what is active was, in another place
  left : (q u : ℕ) → uid_at (deactivated ast place).entries q ≡ Some u → q ≢ place
  left q u e same = none-some u (cc (gone_here, same, e))

  -- no frame has a page of it
  off_frames : (f u p : ℕ) → uid_at ast.entries place ≡ Some u → binding_at (bindings now.core) f ≢ Some (u, p)
  off_frames f u p at e =
      let word : frame_of (ptw_at (table_at ast.tables place) p) ≡ Some f = (k.paged.tables place u at).named f p e in
      none-some f (sym (away_frame (ptw_at (table_at ast.tables place) p) away_at) ∙ word)
    where
      away_at : IsAway (ptw_at (table_at ast.tables place) p)
      away_at = elim (cases_lt p (length (table_at ast.tables place))) [
        | inl lt ↦ All-get_or IsAway (table_at ast.tables place) p Null lt away
        | inr past ↦ rw (get_or_past (table_at ast.tables place) p Null past) (tt {0})
      ]

  -- a segment that is not active now: it was not, or it is the one that became inactive
  rest_after : (u : ℕ) (h : Home) → IsInactive (deactivated ast place).entries u → IsHomeOf now.vtocs u h
      → HasTable now u h
  rest_after u h off is = by_entry (uid_at ast.entries place) refl
    where
      was_off : uid_at ast.entries place ≢ Some u → HasTable now u h
      was_off ne = k.paged.rest u h (record {
        nowhere = λ q e. elim (cases_eq q place) [
          | inl same ↦ ne (rw same at e)
          | inr other ↦ off.nowhere q (gone_there q other ∙ e)
        ];
      }) is

      by_entry : (o : Option ℕ) → uid_at ast.entries place ≡ o → HasTable now u h
      by_entry None e = was_off (λ at. none-some u (sym e ∙ at))
      by_entry (Some v) e = elim (cases_eq v u) [
        | inl same ↦ record { table = table_at ast.tables place; tie = k.paged.ties place u h (rw same at e) is }
        | inr ne ↦ was_off (λ at. ne (same_Some _ _ (sym e ∙ at)))
      ]

  pub kept_deactivated : IsKept now (deactivated ast place) links
  kept_deactivated =
      let t : List Ptw = replicate (length (table_at ast.tables place)) Null in
      let there : (q : ℕ) → q ≢ place → table_at (set ast.tables place t) q ≡ table_at ast.tables q =
      λ q ne. get_or-set_other ast.tables place q t [] ne in
      record {
        paged = record {
          tables = λ q u e. (let ne = left q u e in
              rw (there q ne) (k.paged.tables q u (sym (gone_there q ne) ∙ e)));
          ties = λ q u h e is. (let ne = left q u e in
              rw (there q ne) (k.paged.ties q u h (sym (gone_there q ne) ∙ e) is));
          rest = rest_after;
          blank = λ q p e. each_set ast.tables t [] (λ m those. entry_at (deactivated ast place).entries m ≡ None
              → ptw_at those p ≡ Null) gone_within (λ none. null_word (length (table_at ast.tables place)) p)
              (λ m ne none. k.paged.blank m p (rw (get_or-set_other ast.entries place m None None ne) at none)) q e;
          bound = λ f u p e. (let active = k.paged.bound f u p e in
              (active.0, gone_there active.0 (λ same. off_frames f u p (rw same at active.1) e) ∙ active.1));
          started = λ f u p e. (let was = k.paged.started f u p e in
              let ne : was.place ≢ place = λ same. idle.none f u p (rw same at was.active) e in
              record {
                place = was.place;
                active = gone_there was.place ne ∙ was.active;
                out = rw (there was.place ne) was.out;
              });
          once = k.paged.once;
          filed = k.paged.filed;
        };
        tree = tree;
        places = cc (length-set ast.tables place t, length-set ast.entries place None);
        sized = sizes_kept ast.sizes ast.tables place t gone_within
            (length-replicate (length (table_at ast.tables place)) Null) k.sized;
        linked = linked_entries (length-set ast.entries place None) (λ q m pl e. (let was = k.linked.known q m pl e in
            record {
              uid = was.uid;
              active = gone_there pl (not_led q m pl e) ∙ was.active;
              known_as = was.known_as;
            })) k.linked;
      }
    where
      not_led : (q m pl : ℕ) → leads_at links.descriptors q m ≡ Some pl → pl ≡ place → ⊥
      not_led q m pl e same = (let count = rw (e, times_same pl, same, cut) at (k.linked.exact pl q m) in omega arith)
