-- Page tables, frames and file maps after a call of page control.
pub use Rattle.seg_control.proofs.Prelude.{ActiveSegs, AreFiled, AreLinked, ArePaged, Entry, Err, HasNoFrame, HasTable, HaveSizes, Here, Home, IfSome, IsActive, IsBlank, IsHomeFor, IsHomeOf, IsInPool, IsInactive, IsKept, IsOutAt, IsTableOf, IsTied, IsTree, KeepsOthers, KeepsTies, Leaving, Left, Links, List, None, Null, Ok, OnErr, OnOk, Option, Plain, Ptw, Result, Some, VtocEntry, [], after_asked, after_evict, ap, arith, binding_at, bindings, bound_now, cases_eq, entry_at, erased, false, get_or, get_or-set_other, get_or-set_same, inl, inr, is_out, least_free_entry, length, length-set, none-some, page_is, place_of, ptw_at, read_at, reads_of, refl, same_Some, set, set-get_or, subst, sym, table_at, table_here, table_left, table_of, true, uid_at, uid_homed, uid_in, uid_of_home, vtoc_of, with_table, word_of_left, words_here, words_left, ℕ, ◌+◌, ◌<◌, ◌^◌, ◌∙◌, ◌≡◌, ◌≢◌, ◌⊎◌}

-- ---- lists

-- what holds at each place of a list after one has changed: it holds of the new one, and of each other
pub each_set : {X : Type 0} (xs : List X) {place : ℕ} (x d : X) (P : ℕ → X → Type 0) → place < length xs → P place x
    → ((q : ℕ) → q ≢ place → P q (get_or xs q d)) → (q : ℕ) → P q (get_or (set xs place x) q d)
each_set xs {place} x d P lt here there q = elim (cases_eq q place) [
  | inl same ↦ rw (same, get_or-set_same xs place x d lt) here
  | inr ne ↦ rw (get_or-set_other xs place q x d ne) (there q ne)
]

-- ---- homes

pub home_back : (old new : List (List (Option VtocEntry))) (uid : ℕ) (home : Home)
    → ((other : Home) → uid_homed new other ≡ uid_homed old other) → IsHomeOf new uid home → IsHomeOf old uid home
home_back old new uid home same h = record { used = cc (same home); only = λ other e. h.only other (same other ∙ e) }

-- ---- what is being read

-- a page whose word isn't `Out` is read into no frame
pub none_read : {now : Plain} {entries : List (Option Entry)} {ptws : List (List Ptw)} (place uid p g u q : ℕ)
    → ArePaged now entries ptws → IsTree entries → uid_at entries place ≡ Some uid
    → is_out (ptw_at (table_at ptws place) p) ≡ false → read_at (reads_of now.core) g ≡ Some (u, q) → u ≡ uid → q ≢ p
none_read place uid p g u q k tree at off reads same page =
    let out = k.started g u q reads in
    let here : out.place ≡ place = tree.once out.place place uid (cc) at in
    let yes = rw (here, page) at out.out in
    cc

-- ---- a call that concerns one page of a segment at a home

-- a frame that is bound to a page now was, or it is bound to one of this segment
abbrev pub KeepMarks : Plain → Plain → ℕ → Type 0
KeepMarks old now uid = (g u q : ℕ) → binding_at (bindings now.core) g ≡ Some (u, q)
    → (u ≡ uid) ⊎ (binding_at (bindings old.core) g ≡ Some (u, q))

-- a page that is being read was, and is another one than page p of this segment
abbrev pub KeepReads : Plain → Plain → ℕ → ℕ → Type 0
KeepReads old now uid p = (g u q : ℕ) → read_at (reads_of now.core) g ≡ Some (u, q)
    → (read_at (reads_of old.core) g ≡ Some (u, q)) × (u ≡ uid → q ≢ p)

pub record IsCall (old now : Plain) (entries : List (Option Entry)) (ptws : List (List Ptw)) (place uid p : ℕ)
    (home : Home) (t : List Ptw) : Type 0 where
  pub at : uid_at entries place ≡ Some uid
  pub within : place < length ptws
  pub tie : IsTied now uid home t
  pub others : KeepsOthers old now uid home
  pub marks : KeepMarks old now uid
  pub reads : KeepReads old now uid p
  pub words : (q : ℕ) → q ≢ p → ptw_at t q ≡ ptw_at (table_at ptws place) q

module _ {old now : Plain} {entries : List (Option Entry)} {ptws : List (List Ptw)} {place uid p : ℕ} {home : Home}
    {t : List Ptw} (k : ArePaged old entries ptws)
    (tree : IsTree entries) (call : IsCall old now entries ptws place uid p home t) where
  other_uid : (q u : ℕ) → uid_at entries q ≡ Some u → q ≢ place → u ≢ uid
  other_uid q u e ne same = ne (tree.once q place uid (rw (← same) e) call.at)

  back : (u : ℕ) (h : Home) → IsHomeOf now.vtocs u h → IsHomeOf old.vtocs u h
  back u h is = home_back old.vtocs now.vtocs u h call.others.uids is

  rest_after : (u : ℕ) (h : Home) → IsInactive entries u → IsHomeOf now.vtocs u h → HasTable now u h
  rest_after u h off is =
      let was : HasTable old u h = k.rest u h off (back u h is) in
      record {
        table = was.table;
        tie = call.others.ties u h was.table (λ same. off.nowhere place (rw same call.at)) was.tie;
      }

  started_after : (g u q : ℕ) → read_at (reads_of now.core) g ≡ Some (u, q) → IsOutAt entries (set ptws place t) u q
  started_after g u q e =
      let was = call.reads g u q e in
      let out : IsOutAt entries ptws u q = k.started g u q was.0 in
      record {
        place = out.place;
        active = out.active;
        out = each_set ptws t [] (λ n those. uid_at entries n ≡ Some u → is_out (ptw_at (table_at ptws n) q) ≡ true
            → is_out (ptw_at those q) ≡ true) call.within (λ at yes. rw (call.words q
            (was.1 (same_Some _ _ (sym at ∙ call.at)))) yes) (λ n ne at yes. yes) out.place out.active out.out;
      }

  pub paged_call : ArePaged now entries (set ptws place t)
  paged_call = record {
    tables = λ q u e. each_set ptws t [] (λ n those. uid_at entries n ≡ Some u → IsTableOf (bindings now.core) u those)
        call.within (λ at. rw (same_Some _ _ (sym at ∙ call.at)) call.tie.table)
        (λ n ne at. call.others.tables u (table_at ptws n) (other_uid n u at ne) (k.tables n u at)) q e;
    ties = λ q u h e is. each_set ptws t [] (λ n those. uid_at entries n ≡ Some u → IsTied now u h those) call.within
        (λ at. (let same : u ≡ uid = same_Some _ _ (sym at ∙ call.at) in
        rw (same, ← is.only home (rw same call.tie.used)) call.tie))
        (λ n ne at. call.others.ties u h (table_at ptws n) (other_uid n u at ne) (k.ties n u h at (back u h is))) q e;
    rest = rest_after;
    blank = λ q n e. each_set ptws t [] (λ m those. entry_at entries m ≡ None → ptw_at those n ≡ Null) call.within
        (λ none. cc) (λ m ne. k.blank m n) q e;
    bound = λ g u q e. elim (call.marks g u q e) [
      | inl same ↦ (place, rw same call.at)
      | inr was ↦ k.bound g u q was
    ];
    started = started_after;
    once = λ f g u q e e'. k.once f g u q (call.reads f u q e).0 (call.reads g u q e').0;
    filed = call.tie.records;
  }

-- ---- a call that changes words and marks alone

module _ {old now : Plain} {entries : List (Option Entry)} {ptws : List (List Ptw)} (k : ArePaged old entries ptws)
    (bound : bindings now.core ≡ bindings old.core) (vtocs : now.vtocs ≡ old.vtocs)
    (records : now.records ≡ old.records) (ties : KeepsTies old now) where
  -- what is being read is told by the caller
  pub paged_read : ((f u p : ℕ) → read_at (reads_of now.core) f ≡ Some (u, p) → IsOutAt entries ptws u p)
      → ((f g u p : ℕ) → read_at (reads_of now.core) f ≡ Some (u, p) → read_at (reads_of now.core) g ≡ Some (u, p) → f
      ≡ g) → ArePaged now entries ptws
  paged_read started once = record {
    tables = rw bound k.tables;
    ties = λ q u h e is. ties.ties u h (table_at ptws q) (k.ties q u h e (rw vtocs at is));
    rest = λ u h off is. (let was = k.rest u h off (rw vtocs at is) in
        record { table = was.table; tie = ties.ties u h was.table was.tie });
    blank = k.blank;
    bound = rw bound k.bound;
    started = started;
    once = once;
    filed = rw (records, vtocs) k.filed;
  }

  pub paged_same : reads_of now.core ≡ reads_of old.core → ArePaged now entries ptws
  paged_same reads = paged_read (rw reads k.started) (rw reads k.once)

  -- page p of the segment of a place is being read into frame f besides
  pub paged_started : (f place uid p : ℕ) → uid_at entries place ≡ Some uid → is_out (ptw_at (table_at ptws place) p)
      ≡ true → ((g : ℕ) → read_at (reads_of old.core) g ≢ Some (uid, p)) → reads_of now.core
      ≡ set (reads_of old.core) f (Some (uid, p)) → ArePaged now entries ptws
  paged_started f place uid p at out first reads =
      let cases : (g u q : ℕ) → read_at (reads_of now.core) g ≡ Some (u, q)
      → ((g ≡ f) × (Some (uid, p) ≡ Some (u, q))) ⊎ ((g ≢ f) × (read_at (reads_of old.core) g ≡ Some (u, q))) =
      λ g u q e. bound_now (reads_of old.core) f (Some (uid, p)) g (u, q) (rw reads at e) in
      paged_read (λ g u q e. elim (cases g u q e) [
        | inl h ↦ subst (λ (x : ℕ × ℕ). IsOutAt entries ptws x.0 x.1) (same_Some _ _ h.1)
            (record { place = place; active = at; out = out })
        | inr h ↦ k.started g u q h.1
      ]) (λ g h u q e e'. elim (cases g u q e) [
        | inl one ↦ elim (cases h u q e') [
          | inl two ↦ cc
          | inr two ↦ absurd (first h (cc))
        ]
        | inr one ↦ elim (cases h u q e') [
          | inl two ↦ absurd (first g (cc))
          | inr two ↦ k.once g h u q one.1 two.1
        ]
      ])
