-- A call that concerns one page of a segment at its home, and what it leaves to all other pages.
use Rattle.page_control.proofs.Prelude.{AreFiled, AreZero, Frame, Free, Home, IsInFrame, IsMapOf, IsTableOf, IsTied, KeepsOthers, KeepsWords, List, None, Option, Plain, Ptw, Some, [], ap, arith, binding_at, bindings, bound_page, cases_eq, disk_of, false, filed, frame_in, get_or, get_or-set_other, inl, inr, is_binding, is_filed_at, is_modified, is_some, is_stored, length, map_at, not_none, off_and_on, position, position-Some, refl, set, subst, sym, true, uid_at, with_frame, words_at, words_held, words_in, words_of_page, words_out, ℕ, ◌∙◌, ◌≡◌, ◌≢◌}
use Rattle.page_control.proofs.Places.{bindings_with, map_refiled, maps_refiled, number_of, one_home, one_uid, refile, same_or_other, uids_refiled}
pub use Rattle.page_control.proofs.Pictures.{bound_now, filed_same, in_frame_kept, off_from, position_kept, shown_in, shown_out, uid_part}

-- a frame is bound to page p of segment uid, or to none
abbrev pub IsPage : Option (ℕ × ℕ) → ℕ → ℕ → Type 0
IsPage x uid p = (u q : ℕ) → x ≡ Some (u, q) → (u ≡ uid) × (q ≡ p)

pub page_none : (x : Option (ℕ × ℕ)) (uid p : ℕ) → x ≡ None → IsPage x uid p
page_none x uid p none = λ u q is. absurd (not_none x (u, q) none is)

pub page_some : (x : Option (ℕ × ℕ)) (uid p : ℕ) → x ≡ Some (uid, p) → IsPage x uid p
page_some x uid p at = λ u q is. (sym (ap uid_part is) ∙ ap uid_part at, sym (ap number_of is) ∙ ap number_of at)

-- Frame f, which was bound to page p of segment uid or to none, becomes `frame`, which is bound to that page or to
-- none. No other frame has changed, nor another record than that of the page, nor another place of a file map.
pub record Touches (s now : Plain) (uid : ℕ) (home : Home) (p f : ℕ) (frame : Frame) : Type 0 where
  pub core : now.core ≡ with_frame s.core f frame
  pub was : IsPage (binding_at (bindings s.core) f) uid p
  pub own : IsPage (bound_page frame) uid p
  pub words : (g : ℕ) → g ≢ f → words_in now g ≡ words_in s g
  pub disks : (w k : ℕ) → (w ≡ home.volume → filed s home p ≡ Some k → ⊥) → get_or (get_or now.disks w []) k []
      ≡ get_or (get_or s.disks w []) k []
  pub count : length now.disks ≡ length s.disks
  pub uids : (h : Home) → uid_at now.vtocs h ≡ uid_at s.vtocs h
  pub maps : (h : Home) → h ≢ home → map_at now.vtocs h ≡ map_at s.vtocs h
  pub rest : (q : ℕ) → q ≢ p → filed now home q ≡ filed s home q
  pub used : uid_at s.vtocs home ≡ Some uid
  pub old : AreFiled s.records s.vtocs
  pub filed : AreFiled now.records now.vtocs

-- where a place of the file map changes and no drive does
pub refiles : {s now : Plain} {uid p f : ℕ} {home : Home} {frame : Frame} (place : Option ℕ) → now.core ≡ with_frame
    s.core f frame → IsPage (binding_at (bindings s.core) f) uid p → IsPage (bound_page frame) uid p → ((g : ℕ) → g ≢ f
    → words_in now g ≡ words_in s g) → now.disks ≡ s.disks → now.vtocs ≡ refile s.vtocs home p place → uid_at s.vtocs
    home ≡ Some uid → AreFiled s.records s.vtocs → AreFiled now.records now.vtocs → Touches s now uid home p f frame
refiles {s = s} {uid = uid} {p = p} {home = home} place core was own words disks vtocs used old filed = record {
  core = core;
  was = was;
  own = own;
  words = words;
  disks = λ w k n. cc;
  count = ap length disks;
  uids = λ h. cc (uids_refiled s.vtocs uid p place home h used);
  maps = λ h n. cc (maps_refiled s.vtocs p place used n);
  rest = λ q n. cc (map_refiled s.vtocs uid p place home used, get_or-set_other (map_at s.vtocs home) p q place None n);
  used = used;
  old = old;
  filed = filed;
}

-- where no file map changes
pub moves : (s now : Plain) (uid p f : ℕ) (home : Home) (frame : Frame) → now.core ≡ with_frame s.core f frame → IsPage
    (binding_at (bindings s.core) f) uid p → IsPage (bound_page frame) uid p → ((g : ℕ) → g ≢ f → words_in now g ≡
    words_in s g) → ((w k : ℕ) → (w ≡ home.volume → filed s home p ≡ Some k → ⊥) → get_or (get_or now.disks w []) k [] ≡
    get_or (get_or s.disks w []) k []) → length now.disks ≡ length s.disks → now.records ≡ s.records → now.vtocs ≡
    s.vtocs → uid_at s.vtocs home ≡ Some uid → AreFiled s.records s.vtocs → Touches s now uid home p f frame
moves s now uid p f home frame core was own words disks count records vtocs used old = record {
  core = core;
  was = was;
  own = own;
  words = words;
  disks = disks;
  count = count;
  uids = λ h. cc;
  maps = λ h n. cc;
  rest = λ q n. cc;
  used = used;
  old = old;
  filed = rw (records, vtocs) old;
}

-- another page than that of the call
abbrev pub IsOther : ℕ → ℕ → ℕ → ℕ → Type 0
IsOther uid p u q = u ≡ uid → q ≡ p → ⊥

test_off : (x : Option (ℕ × ℕ)) (uid p u q : ℕ) → IsPage x uid p → IsOther uid p u q → is_binding u q x ≡ false
test_off x uid p u q own other = off_from x u q _ refl (λ is. other (own u q is).0 (own u q is).1)

-- and the page tables of other segments
tables_kept : {old : List (Option (ℕ × ℕ))} (f : ℕ) {x : Option (ℕ × ℕ)} {uid p : ℕ} → IsPage (binding_at old f) uid p
    → IsPage x uid p → {segment : ℕ} {table : List Ptw} → segment ≢ uid → IsTableOf old segment table
    → IsTableOf (set old f x) segment table
tables_kept {old} f {x = x} was own {segment} n h = record {
  named = λ g q is. elim (bound_now old f x g (segment, q) is) [
    | inl here ↦ absurd (n (own segment q here.1).0)
    | inr there ↦ h.named g q there.1
  ];
  back = λ g q is.
      let at : binding_at old g ≡ Some (segment, q) = h.back g q is in
      get_or-set_other old f g x None (λ e. n (was segment q (sym (cc) ∙ at)).0) ∙ at;
}

module _ {s now : Plain} {uid : ℕ} {home : Home} {p f : ℕ} {frame : Frame} (t : Touches s now uid home p f frame) where
  -- what the frames are bound to then
  pub binds : bindings now.core ≡ set (bindings s.core) f (bound_page frame)
  binds = cc (bindings_with s.core f frame)

  place_same : {u q : ℕ} → IsOther uid p u q
      → position (is_binding u q) (bindings now.core) ≡ position (is_binding u q) (bindings s.core)
  place_same {u = u} {q = q} other = cc (
    binds,
    position_kept (is_binding u q) (bindings s.core) f None (test_off (bound_page frame) uid p u q t.own other ∙ sym
        (test_off (binding_at (bindings s.core) f) uid p u q t.was other)),
  )

  -- its record, and the words on it
  filed_other : {h : Home} {q : ℕ} → (h ≡ home → q ≡ p → ⊥) → filed now h q ≡ filed s h q
  filed_other {h = h} {q = q} other = elim (same_or_other home h) [
    | inl same ↦ rw same (t.rest q (other same))
    | inr n ↦ ap (λ (places : List (Option ℕ)). get_or places q None) (t.maps h n)
  ]

  away : (u : ℕ) (h : Home) (q : ℕ) → uid_at s.vtocs h ≡ Some u → IsOther uid p u q → h ≡ home → q ≡ p → ⊥
  away u h q used other same at = other (one_uid s.vtocs used t.used same) at

  out_other : (u : ℕ) (h : Home) (q : ℕ)
      → uid_at s.vtocs h ≡ Some u → IsOther uid p u q → words_out now h q ≡ words_out s h q
  out_other u h q used other = cc (
    filed_other (away u h q used other),
    filed_same (disk_of s h.volume)
        (disk_of now h.volume) (filed s h q) (λ k is. t.disks h.volume k (λ v its. let one = t.old.once home.volume
        h.entry q home.entry p k (rw (← v) is) its in away u h q used other (one_home (v, one.0)) one.1)),
  )

  pub stored_other : (h : Home) (q : ℕ) → (h ≡ home → q ≡ p → ⊥) → is_stored now h q ≡ is_stored s h q
  unfolding is_filed_at
  stored_other h q other = ap is_some (filed_other other)

  -- its words
  pub words_other : (u : ℕ) (h : Home) (q : ℕ)
      → uid_at s.vtocs h ≡ Some u → IsOther uid p u q → words_at now u h q ≡ words_at s u h q
  unfolding words_of_page
  words_other u h q used other = cc (place_same other, held (position (is_binding u q) (bindings s.core)) refl)
    where
      held : (x : Option ℕ) → position (is_binding u q) (bindings s.core) ≡ x → words_held now.frames (disk_of now
          h.volume) (filed now h q) x ≡ words_held s.frames (disk_of s h.volume) (filed s h q) x
      held None is = out_other u h q used other
      held (Some g) is = t.words g (λ e. off_and_on (is_binding u q (binding_at (bindings s.core) g))
          (cc (test_off (binding_at (bindings s.core) f) uid p u q t.was other))
          (position-Some (is_binding u q) (bindings s.core) g None is).1)

  -- that a clean frame has the words of its page's record
  pub clean_other : (u : ℕ) (h : Home) (g q : ℕ) → uid_at s.vtocs h ≡ Some u → IsOther uid p u q
      → (is_modified (frame_in s g) ≡ false → binding_at (bindings s.core) g ≡ Some (u, q)
      → words_in s g ≡ words_out s h q) → is_modified (frame_in now g) ≡ false
      → binding_at (bindings now.core) g ≡ Some (u, q) → words_in now g ≡ words_out now h q
  clean_other u h g q used other clean off at =
      elim (bound_now (bindings s.core) f (bound_page frame) g (u, q) (sym (cc (binds)) ∙ at)) [
        | inl here ↦ absurd (other (t.own u q here.1).0 (t.own u q here.1).1)
        | inr there ↦ (let same : frame_in now g ≡ frame_in s g = rw t.core
            (get_or-set_other s.core.frames f g frame Free there.0) in
            t.words g there.0 ∙ clean (cc) there.1 ∙ sym (out_other u h q used other))
      ]

  -- that it is in a frame where it is stored and all zeros
  pub zeros_other : {u : ℕ} (h : Home) {q : ℕ} → uid_at s.vtocs h ≡ Some u → IsOther uid p u q
      → (is_stored s h q ≡ true → AreZero (words_at s u h q) → IsInFrame (bindings s.core) u q)
      → is_stored now h q ≡ true → AreZero (words_at now u h q) → IsInFrame (bindings now.core) u q
  zeros_other {u = u} h {q = q} used other zeros on all =
      let there : IsInFrame (bindings s.core) u q =
      zeros (sym (stored_other h q (away u h q used other)) ∙ on) (subst AreZero (words_other u h q used other) all) in
      rw binds (in_frame_kept (bindings s.core) f (bound_page frame)
      (λ is. other (t.was u q is).0 (t.was u q is).1) there)

  tie_other : {u : ℕ} {h : Home} {table : List Ptw} → u ≢ uid → IsTied s u h table → IsTied now u h table
  tie_other {u} {h} {table} n tie =
      record {
        volume = rw t.count tie.volume;
        used = t.uids h ∙ tie.used;
        pages = tie.pages;
        table = rw binds (tables_kept f t.was t.own n tie.table);
        map = rw (t.maps h (λ same. n (one_uid s.vtocs tie.used t.used same))) tie.map;
        records = t.filed;
        clean = λ g q. clean_other u h g q tie.used (λ e _. n e) (tie.clean g q);
        zeros = λ q. zeros_other h tie.used (λ e _. n e) (tie.zeros q);
      }

  pub others_of : KeepsOthers s now uid home
  others_of = record {
    uids = t.uids;
    maps = t.maps;
    tables = λ segment table n h. rw binds (tables_kept f t.was t.own n h);
    ties = λ segment other table n tie. tie_other n tie;
  }

  -- where the page itself is in order, so is its segment
  pub tie_own : (table those : List Ptw) → IsTied s uid home table → length those ≡ length table → IsTableOf (bindings
      now.core) uid those → IsMapOf (map_at now.vtocs home) those → ((g : ℕ) → is_modified (frame_in now g) ≡ false →
      binding_at (bindings now.core) g ≡ Some (uid, p) → words_in now g ≡ words_out now home p) → (is_stored now home p
      ≡ true → AreZero (words_at now uid home p) → IsInFrame (bindings now.core) uid p) → IsTied now uid home those
  tie_own table those tie long its map clean zeros =
      let volume = tie.volume in
      let pages = tie.pages in
      record {
        volume = rw t.count tie.volume;
        used = t.uids home ∙ tie.used;
        pages = omega (arith, t.count);
        table = its;
        map = map;
        records = t.filed;
        clean = λ g q off at. elim (cases_eq q p) [
          | inl same ↦ rw same (clean g off (rw same at at))
          | inr n ↦ clean_other uid home g q tie.used (λ _ e. n e) (tie.clean g q) off at
        ];
        zeros = λ q on all. elim (cases_eq q p) [
          | inl same ↦ rw same (zeros (rw same at on) (rw same at all))
          | inr n ↦ zeros_other home tie.used (λ _ e. n e) (tie.zeros q) on all
        ];
      }

  -- where the page itself has the words that it had, every page has
  pub words_kept : words_at now uid home p ≡ words_at s uid home p → KeepsWords s now uid home
  words_kept here = record {
    words = λ u h q homes. elim (cases_eq u uid) [
      | inl same ↦ elim (cases_eq q p) [
        | inl at ↦ rw (same, homes.own same, at) here
        | inr n ↦ words_other u h q homes.used (λ _ e. n e)
      ]
      | inr n ↦ words_other u h q homes.used (λ e _. n e)
    ];
  }
