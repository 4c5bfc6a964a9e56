-- Calls that change marks and words in frames alone, and calls that change VTOCs alone.
pub use Rattle.page_control.proofs.Prelude.{AreFiled, AreZero, Bool, Bound, Core, Entry, Frame, Free, Here, Home, IsBoundOnce, IsClockChoice, IsMapOf, IsTableOf, IsTied, KeepsHome, KeepsTies, Leaving, List, None, Option, Paging, Plain, Ptw, Some, Started, [], after_reference, ap, arith, binding_at, bindings, bound_page, cases_eq, changed_at, changed_page, common_steps, disk_of, ext_get_or, false, filed, frame_at, frame_in, get_or, get_or-set_other, get_or-set_same, inl, inr, is_binding, is_bound, is_filed_at, is_modified, is_stored, leb_tells, length, length-map, length-set, map_at, not_none, number_in, off_and_on, plain, position, position-Some, ptw_at, record_at, referred, refl, rules, set, subst, sym, true, uid_at, uid_in, unmarked, vtoc_in, way, with_frame, with_volumes, within_from, worded, words_at, words_filed, words_held, words_in, words_of_page, ℕ, ◌<◌, ◌∙◌, ◌≡◌, ◌≢◌, ◌≤◌}
pub use Rattle.page_control.proofs.Pictures.{binding_is, binding_tells, bindings_referred, bindings_started, bound_from_page, bound_inside, bound_to, found_at, frame_same, here_within, in_frame_or_out, leaving_within, map_back, map_taken, number_of, out_by, page, picture_by, shown_out, table_back, table_taken, uid_part, words_by}

stored_by : (s now : Plain) (h : Home) (q : ℕ) → map_at now.vtocs h ≡ map_at s.vtocs h → is_stored now h q
    ≡ is_stored s h q
unfolding is_filed_at
stored_by s now h q map = rw map

held_by : (frames : List (List ℕ)) (disk now : List (List ℕ)) (place other f : Option ℕ)
    → words_filed now other ≡ words_filed disk place → words_held frames now other f ≡ words_held frames disk place f
held_by frames disk now place other None same = same
held_by frames disk now place other (Some f) same = refl

-- a home of which all stays has the words that it had
pub words_of_home : (s now : Plain) (uid : ℕ) (home : Home) (p : ℕ) → now.core ≡ s.core → now.frames ≡ s.frames
    → KeepsHome s now home → words_at now uid home p ≡ words_at s uid home p
unfolding words_of_page
words_of_home s now uid home p core frames keeps = rw (core, frames) (held_by s.frames (disk_of s home.volume)
    (disk_of now home.volume) (filed s home p) (filed now home p) (position (is_binding uid p) (bindings s.core))
    (keeps.words p))

-- and is tied as it was
pub tie_of_home : (s now : Plain) (uid : ℕ) (home : Home) (t : List Ptw) → now.core ≡ s.core → now.frames ≡ s.frames
    → KeepsHome s now home → IsTied s uid home t → IsTied now uid home t
tie_of_home s now uid home t core frames keeps tie = record {
  volume = rw keeps.volumes tie.volume;
  used = cc;
  pages = tie.pages;
  table = rw core tie.table;
  map = rw keeps.map tie.map;
  records = keeps.records;
  clean = λ f p off at. rw frames (tie.clean f p (rw core at off) (rw core at at)) ∙ sym (keeps.words p);
  zeros = λ p on all. rw core (tie.zeros p (sym (stored_by s now home p keeps.map) ∙ on)
      (subst AreZero (words_of_home s now uid home p core frames keeps) all));
}

-- VTOCs change, and neither the entry nor the file map of this segment
pub tie_mapped : {s : Plain} {now : Plain} {u : ℕ} {h : Home} {t : List Ptw} → now.core ≡ s.core → now.frames ≡ s.frames
    → now.disks ≡ s.disks → uid_at now.vtocs h ≡ Some u → map_at now.vtocs h ≡ map_at s.vtocs h
    → AreFiled now.records now.vtocs → IsTied s u h t → IsTied now u h t
tie_mapped {s} {now = now} {u} {h} {t} core frames disks used map filed tie = tie_of_home s now u h t core frames
    (record {
      uid = cc;
      map = map;
      words = λ p. out_by s now h p disks map;
      volumes = ap length disks;
      records = filed;
    }) tie

-- marks and words in frames change: a frame whose modified mark is off had it off, and has the words that it had
pub record Marks (s now : Plain) : Type 0 where
  pub bound : bindings now.core ≡ bindings s.core
  pub disks : now.disks ≡ s.disks
  pub records : now.records ≡ s.records
  pub vtocs : now.vtocs ≡ s.vtocs
  pub clean : (g : ℕ) (y : ℕ × ℕ) → binding_at (bindings s.core) g ≡ Some y → is_modified (frame_in now g) ≡ false
      → (is_modified (frame_in s g) ≡ false) × (words_in now g ≡ words_in s g)

pub marks_kept : (s now : Plain) → bindings now.core ≡ bindings s.core → now.disks ≡ s.disks → now.records ≡ s.records →
    now.vtocs ≡ s.vtocs → ((g : ℕ) (y : ℕ × ℕ) → binding_at (bindings s.core) g ≡ Some y → is_modified (frame_in now g)
    ≡ false → (is_modified (frame_in s g) ≡ false) × (words_in now g ≡ words_in s g)) → Marks s now
marks_kept s now bound disks records vtocs clean = assumption

tie_marked : {s now : Plain} {u : ℕ} {h : Home} {t : List Ptw} → Marks s now → IsTied s u h t → IsTied now u h t
tie_marked {s = s} {now = now} {u = u} {h = h} m tie =
    let map : map_at now.vtocs h ≡ map_at s.vtocs h = ap (λ (v : List (List (Option Entry))). map_at v h) m.vtocs in
    record {
      volume = rw m.disks tie.volume;
      used = rw m.vtocs tie.used;
      pages = tie.pages;
      table = rw m.bound tie.table;
      map = rw map tie.map;
      records = rw (m.records, m.vtocs) tie.records;
      clean = λ g q off at.
          let was = rw m.bound at at in
          let old = m.clean g (u, q) was off in
          cc (tie.clean g q old.0 was, out_by s now h q m.disks map);
      zeros = λ q on all. elim (in_frame_or_out now h refl) [
        | inl there ↦ there
        | inr out ↦ elim (in_frame_or_out s h refl) [
          | inl there ↦ rw m.bound there
          | inr was ↦ rw m.bound (tie.zeros q (sym (stored_by s now h q map) ∙ on)
              (subst AreZero (cc (out_by s now h q m.disks map)) all))
        ]
      ];
    }

pub ties_marked : {s now : Plain} → Marks s now → KeepsTies s now
ties_marked {s} {now} m = record { ties = λ u h t tie. tie_marked m tie }

-- where no words change, all pages have the words that they had
pub words_marked : (s now : Plain) → bindings now.core ≡ bindings s.core → now.frames ≡ s.frames → now.disks ≡ s.disks
    → now.vtocs ≡ s.vtocs → words_at now ≡ words_at s
words_marked s now bound frames disks vtocs = λ i. λ u h q. words_by s now u h q bound frames disks (cc) i

at_frame : (s now : Plain) {f : ℕ} {frame : Frame} → now.core ≡ with_frame s.core f frame → f < length s.core.frames
    → frame_in now f ≡ frame
at_frame s now {f = f} {frame = frame} core fl = rw core (get_or-set_same s.core.frames f frame Free fl)

at_other : (s now : Plain) (f g : ℕ) (frame : Frame) → now.core ≡ with_frame s.core f frame → g ≢ f → frame_in now g
    ≡ frame_in s g
at_other s now f g frame core n = rw core (get_or-set_other s.core.frames f g frame Free n)

-- a reference that reads, and one that writes
still_off : (frame : Frame) → is_modified (after_reference frame false) ≡ false → is_modified frame ≡ false
still_off Free off = refl
still_off (Bound u q used true) off = cc
still_off _ off = refl

never_off : (frame : Frame) → is_bound frame ≡ true → is_modified (after_reference frame true) ≡ false → ⊥
never_off (Bound u q used true) bound off = cc
never_off _ bound off = cc

pub marks_read : {s now : Plain} (f : ℕ) → now.core ≡ with_frame s.core f (after_reference (frame_in s f) false) →
    bindings now.core ≡ bindings s.core → now.frames ≡ s.frames → now.disks ≡ s.disks → now.records ≡ s.records →
    now.vtocs ≡ s.vtocs → is_bound (frame_in s f) ≡ true → Marks s now
marks_read {s = s} {now = now} f core bound frames disks records vtocs is = marks_kept s now bound disks records vtocs
    (λ g y at off. (off_before g off, cc))
  where
    off_before : (g : ℕ) → is_modified (frame_in now g) ≡ false → is_modified (frame_in s g) ≡ false
    off_before g off = elim (cases_eq g f) [
      | inl same ↦ rw same (still_off (frame_in s f) (sym (ap is_modified
          (ap (frame_in now) same ∙ at_frame s now core (bound_inside s.core f is))) ∙ off))
      | inr n ↦ sym (ap is_modified (at_other s now f g _ core n)) ∙ off
    ]

marks_written : {s : Plain} (f : ℕ) (words : List ℕ) → is_bound (frame_in s f) ≡ true
    → Marks s (worded (referred s f true) f words)
marks_written {s = s} f words is =
    let now : Plain = worded (referred s f true) f words in
    marks_kept s now (bindings_referred s.core f true) refl refl refl (λ g y at off. elim (cases_eq g f) [
      | inl same ↦ absurd (never_off (frame_in s f) is
          (sym (ap is_modified (ap (frame_in now) same ∙ at_frame s now refl (bound_inside s.core f is))) ∙ off))
      | inr n ↦ (sym (ap is_modified (at_other s now f g _ refl n)) ∙ off, get_or-set_other s.frames f g words [] n)
    ])

-- a frame that was bound to no page, and is bound to none
pub marks_moved : {s now : Plain} (f : ℕ) (frame : Frame) → now.core ≡ with_frame s.core f frame → bindings now.core
    ≡ bindings s.core → bound_page (frame_in s f) ≡ None
    → now.frames ≡ s.frames → now.disks ≡ s.disks → now.records ≡ s.records → now.vtocs ≡ s.vtocs → Marks s now
marks_moved {s = s} {now = now} f frame core bound none frames disks records vtocs =
    marks_kept s now bound disks records vtocs (λ g y at off. elim (cases_eq g f) [
      | inl same ↦ absurd (not_none (binding_at (bindings s.core) g) y (cc (binding_is s.core f)) at)
      | inr n ↦ (cc (at_other s now f g frame core n), cc)
    ])

-- the words in the frame that a page is in are others
is_page : (uid p u q : ℕ) → is_binding u q (page uid p) ≡ true → (u ≡ uid) × (q ≡ p)
is_page uid p u q passes =
    let tells : page uid p ≡ page u q = binding_tells (page uid p) u q passes in
    (sym (ap uid_part tells), sym (ap number_of tells))

words_written : {b bound : List (Option (ℕ × ℕ))} (those : List (List ℕ)) {frames : List (List ℕ)} {drives disks : List
    (List (List ℕ))} {tables vtocs : List (List (Option Entry))} {uid p f : ℕ} (words : List ℕ) → bound ≡ b → frames ≡
    set those f words → disks ≡ drives → vtocs ≡ tables → binding_at b f ≡ page uid p → f < length those → IsBoundOnce b
    f → words_of_page bound frames disks vtocs ≡ changed_page (words_of_page b those drives tables) uid p words
unfolding words_of_page changed_at
words_written {b = b} {bound = bound} those {frames = frames} {drives = drives}
    {disks = disks} {tables = tables} {vtocs = vtocs} {uid = uid} {p = p} {f = f} words bs fr ds vs at lt once =
    λ i. λ u h q. point u h q (is_binding u q (page uid p)) refl i
  where
    moved : (u : ℕ) (h : Home) (q : ℕ) → words_of_page bound frames disks vtocs u h q ≡ words_held (set those f words)
        (get_or drives h.volume []) (record_at (vtoc_in tables h.volume) h.entry q) (position (is_binding u q) b)
    moved u h q = rw (bs, fr, ds, vs) refl

    other : (u : ℕ) (h : Home) (q : ℕ) (x : Option ℕ) → position (is_binding u q) b ≡ x → is_binding u q (page uid p) ≡
        false → words_held (set those f words) (get_or drives h.volume []) (record_at (vtoc_in tables h.volume) h.entry
        q) x ≡ words_held those (get_or drives h.volume []) (record_at (vtoc_in tables h.volume) h.entry q) x
    other u h q None is off = refl
    other u h q (Some g) is off = get_or-set_other those f g words [] (λ same. off_and_on (is_binding u q (binding_at b
        g)) (ap (λ (k : ℕ). is_binding u q (binding_at b k)) same ∙ ap (is_binding u q) at ∙ off) (position-Some
        (is_binding u q) b g None is).1)

    point : (u : ℕ) (h : Home) (q : ℕ) (z : Bool) → is_binding u q (page uid p) ≡ z → words_of_page bound frames disks
        vtocs u h q ≡ changed_page (words_of_page b those drives tables) uid p words u h q
    point u h q true passes =
        let same = is_page uid p u q passes in
        let found : position (is_binding u q) b ≡ Some f =
        rw (same.0, same.1) (found_at b uid p f at (λ g is. once.only g (is ∙ sym at))) in
        cc (moved u h q, get_or-set_same those f words [] lt)
    point u h q false passes = cc (moved u h q, other u h q (position (is_binding u q) b) refl passes)

-- a frame is written through: both its marks are on, and it has these words
pub record IsWritten (s now : Plain) (f : ℕ) (words : List ℕ) : Type 0 where
  pub bound : bindings now.core ≡ bindings s.core
  pub tied : KeepsTies s now
  pub shown : IsBoundOnce (bindings s.core) f
      → words_at now ≡ changed_page (words_at s) (uid_in (frame_in s f)) (number_in (frame_in s f)) words

pub written : {s now : Plain} {f : ℕ} {words : List ℕ} → now ≡ worded (referred s f true) f words
    → is_bound (frame_in s f) ≡ true → length (words_in s f) ≡ 1024 → IsWritten s now f words
written {s = s} {now = now} {f = f} {words = words} effect is size =
    let bound : bindings now.core ≡ bindings s.core = rw effect (bindings_referred s.core f true) in
    let within : f < length s.frames = within_from s.frames f [] (λ none. (omega (arith, ap length none))) in
    record {
      bound = bound;
      tied = ties_marked {s = s} {now = now} (rw effect (marks_written f words is));
      shown = words_written s.frames words bound (cc) (cc)
          (cc) (binding_is s.core f ∙ bound_to (frame_in s f) is) within;
    }

-- a word changes, and says of its page what it said
tie_worded : {s : Plain} {uid : ℕ} {home : Home} {t u : List Ptw} (p : ℕ) (word : Ptw) → IsTied s uid home t
    → u ≡ set t p word → IsTableOf (bindings s.core) uid u → IsMapOf (map_at s.vtocs home) u → IsTied s uid home u
tie_worded {t} {u} p word tie us table map =
    let pages : length u ≤ 256 = rw (us, length-set t p word) tie.pages in
    assumption (pages, table, map, tie)

pub tie_taken : {s : Plain} {uid : ℕ} {home : Home} {t u : List Ptw} (p : ℕ) {f : ℕ} → ptw_at t p ≡ Here f
    → u ≡ set t p (Leaving f) → IsTied s uid home t → IsTied s uid home u
tie_taken p {f = f} here us tie = tie_worded p (Leaving f) tie us (table_taken p tie.table here us)
    (map_taken p tie.map here us)

pub tie_back : {s : Plain} {uid : ℕ} {home : Home} {t u : List Ptw} (p : ℕ) {f : ℕ} → ptw_at t p ≡ Leaving f
    → u ≡ set t p (Here f) → IsTied s uid home t → IsTied s uid home u
tie_back p {f = f} leaving us tie = tie_worded p (Here f) tie us (table_back p tie.table leaving us)
    (map_back p tie.map leaving us)

-- what the calls that change a word go by
pub ruleset word_taken = (here_within, table_taken, map_taken, tie_taken)

pub ruleset word_back = (leaving_within, table_back, map_back, tie_back)
