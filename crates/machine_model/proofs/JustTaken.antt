-- A look takes for a tree command just what the command takes.
use Rattle.machine_model.proofs.Kept.{◌≡◌, ◌≢◌, ◌<◌, ◌≤◌, ℕ, zero, suc, ◌+◌, ◌-◌, ◌/◌, Bool, true, false, ◌||◌, cond, eqb, List, [], ◌∷◌, ◌++◌, map, length, drop, get_or, Option, Some, None, ◌⊎◌, inl, inr, refl, sym, ap, ◌∙◌, arith, nat_le, filter, list_any, range_with_len, eqb_tells, leb_tells, list_any-append, Command, AccountMaps, What, Ptw, Sdw, Core, frame_at, reads_of, started_page, is_for, sdws_at, table_of, read_at, has, is_going_descriptor, is_going_frame, leads_to, page_of, Aim, CutDescriptor, descriptors_taken, first_taken, frame_read_from, frames_taken, KeepsBook, has_cut, names, led_to, seen, cut_all, cut_one, note_of, take_all, take_one, took, Keeps, cut_of_owner, descriptor_of, frame_reading, frames_from, frames_of_owner, is_active, is_connected, is_page_of, trailers_in, refusal_of, uid_of_command, cut_uid, descriptor_use, frame_use, is_cut_at, shown, State, GoesJust, IsAlone, IsTakenFor, TakesDescriptor, TakesPage, WasBrought, Segment, not_both, or_cases, none_has, eqb_self, page_is, some_same, Command as command, What as what, Ptw as ptw, Sdw as sdw, Frame as frame, Aim as aim, chain_active, IsBrought, FindsTaken, names_uid, delete_stands, position_none, map_list, LooksLike, took_like, took_stands, IsIdle, cut_at_tells, linked_within, none_some, page_used, active_at, brought_on, same_uid, took_out, ArePairs, CanTook, has_pair, is_pair, linked_before, noted, noted_has, pairs_left, took_keeps, or_true}
use Rattle.machine_model.proofs.TakeLists.{dropped_word, frame_word, trailers_taken}
use Rattle.machine_model.proofs.TakeWhole.{cut_pages, frame_listed, note_at, take_rest, trailer_listed, take_linked, took_linked, cut_frames}
use Rattle.machine_model.proofs.NumberLaws.{take_cut}

or_moved : (a b c : Bool) → ((a || (b || false)) || c) ≡ (a || (b || c))
or_moved true b c = refl
or_moved false true c = refl
or_moved false false c = refl

or_false : (a : Bool) → a ≡ (a || false)
or_false true = refl
or_false false = refl

pair_own : (k : ℕ) {n m : ℕ} → n ≡ m → is_pair k n (k, m) ≡ true
pair_own k {n} {m} same = rw (eqb_self k) (cc (eqb_self m))

pair_tells : (k n : ℕ) (x : ℕ × ℕ) → is_pair k n x ≡ true → (x.0 ≡ k) × (x.1 ≡ n)
pair_tells k n x h = elim (eqb_tells x.0 k) [
  | inl e ↦ elim (eqb_tells x.1 n) [ inl i ↦ (e.1, i.1) | inr m ↦ absurd (not_both h (rw (e.0, m.0) refl)) ]
  | inr m ↦ absurd (not_both h (rw m.0 refl))
]

-- ---- what the owner has taken

take_has : (s : State) (c : ℕ) (a : Aim) (w : What) (fs : List ℕ) (g : ℕ)
    → has (frames_of_owner (take_all s c a w fs).owner) g ≡ (has (frames_of_owner s.owner) g || has fs g)
take_has s c a w [] g = or_false (has (frames_of_owner s.owner) g)
take_has s c a w (f ∷ fs) g = cc (
  take_has (take_one s c a w f) c a w fs g,
  list_any-append (λ y. eqb y g) (frames_of_owner s.owner) (f ∷ []),
  or_moved (has (frames_of_owner s.owner) g) (eqb f g) (has fs g),
)

cut_has : (s : State) (c : ℕ) (a : Aim) (w : What) (xs : List (ℕ × ℕ)) (k n : ℕ)
    → has_cut (cut_of_owner (cut_all s c a w xs).owner) k n ≡ (has_cut (cut_of_owner s.owner) k n || has_pair xs k n)
cut_has s c a w [] k n = or_false (has_cut (cut_of_owner s.owner) k n)
cut_has s c a w (x ∷ xs) k n = cc (
  cut_has (cut_one s c a w x) c a w xs k n,
  list_any-append (is_cut_at k n) (cut_of_owner s.owner) (d ∷ []),
  or_moved (has_cut (cut_of_owner s.owner) k n) (is_cut_at k n d) (has_pair xs k n),
  note_at s k n x (descriptor_of s.store.links x.0 x.1),
)
  where
    d : CutDescriptor
    d = note_of s.store x.0 x.1 (descriptor_of s.store.links x.0 x.1)

-- each of some descriptors led to its segment
abbrev NotesLed : (ℕ → ℕ → Option ℕ) → List CutDescriptor → Type 0
NotesLed linked [] = Unit {0}
NotesLed linked (d ∷ ds) = (linked d.process d.number ≡ Some d.uid) × NotesLed linked ds

notes_push : (linked : ℕ → ℕ → Option ℕ) (ds : List CutDescriptor) (d : CutDescriptor) → NotesLed linked ds
    → linked d.process d.number ≡ Some d.uid → NotesLed linked (ds ++ d ∷ [])
notes_push linked [] d led h = (h, tt)
notes_push linked (x ∷ xs) d led h = (led.0, notes_push linked xs d led.1 h)

notes_led : (linked : ℕ → ℕ → Option ℕ) (ds : List CutDescriptor) (k n : ℕ) {u : ℕ} → NotesLed linked ds
    → cut_uid ds k n ≡ Some u → linked k n ≡ Some u
notes_led linked [] k n led h = cc
notes_led linked (d ∷ ds) k n {u} led h = by (is_cut_at k n d) refl h (λ i. notes_led linked ds k n led.1 i)
  where
    by : (b : Bool) → is_cut_at k n d ≡ b → cond b (Some d.uid) (cut_uid ds k n) ≡ Some u
        → (cut_uid ds k n ≡ Some u → linked k n ≡ Some u) → linked k n ≡ Some u
    by true e i rest = let at = cut_at_tells k n d e in (λ j. linked (at.0 j) (at.1 j)) ∙ (led.0 ∙ i)
    by false e i rest = rest i

cut_notes : (s : State) (c : ℕ) (a : Aim) (w : What) (xs : List (ℕ × ℕ)) (linked : ℕ → ℕ → Option ℕ)
    → ArePairs (seen s).linked w xs → ((k n u : ℕ) → (seen s).linked k n ≡ Some u → linked k n ≡ Some u)
    → NotesLed linked (cut_of_owner s.owner) → NotesLed linked (cut_of_owner (cut_all s c a w xs).owner)
cut_notes s c a w [] linked are less led = led
cut_notes s c a w (x ∷ xs) linked are less led = cut_notes (cut_one s c a w x) c a w xs linked
    (pairs_left s c a w x xs are) (λ k n u h. less k n u (linked_before s c a w x are.0.1 k n h)) (notes_push
    linked (cut_of_owner s.owner) (noted s x) led (noted_has linked s x are.0.1 (less x.0 x.1 are.0.0 are.0.1)))

-- ---- what goes is what was listed

-- the pages and descriptors that are listed are these
pub record AreListed (s : State) (fs : List ℕ) (xs : List (ℕ × ℕ)) (Page : ℕ → ℕ → Type 0)
    (Descriptor : ℕ → ℕ → ℕ → Type 0) : Type 0 where
  pub pages : (f u q : ℕ) → (seen s).words u q ≡ ptw.Here f → Page u q → has fs f ≡ true
  pub its_pages : (f u q : ℕ) → has fs f ≡ true → (seen s).bound f ≡ Some (u, q) → Page u q
  pub unread : (f u q : ℕ) → (seen s).reads f ≡ Some (u, q) → Page u q → ⊥
  pub descriptors : (k n u : ℕ) → (seen s).linked k n ≡ Some u → Descriptor k n u → has_pair xs k n ≡ true
  pub its_descriptors : (k n u : ℕ) → has_pair xs k n ≡ true → (seen s).linked k n ≡ Some u → Descriptor k n u

module _ (s : State) (c : ℕ) (a : Aim) (w : What) (fs : List ℕ) (xs : List (ℕ × ℕ)) (Page : ℕ → ℕ → Type 0)
    (Descriptor : ℕ → ℕ → ℕ → Type 0) (k : Keeps s) (idle : IsIdle s.owner) (can : CanTook s a w fs xs)
    (l : AreListed s fs xs Page Descriptor) where
  abbrev mid : State
  mid = take_all s c a w fs

  abbrev now : State
  now = took s c a w fs xs

  book : KeepsBook (seen now)
  book = (took_keeps c k.store.kept.places k.book can).book

  pages_same : now.store.pages ≡ s.store.pages
  pages_same = cut_pages mid c a w xs ∙ (take_rest s c a w fs).0

  bound_same : (f : ℕ) → (seen now).bound f ≡ (seen s).bound f
  bound_same f = cc (pages_same)

  reads_same : (f : ℕ) → (seen now).reads f ≡ (seen s).reads f
  reads_same f = cc (pages_same)

  frames_go : (f : ℕ) → is_going_frame ((shown (seen now)).frame f) ≡ has fs f
  frames_go f = cc (book.going_owned.frames f, cut_frames mid c a w xs, take_has s c a w fs f)

  descriptors_go : (j n : ℕ) → is_going_descriptor ((shown (seen now)).descriptor j n) ≡ has_pair xs j n
  descriptors_go j n = cc (book.going_owned.cuts j n, cut_has mid c a w xs j n, take_cut s c a w fs)

  -- the page of a frame, before and after
  page_by : (f u q : ℕ) → page_of ((shown (seen now)).frame f) ≡ Some (u, q)
      → ((seen s).bound f ≡ Some (u, q)) ⊎ ((seen s).reads f ≡ Some (u, q))
  page_by f u q h = by ((seen s).bound f) ((seen s).reads f) refl refl
      ((λ i. page_of (frame_use (seen now).words (sym (bound_same f) i) (sym (reads_same f) i))) ∙ h)
    where
      by : (x y : Option (ℕ × ℕ)) → (seen s).bound f ≡ x → (seen s).reads f ≡ y
          → page_of (frame_use (seen now).words x y) ≡ Some (u, q)
          → ((seen s).bound f ≡ Some (u, q)) ⊎ ((seen s).reads f ≡ Some (u, q))
      by None None b r e = cc
      by None (Some page) b r e = inr (r ∙ e)
      by (Some page) y b r e = inl (cc (page_used page ((seen now).words page.0 page.1)))

  frame_here : (f u q : ℕ) (y : Ptw) → Page u q → (seen s).bound f ≡ Some (u, q) → (seen s).words u q ≡ y
      → names y ≡ Some f → has fs f ≡ true
  frame_here f u q (ptw.Here g) p b e h = l.pages f u q (cc (some_same g f h)) p
  frame_here f u q (ptw.Leaving g) p b e h = absurd (let no : true ≡ false = sym (cc)
      ∙ (k.book.going_owned.frames f ∙ ap (λ (gs : List ℕ). has gs f) idle.frames) in cc)
  frame_here f u q _ p b e h = cc

  -- where a descriptor led before it was cut, if it was
  linked_by : (j n u : ℕ) → leads_to ((shown (seen now)).descriptor j n) ≡ Some u
      → is_going_descriptor ((shown (seen now)).descriptor j n) ≡ false → (seen s).linked j n ≡ Some u
  linked_by j n u h off = by ((seen now).linked j n) (cut_uid (cut_of_owner now.owner) j n) refl refl h off
    where
      by : (x y : Option ℕ) → (seen now).linked j n ≡ x → cut_uid (cut_of_owner now.owner) j n ≡ y
          → leads_to (descriptor_use x y) ≡ Some u → is_going_descriptor (descriptor_use x y) ≡ false
          → (seen s).linked j n ≡ Some u
      by None None e d g i = cc
      by None (Some v) e d g i = cc
      by (Some v) y e d g i = took_linked s c a w fs xs can.pairs_are j n (e ∙ g)

  -- a descriptor that was cut led to what is remembered of it
  cut_led : (j n u : ℕ) → leads_to ((shown (seen now)).descriptor j n) ≡ Some u
      → is_going_descriptor ((shown (seen now)).descriptor j n) ≡ true → (seen s).linked j n ≡ Some u
  cut_led j n u h on = notes_led (seen s).linked (cut_of_owner now.owner) j n led (by ((seen now).linked j n)
      (cut_uid (cut_of_owner now.owner) j n) refl refl h on)
    where
      by : (x y : Option ℕ) → (seen now).linked j n ≡ x → cut_uid (cut_of_owner now.owner) j n ≡ y
          → leads_to (descriptor_use x y) ≡ Some u → is_going_descriptor (descriptor_use x y) ≡ true
          → cut_uid (cut_of_owner now.owner) j n ≡ Some u
      by None None e d g i = cc
      by None (Some v) e d g i = d ∙ g
      by (Some v) y e d g i = cc

      led : NotesLed (seen s).linked (cut_of_owner now.owner)
      led = rw (take_linked s c a w fs) at (cut_notes mid c a w xs (seen mid).linked
          (rw (take_linked s c a w fs) can.pairs_are) (λ i m v e. e) (rw (take_cut s c a w fs ∙ idle.cut) tt))

  -- So what goes then is just what is listed.
  pub took_just : GoesJust (shown (seen now)) Page Descriptor
  took_just = record {
    pages = λ f u q h p. frames_go f ∙ elim (page_by f u q h) [
      | inl b ↦ frame_here f u q ((seen s).words u q) p b refl (k.book.tied.named f u q b)
      | inr r ↦ absurd (l.unread f u q r p)
    ];
    its_pages = λ f u q h on. (let listed = sym (frames_go f) ∙ on in elim (page_by f u q h) [
      | inl b ↦ l.its_pages f u q listed b
      | inr r ↦ absurd (none_some (sym (k.book.tied.unbound f u q r) ∙ can.bound f listed))
    ]);
    descriptors = λ j n u h p. by j n u h p (is_going_descriptor ((shown (seen now)).descriptor j n)) refl;
    its_descriptors = λ j n u h on. l.its_descriptors j n u (sym (descriptors_go j n) ∙ on) (cut_led j n u h on);
  }
    where
      by : (j n u : ℕ) → leads_to ((shown (seen now)).descriptor j n) ≡ Some u → Descriptor j n u → (b : Bool)
          → is_going_descriptor ((shown (seen now)).descriptor j n) ≡ b → b ≡ true
      by j n u h p true e = refl
      by j n u h p false e = sym e ∙ (descriptors_go j n ∙ l.descriptors j n u (linked_by j n u h e) p)

-- ---- the lists of a command

-- no page of the segment from a number on is being read
unread_from : (core : Core) (u low f q : ℕ) → frame_reading core u (λ p. nat_le low p) ≡ None
    → read_at (reads_of core) f ≡ Some (u, q) → low ≤ q → ⊥
unread_from core u low f q h e le = not_both passes (position_none
    (λ x. is_page_of u (λ p. nat_le low p) (started_page x)) core.frames frame.Free f h refl)
  where
    above : nat_le low q ≡ true
    above = elim (leb_tells low q) [ inl i ↦ i.0 | inr m ↦ (let lt = m.1 in absurd (omega arith)) ]

    passes : is_page_of u (λ p. nat_le low p) (started_page (frame_at core f)) ≡ true
    passes = ap (is_page_of u (λ p. nat_le low p)) (sym (map_list started_page core.frames f frame.Free) ∙ e)
        ∙ rw (eqb_self u, above) refl

module _ {s : State} (k : ℕ) (keeps : Keeps s) where
  -- the pages of a segment from a number on
  pages_from : (u low f q : ℕ) → (seen s).words u q ≡ ptw.Here f → low ≤ q
      → has (frames_from s.store.ast u low) f ≡ true
  pages_from u low f q h le = frame_listed (drop low (table_of s.store.ast u)) (q - low) f
      (dropped_word (table_of s.store.ast u) low (q - low) ∙ (ap (λ (i : ℕ). get_or (table_of s.store.ast u) i ptw.Null)
      (omega arith) ∙ h))

  from_pages : (u low f v q : ℕ) → has (frames_from s.store.ast u low) f ≡ true → (seen s).bound f ≡ Some (v, q)
      → (v ≡ u) × (low ≤ q)
  from_pages u low f v q h bound = let at = frame_word (drop low (table_of s.store.ast u)) f h in
      let is = keeps.book.tied.back f u (low + at.0) (cc (dropped_word (table_of s.store.ast u) low at.0)) in
      let same = page_is v q u (low + at.0) (cc) in
      (same.0, (omega arith))

  -- the descriptors of a segment
  linked_active : (j n : ℕ) {u : ℕ} → (seen s).linked j n ≡ Some u → is_active s.store.ast u ≡ true
  linked_active j n {u} h = by (descriptor_of s.store.links j n) h
    where
      by : (x : Sdw) → led_to s.store.ast.entries x ≡ Some u → is_active s.store.ast u ≡ true
      by sdw.Fault e = cc
      by (sdw.Present aste mode pages) e = active_at s.store.ast aste u e

  trailers_all : {u : ℕ} (j n : ℕ) {v : ℕ} → (seen s).linked j n ≡ Some v → v ≡ u
      → has_pair (trailers_in s.store u) j n ≡ true
  trailers_all {u} j n h same = let is = h ∙ ap (λ (x : ℕ). Some x) same in
      trailer_listed j n keeps (linked_active j n is) is

  pair_named : (w : What) (xs : List (ℕ × ℕ)) (j n : ℕ) {v : ℕ} → ArePairs (seen s).linked w xs → has_pair xs j n ≡ true
      → (seen s).linked j n ≡ Some v → names_uid w v ≡ true
  pair_named w [] j n are h l = cc
  pair_named w (x ∷ xs) j n {v} are h l = elim (or_cases (is_pair j n x) (has_pair xs j n) h) [
    | inl e ↦ (let at = pair_tells j n x e in
        cc (some_same are.0.0 v (sym are.0.1 ∙ ((λ i. (seen s).linked (at.0 i) (at.1 i)) ∙ l))))
    | inr e ↦ pair_named w xs j n are.2 e l
  ]

  trailers_its : (u j n : ℕ) {v : ℕ} → has_pair (trailers_in s.store u) j n ≡ true → (seen s).linked j n ≡ Some v
      → v ≡ u
  trailers_its u j n {v} h l = elim (eqb_tells v u) [
    | inl e ↦ e.1
    | inr m ↦ absurd (not_both (pair_named (what.Seg u) (trailers_in s.store u) j n
        (trailers_taken s (what.Seg u) u keeps (eqb_self u)) h l) m.0)
  ]

  -- the descriptors of a process
  is_linked : (j n v : ℕ) → (seen s).linked j n ≡ Some v → is_connected (descriptor_of s.store.links j n) ≡ true
  is_linked j n v h = by (descriptor_of s.store.links j n) h
    where
      by : (x : Sdw) → led_to s.store.ast.entries x ≡ Some v → is_connected x ≡ true
      by sdw.Fault e = cc
      by (sdw.Present aste mode pages) e = refl

  -- each process has 256 descriptors
  number_within : (j n : ℕ) {v : ℕ} → (seen s).linked j n ≡ Some v → n < 256
  number_within j n h = rw (← (keeps.store.kept.linked.lists.words j
      (rw (← keeps.store.kept.linked.lists.processes) within.0))) within.1
    where
      within : (j < length s.store.links.descriptors) × (n < length (sdws_at s.store.links.descriptors j))
      within = linked_within s.store.links j n (λ e. none_some (sym (cc) ∙ h))

  one_all : {number n : ℕ} (v : ℕ) → (seen s).linked k n ≡ Some v → n ≡ number
      → has_pair (cond (is_connected (descriptor_of s.store.links k number)) ((k, number) ∷ []) []) k n ≡ true
  one_all {number} {n} v h same = cc (same, is_linked k n v h, pair_own k same)

  one_its : (number j n : ℕ) (b : Bool) → has_pair (cond b ((k, number) ∷ []) []) j n ≡ true → (j ≡ k) × (n ≡ number)
  one_its number j n false h = cc
  one_its number j n true h = elim (or_cases (is_pair j n (k, number)) false h) [
    | inl e ↦ (let at = pair_tells j n (k, number) e in (sym at.0, sym at.1))
    | inr e ↦ absurd (not_both e refl)
  ]

  end_all : (from count n v : ℕ) → (seen s).linked k n ≡ Some v → from ≤ n → n < from + count
      → has_pair (map (λ i. (k, i)) (filter (λ i. is_connected (descriptor_of s.store.links k i))
      (range_with_len from count))) k n ≡ true
  end_all from zero n v h low high = absurd (omega arith)
  end_all from (suc count) n v h low high = by (is_connected (descriptor_of s.store.links k from)) refl
      (eqb_tells from n) (λ a b. end_all (from + 1) count n v h a b)
    where
      rest : List (ℕ × ℕ)
      rest = map (λ i. (k, i)) (filter (λ i. is_connected (descriptor_of s.store.links k i))
          (range_with_len (from + 1) count))

      by : (b : Bool) → is_connected (descriptor_of s.store.links k from) ≡ b
          → ((eqb from n ≡ true) × (from ≡ n)) ⊎ ((eqb from n ≡ false) × (from ≢ n))
          → (from + 1 ≤ n → n < from + 1 + count → has_pair rest k n ≡ true)
          → has_pair (map (λ i. (k, i)) (cond b (from ∷ filter (λ i. is_connected (descriptor_of s.store.links k i))
          (range_with_len (from + 1) count)) (filter (λ i. is_connected (descriptor_of s.store.links k i))
          (range_with_len (from + 1) count)))) k n ≡ true
      by true e (inl same) later = cc (pair_own k (sym same.1))
      by true e (inr other) later = rw (later (omega arith) (omega arith)) (or_true (is_pair k n (k, from)))
      by false e (inl same) later = cc (is_linked k n v h)
      by false e (inr other) later = later (omega arith) (omega arith)

  end_its : (is : List ℕ) (j n : ℕ) → has_pair (map (λ i. (k, i)) is) j n ≡ true → j ≡ k
  end_its [] j n h = cc
  end_its (i ∷ is) j n h = elim (or_cases (is_pair j n (k, i)) (has_pair (map (λ x. (k, x)) is) j n) h) [
    | inl e ↦ sym (pair_tells j n (k, i) e).0
    | inr e ↦ end_its is j n e
  ]

  -- The lists that a look finds for a command are just what it takes.
  pub command_lists : (cmd : Command) (u : ℕ) → u ≡ uid_of_command s.store k cmd
      → frame_read_from s.store.pages.core u (first_taken cmd) ≡ None
      → AreListed s (frames_taken s.store u (first_taken cmd)) (descriptors_taken s.store k u cmd)
      (TakesPage cmd u) (TakesDescriptor cmd k u)
  command_lists (command.Acl path row m) u is unread = record {
    pages = λ f v q h p. absurd p;
    its_pages = λ f v q h b. absurd (none_has f h);
    unread = λ f v q h p. p;
    descriptors = λ j n v h same. trailers_all j n h same;
    its_descriptors = λ j n v h l. trailers_its u j n h l;
  }
  command_lists (command.Delete path) u is unread = record {
    pages = λ f v q h same. pages_from u 0 f q (cc) (omega arith);
    its_pages = λ f v q h b. (from_pages u 0 f v q h b).0;
    unread = λ f v q h same. unread_from s.store.pages.core u 0 f q unread (cc) (omega arith);
    descriptors = λ j n v h same. trailers_all j n h same;
    its_descriptors = λ j n v h l. trailers_its u j n h l;
  }
  command_lists (command.Truncate path words) u is unread = record {
    pages = λ f v q h p. pages_from u (words / 1024) f q (cc) p.1;
    its_pages = λ f v q h b. from_pages u (words / 1024) f v q h b;
    unread = λ f v q h p. unread_from s.store.pages.core u (words / 1024) f q unread (cc) p.1;
    descriptors = λ j n v h p. absurd p;
    its_descriptors = λ j n v h l. cc;
  }
  command_lists (command.Terminate number) u is unread = record {
    pages = λ f v q h p. absurd p;
    its_pages = λ f v q h b. absurd (none_has f h);
    unread = λ f v q h p. p;
    descriptors = λ j n v h p. (rw p.0 (one_all v (cc) p.1));
    its_descriptors = λ j n v h l. one_its number j n (is_connected (descriptor_of s.store.links k number)) h;
  }
  command_lists command.End u is unread = record {
    pages = λ f v q h p. absurd p;
    its_pages = λ f v q h b. absurd (none_has f h);
    unread = λ f v q h p. p;
    descriptors = λ j n v h same. (rw same (end_all 0 256 n v (cc) (omega arith) (number_within j n h)));
    its_descriptors = λ j n v h l. end_its _ j n h;
  }
  command_lists cmd u is unread = record {
    pages = λ f v q h p. absurd p;
    its_pages = λ f v q h b. absurd (none_has f h);
    unread = λ f v q h p. p;
    descriptors = λ j n v h p. absurd p;
    its_descriptors = λ j n v h l. cc;
  }

  -- a node that a `delete` isn't refused for has no inferior
  alone_found : (cmd : Command) → refusal_of s k cmd ≡ None
      → IsAlone s.store.accounts.nodes (uid_of_command s.store k cmd) cmd
  alone_found (command.Delete path) stands = let leads_there = delete_stands s k keeps path stands in cc
  alone_found cmd stands = tt

-- what a `truncate` wants is there before it takes
brought_found : {s : State} → Keeps s → (u : ℕ) (cmd : Command) → IsBrought s u cmd → WasBrought s.store u cmd
brought_found {s} keeps u (command.Truncate path words) h =
    (chain_active s.store.accounts.nodes keeps.store.accounts.tree s.store.ast u h.0, h.1)
brought_found keeps u _ h = tt

-- ---- the look

module _ {s : State} (c : ℕ) {k : ℕ} {cmd : Command} {w : What} {fs : List ℕ} {pairs : List (ℕ × ℕ)} (keeps : Keeps s)
    (idle : IsIdle s.owner) (finds : FindsTaken s k cmd fs pairs) (can : CanTook s aim.Committing w fs pairs) where
  lists : AreListed s fs pairs (TakesPage cmd (uid_of_command s.store k cmd))
      (TakesDescriptor cmd k (uid_of_command s.store k cmd))
  lists = rw finds.frames (rw finds.descriptors (command_lists k keeps cmd (uid_of_command s.store k cmd) refl
      finds.unread))

  -- What a look takes for a command is just what the command takes.
  pub look_taken : IsTakenFor (took s c aim.Committing w fs pairs) k cmd
  look_taken = record {
    just = rw same (took_just s c aim.Committing w fs pairs (TakesPage cmd (uid_of_command s.store k cmd))
        (TakesDescriptor cmd k (uid_of_command s.store k cmd)) keeps idle can lists);
    alone = rw (same, like.accounts) (alone_found k keeps cmd finds.stands);
    brought = rw same (brought_on s.store now.store (uid_of_command s.store k cmd) cmd
        (λ e. ap (λ (es : List (Option Segment)). list_any (is_for (uid_of_command s.store k cmd)) es) like.entries ∙ e)
        (took_out s c aim.Committing w fs pairs)
        (brought_found keeps (uid_of_command s.store k cmd) cmd finds.brought));
    stands = took_stands s c aim.Committing w fs pairs k cmd finds.stands;
  }
    where
      now : State
      now = took s c aim.Committing w fs pairs

      like : LooksLike s now
      like = took_like s c aim.Committing w fs pairs

      same : uid_of_command now.store k cmd ≡ uid_of_command s.store k cmd
      same = same_uid s.store now.store k cmd (ap (λ (a : AccountMaps). a.nodes) like.accounts) like.known
