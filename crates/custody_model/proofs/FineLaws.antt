-- What each entry of a clean book leaves: what processors hold stays current, or they are warned.
use Rattle.custody_model.proofs.Prelude.{◌≡◌, ◌≢◌, ℕ, Bool, true, false, not, ◌&&◌, ◌||◌, cond, eqb, List, [], ◌∷◌, ◌++◌, Option, Some, None, ◌+◌, refl, sym, ap, subst, ◌∙◌, inl, inr, ◌⊎◌, arith, IsSomeAnd, drop, length, nat_le, if◌then◌else◌, filter, nat_tests, eqb_tells, list_any-append, any-filter_same, What, what, Entry, entry, Plan, Store, FrameUse, frame, DescriptorUse, descriptor, Custody, Seat, has, is_current_frame, is_going_frame, is_current_descriptor, is_going_descriptor, names_frame, names_descriptor, is_started, taken, given_back, cut, reconnected, cleared, filled, nothing_held, IsAllowed, MayBeHere, MayTakeSeg, NobodyHoldsPage, NobodyHoldsSeg, NamesAllGoing, next_command, Fine, IsFinePage, IsFineSeg, IsWarned, NoneDue, FillsOnline, pending_after, with_frame, with_descriptor, with_active, with_seat, signalled, answered_clear, queued, is_try, released_by, custody_next, not_both, false_from_ne_true, common_steps}

-- ---- lists

has-filter : (p : ℕ → Bool) (xs : List ℕ) (x : ℕ) → has (filter p xs) x ≡ true → (p x ≡ true) × (has xs x ≡ true)
has-filter p xs x h =
    let kept : has (filter p xs) x ≡ (p x && has xs x) =
    any-filter_same (λ y. eqb y x) p (p x) (λ y e. let same : y ≡ x = grind (arith, nat_tests) in ap p same) xs in
    let both : (p x && has xs x) ≡ true = sym kept ∙ h in
    (grind (arith, nat_tests), grind (arith, nat_tests))

-- what a place has once one was put: what was put there, or what was there
by_place : {A : Type 0} (i k : ℕ) (x y : A) (P : A → Type 0) → (i ≡ k → P x) → (i ≢ k → P y) → P (cond (eqb i k) x y)
by_place i k x y P here other = elim (eqb_tells i k) [ inl e ↦ rw e.0 (here e.1) | inr n ↦ rw n.0 (other n.1) ]

-- ---- what is named

pub names_same : (c e : Custody) (w : What) (f : ℕ) → e.frame f ≡ c.frame f → names_frame e w f ≡ names_frame c w f
names_same c e (what.Seg u) f h = rw h refl
names_same c e _ f h = refl

pub names_descriptor_same : (c e : Custody) (w : What) (k n : ℕ) → e.descriptor k n ≡ c.descriptor k n
    → names_descriptor e w k n ≡ names_descriptor c w k n
names_descriptor_same c e (what.Seg u) k n h = rw h refl
names_descriptor_same c e _ k n h = refl

warned : (b : Bool) (o p : Option What) (t u : What → Bool) → p ≡ o → ((w : What) → u w ≡ t w) → (b ≡ true)
    ⊎ IsSomeAnd o (λ w. t w ≡ true) → (b ≡ true) ⊎ IsSomeAnd p (λ w. u w ≡ true)
warned b o p t u e h (inl i) = inl i
warned b o p t u e h (inr i) = grind (arith, nat_tests, common_steps)

page_same : (c e : Custody) {b : Bool} {d f : ℕ} → e.frame f ≡ c.frame f → (e.seat d).due ≡ (c.seat d).due
    → IsFinePage c b d f → IsFinePage e b d f
page_same c e h due (inl i) = inl (cc)
page_same c e {b} {d} {f} h due (inr i) = grind (arith, nat_tests, common_steps, warned, names_same)

seg_same : (c e : Custody) {b : Bool} {d k n : ℕ} → e.descriptor k n ≡ c.descriptor k n → (e.seat d).due
    ≡ (c.seat d).due → IsFineSeg c b d k n → IsFineSeg e b d k n
seg_same c e h due (inl i) = inl (cc)
seg_same c e {b} {d} {k} {n} h due (inr i) = grind (arith, nat_tests, common_steps, warned, names_descriptor_same)

-- ---- nobody holds

-- a processor that holds a page table word of a frame knows it to be current or going
pub nobody_holds_page : (c : Custody) (b : Bool) (f : ℕ) → Fine c b → is_current_frame (c.frame f) ≡ false
    → is_going_frame (c.frame f) ≡ false → NobodyHoldsPage c f
nobody_holds_page c b f fine current going d = false_from_ne_true (has (c.seat d).pages f) (λ h. elim (fine.page d f h)
    [ inl i ↦ not_both i current | inr i ↦ not_both i.0 going ])

pub nobody_holds_seg : (c : Custody) (b : Bool) (k n : ℕ) → Fine c b → is_current_descriptor (c.descriptor k n) ≡ false
    → is_going_descriptor (c.descriptor k n) ≡ false → NobodyHoldsSeg c k n
nobody_holds_seg c b k n fine current going d process = false_from_ne_true (has (c.seat d).segs n) (λ h. elim
    (fine.seg d k n process h) [ inl i ↦ not_both i current | inr i ↦ not_both i.0 going ])

not_warned : (o : Option What) (t : What → Bool) → o ≡ None → (false ≡ true) ⊎ IsSomeAnd o (λ w. t w ≡ true) → ⊥
not_warned o t none (inl i) = let no : false ≡ true = i in absurd cc
not_warned None t none (inr i) = i
not_warned (Some w) t none (inr i) = let no : Some w ≡ None = none in absurd cc

-- once the signal was given and nobody is to drop anything, nobody holds what is going
pub nobody_holds_going_page : (c : Custody) (f : ℕ) → Fine c false → NoneDue c → is_current_frame (c.frame f) ≡ false
    → NobodyHoldsPage c f
nobody_holds_going_page c f fine none current d =
    grind (arith, nat_tests, common_steps, false_from_ne_true, not_both, not_warned)

pub nobody_holds_going_seg : (c : Custody) (k n : ℕ) → Fine c false → NoneDue c
    → is_current_descriptor (c.descriptor k n) ≡ false → NobodyHoldsSeg c k n
nobody_holds_going_seg c k n fine none current d process = false_from_ne_true (has (c.seat d).segs n) (λ h. elim
    (fine.seg d k n process h) [
      | inl i ↦ not_both i current
      | inr i ↦ not_warned (c.seat d).due (λ w. names_descriptor c w k n) (none d) i.1
    ])

-- ---- frames and descriptors that nobody holds

-- a frame whose word nobody holds is used otherwise: started, lost, come into, gone or back
pub frame_fine : {c : Custody} {b : Bool} (f : ℕ) (x : FrameUse) → Fine c b → NobodyHoldsPage c f
    → Fine (with_frame c f x) b
frame_fine {c} {b} f x fine nobody = grind (arith, nat_tests, common_steps, page_same, by_place)

pub descriptor_fine : {c : Custody} {b : Bool} {k : ℕ} (n : ℕ) (x : DescriptorUse) → Fine c b → NobodyHoldsSeg c k n
    → Fine (with_descriptor c k n x) b
descriptor_fine {c} {b} {k} n x fine nobody = record {
  page = λ d g h. fine.page d g h;
  seg = λ d j m process h. seg_same c (with_descriptor c k n x) {b = b} {d = d} {k = j} {n = m} (other d j m process h)
      refl (fine.seg d j m process h);
  idle = fine.idle;
}
  where
    other : (d j m : ℕ) → (c.seat d).process ≡ Some j → has (c.seat d).segs m ≡ true
        → cond (eqb j k && eqb m n) x (c.descriptor j m) ≡ c.descriptor j m
    other d j m process h = by_test (eqb j k && eqb m n) refl
      where
        by_test : (z : Bool) → (eqb j k && eqb m n) ≡ z → cond z x (c.descriptor j m) ≡ c.descriptor j m
        by_test false e = refl
        by_test true e =
            let first : j ≡ k = grind (arith, nat_tests) in
            let second : m ≡ n = grind (arith, nat_tests) in
            let held : has (c.seat d).segs n ≡ true = rw (← second) h in
            let its : (c.seat d).process ≡ Some k = process ∙ ap (λ (i : ℕ). Some i) first in
            cc (nobody d its)

-- ---- what is taken

pub going_taken : (x : FrameUse) → is_current_frame x ≡ true → is_going_frame (taken x) ≡ true
going_taken (frame.Current u p) h = refl
going_taken _ h = absurd (let no : false ≡ true = h in cc)

pub going_cut : (x : DescriptorUse) → is_current_descriptor x ≡ true → is_going_descriptor (cut x) ≡ true
going_cut (descriptor.Current u) h = refl
going_cut _ h = absurd (let no : false ≡ true = h in cc)

-- a page is taken: its signal is still to come
pub take_fine : {c : Custody} {b : Bool} (f : ℕ) → Fine c b → is_current_frame (c.frame f) ≡ true
    → Fine (with_frame c f (taken (c.frame f))) true
take_fine {c} f fine current = record {
  page = λ d g h. by_place g f (taken (c.frame f)) (c.frame g)
      (λ x. (is_current_frame x ≡ true) ⊎ ((is_going_frame x ≡ true)
      × IsWarned (with_frame c f (taken (c.frame f))) true d
      (λ w. names_frame (with_frame c f (taken (c.frame f))) w g)))
      (λ e. inr (going_taken (c.frame f) current, inl refl))
      (λ n. elim (fine.page d g h) [ inl i ↦ inl i | inr i ↦ inr (i.0, inl refl) ]);
  seg = λ d k n process h. elim (fine.seg d k n process h) [ inl i ↦ inl i | inr i ↦ inr (i.0, inl refl) ];
  idle = fine.idle;
}

pub cut_fine : {c : Custody} {b : Bool} (k n : ℕ) → Fine c b → is_current_descriptor (c.descriptor k n) ≡ true
    → Fine (with_descriptor c k n (cut (c.descriptor k n))) true
cut_fine {c} {b} k n fine current = record {
  page = λ d g h. elim (fine.page d g h) [ inl i ↦ inl i | inr i ↦ inr (i.0, inl refl) ];
  seg = λ d j m process h. by_test d j m (eqb j k && eqb m n) (fine.seg d j m process h);
  idle = fine.idle;
}
  where
    by_test : (d j m : ℕ) (z : Bool) → IsFineSeg c b d j m
        → (is_current_descriptor (cond z (cut (c.descriptor k n)) (c.descriptor j m)) ≡ true) ⊎
        ((is_going_descriptor (cond z (cut (c.descriptor k n)) (c.descriptor j m)) ≡ true)
        × IsWarned (with_descriptor c k n (cut (c.descriptor k n))) true d
        (λ w. names_descriptor (with_descriptor c k n (cut (c.descriptor k n))) w j m))
    by_test d j m true i = inr (going_cut (c.descriptor k n) current, inl refl)
    by_test d j m false (inl i) = inl i
    by_test d j m false (inr i) = inr (i.0, inl refl)

-- ---- processors

-- one processor changes: it holds no more than it did, of the same process, and is to drop the same
pub record HoldsLess (old new : Seat) : Type 0 where
  pub pages : (f : ℕ) → has new.pages f ≡ true → has old.pages f ≡ true
  pub process : (k n : ℕ) → new.process ≡ Some k → has new.segs n ≡ true → old.process ≡ Some k
  pub segs : (n : ℕ) → has new.segs n ≡ true → has old.segs n ≡ true
  pub due : new.due ≡ old.due
  pub idle : new.online ≡ false → (new.segs ≡ []) × (new.pages ≡ [])

pub less_fine : {c : Custody} {b : Bool} (d : ℕ) {s : Seat} → Fine c b → HoldsLess (c.seat d) s
    → Fine (with_seat c d s) b
less_fine {c} {b} d {s} fine less = record {
  page = λ e f h. page_same c (with_seat c d s) refl (due e) (fine.page e f (held_page e f h));
  seg = λ e k n process h. seg_same c (with_seat c d s) refl (due e)
      (fine.seg e k n (its e k n process h) (held_seg e n h));
  idle = λ e. by_place e d s (c.seat e) (λ x. x.online ≡ false → (x.segs ≡ []) × (x.pages ≡ [])) (λ i. less.idle)
      (λ i. fine.idle e);
}
  where
    old : (e : ℕ) (P : Seat → Seat → Type 0) → P (c.seat d) s → P (c.seat e) (c.seat e)
        → P (c.seat e) (cond (eqb e d) s (c.seat e))
    old e P here other = by_place e d s (c.seat e) (λ x. P (c.seat e) x) (λ i. rw i here) (λ i. other)

    due : (e : ℕ) → ((with_seat c d s).seat e).due ≡ (c.seat e).due
    due e = old e (λ x y. y.due ≡ x.due) less.due refl

    held_page : (e f : ℕ) → has ((with_seat c d s).seat e).pages f ≡ true → has (c.seat e).pages f ≡ true
    held_page e f = old e (λ x y. has y.pages f ≡ true → has x.pages f ≡ true) (less.pages f) (λ h. h)

    held_seg : (e n : ℕ) → has ((with_seat c d s).seat e).segs n ≡ true → has (c.seat e).segs n ≡ true
    held_seg e n = old e (λ x y. has y.segs n ≡ true → has x.segs n ≡ true) (less.segs n) (λ h. h)

    its : (e k n : ℕ) → ((with_seat c d s).seat e).process ≡ Some k → has ((with_seat c d s).seat e).segs n ≡ true
        → (c.seat e).process ≡ Some k
    its e k n = old e (λ x y. y.process ≡ Some k → has y.segs n ≡ true → x.process ≡ Some k) (less.process k n)
        (λ process h. process)

-- a list with one more, of 16 the oldest gone: what it has is the new one, or was there
has-filled : (xs : List ℕ) (x y : ℕ) → has (filled xs x) y ≡ true → (y ≡ x) ⊎ (has xs y ≡ true)
has-filled xs x y h = by_last (has (front xs) y) refl whole
  where
    front : List ℕ → List ℕ
    front ys = if nat_le 16 (length ys) then drop 1 ys else ys

    less : (ys : List ℕ) → has (drop 1 ys) y ≡ true → has ys y ≡ true
    less [] g = g
    less (z ∷ zs) g = grind (arith, nat_tests)

    kept : (z : Bool) → has (cond z (drop 1 xs) xs) y ≡ true → has xs y ≡ true
    kept true g = less xs g
    kept false g = g

    whole : (has (front xs) y || (eqb x y || false)) ≡ true
    whole = sym (list_any-append (λ z. eqb z y) (front xs) (x ∷ [])) ∙ h

    last : (z : Bool) → eqb x y ≡ z → (z || false) ≡ true → y ≡ x
    last true e w = grind (arith, nat_tests)
    last false e w = absurd (let no : false ≡ true = w in cc)

    by_last : (z : Bool) → has (front xs) y ≡ z → (z || (eqb x y || false)) ≡ true → (y ≡ x) ⊎ (has xs y ≡ true)
    by_last true e w = inr (kept (nat_le 16 (length xs)) e)
    by_last false e w = inl (last (eqb x y) refl w)

-- the newest entry of a processor is current, as it was where it held it already
-- where a seat is to drop what it was to drop, so is each
due_kept : (c : Custody) (d : ℕ) (new : Seat) → new.due ≡ (c.seat d).due → (e : ℕ)
    → ((with_seat c d new).seat e).due ≡ (c.seat e).due
due_kept c d new is e = by_place e d new (c.seat e) (λ x. x.due ≡ (c.seat e).due) (λ i. cc) (λ n. refl)

-- what a processor holds in its new seat is fine, and so is what the others hold
seat_fine : {c : Custody} {b : Bool} (d : ℕ) (new : Seat) → Fine c b
    → ((f : ℕ) → has new.pages f ≡ true → IsFinePage (with_seat c d new) b d f)
    → ((k n : ℕ) → new.process ≡ Some k → has new.segs n ≡ true → IsFineSeg (with_seat c d new) b d k n)
    → (new.online ≡ false → (new.segs ≡ []) × (new.pages ≡ [])) → Fine (with_seat c d new) b
seat_fine {c} {b} d new fine pages segs idle = record {
  page = λ e f. by_place e d new (c.seat e) (λ x. has x.pages f ≡ true → IsFinePage next b e f)
      (λ i h. rw i (pages f h))
      (λ n h. page_same c next {b = b} {d = e} {f = f} refl (other_due e n) (fine.page e f h));
  seg = λ e k n. by_place e d new (c.seat e) (λ x. x.process ≡ Some k → has x.segs n ≡ true → IsFineSeg next b e k n)
      (λ i process h. rw i (segs k n process h))
      (λ m process h. seg_same c next {b = b} {d = e} {k = k} {n = n} refl (other_due e m) (fine.seg e k n process h));
  idle = λ e. by_place e d new (c.seat e) (λ x. x.online ≡ false → (x.segs ≡ []) × (x.pages ≡ [])) (λ i. idle)
      (λ n. fine.idle e);
}
  where
    next : Custody
    next = with_seat c d new

    other_due : (e : ℕ) → e ≢ d → (next.seat e).due ≡ (c.seat e).due
    other_due e n = by_place e d new (c.seat e) (λ x. x.due ≡ (c.seat e).due) (λ i. absurd (n i)) (λ m. refl)

pub fill_page_fine : {c : Custody} {b : Bool} (d f : ℕ) → Fine c b → (c.seat d).online ≡ true
    → is_current_frame (c.frame f) ≡ true
    → Fine (with_seat c d (record (c.seat d) { pages = filled (c.seat d).pages f })) b
fill_page_fine {c} {b} d f fine online current = seat_fine d new fine here
    (λ k n process h. seg_same c (with_seat c d new) refl (due_kept c d new refl d)
    (fine.seg d k n process h)) (λ off. cc)
  where
    new : Seat
    new = record (c.seat d) { pages = filled (c.seat d).pages f }

    here : (g : ℕ) → has (filled (c.seat d).pages f) g ≡ true → IsFinePage (with_seat c d new) b d g
    here g h = elim (has-filled (c.seat d).pages f g h) [
      | inl e ↦ inl (cc)
      | inr held ↦ page_same c (with_seat c d new) refl (due_kept c d new refl d) (fine.page d g held)
    ]

pub fill_seg_fine : {c : Custody} {b : Bool} (d : ℕ) {k : ℕ} (n : ℕ) → Fine c b → (c.seat d).online ≡ true
    → (c.seat d).process ≡ Some k → is_current_descriptor (c.descriptor k n) ≡ true → Fine
    (with_seat c d (record (c.seat d) { segs = filled (c.seat d).segs n })) b
fill_seg_fine {c} {b} d {k} n fine online its current = seat_fine d new fine
    (λ f h. page_same c (with_seat c d new) refl (due_kept c d new refl d) (fine.page d f h)) here (λ off. cc)
  where
    new : Seat
    new = record (c.seat d) { segs = filled (c.seat d).segs n }

    here : (j m : ℕ) → (c.seat d).process ≡ Some j → has (filled (c.seat d).segs n) m ≡ true
        → IsFineSeg (with_seat c d new) b d j m
    here j m process h = elim (has-filled (c.seat d).segs n m h) [
      | inl e ↦ let same : j ≡ k = cc (sym process ∙ its) in
          inl (cc)
      | inr held ↦ seg_same c (with_seat c d new) refl (due_kept c d new refl d) (fine.seg d j m process held)
    ]

-- ---- signals

kept_page : (c : Custody) (w : What) (s : Seat) (f : ℕ) → has (cleared c w s).pages f ≡ true
    → (names_frame c w f ≡ false) × (has s.pages f ≡ true)
kept_page c w s f h = let both = has-filter (λ g. not (names_frame c w g)) s.pages f h in
    (grind (arith, nat_tests), both.1)

kept_seg : (c : Custody) (w : What) (s : Seat) {k : ℕ} (n : ℕ) → s.process ≡ Some k → has (cleared c w s).segs n ≡ true
    → (names_descriptor c w k n ≡ false) × (has s.segs n ≡ true)
kept_seg c w s {k} n process h = grind (arith, nat_tests, common_steps, has-filter)

cleared_none : (c : Custody) (w : What) (s : Seat) → (s.segs ≡ []) × (s.pages ≡ []) → ((cleared c w s).segs ≡ [])
    × ((cleared c w s).pages ≡ [])
cleared_none c w s h = grind (arith, nat_tests, common_steps)

-- a processor gives the signal: it holds nothing that is going, and every other one is warned of all that is
pub signal_fine : {c : Custody} {b : Bool} (d : ℕ) {w : What} → Fine c b → NamesAllGoing c w
    → Fine (signalled c d w) false
signal_fine {c} d {w} fine all = record {
  page = λ e f. by_place e d (cleared c w (c.seat e)) (others e) (λ x. has x.pages f ≡ true → IsPage e f x.due)
      (λ i h. own_page e f (c.seat e).due h) (λ n. other_page e f);
  seg = λ e k n. by_place e d (cleared c w (c.seat e)) (others e)
      (λ x. x.process ≡ Some k → has x.segs n ≡ true → IsSeg e k n x.due)
      (λ i process h. own_seg e k n (c.seat e).due process h) (λ m. other_seg e k n);
  idle = λ e. by_place e d (cleared c w (c.seat e)) (others e) (λ x. x.online ≡ false → (x.segs ≡ []) × (x.pages ≡ []))
      (λ i off. cleared_none c w (c.seat e) (fine.idle e off)) (λ n. other_idle e (c.seat e).online refl);
}
  where
    others : ℕ → Seat
    others e = if (c.seat e).online then record (c.seat e) { due = Some w } else c.seat e

    IsPage : ℕ → ℕ → Option What → Type 0
    IsPage e f due = (is_current_frame (c.frame f) ≡ true) ⊎
        ((is_going_frame (c.frame f) ≡ true) × ((false ≡ true) ⊎ IsSomeAnd due (λ v. names_frame c v f ≡ true)))

    IsSeg : ℕ → ℕ → ℕ → Option What → Type 0
    IsSeg e k n due = (is_current_descriptor (c.descriptor k n) ≡ true) ⊎
        ((is_going_descriptor (c.descriptor k n) ≡ true)
        × ((false ≡ true) ⊎ IsSomeAnd due (λ v. names_descriptor c v k n ≡ true)))

    own_page : (e f : ℕ) (due : Option What) → has (cleared c w (c.seat e)).pages f ≡ true → IsPage e f due
    own_page e f due h =
        let kept = kept_page c w (c.seat e) f h in
        elim (fine.page e f kept.1) [ inl i ↦ inl i | inr i ↦ absurd (not_both (all.frames f i.0) kept.0) ]

    own_seg : (e k n : ℕ) (due : Option What) → (c.seat e).process ≡ Some k → has (cleared c w (c.seat e)).segs n
        ≡ true → IsSeg e k n due
    own_seg e k n due process h =
        let kept = kept_seg c w (c.seat e) n process h in
        elim (fine.seg e k n process kept.1) [
          | inl i ↦ inl i
          | inr i ↦ absurd (not_both (all.descriptors k n i.0) kept.0)
        ]

    none_held : (xs : List ℕ) (x : ℕ) → xs ≡ [] → has xs x ≡ true → ⊥
    none_held xs x none h = not_both h (cc)

    other_page : (e f : ℕ) → has (others e).pages f ≡ true → IsPage e f (others e).due
    other_page e f = by_online (c.seat e).online refl
      where
        by_online : (z : Bool) → (c.seat e).online ≡ z
            → has (cond z (record (c.seat e) { due = Some w }) (c.seat e)).pages f ≡ true
            → IsPage e f (cond z (record (c.seat e) { due = Some w }) (c.seat e)).due
        by_online true on h = elim (fine.page e f h) [ inl i ↦ inl i | inr i ↦ inr (i.0, inr (all.frames f i.0)) ]
        by_online false off h = absurd (none_held (c.seat e).pages f (fine.idle e off).1 h)

    other_seg : (e k n : ℕ) → (others e).process ≡ Some k → has (others e).segs n ≡ true → IsSeg e k n (others e).due
    other_seg e k n = by_online (c.seat e).online refl
      where
        by_online : (z : Bool) → (c.seat e).online ≡ z
            → (cond z (record (c.seat e) { due = Some w }) (c.seat e)).process ≡ Some k
            → has (cond z (record (c.seat e) { due = Some w }) (c.seat e)).segs n ≡ true
            → IsSeg e k n (cond z (record (c.seat e) { due = Some w }) (c.seat e)).due
        by_online true on process h = elim (fine.seg e k n process h)
            [ inl i ↦ inl i | inr i ↦ inr (i.0, inr (all.descriptors k n i.0)) ]
        by_online false off process h = absurd (none_held (c.seat e).segs n (fine.idle e off).0 h)

    other_idle : (e : ℕ) (z : Bool) → (c.seat e).online ≡ z
        → (cond z (record (c.seat e) { due = Some w }) (c.seat e)).online ≡ false
        → ((cond z (record (c.seat e) { due = Some w }) (c.seat e)).segs ≡ [])
        × ((cond z (record (c.seat e) { due = Some w }) (c.seat e)).pages ≡ [])
    other_idle e true on off = cc
    other_idle e false on off = fine.idle e off

-- a processor that was to drop what is named has dropped it
pub clear_fine : {c : Custody} {b : Bool} (d : ℕ) {w : What} → Fine c b → (c.seat d).due ≡ Some w
    → Fine (answered_clear c d w) b
clear_fine {c} {b} d {w} fine its = seat_fine d (record (cleared c w (c.seat d)) { due = None }) fine here_page here_seg
    (λ off. cleared_none c w (c.seat d) (fine.idle d off))
  where
    next : Custody
    next = answered_clear c d w

    told_of : (t : What → Bool) → t w ≡ false → IsSomeAnd (c.seat d).due (λ v. t v ≡ true) → ⊥
    told_of t not_named i = not_both (subst (λ (o : Option What). IsSomeAnd o (λ v. t v ≡ true)) its i) not_named

    warned_still : (t : What → Bool) → t w ≡ false → (b ≡ true) ⊎ IsSomeAnd (c.seat d).due (λ v. t v ≡ true) → b ≡ true
    warned_still t not_named (inl i) = i
    warned_still t not_named (inr i) = absurd (told_of t not_named i)

    here_page : (f : ℕ) → has (cleared c w (c.seat d)).pages f ≡ true → IsFinePage next b d f
    here_page f h =
        let kept = kept_page c w (c.seat d) f h in
        elim (fine.page d f kept.1) [
          | inl i ↦ inl i
          | inr i ↦ inr (i.0, inl (warned_still (λ v. names_frame c v f) kept.0 i.1))
        ]

    here_seg : (k n : ℕ) → (c.seat d).process ≡ Some k → has (cleared c w (c.seat d)).segs n ≡ true
        → IsFineSeg next b d k n
    here_seg k n process h =
        let kept = kept_seg c w (c.seat d) n process h in
        elim (fine.seg d k n process kept.1) [
          | inl i ↦ inl i
          | inr i ↦ inr (i.0, inl (warned_still (λ v. names_descriptor c v k n) kept.0 i.1))
        ]

-- ---- all entries

ready_fine : {c : Custody} {b : Bool} (r : List ℕ) → Fine c b → Fine (record c { ready = r }) b
ready_fine r fine = assumption

active_fine : {c : Custody} {b : Bool} (u : ℕ) (x : Bool) → Fine c b → Fine (with_active c u x) b
active_fine u x fine = assumption

pub none_has : (x : ℕ) → has [] x ≡ true → ⊥
none_has x h = let no : false ≡ true = h in cc

-- a processor that holds nothing
emptied : (old : Seat) (process : Option ℕ) (count : ℕ) (tried : Bool)
    → HoldsLess old (record old { process = process; count = count; tried = tried; segs = []; pages = [] })
emptied old process count tried = grind (arith, nat_tests, common_steps, none_has)

counted : (old : Seat) (count : ℕ) (tried : Bool) → (old.online ≡ false → (old.segs ≡ []) × (old.pages ≡ []))
    → HoldsLess old (record old { count = count; tried = tried })
counted old count tried idle = grind (arith, nat_tests, common_steps)

come_online : {old : Seat} → HoldsLess old (record old { online = true })
come_online = grind (arith, nat_tests, common_steps)

started_is_no_other : (x : FrameUse) → is_started x ≡ true → (is_current_frame x ≡ false) × (is_going_frame x ≡ false)
started_is_no_other (frame.Current u q) h = absurd (let no : false ≡ true = h in cc)
started_is_no_other (frame.Going u q) h = absurd (let no : false ≡ true = h in cc)
started_is_no_other _ h = (refl, refl)

free_fine : {c : Custody} {b : Bool} (f : ℕ) (x : FrameUse) → Fine c b → c.frame f ≡ frame.Free
    → Fine (with_frame c f x) b
free_fine {c} {b} f x fine free = frame_fine f x fine (nobody_holds_page c b f fine (ap is_current_frame free)
    (ap is_going_frame free))

here_fine : {p : Plan} {c : Custody} {b : Bool} {f u q : ℕ} → Fine c b → MayBeHere p c f u q
    → Fine (with_frame c f (frame.Current u q)) b
here_fine {c} {b} {f} {u} {q} fine (inl was) = frame_fine f (frame.Current u q) fine
    (nobody_holds_page c b f fine (ap is_current_frame was.started) (ap is_going_frame was.started))
here_fine {c} {b} {f} {u} {q} fine (inr may) = free_fine f (frame.Current u q) fine may.free

lost_fine : {c : Custody} {b : Bool} (f : ℕ) → Fine c b → is_started (c.frame f) ≡ true
    → Fine (with_frame c f frame.Free) b
lost_fine {c} {b} f fine started = let other = started_is_no_other (c.frame f) started in
    frame_fine f frame.Free fine (nobody_holds_page c b f fine other.0 other.1)

its_process : (c : Custody) (b : Bool) (d n : ℕ) (o : Option ℕ) → (c.seat d).process ≡ o → Fine c b → (c.seat d).online
    ≡ true → IsSomeAnd o (MayTakeSeg c (c.seat d) n)
    → Fine (with_seat c d (record (c.seat d) { segs = filled (c.seat d).segs n })) b
its_process c b d n None e fine online may = absurd may
its_process c b d n (Some k) e fine online may = fill_seg_fine {c = c} {b = b} d {k = k} n fine online e may.current

-- Each entry that is allowed leaves what processors hold fine, where only those that take part fill their memories.
pub fine_next : (p : Plan) (s : Store) (c : Custody) (b : Bool) (e : Entry) → Fine c b → IsAllowed p s c e
    → FillsOnline c e → Fine (custody_next p s c e) (pending_after b e)
unfolding custody_next
fine_next p s c b (entry.Do k i d f r) fine may online = ready_fine (c.ready ++ released_by p k (next_command p s k))
    (less_fine d fine (counted (c.seat d) ((c.seat d).count + 1) (is_try s k (next_command p s k) r) (fine.idle d)))
fine_next p s c b (entry.Online d) fine may online = less_fine d fine (come_online)
fine_next p s c b (entry.Load d k) fine may online = ready_fine (drop 1 c.ready) (less_fine d fine
    (emptied (c.seat d) (Some k) 0 false))
fine_next p s c b (entry.Leave d) fine may online = ready_fine (queued s c.ready (c.seat d).process) (less_fine d fine
    (emptied (c.seat d) None (c.seat d).count (c.seat d).tried))
fine_next p s c b (entry.Activate u) fine may online = active_fine u true fine
fine_next p s c b (entry.Deactivate u) fine may online = active_fine u false fine
fine_next p s c b (entry.Start f u q) fine may online = free_fine f (frame.Started u q) fine may.free
fine_next p s c b (entry.Lose f) fine may online = lost_fine f fine may
fine_next p s c b (entry.Here f u q) fine may online = here_fine fine may
fine_next p s c b (entry.Connect k n u) fine may online = descriptor_fine n (descriptor.Current u) fine
    (nobody_holds_seg c b k n fine (ap is_current_descriptor may.free) (ap is_going_descriptor may.free))
fine_next p s c b (entry.Take f) fine may online = take_fine f fine may
fine_next p s c b (entry.Cut k n) fine may online = cut_fine k n fine may
fine_next p s c b (entry.Signal d w) fine may online = signal_fine d fine may.all
fine_next p s c b (entry.Clear d w) fine may online = clear_fine d fine may
fine_next p s c b (entry.FillSeg d n) fine may online = its_process c b d n (c.seat d).process refl fine online may
fine_next p s c b (entry.FillPage d f) fine may online = fill_page_fine d f fine online may.current
fine_next p s c b (entry.GonePage f) fine may online = frame_fine f frame.Free fine may.nobody
fine_next p s c b (entry.BackPage f) fine may online = frame_fine f (given_back (c.frame f)) fine may.nobody
fine_next p s c b (entry.GoneSeg k n) fine may online = descriptor_fine n descriptor.Free fine may.nobody
fine_next p s c b (entry.BackSeg k n) fine may online =
    descriptor_fine n (reconnected (c.descriptor k n)) fine may.nobody
fine_next p s c b _ fine may online = fine

-- at first nobody holds anything
pub fine_first : (p : Plan) → Fine (nothing_held p) false
fine_first p = grind (arith, nat_tests, common_steps, none_has)
