-- A job that makes a segment inactive takes it whole: each of its pages that is in a frame, where none is being read
-- into one, and each descriptor that leads to it.
use Rattle.machine_model.proofs.Kept.{◌≡◌, ◌≢◌, ◌≤◌, ℕ, zero, suc, Bool, true, false, ◌||◌, cond, eqb, count_by, List, [], ◌∷◌, get_or, Option, Some, None, ◌⊎◌, inl, inr, refl, sym, ap, subst, ◌∙◌, arith, list_any-append, sum_by-cons, What, Ptw, Plain, binding_at, bindings, frame_in, bound_page, reads_of, Sdw, is_trailer, trailers_of, leads_at, place_of, table_of, read_at, times, has, is_going_descriptor, is_going_frame, leads_to, page_of, uid_of_page, Aim, KeepsBook, has_cut, names, led_to, seen, cut_all, cut_one, deactivation_begun, leaving_if, note_of, segment_taken, take_all, take_one, took, Keeps, cut_of_owner, descriptor_of, frames_from, frames_in, frames_of_owner, here_in, is_active, trailers_in, bound_use, cut_uid, descriptor_use, frame_use, is_cut_at, shown, CutDescriptor, State, Storage, IsWhole, TakenWhole, aimed_at, going_for, some_same, or_cases, or_true, eqb_self, What as what, Ptw as ptw, Sdw as sdw, Aim as aim, active_place, IsIdle, none_some, page_used, whole_idle, ArePairs, CanTook, has_pair, is_pair, linked_before, pairs_left, took_keeps}
use Rattle.machine_model.proofs.TakeLists.{segment_takes}

-- ---- what is listed

-- the frame of a page that is here is listed
pub frame_listed : (ws : List Ptw) (q f : ℕ) → get_or ws q ptw.Null ≡ ptw.Here f → has (frames_in ws) f ≡ true
frame_listed [] q f h = cc
frame_listed (w ∷ ws) zero f h = cc (list_any-append (λ y. eqb y f) (here_in w) (frames_in ws), eqb_self f)
frame_listed (w ∷ ws) (suc q) f h = cc (
  list_any-append (λ y. eqb y f) (here_in w) (frames_in ws),
  frame_listed ws q f h,
  or_true (has (here_in w) f),
)

abbrev tally : Bool → ℕ
tally b = cond b 1 0

some_pair : (xs : List (ℕ × ℕ)) (k n : ℕ) → 1 ≤ count_by (is_trailer k n) xs → has_pair xs k n ≡ true
some_pair [] k n h = absurd (omega arith)
some_pair (x ∷ xs) k n h = by (is_trailer k n x) refl (some_pair xs k n)
  where
    by : (b : Bool) → is_trailer k n x ≡ b → (1 ≤ count_by (is_trailer k n) xs → has_pair xs k n ≡ true)
        → (b || has_pair xs k n) ≡ true
    by true e rest = refl
    by false e rest = rest (omega (arith, (ap tally e), h, (sum_by-cons (λ y. tally (is_trailer k n y)) x xs)))

-- each descriptor that leads to a segment is one of its trailers
pub trailer_listed : {s : State} {u : ℕ} (k n : ℕ) → Keeps s → is_active s.store.ast u ≡ true
    → (seen s).linked k n ≡ Some u → has_pair (trailers_in s.store u) k n ≡ true
trailer_listed {s} {u} k n keeps active linked = cc (some_pair (trailers_of s.store.links.trailers place) k n
    (omega (arith, (keeps.store.kept.linked.exact place k n), once)))
  where
    place : ℕ
    place = place_of s.store.ast.entries u

    listed : trailers_in s.store u ≡ trailers_of s.store.links.trailers place
    listed = cc

    by : (y : Sdw) → descriptor_of s.store.links k n ≡ y → led_to s.store.ast.entries y ≡ Some u
        → leads_at s.store.links.descriptors k n ≡ Some place
    by sdw.Fault e h = cc
    by (sdw.Present aste m pages) e h = cc (keeps.store.kept.tree.once aste place u h
        (active_place s.store.ast u active).1)

    once : times (leads_at s.store.links.descriptors k n) place ≡ 1
    once = cc (by (descriptor_of s.store.links k n) refl linked, eqb_self place)

-- ---- what the owner has taken

take_has : (s : State) (c : ℕ) (a : Aim) (w : What) (fs : List ℕ) (g : ℕ) → (has (frames_of_owner s.owner) g ≡ true)
    ⊎ (has fs g ≡ true) → has (frames_of_owner (take_all s c a w fs).owner) g ≡ true
take_has s c a w [] g (inl h) = h
take_has s c a w [] g (inr h) = cc
take_has s c a w (f ∷ fs) g h = take_has (take_one s c a w f) c a w fs g (by h)
  where
    parts : has (frames_of_owner (take_one s c a w f).owner) g ≡ (has (frames_of_owner s.owner) g || (eqb f g || false))
    parts = list_any-append (λ y. eqb y g) (frames_of_owner s.owner) (f ∷ [])

    by : (has (frames_of_owner s.owner) g ≡ true) ⊎ (has (f ∷ fs) g ≡ true)
        → (has (frames_of_owner (take_one s c a w f).owner) g ≡ true) ⊎ (has fs g ≡ true)
    by (inl e) = inl (cc (parts, e))
    by (inr e) = elim (or_cases (eqb f g) (has fs g) e) [
      | inl d ↦ inl (cc (parts, d, or_true (has (frames_of_owner s.owner) g)))
      | inr d ↦ inr d
    ]

pub note_at : (s : State) (k n : ℕ) (x : ℕ × ℕ) (y : Sdw) → is_cut_at k n (note_of s.store x.0 x.1 y) ≡ is_pair k n x
note_at s k n x sdw.Fault = refl
note_at s k n x (sdw.Present aste m pages) = refl

cut_has : (s : State) (c : ℕ) (a : Aim) (w : What) (xs : List (ℕ × ℕ)) (k n : ℕ)
    → (has_cut (cut_of_owner s.owner) k n ≡ true) ⊎ (has_pair xs k n ≡ true)
    → has_cut (cut_of_owner (cut_all s c a w xs).owner) k n ≡ true
cut_has s c a w [] k n (inl h) = h
cut_has s c a w [] k n (inr h) = cc
cut_has s c a w (x ∷ xs) k n h = cut_has (cut_one s c a w x) c a w xs k n (by h)
  where
    d : CutDescriptor
    d = note_of s.store x.0 x.1 (descriptor_of s.store.links x.0 x.1)

    parts : has_cut (cut_of_owner (cut_one s c a w x).owner) k n
        ≡ (has_cut (cut_of_owner s.owner) k n || (is_cut_at k n d || false))
    parts = list_any-append (is_cut_at k n) (cut_of_owner s.owner) (d ∷ [])

    by : (has_cut (cut_of_owner s.owner) k n ≡ true) ⊎ (has_pair (x ∷ xs) k n ≡ true)
        → (has_cut (cut_of_owner (cut_one s c a w x).owner) k n ≡ true) ⊎ (has_pair xs k n ≡ true)
    by (inl e) = inl (cc (parts, e))
    by (inr e) = elim (or_cases (is_pair k n x) (has_pair xs k n) e) [
      | inl i ↦ inl (cc (
        parts,
        note_at s k n x (descriptor_of s.store.links x.0 x.1),
        i,
        or_true (has_cut (cut_of_owner s.owner) k n),
      ))
      | inr i ↦ inr i
    ]

-- ---- what stays as it was

leaving_rest : (st : Storage) (f : ℕ) (o : Option (ℕ × ℕ)) → ((leaving_if st f o).pages ≡ st.pages)
    × ((leaving_if st f o).links ≡ st.links) × ((leaving_if st f o).ast.entries ≡ st.ast.entries)
leaving_rest st f None = (refl, refl, refl)
leaving_rest st f (Some page) = (refl, refl, refl)

abbrev pub RestIs : State → State → Type 0
RestIs s now = (now.store.pages ≡ s.store.pages) × (now.store.links ≡ s.store.links)
    × (now.store.ast.entries ≡ s.store.ast.entries)

pub take_rest : (s : State) (c : ℕ) (a : Aim) (w : What) (fs : List ℕ) → RestIs s (take_all s c a w fs)
take_rest s c a w [] = (refl, refl, refl)
take_rest s c a w (f ∷ fs) = let rest = take_rest (take_one s c a w f) c a w fs in
    let one = leaving_rest s.store f (bound_page (frame_in s.store.pages f)) in
    (cc, cc, cc)

pub cut_pages : (s : State) (c : ℕ) (a : Aim) (w : What) (xs : List (ℕ × ℕ))
    → (cut_all s c a w xs).store.pages ≡ s.store.pages
cut_pages s c a w [] = refl
cut_pages s c a w (x ∷ xs) = cut_pages (cut_one s c a w x) c a w xs

pub cut_frames : (s : State) (c : ℕ) (a : Aim) (w : What) (xs : List (ℕ × ℕ))
    → frames_of_owner (cut_all s c a w xs).owner ≡ frames_of_owner s.owner
cut_frames s c a w [] = refl
cut_frames s c a w (x ∷ xs) = cut_frames (cut_one s c a w x) c a w xs

-- a descriptor that still leads to a segment led there before
pub cut_linked : (s : State) (c : ℕ) (a : Aim) (w : What) (xs : List (ℕ × ℕ)) → ArePairs (seen s).linked w xs
    → (k n : ℕ) {u : ℕ} → (seen (cut_all s c a w xs)).linked k n ≡ Some u → (seen s).linked k n ≡ Some u
cut_linked s c a w [] are k n h = h
cut_linked s c a w (x ∷ xs) are k n {u} h = linked_before s c a w x are.0.1 k n
    (cut_linked (cut_one s c a w x) c a w xs (pairs_left s c a w x xs are) k n h)

-- so it is once pages and descriptors are taken
pub take_linked : (s : State) (c : ℕ) (a : Aim) (w : What) (fs : List ℕ)
    → (seen (take_all s c a w fs)).linked ≡ (seen s).linked
take_linked s c a w fs = let rest = take_rest s c a w fs in λ i j n. led_to (rest.2 i) (descriptor_of (rest.1 i) j n)

pub took_linked : (s : State) (c : ℕ) (a : Aim) (w : What) (fs : List ℕ) (xs : List (ℕ × ℕ))
    → ArePairs (seen s).linked w xs → (k n : ℕ) {u : ℕ} → (seen (took s c a w fs xs)).linked k n ≡ Some u
    → (seen s).linked k n ≡ Some u
took_linked s c a w fs xs are k n {u} h = let mid = sym (take_linked s c a w fs) in
    cc (cut_linked (take_all s c a w fs) c a w xs (rw (← mid) are) k n h)

-- ---- it is taken whole

-- A job that makes an active segment inactive, none of whose pages is being read, takes it whole.
pub took_whole : {s : State} (c u : ℕ) → Keeps s → IsIdle s.owner → is_active s.store.ast u ≡ true
    → ((f p : ℕ) → (seen s).reads f ≢ Some (u, p))
    → IsWhole
    (shown (seen (took s c (aim.Deactivating u) (what.Seg u) (frames_from s.store.ast u 0) (trailers_in s.store u)))) u
took_whole {s} c u k idle active unread = record { pages = pages; descriptors = descriptors }
  where
    a : Aim
    a = aim.Deactivating u

    w : What
    w = what.Seg u

    fs : List ℕ
    fs = frames_from s.store.ast u 0

    xs : List (ℕ × ℕ)
    xs = trailers_in s.store u

    mid : State
    mid = take_all s c a w fs

    now : State
    now = took s c a w fs xs

    can : CanTook s a w fs xs
    can = segment_takes a w u 0 k idle (eqb_self u) (λ gs cs. refl)

    book : KeepsBook (seen now)
    book = (took_keeps c k.store.kept.places k.book can).book

    frame_here : (f p : ℕ) (y : Ptw) → (seen s).bound f ≡ Some (u, p) → (seen s).words u p ≡ y → names y ≡ Some f
        → has fs f ≡ true
    frame_here f p (ptw.Here g) b e h = frame_listed (table_of s.store.ast u) p f
        (e ∙ ap (λ (x : ℕ). ptw.Here x) (some_same g f h))
    frame_here f p (ptw.Leaving g) b e h = absurd (let no =
        sym (ap (λ (x : Option (ℕ × ℕ)). is_going_frame (frame_use (seen s).words x ((seen s).reads f))) b
        ∙ ap (λ (x : Ptw). is_going_frame (bound_use (u, p) x)) e)
        ∙ (k.book.going_owned.frames f ∙ ap (λ (gs : List ℕ). has gs f) idle.frames) in cc)
    frame_here f p _ b e h = absurd (none_some h)

    pages : (f : ℕ) → uid_of_page (page_of ((shown (seen now)).frame f)) ≡ Some u
        → is_going_frame ((shown (seen now)).frame f) ≡ true
    pages f h = book.going_owned.frames f ∙ (ap (λ (gs : List ℕ). has gs f) (cut_frames mid c a w xs)
        ∙ take_has s c a w fs f (inr (by ((seen s).bound f) ((seen s).reads f) refl refl
        (subst (λ (p : Plain). uid_of_page (page_of (frame_use (seen now).words (binding_at (bindings p.core) f)
        (read_at (reads_of p.core) f))) ≡ Some u) (cut_pages mid c a w xs ∙ (take_rest s c a w fs).0) h))))
      where
        by : (x y : Option (ℕ × ℕ)) → (seen s).bound f ≡ x → (seen s).reads f ≡ y
            → uid_of_page (page_of (frame_use (seen now).words x y)) ≡ Some u → has fs f ≡ true
        by None None b r e = absurd (none_some e)
        by None (Some page) b r e = absurd (unread f page.1
            (r ∙ ap (λ (v : ℕ). Some (v, page.1)) (some_same page.0 u e)))
        by (Some page) y b r e = frame_here f page.1 ((seen s).words u page.1) is refl (k.book.tied.named f u page.1 is)
          where
            is : (seen s).bound f ≡ Some (u, page.1)
            is = rw (b, some_same page.0 u (sym (ap uid_of_page (page_used page ((seen now).words page.0 page.1))) ∙ e))

    descriptors : (j n : ℕ) → leads_to ((shown (seen now)).descriptor j n) ≡ Some u
        → is_going_descriptor ((shown (seen now)).descriptor j n) ≡ true
    descriptors j n h = by ((seen now).linked j n) (cut_uid (cut_of_owner now.owner) j n) refl refl h
      where
        by : (x y : Option ℕ) → (seen now).linked j n ≡ x → cut_uid (cut_of_owner now.owner) j n ≡ y
            → leads_to (descriptor_use x y) ≡ Some u → is_going_descriptor ((shown (seen now)).descriptor j n) ≡ true
        by None None e d g = absurd (none_some g)
        by None (Some v) e d g = λ i. is_going_descriptor (descriptor_use (e i) (d i))
        by (Some v) y e d g = book.going_owned.cuts j n ∙ cut_has mid c a w xs j n (inr (trailer_listed j n k active
            (took_linked s c a w fs xs can.pairs_are j n (e ∙ ap (λ (x : ℕ). Some x) (some_same v u g)))))

-- where there is nothing to take, a segment is whole already
pub nothing_whole : (s : State) (c u : ℕ) → Keeps s → IsIdle s.owner → is_active s.store.ast u ≡ true
    → ((f p : ℕ) → (seen s).reads f ≢ Some (u, p)) → frames_from s.store.ast u 0 ≡ [] → trailers_in s.store u ≡ []
    → IsWhole (shown (seen s)) u
nothing_whole s c u k idle active unread frames trailers = rw trailers at (subst
    (λ (fs : List ℕ). IsWhole (shown (seen (took s c (aim.Deactivating u) (what.Seg u) fs (trailers_in s.store u))))
    u) frames (took_whole c u k idle active unread))

-- ---- the step

take_goes : (s : State) (c : ℕ) (a : Aim) (w : What) (fs : List ℕ)
    → (going_for (take_all s c a w fs).owner ≡ going_for s.owner) ⊎ (going_for (take_all s c a w fs).owner ≡ aimed_at a)
take_goes s c a w [] = inl refl
take_goes s c a w (f ∷ fs) = elim (take_goes (take_one s c a w f) c a w fs) [ inl e ↦ inr e | inr e ↦ inr e ]

cut_goes : (s : State) (c : ℕ) (a : Aim) (w : What) (xs : List (ℕ × ℕ))
    → (going_for (cut_all s c a w xs).owner ≡ going_for s.owner) ⊎ (going_for (cut_all s c a w xs).owner ≡ aimed_at a)
cut_goes s c a w [] = inl refl
cut_goes s c a w (x ∷ xs) = elim (cut_goes (cut_one s c a w x) c a w xs) [ inl e ↦ inr e | inr e ↦ inr e ]

-- What goes of a segment that a job begins to make inactive is all of it.
pub begun_whole : {s : State} (c u : ℕ) → Keeps s → IsIdle s.owner → going_for s.owner ≡ None
    → is_active s.store.ast u ≡ true → ((f p : ℕ) → (seen s).reads f ≢ Some (u, p))
    → TakenWhole (deactivation_begun s c u)
begun_whole {s} c u k idle none active unread = by (frames_from s.store.ast u 0) (trailers_in s.store u) whole
  where
    a : Aim
    a = aim.Deactivating u

    w : What
    w = what.Seg u

    now : State
    now = took s c a w (frames_from s.store.ast u 0) (trailers_in s.store u)

    goes : (going_for now.owner ≡ None) ⊎ (going_for now.owner ≡ Some u)
    goes = elim (cut_goes (take_all s c a w (frames_from s.store.ast u 0)) c a w (trailers_in s.store u)) [
      | inl e ↦ elim (take_goes s c a w (frames_from s.store.ast u 0)) [ inl d ↦ inl (cc) | inr d ↦ inr (e ∙ d) ]
      | inr e ↦ inr e
    ]

    whole : TakenWhole now
    whole = record {
      whole = λ v h. elim goes [
        | inl e ↦ absurd (none_some (sym e ∙ h))
        | inr e ↦ rw (← (some_same u v (sym e ∙ h))) (took_whole c u k idle active unread)
      ];
    }

    by : (fs : List ℕ) (xs : List (ℕ × ℕ)) → TakenWhole (took s c a w fs xs) → TakenWhole (segment_taken s c u fs xs)
    by [] [] t = whole_idle (segment_taken s c u [] []) refl
    by _ _ t = t
