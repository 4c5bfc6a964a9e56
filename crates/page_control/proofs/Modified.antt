-- The modified marks of a segment's frames are turned on, page by page.
pub use Rattle.page_control.proofs.Prelude.{Bool, Bound, Core, Frame, Free, Here, IsTableOf, Leaving, List, None, Null, Out, Plain, Ptw, Some, Started, [], all_modified, ap, arith, below, binding_at, bindings, bound_page, cases_eq, eq-eqb, eqb, eqb_tells, ext_get_or, false, frame_at, frame_in, frame_of, get_or, get_or-set_other, get_or-set_same, inl, inr, is_bound, is_modified, leb_tells, length, length-map, length-set, ltb, map, modified_before, modified_of, not_none, page_is, part_modified, ptw_at, reads_of, refl, set, started_page, suc, sym, true, with_frame, with_modified, within_from, ℕ, ◌&&◌, ◌+◌, ◌<◌, ◌||◌, ◌∙◌, ◌∷◌, ◌≡◌, ◌≤◌, ◌⊎◌}
use Rattle.std.proofs.lemmas.List.{get_or-map}
pub use Rattle.page_control.proofs.Marks.{Marks, binding_is, bound_from_page, bound_inside, found_at, frame_same, tie_of_home, ties_marked, words_by, words_marked, words_of_home}

-- ---- one frame

or_off : (m b : Bool) → m || b && false ≡ m
or_off false false = refl
or_off _ _ = refl

or_on : (m : Bool) → true ≡ m || true
or_on false = refl
or_on true = refl

past : (a b : ℕ) → (a < b → ⊥) → ltb a b ≡ false
past a b h = elim (leb_tells (suc a) b) [ inl i ↦ absurd (h i.1) | inr i ↦ i.0 ]

-- before page 0 there is none
none_yet : (uid : ℕ) (frame : Frame) → modified_before uid 0 frame ≡ frame
none_yet uid (Bound u p used modified) = rw (past p 0 (λ lt. omega arith)) (cc (or_off modified (eqb u uid)))
none_yet uid _ = refl

-- a frame that has page n is marked now
marked_now : (frame : Frame) {uid n : ℕ} → bound_page frame ≡ Some (uid, n)
    → with_modified (modified_before uid n frame) true ≡ modified_before uid (n + 1) frame
marked_now Free is = cc
marked_now (Started u p) is = cc
marked_now (Bound u p used modified) {uid = uid} {n = n} is =
    let same = page_is u p uid n is in
    cc (or_on modified, eq-eqb u uid same.0, below p (n + 1) (omega (arith, same.1)))

-- and another frame is as it was
same_below : {uid n u p : ℕ} → (u ≡ uid → p ≡ n → ⊥) → eqb u uid && ltb p n ≡ eqb u uid && ltb p (n + 1)
same_below {uid = uid} {n = n} {u = u} {p = p} other = elim (eqb_tells u uid) [
  | inr off ↦ rw off.0 refl
  | inl on ↦ rw on.0 (elim (leb_tells (suc p) n) [
    | inl less ↦ less.0 ∙ sym (below p (n + 1) (omega arith))
    | inr more ↦ more.0 ∙ sym (past p (n + 1) (λ lt. other on.1 (omega arith)))
  ])
]

as_it_was : (frame : Frame) {uid n : ℕ} → (bound_page frame ≡ Some (uid, n) → ⊥) → modified_before uid n frame
    ≡ modified_before uid (n + 1) frame
as_it_was (Bound u p used modified) {uid = uid} {n = n} other = rw (same_below (λ i j. other (λ k. Some (i k, j k))))
as_it_was _ other = refl

-- once n is past its pages, all of its frames are marked
and_on : (b c : Bool) → (b ≡ true → c ≡ true) → b && c ≡ b
and_on false c on = refl
and_on true c on = on refl

all_now : (frame : Frame) {uid n : ℕ} → ((p : ℕ) → bound_page frame ≡ Some (uid, p) → p < n)
    → modified_before uid n frame ≡ modified_of uid frame
all_now Free less = refl
all_now (Started u p) less = refl
all_now (Bound u p used modified) {uid = uid} {n = n} less = rw
    (and_on (eqb u uid) (ltb p n) (λ on. below p n (less p (its on))))
  where
    its : eqb u uid ≡ true → bound_page (Bound u p used modified) ≡ Some (uid, p)
    its on = elim (eqb_tells u uid) [
      | inl same ↦ ap (λ (k : ℕ). Some (k, p)) same.1
      | inr off ↦ cc
    ]

-- ---- the core map

-- frames that change alike
alike : (f g : Frame → Frame) (frames : List Frame) → ((i : ℕ) → f (get_or frames i Free) ≡ g (get_or frames i Free))
    → map f frames ≡ map g frames
alike f g [] same = refl
alike f g (x ∷ xs) same = rw (same 0, alike f g xs (λ i. same (suc i)))

map_same : {f : Frame → Frame} (frames : List Frame) → ((x : Frame) → f x ≡ x) → map f frames ≡ frames
map_same [] same = refl
map_same {f = f} (x ∷ xs) same = rw (same x, map_same xs same)

seen_through : {X : Type 0} {see : Frame → X} (f : Frame → Frame) (frames : List Frame)
    → ((x : Frame) → see (f x) ≡ see x) → map see (map f frames) ≡ map see frames
seen_through f [] same = refl
seen_through {see = see} f (x ∷ xs) same = rw (same x, seen_through f xs same)

abbrev core_of : Core → List Frame → Core
core_of core frames = record core { frames = frames }

pub part_none : (core : Core) (uid : ℕ) → part_modified core uid 0 ≡ core
part_none core uid = ap (core_of core) (map_same core.frames (none_yet uid))

-- no frame has page n
pub part_other : (core : Core) {uid : ℕ} (n : ℕ) {t : List Ptw} → IsTableOf (bindings core) uid t
    → frame_of (ptw_at t n) ≡ None → part_modified core uid n ≡ part_modified core uid (n + 1)
part_other core {uid} n {t} h none = cc (alike (modified_before uid n) (modified_before uid (n + 1)) core.frames (λ i.
    as_it_was (frame_at core i) (λ is. not_none (frame_of (ptw_at t n)) i none (h.named i n (binding_is core i ∙ is)))))

-- frame f has it, and is marked
pub part_marked : (core : Core) {uid : ℕ} (n : ℕ) {f : ℕ} {t : List Ptw} → IsTableOf (bindings core) uid t
    → frame_of (ptw_at t n) ≡ Some f → with_frame (part_modified core uid n) f
    (with_modified (frame_at (part_modified core uid n) f) true) ≡ part_modified core uid (n + 1)
part_marked core {uid} n {f = f} {t} h named =
    let old = map (modified_before uid n) core.frames in
    let new = map (modified_before uid (n + 1)) core.frames in
    let marked = with_modified (get_or old f Free) true in
    let page : bound_page (frame_at core f) ≡ Some (uid, n) = sym (binding_is core f) ∙ h.back f n named in
    let inside = bound_inside core f (bound_from_page (frame_at core f) uid n page) in
    let before = length-map core.frames (modified_before uid n) in
    let after = length-map core.frames (modified_before uid (n + 1)) in
    let count = length-set old f marked ∙ before ∙ sym after in
    cc (ext_get_or Free (set old f marked) new count (λ i lt.
    (let within : i < length core.frames = omega (arith, lt, length-set old f marked, before) in elim (cases_eq i f) [
      | inl same ↦ rw (
        same,
        get_or-set_same old f marked Free (omega (arith, inside, before)),
        get_or-map (modified_before uid n) core.frames f Free Free inside,
        get_or-map (modified_before uid (n + 1)) core.frames f Free Free inside,
      ) (marked_now (frame_at core f) page)
      | inr n' ↦ get_or-set_other old f i marked Free n' ∙ get_or-map (modified_before uid n) core.frames i Free Free
          within ∙ as_it_was (frame_at core i) (λ is. n' (frame_same (frame_of (ptw_at t n)) i f
          (h.named i n (binding_is core i ∙ is)) named)) ∙ sym (get_or-map (modified_before uid (n + 1)) core.frames i
          Free Free within)
    ])))

pub part_all : (core : Core) {uid : ℕ} (n : ℕ) {t : List Ptw} → IsTableOf (bindings core) uid t → length t ≤ n
    → part_modified core uid n ≡ all_modified core uid
part_all core {uid} n {t} h past_end = cc (alike (modified_before uid n) (modified_of uid) core.frames
    (λ i. all_now (frame_at core i) (λ p is. named_within (h.named i p (binding_is core i ∙ is)))))
  where
    named_within : {p f : ℕ} → frame_of (ptw_at t p) ≡ Some f → p < n
    named_within {p = p} {f = f} named =
        omega (arith, within_from t p Null (λ null. not_none (frame_of (ptw_at t p)) f (ap frame_of null) named))

-- no frame is bound to another page, and none is started for one
page_before : (uid n : ℕ) (frame : Frame) → bound_page (modified_before uid n frame) ≡ bound_page frame
page_before uid n Free = refl
page_before uid n _ = refl

pub bindings_part : (core : Core) (uid n : ℕ) → bindings (part_modified core uid n) ≡ bindings core
bindings_part core uid n = seen_through (modified_before uid n) core.frames (page_before uid n)

-- so the frame that a word names is bound still
pub part_bound : (core : Core) {uid : ℕ} (n p f : ℕ) {t : List Ptw} → IsTableOf (bindings core) uid t
    → frame_of (ptw_at t p) ≡ Some f → is_bound (frame_at (part_modified core uid n) f) ≡ true
part_bound core {uid} n p f h named = bound_from_page (frame_at (part_modified core uid n) f) uid p
    (cc (binding_is (part_modified core uid n) f, bindings_part core uid n, h.back f p named))

-- the words that the code tells from others
pub named_by : {w : Ptw} {f : ℕ} → (w ≡ Here f) ⊎ (w ≡ Leaving f) → frame_of w ≡ Some f
named_by (inl here) = ap frame_of here
named_by (inr leaving) = ap frame_of leaving

pub none_by : {w : Ptw} → (w ≡ Null) ⊎ ((r : ℕ) × (w ≡ Out r)) → frame_of w ≡ None
none_by (inl null) = ap frame_of null
none_by (inr out) = ap frame_of out.1

page_of : (uid : ℕ) (frame : Frame) → bound_page (modified_of uid frame) ≡ bound_page frame
page_of uid Free = refl
page_of uid _ = refl

start_of : (uid : ℕ) (frame : Frame) → started_page (modified_of uid frame) ≡ started_page frame
start_of uid Free = refl
start_of uid _ = refl

pub bindings_modified : (core : Core) (uid : ℕ) → bindings (all_modified core uid) ≡ bindings core
bindings_modified core uid = seen_through (modified_of uid) core.frames (page_of uid)

pub reads_modified : (core : Core) (uid : ℕ) → reads_of (all_modified core uid) ≡ reads_of core
reads_modified core uid = seen_through (modified_of uid) core.frames (start_of uid)

-- ---- what is true of each segment

-- a frame whose mark is off now had it off
off_before : (uid : ℕ) (frame : Frame) → is_modified (modified_of uid frame) ≡ false → is_modified frame ≡ false
off_before uid Free off = refl
off_before uid (Bound u p used true) off = cc
off_before uid _ off = refl

-- and one of the segment has it on
on_of : {uid p : ℕ} (frame : Frame) → bound_page frame ≡ Some (uid, p) → is_modified (modified_of uid frame) ≡ true
on_of {uid = uid} {p = p}
    (Bound u q used modified) is = rw (eq-eqb u uid (page_is u q uid p is).0) (sym (or_on modified))
on_of _ is = cc

frame_now : (core : Core) (uid f : ℕ) → f < length core.frames → frame_at (all_modified core uid) f
    ≡ modified_of uid (frame_at core f)
frame_now core uid f lt = get_or-map (modified_of uid) core.frames f Free Free lt

-- the frames as they are after
abbrev pub remarked : Plain → ℕ → Plain
remarked s uid = record s { core = all_modified s.core uid }

pub marks_modified : (s : Plain) (uid : ℕ) → Marks s (remarked s uid)
marks_modified s uid = record {
  bound = bindings_modified s.core uid;
  disks = refl;
  records = refl;
  vtocs = refl;
  clean = λ g y at off. (
    off_before uid (frame_in s g) (cc (frame_now s.core uid g (bound_inside s.core g
        (bound_from_page (frame_in s g) y.0 y.1 (sym (binding_is s.core g) ∙ at))))),
    refl,
  );
}

pub all_on : (s : Plain) {uid : ℕ} (f : ℕ) {p : ℕ} → binding_at (bindings s.core) f ≡ Some (uid, p)
    → is_modified (frame_in (remarked s uid) f) ≡ true
all_on s {uid = uid} f {p = p} at =
    let page : bound_page (frame_in s f) ≡ Some (uid, p) = sym (binding_is s.core f) ∙ at in
    cc (
      frame_now s.core uid f (bound_inside s.core f (bound_from_page (frame_in s f) uid p page)),
      on_of (frame_in s f) page,
    )
