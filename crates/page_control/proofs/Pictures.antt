-- What the words of a page are, where it is in a frame and where it is in none.
pub use Rattle.page_control.proofs.Prelude.{Bool, Entry, Home, IsCopied, IsInFrame, IsWrittenAt, List, None, Option, Out, Plain, Ptw, Some, [], ap, arith, binding_at, bindings, cases_eq, disk_of, eq-eqb, eqb_tells, false, filed, get_or, get_or-set_other, get_or-set_same, get_or_past, inl, inr, is_binding, leb_tells, length, map_at, not_none, off_and_on, plain, position, position-Some, position_nowhere, ptw_at, record_at, refl, set, set_past, sym, true, vtoc_in, words_at, words_filed, words_in, words_of_page, words_out, written, ℕ, ◌+◌, ◌<◌, ◌∙◌, ◌≡◌, ◌≢◌, ◌≤◌, ◌⊎◌}
pub use Rattle.page_control.proofs.Firsts.{position_at_one, position_kept}
pub use Rattle.page_control.proofs.Ties.{binding_is, bindings_referred, bindings_started, bound_from_page, bound_inside, bound_to, bound_within, frame_same, here_within, leaving_within, map_back, map_taken, number_of, table_back, table_taken}

-- the picture is that of its parts
pub picture_by : (bound old_bound : List (Option (ℕ × ℕ))) (frames old_frames : List (List ℕ)) (disks old_disks : List
    (List (List ℕ))) (vtocs old_vtocs : List (List (Option Entry))) → bound ≡ old_bound → frames ≡ old_frames → disks ≡
    old_disks → vtocs ≡ old_vtocs → words_of_page bound frames disks vtocs ≡ words_of_page old_bound old_frames
    old_disks old_vtocs
picture_by bound old_bound frames old_frames disks old_disks vtocs old_vtocs b f d v = rw (b, f, d, v) refl

-- a binding as a page
abbrev pub page : ℕ → ℕ → Option (ℕ × ℕ)
page uid p = Some (uid, p)

abbrev pub uid_part : Option (ℕ × ℕ) → ℕ
uid_part None = 0
uid_part (Some x) = x.0

pub binding_tells : (x : Option (ℕ × ℕ)) (uid p : ℕ) → is_binding uid p x ≡ true → x ≡ page uid p
binding_tells None uid p h = cc
binding_tells (Some (a, b)) uid p h = elim (eqb_tells a uid) [
  | inl i ↦ elim (eqb_tells b p) [
    | inl j ↦ rw (i.1, j.1)
    | inr j ↦ absurd (let off : is_binding uid p (page a b) ≡ false = rw (i.0, j.0) refl in off_and_on _ off h)
  ]
  | inr i ↦ absurd (let off : is_binding uid p (page a b) ≡ false = rw i.0 refl in off_and_on _ off h)
]

pub binding_is_one : (uid p : ℕ) → is_binding uid p (page uid p) ≡ true
binding_is_one uid p = rw (eq-eqb uid uid refl, eq-eqb p p refl) refl

pub off_from : (x : Option (ℕ × ℕ)) (uid p : ℕ) (b : Bool) → is_binding uid p x ≡ b → (x ≡ page uid p → ⊥)
    → is_binding uid p x ≡ false
off_from x uid p true is other = absurd (other (binding_tells x uid p is))
off_from x uid p false is other = is

-- a page that no frame is bound to, and one that one frame is bound to
pub found_nowhere : (bound : List (Option (ℕ × ℕ))) {uid p : ℕ} → ((g : ℕ) → binding_at bound g ≡ page uid p → ⊥)
    → position (is_binding uid p) bound ≡ None
found_nowhere bound {uid = uid} {p = p} none = position_nowhere (is_binding uid p) bound None
    (λ g. off_from (binding_at bound g) uid p _ refl (none g))

pub found_at : (bound : List (Option (ℕ × ℕ))) (uid p f : ℕ) → binding_at bound f ≡ page uid p
    → ((g : ℕ) → binding_at bound g ≡ page uid p → g ≡ f) → position (is_binding uid p) bound ≡ Some f
found_at bound uid p f here only = position_at_one (is_binding uid p) bound f None (bound_within bound f uid p here)
    (cc (binding_is_one uid p)) (λ g lt passes. only g (binding_tells (binding_at bound g) uid p passes))

-- their words
pub shown_in : (s : Plain) (uid p f : ℕ) (home : Home) → binding_at (bindings s.core) f ≡ page uid p
    → ((g : ℕ) → binding_at (bindings s.core) g ≡ page uid p → g ≡ f) → words_at s uid home p ≡ words_in s f
unfolding words_of_page
shown_in s uid p f home here only = cc (found_at (bindings s.core) uid p f here only)

pub shown_out : (s : Plain) (uid p : ℕ) (home : Home) → ((g : ℕ) → binding_at (bindings s.core) g ≡ page uid p → ⊥)
    → words_at s uid home p ≡ words_out s home p
unfolding words_of_page
shown_out s uid p home none = cc (found_nowhere (bindings s.core) none)

-- one or the other
pub in_frame_or_out : (s : Plain) {u q : ℕ} (h : Home) {place : Option ℕ} → position (is_binding u q) (bindings s.core)
    ≡ place → (IsInFrame (bindings s.core) u q) ⊎ (words_at s u h q ≡ words_out s h q)
unfolding words_of_page
in_frame_or_out s h {place = None} is = inr (cc)
in_frame_or_out s {u = u} {q = q} h {place = (Some g)} is = inl (
  g,
  binding_tells (binding_at (bindings s.core) g) u q (position-Some (is_binding u q) (bindings s.core) g None is).1,
)

-- the words of pages that are in no frame, where the record is the same
pub filed_same : (disk now : List (List ℕ)) (place : Option ℕ)
    → ((k : ℕ) → place ≡ Some k → get_or now k [] ≡ get_or disk k []) → words_filed now place ≡ words_filed disk place
filed_same disk now None same = refl
filed_same disk now (Some k) same = same k refl

-- what a frame is bound to after frame f was bound to x
pub bound_now : (bound : List (Option (ℕ × ℕ))) (f : ℕ) (x : Option (ℕ × ℕ)) (g : ℕ) (y : ℕ × ℕ)
    → binding_at (set bound f x) g ≡ Some y → ((g ≡ f) × (x ≡ Some y)) ⊎ ((g ≢ f) × (binding_at bound g ≡ Some y))
bound_now bound f x g y is = elim (cases_eq g f) [
  | inl same ↦ elim (leb_tells (length bound) f) [
    | inl past ↦ absurd (not_none (binding_at (set bound f x) g) y
        (rw (set_past bound f x past.1, same) (get_or_past bound f None past.1)) is)
    | inr lt ↦ inl (same, rw (same, get_or-set_same bound f x None lt.1) at is)
  ]
  | inr n ↦ inr (n, rw (get_or-set_other bound f g x None n) at is)
]

-- a page that is in a frame stays in it where another frame changes
pub in_frame_kept : (bound : List (Option (ℕ × ℕ))) (f : ℕ) {u q : ℕ} (x : Option (ℕ × ℕ))
    → (binding_at bound f ≡ Some (u, q) → ⊥) → IsInFrame bound u q → IsInFrame (set bound f x) u q
in_frame_kept bound f x other (g, at) = (g, rw (get_or-set_other bound f g x None (λ e. other (rw e at at))) at)

-- the words of a page are those of its parts: the frames, the drives and the file map at its home
pub words_by : (s now : Plain) (u : ℕ) (h : Home) (q : ℕ) → bindings now.core ≡ bindings s.core → now.frames ≡ s.frames
    → now.disks ≡ s.disks → map_at now.vtocs h ≡ map_at s.vtocs h → words_at now u h q ≡ words_at s u h q
unfolding words_of_page
words_by s now u h q bound frames disks map = rw (bound, frames, disks, map)

pub out_by : (s now : Plain) (h : Home) (q : ℕ) → now.disks ≡ s.disks → map_at now.vtocs h ≡ map_at s.vtocs h
    → words_out now h q ≡ words_out s h q
out_by s now h q disks map = rw (disks, map)
