-- What a turn of the clock keeps of the frames.
pub use Rattle.page_control.proofs.Marks.{Core, Frame, Free, IsClockChoice, Marks, None, Option, Plain, ap, arith, binding_is, bindings, bound_from_page, bound_inside, bound_page, ext_get_or, frame_at, inl, inr, is_modified, leb_tells, length, length-map, marks_kept, picture_by, plain, refl, rules, sym, ties_marked, unmarked, way, ℕ, ◌<◌, ◌∙◌, ◌≡◌}

pub kept_chosen : {X : Type 0} {t : Frame → X} {old new : Core} {f : ℕ} {i : ℕ} → ((frame : Frame) → t (unmarked frame)
    ≡ t frame) → IsClockChoice old new f → i < length old.frames → t (frame_at new i) ≡ t (frame_at old i)
kept_chosen {t = t} {old} {new} {f} {i = i} same choice lt = elim choice.turn [
  | inl over ↦ elim (leb_tells (way (length old.frames) old.hand f) (way (length old.frames) old.hand i)) [
    | inl far ↦ ap t (over.others i lt far.1)
    | inr near ↦ ap t (over.passed i lt near.1) ∙ same (frame_at old i)
  ]
  | inr round ↦ ap t (round.passed i lt) ∙ same (frame_at old i)
]

-- the clock turns off marks, and binds nothing
pub page_unmarked : (frame : Frame) → bound_page (unmarked frame) ≡ bound_page frame
page_unmarked Free = refl
page_unmarked _ = refl

pub bindings_chosen : (old new : Core) (f : ℕ) → IsClockChoice old new f → bindings new ≡ bindings old
bindings_chosen old new f choice =
    let none : Option (ℕ × ℕ) = None in
    let long = length-map new.frames bound_page in
    let count = long ∙ choice.count ∙ sym (length-map old.frames bound_page) in
    ext_get_or none (bindings new) (bindings old) count (λ i lt. binding_is new i
    ∙ kept_chosen page_unmarked choice (omega (arith, lt, long, choice.count)) ∙ sym (binding_is old i))

-- it turns off used marks alone
modified_unmarked : (frame : Frame) → is_modified (unmarked frame) ≡ is_modified frame
modified_unmarked Free = refl
modified_unmarked _ = refl

pub marks_chosen : (s now : Plain) (f : ℕ) → IsClockChoice s.core now.core f → now.frames ≡ s.frames → now.disks
    ≡ s.disks → now.records ≡ s.records → now.vtocs ≡ s.vtocs → Marks s now
marks_chosen s now f choice frames disks records vtocs =
    marks_kept s now (bindings_chosen s.core now.core f choice) disks records vtocs (λ g y at off.
    (let page = sym (binding_is s.core g) ∙ at in
    let inside = bound_inside s.core g (bound_from_page (frame_at s.core g) y.0 y.1 page) in
    (sym (kept_chosen modified_unmarked choice inside) ∙ off, cc)))
