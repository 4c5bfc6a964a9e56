-- The frames of core: whether one is bound, and what the clock chooses then.
use Rattle.machine_tables.proofs.Prelude.{◌≡◌, ◌≤◌, ℕ, true, false, List, [], ◌∷◌, length, position, Option, Some, None, refl, sym, ◌∙◌, arith, All, list_any, position_or_len, All-get_or, Frame, Free, Core, bound_page, frame_at, is_bound, is_free, is_started, clock_choice, evict_or_wait, or_zero, any_at, some_within, chosen, choice_bound, map_list, found, bound_is, first_false}
use Rattle.machine_model.specs.Actions as act
use Rattle.machine_tables.proofs.FindLaws.{position_first}

-- ---- the clock

-- where one is bound the clock's choice goes
pub bound_goes : (core : Core) → true ≡ list_any is_bound core.frames
    → act.Evict (or_zero (clock_choice core)) ≡ evict_or_wait core (clock_choice core)
bound_goes core any = by (clock_choice core) refl
  where
    by : (x : Option ℕ) → clock_choice core ≡ x → act.Evict (or_zero x) ≡ evict_or_wait core x
    by (Some f) e = refl
    by None e =
        let lt = some_within is_bound core.frames (sym any) in
        absurd (chosen core (position_or_len is_bound core.frames) lt (found is_bound core.frames Free lt) e)

none_chosen : (core : Core) → list_any is_bound core.frames ≡ false → clock_choice core ≡ None
none_chosen core none = by (clock_choice core) refl
  where
    by : (x : Option ℕ) → clock_choice core ≡ x → x ≡ None
    by None e = refl
    by (Some f) e =
        let page = choice_bound core f e in
        let bound : is_bound (frame_at core f) ≡ true =
        bound_is (frame_at core f) page.0 (cc (map_list bound_page core.frames f Free)) in
        absurd (let no : true ≡ false = sym (any_at is_bound core.frames f Free bound refl) ∙ none in cc)

started_by : (x : Frame) → is_free x ≡ false → is_bound x ≡ false → is_started x ≡ true
started_by x h1 h2 = grind arith

first_started : (frames : List Frame) → 1 ≤ length frames → All (λ x. is_free x ≡ false) frames
    → list_any is_bound frames ≡ false → position is_started frames ≡ Some 0
first_started [] some full none = absurd (omega arith)
first_started (x ∷ xs) some full none = position_first is_started Free (x ∷ xs) 0 (omega arith)
    (started_by x (All-get_or (λ y. is_free y ≡ false) (x ∷ xs) 0 Free (omega arith) full)
    (first_false (is_bound x) (list_any is_bound xs) none)) (λ j lt. absurd (omega arith))

pub first_waits : (core : Core) → false ≡ list_any is_bound core.frames → 1 ≤ length core.frames
    → All (λ x. is_free x ≡ false) core.frames → act.Waits (act.ForTransfer 0) ≡ evict_or_wait core (clock_choice core)
first_waits core none some full = cc (first_started core.frames some full (sym none), none_chosen core (sym none))
