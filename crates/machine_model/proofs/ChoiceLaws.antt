-- The victim's choice: which frame the clock comes to, and what its hand leaves. Another rule for the choice of a frame
-- would change these laws, and no other file's.
use Rattle.machine_model.proofs.Basics.{◌≡◌, ◌≢◌, ◌<◌, ◌-◌, ℕ, true, List, [], ◌∷◌, length, map, set, position, Option, Some, None, inl, inr, refl, sym, ap, ◌∙◌, arith, find, cases_lt, cond_both, length-map, find_passes, map_kept, no_place, not_both, IsMember, member_found, member_left, member_right, Frame, Core, after_choice, bound_page, clock_choice, core_frame, frame_at, is_bound, is_free, is_idle, is_started, least_free_frame, or_else, passed_over, reads_of, round_frames, started_page, unmarked, binding_at, bindings, bare, Frame as frame, map_list}
use Rattle.machine_model.proofs.PoolRoom.{range_has}
use Rattle.page_control.proofs.Turns.{page_unmarked}

-- ---- what is chosen

-- a frame that is chosen is bound
pub choice_bound : (core : Core) (f : ℕ) → clock_choice core ≡ Some f
    → (page : ℕ × ℕ) × (binding_at (bindings core) f ≡ Some page)
choice_bound core f h = let b = bound_of (frame_at core f) (by _ _ refl refl h) in
    (b.0, map_list bound_page core.frames f frame.Free ∙ b.1)
  where
    bound_of : (x : Frame) → is_bound x ≡ true → (page : ℕ × ℕ) × (bound_page x ≡ Some page)
    bound_of (frame.Bound u p used modified) e = ((u, p), refl)
    bound_of _ e = cc

    idle_bound : (x : Frame) → is_idle x ≡ true → is_bound x ≡ true
    idle_bound (frame.Bound u p used modified) e = refl
    idle_bound _ e = e

    by : (x y : Option ℕ) → find (λ g. is_idle (frame_at core g)) (round_frames core) ≡ x
        → find (λ g. is_bound (frame_at core g)) (round_frames core) ≡ y
        → or_else x y ≡ Some f → is_bound (frame_at core f) ≡ true
    by (Some g) y a b e = idle_bound (frame_at core f) (find_passes (λ i. is_idle (frame_at core i)) _ f (a ∙ e))
    by None y a b e = find_passes (λ i. is_bound (frame_at core i)) _ f (b ∙ e)

-- where a frame is bound, one is chosen
pub chosen : (core : Core) (f : ℕ) → f < length core.frames → is_bound (frame_at core f) ≡ true
    → clock_choice core ≢ None
chosen core f within bound none = member_found (λ g. is_bound (frame_at core g)) (round_frames core) f met bound
    (second _ _ none)
  where
    met : IsMember f (round_frames core)
    met = elim (cases_lt f core.hand) [
      | inl before ↦ member_right f _ _ (range_has 0 core.hand f (omega arith) (omega arith))
      | inr past ↦ member_left f _ _ (range_has core.hand (length core.frames - core.hand) f past (omega arith))
    ]

    second : (x y : Option ℕ) → or_else x y ≡ None → y ≡ None
    second None y e = e
    second (Some g) y e = cc

-- where no frame is free and none is chosen, one is being read into
pub one_read : (core : Core) → 0 < length core.frames → least_free_frame core ≡ None → clock_choice core ≡ None
    → position is_started core.frames ≢ None
one_read core some full none unread = by (frame_at core 0) refl
  where
    by : (x : Frame) → frame_at core 0 ≡ x → ⊥
    by frame.Free e = not_both (ap is_free e) (no_place is_free core.frames full 0 frame.Free some)
    by (frame.Started u p) e = not_both (ap is_started e) (no_place is_started core.frames unread 0 frame.Free some)
    by (frame.Bound u p used modified) e = chosen core 0 some (ap is_bound e) none

-- ---- what a choice leaves

module _ {B : Type 0} (g : Frame → B) (same : (x : Frame) → g (unmarked x) ≡ g x) where
  passed_alike : (xs : List Frame) (fs : List ℕ) → map g (passed_over xs fs) ≡ map g xs
  unfolding passed_over
  passed_alike xs [] = refl
  passed_alike xs (f ∷ fs) = let next = set xs f (unmarked (core_frame xs f)) in
      cond_both (is_idle (core_frame xs f)) xs (passed_over next fs) (λ ys. map g ys ≡ map g xs) (λ h. refl)
      (λ h. passed_alike next fs ∙ map_kept g xs f frame.Free (unmarked (core_frame xs f)) (same (core_frame xs f)))

  -- what the used marks don't show is as before
  pub choice_alike : (core : Core) (f : ℕ) → map g (after_choice core f).frames ≡ map g core.frames
  choice_alike core f = passed_alike core.frames (round_frames core)

pub choice_bindings : (core : Core) (f : ℕ) → bindings (after_choice core f) ≡ bindings core
choice_bindings = choice_alike bound_page page_unmarked

pub choice_reads : (core : Core) (f : ℕ) → reads_of (after_choice core f) ≡ reads_of core
choice_reads = choice_alike started_page unmarked_started
  where
    unmarked_started : (x : Frame) → started_page (unmarked x) ≡ started_page x
    unmarked_started (frame.Bound u p used modified) = refl
    unmarked_started frame.Free = refl
    unmarked_started (frame.Started u p) = refl

pub choice_bare : (core : Core) (f : ℕ) → map bare (after_choice core f).frames ≡ map bare core.frames
choice_bare = choice_alike bare unmarked_bare
  where
    unmarked_bare : (x : Frame) → bare (unmarked x) ≡ bare x
    unmarked_bare (frame.Bound u p used modified) = refl
    unmarked_bare frame.Free = refl
    unmarked_bare (frame.Started u p) = refl

pub choice_count : (core : Core) (f : ℕ) → length (after_choice core f).frames ≡ length core.frames
choice_count core f = sym (length-map {B = ℕ} _ (λ x. 0)) ∙ ap length (choice_alike (λ x. 0) (λ x. refl) core f)
    ∙ length-map {B = ℕ} _ (λ x. 0)
