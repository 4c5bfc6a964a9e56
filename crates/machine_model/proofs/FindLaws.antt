-- What is found in lists of frames, of places and of what a processor holds.
use Rattle.machine_model.proofs.Basics.{◌≡◌, ◌≢◌, ◌<◌, ℕ, Bool, true, false, ◌||◌, cond, eqb, List, [], ◌∷◌, map, length, get_or, not, position, Option, Some, None, inl, inr, refl, sym, ap, ◌∙◌, arith, find, find_passes, no_place, position-Some, get_or_past, eqb_tells, leb_tells, nat_tests, HeldPage, HeldSeg, is_number, is_page, Frame, Core, bound_page, frame_at, is_free, least_free_frame, reads_of, started_page, binding_at, bindings, read_at, has, AreHeldPages, frame_reading, is_page_of, not-true, first_inactive, is_active, ActiveSegs, not_both, page_is, Frame as frame, eqb_self, map_list}
pub use Rattle.machine_model.proofs.ChoiceLaws.{choice_bound}

module _ {X : Type 0} (p : X → Bool) where
  -- what is found passes
  pub find_true : (xs : List X) (x : X) → find p xs ≡ Some x → p x ≡ true
  find_true = find_passes p

  pub position_at : (xs : List X) (d : X) (i : ℕ) → position p xs ≡ Some i
      → (i < length xs) × (p (get_or xs i d) ≡ true)
  position_at xs d i h = let at = position-Some p xs i d h in (at.0, at.1)

  -- where nothing is found, nothing passes
  pub position_none : (xs : List X) (d : X) (i : ℕ) → position p xs ≡ None → p d ≡ false → p (get_or xs i d) ≡ false
  position_none xs d i h past = elim (leb_tells (length xs) i) [
    | inl far ↦ ap p (get_or_past xs i d far.1) ∙ past
    | inr near ↦ no_place p xs h i d near.1
  ]

-- ---- frames

pub free_is : (x : Frame) → is_free x ≡ true → x ≡ frame.Free
free_is frame.Free h = refl
free_is _ h = cc

-- the least free frame is there, bound to nothing, and nothing is being read into it
pub free_frame : (core : Core) (f : ℕ) → least_free_frame core ≡ Some f
    → (f < length core.frames) × (binding_at (bindings core) f ≡ None) × (read_at (reads_of core) f ≡ None)
free_frame core f h = let at = position_at is_free core.frames frame.Free f h in let is =
    free_is (frame_at core f) at.1 in (
      at.0,
      cc (map_list bound_page core.frames f frame.Free),
      cc (map_list started_page core.frames f frame.Free),
    )

-- a page that no frame is being read into for
pub unread_page : (core : Core) (u p : ℕ) → frame_reading core u (λ q. eqb q p) ≡ None → (g : ℕ)
    → read_at (reads_of core) g ≢ Some (u, p)
unread_page core u p h g e = not_both passes (position_none
    (λ x. is_page_of u (λ q. eqb q p) (started_page x)) core.frames frame.Free g h refl)
  where
    passes : is_page_of u (λ q. eqb q p) (started_page (frame_at core g)) ≡ true
    passes = ap (is_page_of u (λ q. eqb q p)) (sym (map_list started_page core.frames g frame.Free) ∙ e)
        ∙ rw (eqb_self u, eqb_self p) refl

-- ---- what is held

-- a descriptor that isn't held
pub number_new : (es : List HeldSeg) (n : ℕ) → find (is_number n) es ≡ None → has (map (λ e. e.number) es) n ≡ false
number_new [] n h = refl
number_new (e ∷ es) n h = by (eqb e.number n) (number_new es n) h
  where
    by : (b : Bool) → (find (is_number n) es ≡ None → has (map (λ x. x.number) es) n ≡ false)
        → cond b (Some e) (find (is_number n) es) ≡ None → (b || has (map (λ x. x.number) es) n) ≡ false
    by true rest i = cc
    by false rest i = rest i

-- a page table word of a frame that isn't held, where the page in it isn't
pub page_new : (bound : ℕ → Option (ℕ × ℕ)) (es : List HeldPage) (f u p : ℕ) → AreHeldPages bound es
    → bound f ≡ Some (u, p) → find (is_page u p) es ≡ None → has (map (λ e. e.frame) es) f ≡ false
page_new bound [] f u p held is h = refl
page_new bound (e ∷ es) f u p held is h = by (is_page u p e) refl (page_new bound es f u p held.1 is) h
  where
    its : e.frame ≡ f → is_page u p e ≡ true
    its same = grind (arith, page_is e.uid e.page u p (cc), nat_tests)

    by : (b : Bool) → is_page u p e ≡ b → (find (is_page u p) es ≡ None → has (map (λ x. x.frame) es) f ≡ false)
        → cond b (Some e) (find (is_page u p) es) ≡ None → (eqb e.frame f || has (map (λ x. x.frame) es) f) ≡ false
    by true a rest i = cc
    by false a rest i = elim (eqb_tells e.frame f) [
      | inl y ↦ absurd (not_both (its y.1) a)
      | inr n ↦ ap (λ (b : Bool). b || has (map (λ x. x.frame) es) f) n.0 ∙ rest i
    ]

-- the first segment of a chain that isn't active isn't
pub first_idle : (ast : ActiveSegs) (chain : List ℕ) (v : ℕ) → first_inactive ast chain ≡ Some v
    → is_active ast v ≡ false
first_idle ast chain v h = not-true (is_active ast v) (find_true (λ w. not (is_active ast w)) chain v h)
