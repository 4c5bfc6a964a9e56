-- A page is taken, has left its frame, is stored no more, or is back.
use Rattle.machine_model.proofs.Basics.{◌≡◌, ◌≢◌, ℕ, true, false, [], ◌∷◌, ◌++◌, Option, Some, None, refl, sym, ap, subst, ◌∙◌, What, Ptw, IsLawful, after_entry, MayRelease, DescriptorUse, NamesAllGoing, NobodyHoldsPage, is_current_frame, is_going_frame, names_frame, page_of, given_back, IsInNoFrame, NoneDue, at_put, at_put_two, custody_next, nobody_holds_going_page, taken, gone, released, back, Aim, KeepsBook, HoldsRight, IsAimed, names, is_pending, waits_for, Seen, flat, shown, frame_use, bound_use, descriptor_use, cut_uid, frames_of_owner, cut_of_owner, Owner, Entry as entry, Ptw as ptw, FrameUse as frame, custody_taken as page_taken, book_apart, book_next, right_frame, owned_take, one_place, put_here, put_other, put_two_here, none_some, use_bound, other_use, tied_word, tied_gone, page_used}
use Rattle.machine_model.proofs.DueLaws.{HasLeft, owned_left}

-- the frame that a word names is that of its page, and is used as the word says
tied_at : {v : Seen} (f u p : ℕ) {w : Ptw} → KeepsBook v → names w ≡ Some f → v.words u p ≡ w
    → (names (v.words u p) ≡ Some f) × (v.bound f ≡ Some (u, p)) × ((shown v).frame f ≡ bound_use (u, p) w)
tied_at {v} f u p {w} k named word = (name, bound, use_bound k.tied f u p bound word)
  where
    name : names (v.words u p) ≡ Some f
    name = cc

    bound : v.bound f ≡ Some (u, p)
    bound = k.tied.back f u p name

-- A page is here, and the owner waits for nothing. What the owner is to signal names its frame, and all that goes
-- already.
pub record CanTake (v : Seen) (aim : Aim) (w : What) (f u p : ℕ) : Type 0 where
  pub here : v.words u p ≡ ptw.Here f
  pub still : waits_for v.owner ≡ None
  pub others : NamesAllGoing (shown v) w
  pub this : names_frame (shown v) w f ≡ true
  pub aimed : IsAimed aim w (frames_of_owner v.owner ++ f ∷ []) (cut_of_owner v.owner)

pub take_keeps : {v : Seen} (c : ℕ) (aim : Aim) (w : What) (f u p : ℕ) → KeepsBook v → CanTake v aim w f u p
    → KeepsBook (taken v c aim w f u p)
unfolding IsLawful after_entry custody_next
take_keeps {v} c aim w f u p k can = book_next refl refl k (record {
  lawful = tt;
  allowed = current;
  online = tt;
  next = λ i. record (shown v) {
    frame = λ g. one_place (shown v).frame (λ h. frame_use words (v.bound h) (v.reads h)) f
        (page_taken ((shown v).frame f)) here (λ h n. other_use k.tied f u p (ptw.Leaving f) at.0 h n) g i;
  };
  pending = refl;
  going_owned = owned_take c f aim k.going_owned current can.still can.others can.this can.aimed;
  tied = tied_word k.tied f u p (ptw.Leaving f) at.0 refl;
  holding_right = k.holding_right;
  under_way = k.under_way;
  runs = k.runs;
})
  where
    words : ℕ → ℕ → Ptw
    words = at_put_two v.words u p (ptw.Leaving f)

    at : (names (v.words u p) ≡ Some f) × (v.bound f ≡ Some (u, p)) × ((shown v).frame f ≡ frame.Current u p)
    at = tied_at f u p k refl can.here

    current : is_current_frame ((shown v).frame f) ≡ true
    current = ap is_current_frame at.2

    here : frame_use words (v.bound f) (v.reads f) ≡ page_taken ((shown v).frame f)
    here = cc (at.1, put_two_here v.words u p (ptw.Leaving f), at.2)

-- ---- gone, or back

-- A page is on its way out, every processor has cleared, and the owner goes on without its first frame, which this is.
pub record CanFinish (v : Seen) (f u p : ℕ) (owner : Option Owner) : Type 0 where
  pub leaving : v.words u p ≡ ptw.Leaving f
  pub none : NoneDue (shown v)
  pub still : is_pending v.owner ≡ false
  pub after : is_pending owner ≡ false
  pub first : HasLeft v.owner owner f

-- so it is where the word and the owner are the same, and no clear is due
pub finish_with : {v now : Seen} {f u p : ℕ} {owner : Option Owner} → now.words u p ≡ v.words u p
    → now.owner ≡ v.owner → NoneDue (shown now) → CanFinish v f u p owner → CanFinish now f u p owner
finish_with {f = f} {owner = owner} word same none can = record {
  leaving = cc;
  none = none;
  still = cc;
  after = can.after;
  first = rw same can.first;
}

module _ (v : Seen) (f u p : ℕ) (owner : Option Owner) (k : KeepsBook v) (can : CanFinish v f u p owner) where
  leaving : (names (v.words u p) ≡ Some f) × (v.bound f ≡ Some (u, p)) × ((shown v).frame f ≡ frame.Going u p)
  leaving = tied_at f u p k refl can.leaving

  leaving_nobody : NobodyHoldsPage (shown v) f
  leaving_nobody = nobody_holds_going_page (shown v) f (rw (← can.still) k.stale_due) can.none
      (ap is_current_frame leaving.2)

  not_read : v.reads f ≡ None
  not_read = by (v.reads f) refl
    where
      by : (x : Option (ℕ × ℕ)) → v.reads f ≡ x → x ≡ None
      by None e = refl
      by (Some page) e = cc (k.tied.unbound f page.0 page.1 e, leaving.1)

  -- the page has left its frame, and its word is one that names no frame
  pub gone_keeps : (word : Ptw) → names word ≡ None → KeepsBook (gone v f u p word owner)
  unfolding IsLawful after_entry custody_next
  gone_keeps word nowhere = book_next refl refl k (record {
    lawful = tt;
    allowed = record { going = ap is_going_frame leaving.2; nobody = leaving_nobody };
    online = tt;
    next = λ i. record {
      active = v.active;
      frame = λ g. one_place (shown v).frame
          (λ h. frame_use words (at_put v.bound f None h) (v.reads h)) f frame.Free here other g i;
      descriptor = λ j n. descriptor_use (v.linked j n) (cut_uid (can.first.same i) j n);
      ready = v.ready;
      seat = (shown v).seat;
    };
    pending = cc;
    going_owned = owned_left frame.Free k.going_owned can.none can.first refl;
    tied = tied_gone k.tied f u p word leaving.0 nowhere;
    holding_right = λ d. right_frame v.bound
        (λ j n. descriptor_use (v.linked j n) (cut_uid (cut_of_owner owner) j n)) f None (v.processors d)
        (leaving_nobody d) (subst (λ (x : ℕ → ℕ → DescriptorUse). HoldsRight v.bound x (v.processors d))
        (λ i. λ j n. descriptor_use (v.linked j n) (cut_uid (sym can.first.same i) j n)) (k.holding_right d));
    under_way = k.under_way;
    runs = k.runs;
  })
    where
      words : ℕ → ℕ → Ptw
      words = at_put_two v.words u p word

      here : frame_use words (at_put v.bound f None f) (v.reads f) ≡ frame.Free
      here = cc (put_here v.bound f None, not_read)

      other : (h : ℕ) → h ≢ f → frame_use words (at_put v.bound f None h) (v.reads h) ≡ (shown v).frame h
      other h n = cc (put_other v.bound f None h n, other_use k.tied f u p word leaving.0 h n)

  -- it stays
  pub back_keeps : KeepsBook (back v f u p owner)
  unfolding IsLawful after_entry custody_next
  back_keeps = book_next refl refl k (record {
    lawful = tt;
    allowed = record { going = ap is_going_frame leaving.2; nobody = leaving_nobody };
    online = tt;
    next = λ i. record {
      active = v.active;
      frame = λ g. one_place (shown v).frame (λ h. frame_use words (v.bound h) (v.reads h)) f
          (given_back ((shown v).frame f)) here (λ h n. other_use k.tied f u p (ptw.Here f) leaving.0 h n) g i;
      descriptor = λ j n. descriptor_use (v.linked j n) (cut_uid (can.first.same i) j n);
      ready = v.ready;
      seat = (shown v).seat;
    };
    pending = cc;
    going_owned = owned_left (given_back ((shown v).frame f)) k.going_owned can.none can.first (cc (leaving.2));
    tied = tied_word k.tied f u p (ptw.Here f) leaving.0 refl;
    holding_right = λ d. subst (λ (x : ℕ → ℕ → DescriptorUse). HoldsRight v.bound x (v.processors d))
        (λ i. λ j n. descriptor_use (v.linked j n) (cut_uid (sym can.first.same i) j n)) (k.holding_right d);
    under_way = k.under_way;
    runs = k.runs;
  })
    where
      words : ℕ → ℕ → Ptw
      words = at_put_two v.words u p (ptw.Here f)

      here : frame_use words (v.bound f) (v.reads f) ≡ given_back ((shown v).frame f)
      here = cc (leaving.1, put_two_here v.words u p (ptw.Here f), leaving.2)

-- ---- stored no more

-- a page in no frame, which is all zeros, is given up
pub release_keeps : {v : Seen} {u p : ℕ} → KeepsBook v → MayRelease (flat v) u p → IsInNoFrame (shown v) u p
    → KeepsBook (released v u p)
unfolding IsLawful after_entry custody_next
release_keeps {v} {u} {p} k may nowhere = book_apart (entry.Release u p) k may nowhere tt refl refl k.runs

-- a page whose word names no frame and isn't on its record alone is in none
pub in_no_frame : {v : Seen} (u p : ℕ) → KeepsBook v → names (v.words u p) ≡ None → ((g : ℕ) → v.reads g ≢ Some (u, p))
    → IsInNoFrame (shown v) u p
in_no_frame {v} u p k nowhere unread f h = by (v.bound f) (v.reads f) refl refl h
  where
    by : (x y : Option (ℕ × ℕ)) → v.bound f ≡ x → v.reads f ≡ y → page_of (frame_use v.words x y) ≡ Some (u, p) → ⊥
    by (Some page) y e r g = none_some (sym nowhere ∙ k.tied.named f u p (cc (page_used page (v.words page.0 page.1))))
    by None (Some page) e r g = unread f (r ∙ g)
    by None None e r g = none_some g
