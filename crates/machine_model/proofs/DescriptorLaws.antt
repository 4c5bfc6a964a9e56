-- A descriptor is connected, cut, gone, or back.
use Rattle.machine_model.proofs.Basics.{◌≡◌, ℕ, true, false, List, [], ◌∷◌, ◌++◌, Option, Some, None, refl, sym, ap, subst, ◌∙◌, What, IsLawful, after_entry, known_uid, DescriptorUse, NamesAllGoing, NobodyHoldsSeg, is_current_descriptor, is_going_descriptor, names_descriptor, leads_to, reconnected, NoneDue, at_put_two, custody_next, nobody_holds_seg, nobody_holds_going_seg, cut, gone_seg, back_seg, connected, Aim, KeepsBook, HoldsRight, IsAimed, AreApart, has_cut, is_pending, waits_for, Seen, flat, shown, descriptor_use, cut_uid, cut_use, is_cut_at, frames_of_owner, cut_of_owner, CutDescriptor, Owner, Entry, IsAllowed, FillsOnline, pending_after, IsRun, progress_of, or_parts, Entry as entry, DescriptorUse as descriptor, custody_cut as descriptor_cut, book_next, right_alike, right_descriptor, owned_cut, owned_like, like_descriptor, cut_at_same, cut_at_other, current_descriptor_is_not_going, by_places, one_place_of_two, put_two_here, leads_cut}
use Rattle.machine_model.proofs.DueLaws.{HasLeftCut, owned_left_cut}

-- ---- what was cut

cut_none : (ds : List CutDescriptor) (k n : ℕ) → has_cut ds k n ≡ false → cut_uid ds k n ≡ None
cut_none [] k n h = refl
cut_none (d ∷ ds) k n h = let parts = or_parts (is_cut_at k n d) (has_cut ds k n) h in
    rw parts.0 (cut_none ds k n parts.1)

cut_head : (d : CutDescriptor) (ds : List CutDescriptor) → cut_uid (d ∷ ds) d.process d.number ≡ Some d.uid
cut_head d ds = cc (cut_at_same d)

cut_rest : (d : CutDescriptor) (ds : List CutDescriptor) (k n : ℕ) → (k ≡ d.process → n ≡ d.number → ⊥)
    → cut_uid (d ∷ ds) k n ≡ cut_uid ds k n
cut_rest d ds k n h = cc (cut_at_other k n d h)

cut_pushed : (ds : List CutDescriptor) (d : CutDescriptor) → has_cut ds d.process d.number ≡ false
    → cut_uid (ds ++ d ∷ []) d.process d.number ≡ Some d.uid
cut_pushed [] d h = cut_head d []
cut_pushed (x ∷ xs) d h = let parts = or_parts (is_cut_at d.process d.number x) (has_cut xs d.process d.number) h in
    cc (cut_pushed xs d parts.1)

cut_kept : (ds : List CutDescriptor) (d : CutDescriptor) (k n : ℕ) → (k ≡ d.process → n ≡ d.number → ⊥)
    → cut_uid (ds ++ d ∷ []) k n ≡ cut_uid ds k n
cut_kept [] d k n h = cut_rest d [] k n h
cut_kept (x ∷ xs) d k n h = cc (cut_kept xs d k n h)

unlinked_going : (x y : Option ℕ) → is_going_descriptor (descriptor_use x y) ≡ true → x ≡ None
unlinked_going None y h = refl
unlinked_going (Some u) y h = cc

-- a descriptor's use by the segment that it leads to
use_linked : (v : Seen) (k n : ℕ) {u : ℕ} → v.linked k n ≡ Some u → (shown v).descriptor k n ≡ descriptor.Current u
use_linked v k n h = cc

-- ---- cut

-- A descriptor is connected, and the owner waits for nothing. What the owner is to signal names it, and all that goes
-- already.
pub record CanCut (v : Seen) (aim : Aim) (w : What) (d : CutDescriptor) : Type 0 where
  pub linked : v.linked d.process d.number ≡ Some d.uid
  pub still : waits_for v.owner ≡ None
  pub others : NamesAllGoing (shown v) w
  pub this : names_descriptor (shown v) w d.process d.number ≡ true
  pub aimed : IsAimed aim w (frames_of_owner v.owner) (cut_of_owner v.owner ++ d ∷ [])

pub cut_keeps : {v : Seen} (c : ℕ) (aim : Aim) (w : What) (d : CutDescriptor) → KeepsBook v → CanCut v aim w d
    → KeepsBook (cut v c aim w d)
unfolding IsLawful after_entry custody_next
cut_keeps {v} c aim w d k can = book_next refl refl k (record {
  lawful = tt;
  allowed = current;
  online = tt;
  next = λ i. record (shown v) { descriptor = λ j n. next_at j n i };
  pending = refl;
  going_owned = owned_cut c d aim k.going_owned current can.still can.others can.this can.aimed;
  tied = k.tied;
  holding_right = λ e. right_alike now (λ j n. cc (
    next_at j n,
    by_places (λ (x : DescriptorUse). leads_to x ≡ leads_to ((shown v).descriptor j n)) (shown v).descriptor d.process
        d.number made j n (λ a b. leads_cut ((shown v).descriptor d.process d.number) ∙ rw (a, b) refl) (λ m. refl),
  )) (k.holding_right e);
  under_way = k.under_way;
  runs = k.runs;
})
  where
    ds : List CutDescriptor
    ds = cut_of_owner v.owner

    is : (shown v).descriptor d.process d.number ≡ descriptor.Current d.uid
    is = use_linked v d.process d.number can.linked

    current : is_current_descriptor ((shown v).descriptor d.process d.number) ≡ true
    current = ap is_current_descriptor is

    made : DescriptorUse
    made = descriptor_cut ((shown v).descriptor d.process d.number)

    linked : ℕ → ℕ → Option ℕ
    linked = at_put_two v.linked d.process d.number None

    now : ℕ → ℕ → DescriptorUse
    now j n = descriptor_use (linked j n) (cut_uid (ds ++ d ∷ []) j n)

    new : has_cut ds d.process d.number ≡ false
    new = sym (k.going_owned.cuts d.process d.number)
        ∙ current_descriptor_is_not_going ((shown v).descriptor d.process d.number) current

    here : now d.process d.number ≡ made
    here = cc (put_two_here v.linked d.process d.number None, cut_pushed ds d new, is)

    other : (j n : ℕ) → (j ≡ d.process → n ≡ d.number → ⊥) → now j n ≡ (shown v).descriptor j n
    other j n m = by_places (λ (o : Option ℕ). descriptor_use o (cut_uid (ds ++ d ∷ []) j n) ≡ (shown v).descriptor j n)
        v.linked d.process d.number None j n (λ a b. absurd (m a b)) (λ x. cc (cut_kept ds d j n m))

    next_at : (j n : ℕ) → now j n ≡ at_put_two (shown v).descriptor d.process d.number made j n
    next_at = one_place_of_two (shown v).descriptor now d.process d.number made here other

-- ---- gone, or back

-- A descriptor is on its way out, every processor has cleared, and the owner goes on without its first descriptor,
-- which this is.
pub record CanFinishSeg (v : Seen) (d : CutDescriptor) (owner : Option Owner) : Type 0 where
  pub none : NoneDue (shown v)
  pub still : is_pending v.owner ≡ false
  pub after : is_pending owner ≡ false
  pub first : HasLeftCut v.owner owner d

module _ (v : Seen) (d : CutDescriptor) (owner : Option Owner) (k : KeepsBook v) (can : CanFinishSeg v d owner) where
  cut_going : is_going_descriptor ((shown v).descriptor d.process d.number) ≡ true
  cut_going = cc (k.going_owned.cuts d.process d.number, can.first.first, cut_at_same d)

  cut_unlinked : v.linked d.process d.number ≡ None
  cut_unlinked = unlinked_going (v.linked d.process d.number)
      (cut_uid (cut_of_owner v.owner) d.process d.number) cut_going

  cut_nobody : NobodyHoldsSeg (shown v) d.process d.number
  cut_nobody = nobody_holds_going_seg (shown v) d.process d.number (rw (← can.still) k.stale_due) can.none
      (cc (cut_unlinked, not_current (cut_uid (cut_of_owner v.owner) d.process d.number)))
    where
      not_current : (y : Option ℕ) → is_current_descriptor (cut_use y) ≡ false
      not_current None = refl
      not_current (Some u) = refl

  cut_apart : (has_cut can.first.rest d.process d.number ≡ false) × AreApart can.first.rest
  cut_apart = subst AreApart can.first.first k.going_owned.apart

  -- every other descriptor is used as before
  others_uncut : (linked : ℕ → ℕ → Option ℕ)
      → ((j n : ℕ) → (j ≡ d.process → n ≡ d.number → ⊥) → linked j n ≡ v.linked j n)
      → (j n : ℕ) → (j ≡ d.process → n ≡ d.number → ⊥)
      → descriptor_use (linked j n) (cut_uid (cut_of_owner owner) j n) ≡ (shown v).descriptor j n
  others_uncut linked same j n m = cc (same j n m, can.first.left, cut_rest d can.first.rest j n m, can.first.first)

  -- the descriptor is used otherwise, as one that nobody holds
  finished_keeps : (e : Entry) (linked : ℕ → ℕ → Option ℕ) (made : DescriptorUse) → IsLawful v.plan (flat v) e
      → IsAllowed v.plan (flat v) (shown v) e → FillsOnline (shown v) e → custody_next v.plan (flat v) (shown v) e
      ≡ record (shown v) { descriptor = at_put_two (shown v).descriptor d.process d.number made }
      → pending_after (is_pending v.owner) e ≡ is_pending v.owner
      → ((j : ℕ) → IsRun (progress_of (after_entry v.plan (flat v) e) j) (v.runs j)) → is_going_descriptor made ≡ false
      → descriptor_use (linked d.process d.number) (cut_uid (cut_of_owner owner) d.process d.number) ≡ made
      → ((j n : ℕ) → (j ≡ d.process → n ≡ d.number → ⊥) → linked j n ≡ v.linked j n)
      → KeepsBook (record v { linked = linked; owner = owner; entries = v.entries ++ e ∷ [] })
  finished_keeps e linked made lawful allowed online next pending runs goes here same = book_next refl refl k (record {
    lawful = lawful;
    allowed = allowed;
    online = online;
    next = (λ i. record (shown v) { descriptor = λ j n. next_at j n i }) ∙ sym next;
    pending = cc;
    going_owned = rw next (owned_left_cut owner d made k.going_owned can.none can.first goes);
    tied = k.tied;
    holding_right = λ c. subst (λ (x : ℕ → ℕ → DescriptorUse). HoldsRight v.bound x (v.processors c))
        (λ i. λ j n. sym (next_at j n) i) (right_descriptor d.process d.number made (cut_nobody c) (k.holding_right c));
    under_way = k.under_way;
    runs = runs;
  })
    where
      next_at : (j n : ℕ) → descriptor_use (linked j n) (cut_uid (cut_of_owner owner) j n)
          ≡ at_put_two (shown v).descriptor d.process d.number made j n
      next_at = one_place_of_two (shown v).descriptor
          (λ j n. descriptor_use (linked j n) (cut_uid (cut_of_owner owner) j n)) d.process d.number made here
          (others_uncut linked same)

  pub gone_seg_keeps : KeepsBook (gone_seg v d owner)
  unfolding IsLawful after_entry custody_next
  gone_seg_keeps = finished_keeps (entry.GoneSeg d.process d.number) v.linked descriptor.Free tt
      (record { going = cut_going; nobody = cut_nobody }) tt refl refl k.runs refl
      (cc (cut_unlinked, can.first.left, cut_none can.first.rest d.process d.number cut_apart.0)) (λ j n m. refl)

  pub back_seg_keeps : KeepsBook (back_seg v d owner)
  unfolding IsLawful after_entry custody_next
  back_seg_keeps = finished_keeps (entry.BackSeg d.process d.number)
      (at_put_two v.linked d.process d.number (Some d.uid)) (reconnected ((shown v).descriptor d.process d.number)) tt
      (record { going = cut_going; nobody = cut_nobody }) tt refl refl k.runs (ap is_going_descriptor made_is)
      (cc (put_two_here v.linked d.process d.number (Some d.uid), made_is))
      (λ j n m. by_places (λ (o : Option ℕ). o ≡ v.linked j n) v.linked d.process d.number (Some d.uid) j n
      (λ a b. absurd (m a b)) (λ x. refl))
    where
      was : (shown v).descriptor d.process d.number ≡ descriptor.Going d.uid
      was = cc (cut_unlinked, can.first.first, cut_head d can.first.rest)

      made_is : reconnected ((shown v).descriptor d.process d.number) ≡ descriptor.Current d.uid
      made_is = ap reconnected was

-- ---- connected

-- A number stands for an active segment, and its descriptor is neither connected nor cut.
pub record CanConnect (v : Seen) (k n u : ℕ) : Type 0 where
  pub known : known_uid (flat v) k n ≡ Some u
  pub active : v.active u ≡ true
  pub unlinked : v.linked k n ≡ None
  pub uncut : has_cut (cut_of_owner v.owner) k n ≡ false

pub connect_keeps : {v : Seen} {j n u : ℕ} → KeepsBook v → CanConnect v j n u → KeepsBook (connected v j n u)
unfolding IsLawful after_entry custody_next
connect_keeps {v} {j} {n} {u} k can = book_next refl refl k (record {
  lawful = tt;
  allowed = record { known = can.known; active = can.active; free = is };
  online = tt;
  next = λ i. record (shown v) { descriptor = λ x y. next_at x y i };
  pending = refl;
  going_owned = owned_like
      (like_descriptor (shown v) j n (descriptor.Current u) (ap is_going_descriptor is) refl) k.going_owned;
  tied = k.tied;
  holding_right = λ e. subst (λ (x : ℕ → ℕ → DescriptorUse). HoldsRight v.bound x (v.processors e))
      (λ i. λ x y. sym (next_at x y) i) (right_descriptor j n (descriptor.Current u) (nobody e) (k.holding_right e));
  under_way = k.under_way;
  runs = k.runs;
})
  where
    linked : ℕ → ℕ → Option ℕ
    linked = at_put_two v.linked j n (Some u)

    now : ℕ → ℕ → DescriptorUse
    now x y = descriptor_use (linked x y) (cut_uid (cut_of_owner v.owner) x y)

    is : (shown v).descriptor j n ≡ descriptor.Free
    is = cc (cut_none (cut_of_owner v.owner) j n can.uncut)

    nobody : NobodyHoldsSeg (shown v) j n
    nobody = nobody_holds_seg (shown v) (is_pending v.owner) j n k.stale_due (ap is_current_descriptor is)
        (ap is_going_descriptor is)

    other : (x y : ℕ) → (x ≡ j → y ≡ n → ⊥) → now x y ≡ (shown v).descriptor x y
    other x y m = by_places (λ (o : Option ℕ). descriptor_use o (cut_uid (cut_of_owner v.owner) x y)
        ≡ (shown v).descriptor x y) v.linked j n (Some u) x y (λ a b. absurd (m a b)) (λ z. refl)

    next_at : (x y : ℕ) → now x y ≡ at_put_two (shown v).descriptor j n (descriptor.Current u) x y
    next_at = one_place_of_two (shown v).descriptor now j n (descriptor.Current u)
        (rw (put_two_here v.linked j n (Some u))) other
