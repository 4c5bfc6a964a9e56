-- The signal of what was taken is given, and a processor clears.
use Rattle.machine_model.proofs.Basics.{◌≡◌, ℕ, Bool, true, false, cond, not, eqb, List, [], ◌∷◌, map, filter, Option, Some, None, refl, sym, ap, subst, ◌∙◌, arith, HeldPage, HeldSeg, What, names_seg, names_page, IsLawful, after_entry, DescriptorUse, SomethingGoes, NamesAllGoing, NoneDue, Seat, leads_to, names_frame, names_descriptor, names_number, cleared, at_put, custody_next, cleared_at, told_at, dropped, warned, done_dropping, Phase, KeepsBook, HoldsRight, AreHeldPages, AreHeldSegs, AreOfProcess, is_pending, says, waits_for, Seen, shown, seat_of, descriptor_use, cut_uid, Processor, Owner, few_kept, What as what, custody_bound_page as bound_page, next_told as told, signal_given as signalled, Phase as phase, book_next, pages_kept, right_like, segs_kept, under_way_alike, kept_step, by_place, put_map, bound_used}
use Rattle.machine_model.proofs.DueLaws.{HasSaid, none_due, owned_signal, owned_clear}

-- ---- what custody sees of what is dropped

-- the page in a frame that is bound
pub page_in_use : (v : Seen) (f : ℕ) {page : ℕ × ℕ} → v.bound f ≡ Some page → bound_page ((shown v).frame f) ≡ Some page
page_in_use v f {page} h = cc (bound_used page (v.words page.0 page.1))

page_named : (v : Seen) (w : What) (e : HeldPage) → v.bound e.frame ≡ Some (e.uid, e.page)
    → names_frame (shown v) w e.frame ≡ names_page w e
page_named v (what.Seg u) e h = rw (page_in_use v e.frame h)
page_named v _ e h = refl

seg_named : (v : Seen) (w : What) (k : ℕ) (e : HeldSeg) → leads_to ((shown v).descriptor k e.number) ≡ Some e.uid
    → names_descriptor (shown v) w k e.number ≡ names_seg w e
seg_named v (what.Seg u) k e h = cc
seg_named v _ k e h = refl

pages_dropped : (v : Seen) (w : What) (es : List HeldPage) → AreHeldPages v.bound es
    → map (λ e. e.frame) (filter (λ e. not (names_page w e)) es)
    ≡ filter (λ f. not (names_frame (shown v) w f)) (map (λ e. e.frame) es)
pages_dropped v w [] held = refl
pages_dropped v w (e ∷ es) held = kept_step (λ x. x.frame) (λ x. not (names_page w x))
    (λ f. not (names_frame (shown v) w f)) e es (pages_dropped v w es held.1) (not (names_page w e))
    (not (names_frame (shown v) w e.frame)) (ap not (page_named v w e held.0))

segs_dropped : (v : Seen) (w : What) (k : ℕ) (es : List HeldSeg) → AreHeldSegs (shown v).descriptor k es
    → map (λ e. e.number) (filter (λ e. not (names_seg w e)) es)
    ≡ filter (λ n. not (names_number (shown v) w (Some k) n)) (map (λ e. e.number) es)
segs_dropped v w k [] held = refl
segs_dropped v w k (e ∷ es) held = kept_step (λ x. x.number) (λ x. not (names_seg w x))
    (λ n. not (names_number (shown v) w (Some k) n)) e es (segs_dropped v w k es held.1) (not (names_seg w e))
    (not (names_descriptor (shown v) w k e.number)) (ap not (seg_named v w k e held.0))

segs_of_process : (v : Seen) (w : What) (o : Option ℕ) (es : List HeldSeg) → AreOfProcess (shown v).descriptor o es
    → map (λ e. e.number) (filter (λ e. not (names_seg w e)) es)
    ≡ filter (λ n. not (names_number (shown v) w o n)) (map (λ e. e.number) es)
segs_of_process v w None es held = rw held refl
segs_of_process v w (Some k) es held = segs_dropped v w k es held

dropped_seat : (v : Seen) (w : What) {p : Processor} → HoldsRight v.bound (shown v).descriptor p
    → seat_of (dropped p w) ≡ cleared (shown v) w (seat_of p)
dropped_seat v w {p} right = λ i. record (seat_of p) {
  segs = segs_of_process v w p.cpu.process p.cpu.assoc.segs right.segs i;
  pages = pages_dropped v w p.cpu.assoc.pages right.pages i;
}

told_seat : (v : Seen) (c : ℕ) (w : What) (d : ℕ) → HoldsRight v.bound (shown v).descriptor (v.processors d)
    → seat_of (told_at c w d (v.processors d)) ≡ told (shown v) c w d ((shown v).seat d)
told_seat v c w d right = by (eqb d c) (v.processors d).cpu.online
  where
    by : (b online : Bool) → seat_of (cond b (dropped (v.processors d) w)
        (cond online (warned (v.processors d) w) (v.processors d))) ≡ cond b (cleared (shown v) w ((shown v).seat d))
        (cond online (record ((shown v).seat d) { due = Some w }) ((shown v).seat d))
    by true online = dropped_seat v w right
    by false true = refl
    by false false = refl

segs_right : (descriptor : ℕ → ℕ → DescriptorUse) (w : What) (o : Option ℕ) (es : List HeldSeg)
    → AreOfProcess descriptor o es → AreOfProcess descriptor o (filter (λ e. not (names_seg w e)) es)
segs_right descriptor w None es held = rw held refl
segs_right descriptor w (Some k) es held = segs_kept descriptor k (λ e. not (names_seg w e)) es held

dropped_right : {bound : ℕ → Option (ℕ × ℕ)} {descriptor : ℕ → ℕ → DescriptorUse} (w : What) {p : Processor}
    → HoldsRight bound descriptor p → HoldsRight bound descriptor (dropped p w)
dropped_right {bound} {descriptor} w {p} right = record {
  pages = pages_kept bound (λ e. not (names_page w e)) p.cpu.assoc.pages right.pages;
  segs = segs_right descriptor w p.cpu.process p.cpu.assoc.segs right.segs;
  few_pages = omega (arith, (few_kept (λ e. not (names_page w e)) p.cpu.assoc.pages));
  few_segs = omega (arith, (few_kept (λ e. not (names_seg w e)) p.cpu.assoc.segs));
  warned = right.warned;
}

told_right : (bound : ℕ → Option (ℕ × ℕ)) (descriptor : ℕ → ℕ → DescriptorUse) (c : ℕ) (w : What) (d : ℕ)
    (p : Processor) → HoldsRight bound descriptor p → HoldsRight bound descriptor (told_at c w d p)
told_right bound descriptor c w d p right = by (eqb d c) p.cpu.online refl
  where
    by : (b online : Bool) → p.cpu.online ≡ online
        → HoldsRight bound descriptor (cond b (dropped p w) (cond online (warned p w) p))
    by true online e = dropped_right w right
    by false true e = right_like p (warned p w) right refl refl (λ v h. e)
    by false false e = right

pub told_transfer : (c : ℕ) (w : What) (d : ℕ) (p : Processor) → (told_at c w d p).cpu.transfer ≡ p.cpu.transfer
told_transfer c w d p = by (eqb d c) p.cpu.online
  where
    by : (b online : Bool) → (cond b (dropped p w) (cond online (warned p w) p)).cpu.transfer ≡ p.cpu.transfer
    by true online = refl
    by false true = refl
    by false false = refl

-- ---- the entries

-- an owner that is to say something waits for nothing yet
pub says_waits : (o : Option Owner) {w : What} → says o ≡ Some w → waits_for o ≡ None
says_waits None h = refl
says_waits (Some o) {w} h = by o.phase h
  where
    by : (x : Phase) → says (Some (record o { phase = x })) ≡ Some w → waits_for (Some (record o { phase = x })) ≡ None
    by (phase.Waiting aim w) h = cc
    by (phase.Moving m) h = cc
    by _ h = refl

-- the owner is to signal this, and waits for it afterwards
pub record CanSignal (v : Seen) (c : ℕ) (w : What) (owner : Option Owner) : Type 0 where
  pub online : (v.processors c).cpu.online ≡ true
  pub says : says v.owner ≡ Some w
  pub said : HasSaid v.owner owner w
  pub still : is_pending owner ≡ false

pub signal_keeps : {v : Seen} (c : ℕ) (w : What) (owner : Option Owner) → KeepsBook v → CanSignal v c w owner
    → KeepsBook (signalled v c w owner)
unfolding IsLawful after_entry custody_next
signal_keeps {v} c w owner k can = book_next refl refl k (record {
  lawful = tt;
  allowed = record { online = can.online; none_due = none; something = goes.0; all = goes.1 };
  online = tt;
  next = λ i. record {
    active = v.active;
    frame = (shown v).frame;
    descriptor = λ j n. descriptor_use (v.linked j n) (cut_uid (can.said.cut i) j n);
    ready = v.ready;
    seat = λ d. told_seat v c w d (k.holding_right d) i;
  };
  pending = can.still;
  going_owned = owned_signal c k.going_owned none goes.0 can.said;
  tied = k.tied;
  holding_right = λ d. subst (λ (x : ℕ → ℕ → DescriptorUse). HoldsRight v.bound x (told_at c w d (v.processors d)))
      (λ i. λ j n. descriptor_use (v.linked j n) (cut_uid (sym can.said.cut i) j n))
      (told_right v.bound (shown v).descriptor c w d (v.processors d) (k.holding_right d));
  under_way = under_way_alike (λ d. told_at c w d (v.processors d))
      (λ d. told_transfer c w d (v.processors d)) k.under_way;
  runs = k.runs;
})
  where
    goes : SomethingGoes (shown v) × NamesAllGoing (shown v) w
    goes = k.going_owned.says w can.says

    none : NoneDue (shown v)
    none = none_due (shown v) v.owner k.going_owned (says_waits v.owner can.says)

pub clear_keeps : {v : Seen} (c : ℕ) {w : What} → KeepsBook v → (v.processors c).cpu.due ≡ Some w
    → KeepsBook (cleared_at v c w)
unfolding IsLawful after_entry custody_next
clear_keeps {v} c {w} k due = book_next refl refl k (record {
  lawful = tt;
  allowed = due;
  online = tt;
  next = λ i. record (shown v) {
    seat = λ d. (put_map seat_of v.processors c (done_dropping (v.processors c) w) d
        ∙ ap (λ (x : Seat). at_put (shown v).seat c x d) seat_is) i;
  };
  pending = refl;
  going_owned = owned_clear c w k.going_owned;
  tied = k.tied;
  holding_right = λ d. by_place (λ (x : Processor). HoldsRight v.bound (shown v).descriptor x) v.processors c
      (done_dropping (v.processors c) w) d (λ i. right) (λ n. k.holding_right d);
  under_way = under_way_alike (at_put v.processors c (done_dropping (v.processors c) w))
      (λ d. by_place (λ (x : Processor). x.cpu.transfer ≡ (v.processors d).cpu.transfer) v.processors c
      (done_dropping (v.processors c) w) d (λ i. cc) (λ n. refl)) k.under_way;
  runs = k.runs;
})
  where
    seat_is : seat_of (done_dropping (v.processors c) w)
        ≡ record (cleared (shown v) w ((shown v).seat c)) { due = None }
    seat_is = ap (λ (x : Seat). record x { due = None }) (dropped_seat v w (k.holding_right c))

    right : HoldsRight v.bound (shown v).descriptor (done_dropping (v.processors c) w)
    right = right_like (dropped (v.processors c) w) (done_dropping (v.processors c) w)
        (dropped_right w (k.holding_right c)) refl refl (λ v h. cc)
