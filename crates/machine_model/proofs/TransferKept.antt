-- The machine keeps its promise where a transfer begins and ends, and where a page is made.
use Rattle.machine_model.proofs.Laws.{◌≡◌, ◌<◌, ◌≤◌, ℕ, Bool, true, false, cond, count_by, List, [], ◌∷◌, ◌++◌, map, length, set, Option, Some, None, inl, inr, refl, sym, ap, subst, ◌∙◌, arith, eqb_tells, get_or-set_other, length-set, ◌^◌, min, Rose, Entry, started_page, ActiveSegs, entry_at, uid_at, uid_in, Segment, Transfer, is_for, MayFault, KeepsBook, is_pending, seen, IsAtWork, Keeps, StoreSays, is_fault, flat_of, is_active, no_processor, process_at, processor_at, run_at, Processor, Owner, State, fault_told, frame_lost, started, transfer_failed, transferred, with_faults, Entry as entry, Reply as reply, ◌≢◌, Ptw, IsLawful, after_entry, DescriptorUse, NobodyHoldsPage, is_current_frame, is_going_frame, at_put, at_put_two, custody_next, nobody_holds_page, lost, here, with_transfer, HoldsRight, AreUnderWay, names, is_out, Seen, shown, seat_of, frame_use, page_is, Ptw as ptw, FrameUse as frame, custody_is_started as is_started, page_started, page_brought as brought, any_at, fault_keeps, owner_keeps, IsNoOwner, faults_push, tell_kept_CanTell as CanTell, told_keeps, works_counted, map_length, within_by, IsIdle, owned_laws_nobody as nobody, like_frame, owned_like, right_frame, right_like, none_some, out_none, tied_start, tied_lost, tied_here, other_use_here, book_next, by_place, one_place, put_here, put_other, put_two_here, in_no_frame}
use Rattle.machine_model.proofs.MoveSeen.{brought_seen, lose_seen, start_seen}

-- ---- A page is being read into a frame, is in it, or the reading failed; a page is made in a free frame.

-- ---- processors with their transfers

-- nothing of a processor but its transfer changes
transfer_seat : (v : Seen) (c : ℕ) (t : Option Transfer) (d : ℕ)
    → seat_of (at_put v.processors c (with_transfer (v.processors c) t) d) ≡ (shown v).seat d
transfer_seat v c t d = by_place (λ (p : Processor). seat_of p ≡ (shown v).seat d) v.processors c
    (with_transfer (v.processors c) t) d (λ i. cc) (λ n. refl)

transfer_right : (bound : ℕ → Option (ℕ × ℕ)) (descriptor : ℕ → ℕ → DescriptorUse) (processors : ℕ → Processor) (c : ℕ)
    (t : Option Transfer) → ((d : ℕ) → HoldsRight bound descriptor (processors d)) → (d : ℕ)
    → HoldsRight bound descriptor (at_put processors c (with_transfer (processors c) t) d)
transfer_right bound descriptor processors c t right d =
    by_place (λ (p : Processor). HoldsRight bound descriptor p) processors c (with_transfer (processors c) t) d
    (λ i. right_like (processors c) (with_transfer (processors c) t) (right c) refl refl (right c).warned)
    (λ n. right d)

transfer_of : (processors : ℕ → Processor) (c : ℕ) (t : Option Transfer)
    → (at_put processors c (with_transfer (processors c) t) c).cpu.transfer ≡ t
transfer_of processors c t = rw (put_here processors c (with_transfer (processors c) t))

-- a processor begins to read into a frame into which none reads
under_way_more : {reads : ℕ → Option (ℕ × ℕ)} {processors : ℕ → Processor} (c : ℕ) (t : Transfer)
    → AreUnderWay reads processors → (processors c).cpu.transfer ≡ None → reads t.frame ≡ None
    → AreUnderWay (at_put reads t.frame (Some (t.uid, t.page)))
    (at_put processors c (with_transfer (processors c) (Some t)))
under_way_more {reads} {processors} c t k idle unread = record {
  reading = λ d x. by_place (λ (p : Processor). p.cpu.transfer ≡ Some x → at_put reads t.frame (Some (t.uid, t.page))
      x.frame ≡ Some (x.uid, x.page)) processors c (with_transfer (processors c) (Some t)) d
      (λ i h. (let same : t ≡ x = cc in rw (← same) (put_here reads t.frame (Some (t.uid, t.page))))) (λ n h. by_place
      (λ (o : Option (ℕ × ℕ)). o ≡ Some (x.uid, x.page)) reads t.frame (Some (t.uid, t.page)) x.frame
      (λ i. cc (k.reading d x h)) (λ m. k.reading d x h));
  reader = λ f u p. by_place (λ (o : Option (ℕ × ℕ)). o ≡ Some (u, p)
      → (d : ℕ) × ((at_put processors c (with_transfer (processors c) (Some t)) d).cpu.transfer
      ≡ Some (record { frame = f; uid = u; page = p }))) reads t.frame (Some (t.uid, t.page)) f (λ i h. (
        c,
        transfer_of processors c (Some t) ∙ (let same = page_is t.uid t.page u p h in
            λ j. Some (record { frame = sym i j; uid = same.0 j; page = same.1 j })),
      )) (λ n h. (let r = k.reader f u p h in (
        r.0,
        by_place (λ (x : Processor). x.cpu.transfer ≡ Some (record { frame = f; uid = u; page = p }))
            processors c (with_transfer (processors c) (Some t)) r.0 (λ i. cc) (λ m. r.1),
      )));
  alone = λ d e x y. by_place (λ (p : Processor). p.cpu.transfer ≡ Some x
      → (at_put processors c (with_transfer (processors c) (Some t)) e).cpu.transfer ≡ Some y → x.frame ≡ y.frame
      → d ≡ e) processors c (with_transfer (processors c) (Some t)) d
      (λ i a. by_place (λ (p : Processor). p.cpu.transfer ≡ Some y → x.frame ≡ y.frame → d ≡ e) processors c
      (with_transfer (processors c) (Some t)) e (λ j b s. i ∙ sym j) (λ m b s. absurd (none_some (sym unread
      ∙ (ap reads (let same : t ≡ x = cc in cc) ∙ k.reading e y b)))))
      (λ n a. by_place (λ (p : Processor). p.cpu.transfer ≡ Some y → x.frame ≡ y.frame → d ≡ e) processors c
      (with_transfer (processors c) (Some t)) e (λ j b s. absurd (none_some (sym unread
      ∙ (ap reads (let same : t ≡ y = cc in cc) ∙ k.reading d x a)))) (λ m b s. k.alone d e x y a b s));
}

-- a processor's transfer is over
under_way_less : {reads : ℕ → Option (ℕ × ℕ)} {processors : ℕ → Processor} (c : ℕ) (t : Transfer)
    → AreUnderWay reads processors → (processors c).cpu.transfer ≡ Some t → AreUnderWay (at_put reads t.frame None)
    (at_put processors c (with_transfer (processors c) None))
under_way_less {reads} {processors} c t k mine = record {
  reading = λ d x. by_place (λ (p : Processor). p.cpu.transfer ≡ Some x
      → at_put reads t.frame None x.frame ≡ Some (x.uid, x.page)) processors c (with_transfer (processors c) None) d
      (λ i h. cc) (λ n h. by_place (λ (o : Option (ℕ × ℕ)). o ≡ Some (x.uid, x.page)) reads t.frame None x.frame
      (λ i. absurd (n (k.alone d c x t h mine i))) (λ m. k.reading d x h));
  reader = λ f u p. by_place (λ (o : Option (ℕ × ℕ)). o ≡ Some (u, p)
      → (d : ℕ) × ((at_put processors c (with_transfer (processors c) None) d).cpu.transfer
      ≡ Some (record { frame = f; uid = u; page = p }))) reads t.frame None f (λ i h. cc)
      (λ n h. (let r = k.reader f u p h in (
        r.0,
        by_place (λ (x : Processor). x.cpu.transfer ≡ Some (record { frame = f; uid = u; page = p }))
            processors c (with_transfer (processors c) None) r.0
            (λ i. absurd (n (let same : ◌≡◌ {A = Transfer} (record { frame = f; uid = u; page = p }) t = cc
            (sym (ap (λ (j : ℕ). (processors j).cpu.transfer) (sym i) ∙ r.1) ∙ mine) in cc))) (λ m. r.1),
      )));
  alone = λ d e x y. by_place (λ (p : Processor). p.cpu.transfer ≡ Some x
      → (at_put processors c (with_transfer (processors c) None) e).cpu.transfer ≡ Some y → x.frame ≡ y.frame → d ≡ e)
      processors c (with_transfer (processors c) None) d (λ i a. cc)
      (λ n a. by_place (λ (p : Processor). p.cpu.transfer ≡ Some y → x.frame ≡ y.frame → d ≡ e) processors c
      (with_transfer (processors c) None) e (λ j b s. cc) (λ m b s. k.alone d e x y a b s));
}

-- the frames once a page that was nowhere is in one
frames_here : {v : Seen} (f u p : ℕ) → KeepsBook v → names (v.words u p) ≡ None → (g : ℕ)
    → frame_use (at_put_two v.words u p (ptw.Here f)) (at_put v.bound f (Some (u, p)) g) (at_put v.reads f None g) ≡
    at_put (shown v).frame f (frame.Current u p) g
frames_here {v} f u p k nowhere = one_place (shown v).frame
    (λ h. frame_use words (at_put v.bound f (Some (u, p)) h) (at_put v.reads f None h)) f
    (frame.Current u p) (cc (put_here v.bound f (Some (u, p)), put_two_here v.words u p (ptw.Here f))) other
  where
    words : ℕ → ℕ → Ptw
    words = at_put_two v.words u p (ptw.Here f)

    other : (h : ℕ) → h ≢ f → frame_use words (at_put v.bound f (Some (u, p)) h) (at_put v.reads f None h)
        ≡ (shown v).frame h
    other h n = cc (
      put_other v.bound f (Some (u, p)) h n,
      put_other v.reads f None h n,
      other_use_here k.tied f u p (ptw.Here f) nowhere h,
    )

-- ---- started

-- A processor without a transfer is to read a page, which is on its record alone and read by none, into a free frame.
pub record CanStart (v : Seen) (c : ℕ) (t : Transfer) : Type 0 where
  pub inside : t.frame < v.plan.frames
  pub unbound : v.bound t.frame ≡ None
  pub unread : v.reads t.frame ≡ None
  pub idle : (v.processors c).cpu.transfer ≡ None
  pub out : is_out (v.words t.uid t.page) ≡ true
  pub alone : (g : ℕ) → v.reads g ≢ Some (t.uid, t.page)
  pub active : v.active t.uid ≡ true

free_is : (v : Seen) (f : ℕ) → v.bound f ≡ None → v.reads f ≡ None → (shown v).frame f ≡ frame.Free
free_is v f a b = cc

pub start_keeps : {v : Seen} {c : ℕ} {t : Transfer} → KeepsBook v → CanStart v c t → KeepsBook (page_started v c t)
unfolding IsLawful after_entry custody_next
start_keeps {v} {c} {t} k can = book_next refl refl k (record {
  lawful = tt;
  allowed = assumption (free, in_no_frame t.uid t.page k (out_none (v.words t.uid t.page) can.out) can.alone);
  online = tt;
  next = λ i. record (shown v) {
    frame = λ g. one_place (shown v).frame (λ h. frame_use v.words (v.bound h) (reads h)) t.frame
        (frame.Started t.uid t.page) here other g i;
    seat = λ d. transfer_seat v c (Some t) d i;
  };
  pending = refl;
  going_owned = owned_like
      (like_frame (shown v) t.frame (frame.Started t.uid t.page) (ap is_going_frame free) refl) k.going_owned;
  tied = tied_start k.tied t.frame t.uid t.page can.unbound can.out can.alone;
  holding_right = transfer_right v.bound (shown v).descriptor v.processors c (Some t) k.holding_right;
  under_way = under_way_more c t k.under_way can.idle can.unread;
  runs = k.runs;
})
  where
    reads : ℕ → Option (ℕ × ℕ)
    reads = at_put v.reads t.frame (Some (t.uid, t.page))

    free : (shown v).frame t.frame ≡ frame.Free
    free = free_is v t.frame can.unbound can.unread

    here : frame_use v.words (v.bound t.frame) (reads t.frame) ≡ frame.Started t.uid t.page
    here = cc (put_here v.reads t.frame (Some (t.uid, t.page)))

    other : (h : ℕ) → h ≢ t.frame → frame_use v.words (v.bound h) (reads h) ≡ (shown v).frame h
    other h n = cc (put_other v.reads t.frame (Some (t.uid, t.page)) h n)

-- ---- over

module _ {v : Seen} (c : ℕ) {t : Transfer} (k : KeepsBook v) (mine : (v.processors c).cpu.transfer ≡ Some t) where
  being_read : v.reads t.frame ≡ Some (t.uid, t.page)
  being_read = k.under_way.reading c t mine

  read_unbound : v.bound t.frame ≡ None
  read_unbound = k.tied.unbound t.frame t.uid t.page being_read

  started_is : (shown v).frame t.frame ≡ frame.Started t.uid t.page
  started_is = cc (read_unbound, being_read)

  started_nobody : NobodyHoldsPage (shown v) t.frame
  started_nobody = nobody_holds_page (shown v) (is_pending v.owner) t.frame k.stale_due
      (ap is_current_frame started_is) (ap is_going_frame started_is)

  -- the reading failed
  pub lose_keeps : KeepsBook (lost v c t)
  unfolding IsLawful after_entry custody_next
  lose_keeps = book_next refl refl k (record {
    lawful = tt;
    allowed = ap is_started started_is;
    online = tt;
    next = λ i. record (shown v) {
      frame = λ g. one_place (shown v).frame
          (λ h. frame_use v.words (v.bound h) (at_put v.reads t.frame None h)) t.frame frame.Free
          (cc (read_unbound, put_here v.reads t.frame None)) (λ h n. cc (put_other v.reads t.frame None h n)) g i;
      seat = λ d. transfer_seat v c None d i;
    };
    pending = refl;
    going_owned = owned_like
        (like_frame (shown v) t.frame frame.Free (ap is_going_frame started_is) refl) k.going_owned;
    tied = tied_lost k.tied t.frame t.uid t.page;
    holding_right = transfer_right v.bound (shown v).descriptor v.processors c None k.holding_right;
    under_way = under_way_less c t k.under_way mine;
    runs = k.runs;
  })

  -- the page is in the frame
  pub end_keeps : v.active t.uid ≡ true → KeepsBook (brought v c t)
  unfolding IsLawful after_entry custody_next
  end_keeps active = book_next refl refl k (record {
    lawful = tt;
    allowed = inl (record { started = started_is; active = active });
    online = tt;
    next = λ i. record (shown v) {
      frame = λ g. frames_here t.frame t.uid t.page k nowhere g i;
      seat = λ d. transfer_seat v c None d i;
    };
    pending = refl;
    going_owned = owned_like
        (like_frame (shown v) t.frame (frame.Current t.uid t.page) (ap is_going_frame started_is) refl) k.going_owned;
    tied = tied_here k.tied t.frame t.uid t.page read_unbound nowhere
        (λ g n h. n (k.tied.alone g t.frame t.uid t.page h being_read));
    holding_right = transfer_right (at_put v.bound t.frame (Some (t.uid, t.page))) (shown v).descriptor v.processors c
        None (λ d. right_frame v.bound (shown v).descriptor t.frame (Some (t.uid, t.page)) (v.processors d)
        (started_nobody d) (k.holding_right d));
    under_way = under_way_less c t k.under_way mine;
    runs = k.runs;
  })
    where
      nowhere : names (v.words t.uid t.page) ≡ None
      nowhere = out_none (v.words t.uid t.page) (k.tied.out t.frame t.uid t.page being_read)

-- ---- made

-- A page that is nowhere is made in a free frame.
pub record CanMake (v : Seen) (f u p : ℕ) : Type 0 where
  pub inside : f < v.plan.frames
  pub unbound : v.bound f ≡ None
  pub unread : v.reads f ≡ None
  pub null : v.words u p ≡ ptw.Null
  pub active : v.active u ≡ true

pub here_keeps : {v : Seen} {f u p : ℕ} → KeepsBook v → CanMake v f u p → KeepsBook (here v f u p)
unfolding IsLawful after_entry custody_next
here_keeps {v} {f} {u} {p} k can = book_next refl refl k (record {
  lawful = tt;
  allowed = inr (assumption (free, in_no_frame u p k nowhere none));
  online = tt;
  next = λ i. record (shown v) { frame = λ g. frames_here f u p k nowhere g i };
  pending = refl;
  going_owned = owned_like (like_frame (shown v) f (frame.Current u p) (ap is_going_frame free) refl) k.going_owned;
  tied = tied_here k.tied f u p can.unbound nowhere (λ g n. none g);
  holding_right = λ d. right_frame v.bound (shown v).descriptor f (Some (u, p)) (v.processors d) (nobody d)
      (k.holding_right d);
  under_way = record { reading = reading; reader = reader; alone = k.under_way.alone };
  runs = k.runs;
})
  where
    nowhere : names (v.words u p) ≡ None
    nowhere = ap names can.null

    none : (g : ℕ) → v.reads g ≢ Some (u, p)
    none g h = let no = sym (ap is_out can.null) ∙ k.tied.out g u p h in cc

    free : (shown v).frame f ≡ frame.Free
    free = free_is v f can.unbound can.unread

    nobody : NobodyHoldsPage (shown v) f
    nobody = nobody_holds_page (shown v) (is_pending v.owner) f k.stale_due (ap is_current_frame free)
        (ap is_going_frame free)

    reading : (d : ℕ) (t : Transfer) → (v.processors d).cpu.transfer ≡ Some t
        → at_put v.reads f None t.frame ≡ Some (t.uid, t.page)
    reading d t h = by_place (λ (o : Option (ℕ × ℕ)). o ≡ Some (t.uid, t.page)) v.reads f None t.frame
        (λ i. cc (k.under_way.reading d t h)) (λ n. k.under_way.reading d t h)

    reader : (g x y : ℕ) → at_put v.reads f None g ≡ Some (x, y)
        → (d : ℕ) × ((v.processors d).cpu.transfer ≡ Some (record { frame = g; uid = x; page = y }))
    reader g x y = by_place (λ (o : Option (ℕ × ℕ)). o ≡ Some (x, y)
        → (d : ℕ) × ((v.processors d).cpu.transfer ≡ Some (record { frame = g; uid = x; page = y }))) v.reads f None g
        (λ i h. cc) (λ n h. k.under_way.reader g x y h)

-- ---- what is put together

-- the book tells no failure more
pub quiet_faults : {s : State} (e : Entry) (faults : ℕ) → Keeps s → is_fault e ≡ false → s.faults ≤ faults
    → min (count_by is_fault (s.entries ++ e ∷ [])) (2 ^ 63) ≤ faults
quiet_faults {s} e faults k quiet rose = let none = ap {B = ℕ} (λ (b : Bool). cond b 1 0) quiet in
    omega (arith, (faults_push s.entries e))

-- a machine that keeps what its book says, with what the store says of it, keeps the whole promise
pub kept_with : (now : State) → KeepsBook (seen now) → StoreSays now
    → min (count_by is_fault now.entries) (2 ^ 63) ≤ now.faults
    → length now.processors ≡ now.plan.processors → length now.runs ≡ length now.plan.processes
    → ((o : Owner) → now.owner ≡ Some o → IsAtWork (processor_at now.processors o.cpu)) → Keeps now
kept_with now book says few processors processes works = assumption few

-- the owner is at work still where another processor changes
pub works_elsewhere : {s : State} (c : ℕ) (p : Processor) → Keeps s → IsNoOwner s c → (o : Owner) → s.owner ≡ Some o
    → IsAtWork (processor_at (set s.processors c p) o.cpu)
works_elsewhere {s} c p k other o h = subst IsAtWork
    (sym (get_or-set_other s.processors c o.cpu p no_processor (other o h))) (k.at_work o h)

-- ---- the end of a transfer

-- a segment that has a place is active
pub active_at : (ast : ActiveSegs) (place u : ℕ) → uid_at ast.entries place ≡ Some u → is_active ast u ≡ true
active_at ast place u h = any_at (is_for u) ast.entries place None (by (entry_at ast.entries place) h) refl
  where
    by : (o : Option Segment) → uid_in o ≡ Some u → is_for u o ≡ true
    by None e = cc
    by (Some e) i = elim (eqb_tells e.uid u) [ inl a ↦ a.0 | inr n ↦ absurd (n.1 (cc)) ]

module _ (s : State) (c : ℕ) (t : Transfer) (k : Keeps s)
    (mine : (processor_at s.processors c).cpu.transfer ≡ Some t) where
  -- a processor that has a transfer doesn't own the supervisor
  pub reader_no_owner : IsNoOwner s c
  reader_no_owner o h same = none_some (sym (k.at_work o h).idle
      ∙ (ap (λ (d : ℕ). (processor_at s.processors d).cpu.transfer) same ∙ mine))

  pub reader_there : c < length s.processors
  reader_there = within_by s.processors c no_processor
      (λ e. none_some (sym (ap (λ (p : Processor). p.cpu.transfer) e) ∙ mine))

  pub read_frame : (seen s).reads t.frame ≡ Some (t.uid, t.page)
  read_frame = k.book.under_way.reading c t mine

  pub read_within : t.frame < length s.store.pages.core.frames
  read_within = rw (← (map_length started_page s.store.pages.core.frames))
      (within_by (map started_page s.store.pages.core.frames) t.frame None (λ e. none_some (sym e ∙ read_frame)))

  pub read_active : (seen s).active t.uid ≡ true
  read_active = let there = k.store.kept.paged.started t.frame t.uid t.page read_frame in
      active_at s.store.ast there.place t.uid there.active

  pub transferred_kept : (faults : ℕ) → s.faults ≤ faults → StoreSays (transferred (with_faults s faults) c t)
      → Keeps (transferred (with_faults s faults) c t)
  transferred_kept faults rose says = kept_with (transferred (with_faults s faults) c t)
      (subst KeepsBook (sym (brought_seen s c t k.store.kept.places reader_there read_within
      (k.book.tied.out t.frame t.uid t.page read_frame))) (end_keeps c k.book mine read_active)) says
      (quiet_faults (entry.Here t.frame t.uid t.page) faults k refl rose)
      (length-set s.processors c _ ∙ k.sizes.processors) k.sizes.processes (works_elsewhere c _ k reader_no_owner)

  -- it failed: the frame is free, and the failure is told
  abbrev lost_state : ℕ → State
  lost_state faults = fault_told (frame_lost s c t) (Some (process_at s c)) faults

  pub failed_kept : (faults : ℕ) → Rose s.faults faults → MayFault (flat_of (frame_lost s c t)) (Some (process_at s c))
      → CanTell (lost_state faults) c (process_at (lost_state faults) c) None reply.Device
      → StoreSays (transfer_failed s c t faults) → Keeps (transfer_failed s c t faults)
  failed_kept faults rose may can says = kept_with (transfer_failed s c t faults) (told_keeps
      (fault_keeps (seen (frame_lost s c t)) (Some (process_at s c))
      (subst KeepsBook (sym (lose_seen s c t reader_there read_within
      (k.book.tied.unbound t.frame t.uid t.page read_frame))) (lose_keeps c k.book mine)) may) can) says
      few (length-set lost_ps c _ ∙ (length-set s.processors c _ ∙ k.sizes.processors))
      (length-set s.runs (process_at (lost_state faults) c) _ ∙ k.sizes.processes)
      (λ o h. works_counted lost_ps c _ o.cpu can.there (works_elsewhere c _ k reader_no_owner o h))
    where
      lost_ps : List Processor
      lost_ps = (frame_lost s c t).processors

      few : min (count_by is_fault (((s.entries ++ entry.Lose t.frame ∷ []) ++ entry.Fault (Some (process_at s c)) ∷ [])
          ++ entry.Do (process_at (lost_state faults) c)
          (run_at s.runs (process_at (lost_state faults) c)).place c None reply.Device ∷ [])) (2 ^ 63) ≤ faults
      few = omega (
        arith,
        faults_push s.entries (entry.Lose t.frame),
        faults_push (s.entries ++ entry.Lose t.frame ∷ []) (entry.Fault (Some (process_at s c))),
        faults_push ((s.entries ++ entry.Lose t.frame ∷ []) ++ entry.Fault
            (Some (process_at s c)) ∷ []) (entry.Do (process_at (lost_state faults) c)
            (run_at s.runs (process_at (lost_state faults) c)).place c None reply.Device),
      )

-- ---- a transfer begins

pub started_kept : {s : State} (c f u p : ℕ) → Keeps s → c < length s.processors → f < length s.store.pages.core.frames
    → CanStart (seen s) c (record { frame = f; uid = u; page = p }) → IsIdle s.owner → is_pending s.owner ≡ false
    → StoreSays (started s c f u p) → Keeps (started s c f u p)
started_kept {s} c f u p k there within can idle still says = kept_with (started s c f u p)
    (subst KeepsBook (sym (start_seen s c (record { frame = f; uid = u; page = p }) None there within can.unbound))
    (owner_keeps (start_keeps k.book can) idle nobody still)) says
    (quiet_faults (entry.Start f u p) s.faults k refl (omega arith))
    (length-set s.processors c _ ∙ k.sizes.processors) k.sizes.processes (λ o h. cc)
