-- A processor takes part, loads a process, loses it, or fills in a descriptor or a page table word.
use Rattle.machine_model.proofs.Basics.{◌≡◌, ℕ, ◌<◌, true, false, List, [], drop, Option, Some, None, refl, sym, ap, subst, ◌∙◌, arith, IsSomeAnd, HeldPage, HeldSeg, What, Entry, IsLawful, after_entry, progress_of, IsAllowed, MayLeave, MayTakeSeg, IsFront, Seat, has, is_current_frame, leads_to, FillsOnline, pending_after, at_put, custody_next, with_seat, reseated, taking_part, running, left, with_held_seg, with_held_page, KeepsBook, HoldsRight, IsRun, AreOfProcess, names, is_pending, Seen, flat, shown, seat_of, Processor, Entry as entry, Ptw as ptw, DescriptorUse as descriptor, queued_by as queued, changes_came_online as came_online, changes_loaded as loaded, changes_emptied as emptied, changes_seg_filled as seg_filled, changes_page_filled as page_filled, book_next, map_filled, filled_few, pages_filled, right_like, segs_filled, under_way_alike, like_seat, owned_like, by_place, put_map, use_bound}

-- one processor changes, with the ready list and the book
pub record Reseats (v : Seen) (c : ℕ) (p : Processor) (ready : List ℕ) (e : Entry) : Type 0 where
  pub allowed : IsAllowed v.plan (flat v) (shown v) e
  pub online : FillsOnline (shown v) e
  pub next : custody_next v.plan (flat v) (shown v) e ≡ record (with_seat (shown v) c (seat_of p)) { ready = ready }
  pub right : HoldsRight v.bound (shown v).descriptor p

pub reseat_keeps : {v : Seen} (c : ℕ) (p : Processor) (ready : List ℕ) (e : Entry) → KeepsBook v
    → IsLawful v.plan (flat v) e → pending_after (is_pending v.owner) e ≡ is_pending v.owner
    → p.cpu.due ≡ (v.processors c).cpu.due → p.cpu.transfer ≡ (v.processors c).cpu.transfer
    → ((k : ℕ) → IsRun (progress_of (after_entry v.plan (flat v) e) k) (v.runs k)) → Reseats v c p ready e
    → KeepsBook (reseated v c p ready e)
reseat_keeps {v} c p ready e k lawful pending due transfer runs r = book_next refl refl k (record {
  lawful = lawful;
  allowed = r.allowed;
  online = r.online;
  next = seats ∙ sym r.next;
  pending = sym pending;
  going_owned = rw r.next (owned_like (like_seat (shown v) c (seat_of p) ready due) k.going_owned);
  tied = k.tied;
  holding_right = λ d. by_place (λ (x : Processor). HoldsRight v.bound (shown v).descriptor x) v.processors c p d
      (λ i. r.right) (λ n. k.holding_right d);
  under_way = under_way_alike (at_put v.processors c p)
      (λ d. by_place (λ (x : Processor). x.cpu.transfer ≡ (v.processors d).cpu.transfer) v.processors c p d
      (λ i. cc) (λ n. refl)) k.under_way;
  runs = runs;
})
  where
    seats : shown (reseated v c p ready e) ≡ record (with_seat (shown v) c (seat_of p)) { ready = ready }
    seats = λ i. record (shown v) { seat = λ d. put_map seat_of v.processors c p d i; ready = ready }

-- a processor whose seat comes to the same
same_seat : (v : Seen) (c : ℕ) (ready : List ℕ) {a b : Seat} → a ≡ b
    → record (with_seat (shown v) c a) { ready = ready } ≡ record (with_seat (shown v) c b) { ready = ready }
same_seat v c ready same = λ i. record (with_seat (shown v) c (same i)) { ready = ready }

-- a processor that holds nothing
right_empty : (v : Seen) (p : Processor) (process : Option ℕ)
    → ((w : What) → p.cpu.due ≡ Some w → p.cpu.online ≡ true) → HoldsRight v.bound (shown v).descriptor
    (record p { cpu = record p.cpu { process = process; assoc = record { segs = []; pages = [] } } })
right_empty v p process warned = record {
  pages = tt;
  segs = none process;
  few_pages = omega arith;
  few_segs = omega arith;
  warned = warned;
}
  where
    none : (o : Option ℕ) → AreOfProcess (shown v).descriptor o []
    none None = refl
    none (Some k) = tt

pub online_keeps : {v : Seen} (c : ℕ) → KeepsBook v → c < v.plan.processors → (v.processors c).cpu.online ≡ false
    → KeepsBook (came_online v c)
unfolding IsLawful after_entry custody_next
online_keeps {v} c k inside off = reseat_keeps c (taking_part (v.processors c)) v.ready (entry.Online c) k tt refl refl
    refl k.runs (record {
      allowed = assumption;
      online = tt;
      next = refl;
      right = right_like (v.processors c) (taking_part (v.processors c)) (k.holding_right c) refl refl (λ w h. refl);
    })

pub load_keeps : {v : Seen} (c n : ℕ) → KeepsBook v → (v.processors c).cpu.online ≡ true
    → (v.processors c).cpu.process ≡ None → IsFront v.ready n → KeepsBook (loaded v c n)
unfolding IsLawful after_entry custody_next
load_keeps {v} c n k on none front = reseat_keeps c (running (v.processors c) n) (drop 1 v.ready) (entry.Load c n) k
    tt refl refl refl k.runs (assumption (
      none,
      right_empty v (running (v.processors c) n) (Some n) (k.holding_right c).warned,
    ))

pub leave_keeps : {v : Seen} (c : ℕ) → KeepsBook v → MayLeave (flat v) (shown v) c → KeepsBook (left v c)
unfolding IsLawful after_entry custody_next
leave_keeps {v} c k may = reseat_keeps c (emptied (v.processors c))
    (queued (flat v) v.ready (v.processors c).cpu.process) (entry.Leave c) k tt refl refl refl k.runs (assumption (
      may,
      right_empty v (emptied (v.processors c)) None (k.holding_right c).warned,
    ))

-- a descriptor that is connected, and that the processor doesn't hold
pub record CanFillSeg (v : Seen) (c n : ℕ) (e : HeldSeg) : Type 0 where
  pub online : (v.processors c).cpu.online ≡ true
  pub process : (v.processors c).cpu.process ≡ Some n
  pub linked : v.linked n e.number ≡ Some e.uid
  pub new : has ((shown v).seat c).segs e.number ≡ false

pub fill_seg_keeps : {v : Seen} {c n : ℕ} {e : HeldSeg} → KeepsBook v → CanFillSeg v c n e
    → KeepsBook (seg_filled v c e)
unfolding IsLawful after_entry custody_next
fill_seg_keeps {v} {c} {n} {e} k can = reseat_keeps c (with_held_seg (v.processors c) e) v.ready
    (entry.FillSeg c e.number) k
    tt refl refl refl k.runs (assumption (
      may (v.processors c).cpu.process can.process,
      same_seat v c v.ready (λ i. record (seat_of (v.processors c))
          { segs = sym (map_filled (λ x. x.number) (v.processors c).cpu.assoc.segs e right.few_segs) i }),
      right.pages,
      subst (λ (o : Option ℕ). AreOfProcess (shown v).descriptor o ((with_held_seg (v.processors c) e).cpu.assoc.segs))
          (sym can.process) (segs_filled (shown v).descriptor n (v.processors c).cpu.assoc.segs e
          (subst (λ (o : Option ℕ). AreOfProcess (shown v).descriptor o (v.processors c).cpu.assoc.segs) can.process
          right.segs) (ap leads_to is)),
      right.few_pages,
      filled_few (v.processors c).cpu.assoc.segs e right.few_segs,
      right.warned,
    ))
  where
    right : HoldsRight v.bound (shown v).descriptor (v.processors c)
    right = k.holding_right c

    is : (shown v).descriptor n e.number ≡ descriptor.Current e.uid
    is = cc

    may : (o : Option ℕ) → o ≡ Some n → IsSomeAnd o (λ j. MayTakeSeg (shown v) ((shown v).seat c) e.number j)
    may None h = cc
    may (Some j) h = record {
      current = let same : j ≡ n = cc in cc;
      new = can.new;
    }

-- a page that is in a frame and not on its way out, of which the processor doesn't hold the word
pub record CanFillPage (v : Seen) (c : ℕ) (e : HeldPage) : Type 0 where
  pub inside : c < v.plan.processors
  pub online : (v.processors c).cpu.online ≡ true
  pub word : v.words e.uid e.page ≡ ptw.Here e.frame
  pub new : has ((shown v).seat c).pages e.frame ≡ false

pub fill_page_keeps : {v : Seen} {c : ℕ} {e : HeldPage} → KeepsBook v → CanFillPage v c e
    → KeepsBook (page_filled v c e)
unfolding IsLawful after_entry custody_next
fill_page_keeps {v} {c} {e} k can = reseat_keeps c (with_held_page (v.processors c) e) v.ready
    (entry.FillPage c e.frame) k
    tt refl refl refl k.runs (assumption (
      ap is_current_frame (use_bound k.tied e.frame e.uid e.page is can.word),
      same_seat v c v.ready (λ i. record (seat_of (v.processors c))
          { pages = sym (map_filled (λ x. x.frame) (v.processors c).cpu.assoc.pages e right.few_pages) i }),
      pages_filled v.bound (v.processors c).cpu.assoc.pages e right.pages is,
      right.segs,
      filled_few (v.processors c).cpu.assoc.pages e right.few_pages,
      right.few_segs,
      right.warned,
    ))
  where
    right : HoldsRight v.bound (shown v).descriptor (v.processors c)
    right = k.holding_right c

    is : v.bound e.frame ≡ Some (e.uid, e.page)
    is = k.tied.back e.frame e.uid e.page (ap names can.word)
