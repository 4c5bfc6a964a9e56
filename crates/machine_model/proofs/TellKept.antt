-- A command is answered, with what the store says of it, and the owner of the supervisor changes.
use Rattle.machine_model.proofs.Basics.{◌≡◌, ◌<◌, ℕ, ◌+◌, Bool, true, false, cond, List, [], ◌∷◌, ◌++◌, length, set, Option, Some, None, inl, inr, refl, sym, ap, subst, ◌∙◌, arith, slice_get, length-set, eqb_tells, Command, Reply, gone_on, is_end, tries_on, IsLawfulDo, Progress, Store, progress_of, MayDo, next_of, at_put, is_try, released_by, answered, counted, IsRun, KeepsBook, is_pending, seen, IsAtWork, Keeps, StoreSays, cut_of_owner, flat_of, next_command, no_processor, no_run, processor_at, run_at, shown, Processor, Run, CutDescriptor, Owner, State, goes_on, progress_of_run, run_after, told_by, with_owner, Command as command, Entry as entry, Reply as reply, ◌≢◌, count_by, drop, get_or-set_other, sum_by-cons, Plan, HeldPage, HeldSeg, What, Entry, after_entry, store_after, store_after-push, MayLeave, IsFront, reseated, taking_part, running, with_held_seg, with_held_page, done_dropping, is_fault, add-zero, queued_by as queued, changes_emptied as emptied, put_list, IsIdle, reseated_seen}
use Rattle.machine_model.proofs.AnswerLaws.{answer_keeps, owner_keeps}
use Rattle.machine_model.proofs.ClearLaws.{clear_keeps}
use Rattle.machine_model.proofs.SeatLaws.{CanFillPage, CanFillSeg, fill_page_keeps, fill_seg_keeps, leave_keeps, load_keeps, online_keeps}

-- ---- The machine keeps its promise where its store is as it was.

-- one entry more tells one failure more, or none
pub faults_push : (es : List Entry) (e : Entry)
    → count_by is_fault (es ++ e ∷ []) ≡ count_by is_fault es + cond (is_fault e) 1 0
faults_push [] e = omega (arith, (sum_by-cons (λ x. cond (is_fault x) 1 0) e []))
faults_push (x ∷ xs) e = let one = sum_by-cons (λ y. cond (is_fault y) 1 0) x (xs ++ e ∷ []) in let two =
    sum_by-cons (λ y. cond (is_fault y) 1 0) x xs in
    omega (arith, (faults_push xs e))

-- an entry that tells of no failed read or write
pub quiet_push : (es : List Entry) (e : Entry) → is_fault e ≡ false
    → count_by is_fault (es ++ e ∷ []) ≡ count_by is_fault es
quiet_push es e quiet = cc (faults_push es e, add-zero (count_by is_fault es))

-- an entry that leaves the flat store as it was
pub flat_still : (p : Plan) (es : List Entry) (e : Entry) → after_entry p (store_after p es) e ≡ store_after p es
    → store_after p (es ++ e ∷ []) ≡ store_after p es
flat_still p es e still = store_after-push p es e ∙ still

-- processor c doesn't own the supervisor
abbrev pub IsNoOwner : State → ℕ → Type 0
IsNoOwner s c = (o : Owner) → s.owner ≡ Some o → o.cpu ≢ c

-- A processor that doesn't own the supervisor is otherwise, with the ready list, and the entry leaves the flat store
-- alone.
pub reseat_kept : {s : State} (c : ℕ) (p : Processor) (ready : List ℕ) (e : Entry) (spare : ℕ) → Keeps s
    → c < length s.processors → KeepsBook (reseated (seen s) c p ready e) → after_entry s.plan (flat_of s) e ≡ flat_of s
    → is_fault e ≡ false → IsNoOwner s c
    → Keeps
    (record s { processors = set s.processors c p; ready = ready; entries = s.entries ++ e ∷ []; spare = spare })
reseat_kept {s} c p ready e spare k within book still quiet other = record {
  book = subst KeepsBook (sym (reseated_seen s c p ready e within)) book;
  store = k.store;
  faithful = rw same k.faithful;
  rights = k.rights;
  cut = k.cut;
  conserved = rw same k.conserved;
  few_faults = let none = ap {B = ℕ} (λ (b : Bool). cond b 1 0) quiet in omega (arith, (faults_push s.entries e));
  sizes = assumption (length-set s.processors c p ∙ k.sizes.processors);
  at_work = λ o h. subst IsAtWork (sym (get_or-set_other s.processors c o.cpu p no_processor (other o h)))
      (k.at_work o h);
}
  where
    same : store_after s.plan (s.entries ++ e ∷ []) ≡ store_after s.plan s.entries
    same = flat_still s.plan s.entries e still

-- ---- the entries of one processor

module _ (s : State) (c : ℕ) (spare : ℕ) (k : Keeps s) (within : c < length s.processors) (other : IsNoOwner s c) where
  abbrev reseat : Processor → List ℕ → Entry → State
  reseat p ready e = record s {
    processors = set s.processors c p;
    ready = ready;
    entries = s.entries ++ e ∷ [];
    spare = spare;
  }

  inside : c < s.plan.processors
  inside = rw (← k.sizes.processors) within

  pub online_kept : (processor_at s.processors c).cpu.online ≡ false
      → Keeps (reseat (taking_part (processor_at s.processors c)) s.ready (entry.Online c))
  unfolding after_entry
  online_kept off = reseat_kept c (taking_part (processor_at s.processors c)) s.ready (entry.Online c) spare k within
      (online_keeps c k.book inside off) refl refl other

  pub load_kept : (n : ℕ) → (processor_at s.processors c).cpu.online ≡ true
      → (processor_at s.processors c).cpu.process ≡ None → IsFront s.ready n
      → Keeps (reseat (running (processor_at s.processors c) n) (drop 1 s.ready) (entry.Load c n))
  unfolding after_entry
  load_kept n on none front = reseat_kept c (running (processor_at s.processors c) n) (drop 1 s.ready)
      (entry.Load c n) spare k within (load_keeps c n k.book on none front) refl refl other

  pub leave_kept : MayLeave (flat_of s) (shown (seen s)) c → Keeps (reseat (emptied (processor_at s.processors c))
      (queued (flat_of s) s.ready (processor_at s.processors c).cpu.process) (entry.Leave c))
  unfolding after_entry
  leave_kept may = reseat_kept c (emptied (processor_at s.processors c))
      (queued (flat_of s) s.ready (processor_at s.processors c).cpu.process)
      (entry.Leave c) spare k within (leave_keeps c k.book may) refl refl other

  pub fill_seg_kept : {n : ℕ} {e : HeldSeg} → CanFillSeg (seen s) c n e
      → Keeps (reseat (with_held_seg (processor_at s.processors c) e) s.ready (entry.FillSeg c e.number))
  unfolding after_entry
  fill_seg_kept {n} {e} can = reseat_kept c (with_held_seg (processor_at s.processors c) e) s.ready
      (entry.FillSeg c e.number) spare k within (fill_seg_keeps k.book can) refl refl other

  pub fill_page_kept : {e : HeldPage} → CanFillPage (seen s) c e
      → Keeps (reseat (with_held_page (processor_at s.processors c) e) s.ready (entry.FillPage c e.frame))
  unfolding after_entry
  fill_page_kept {e} can = reseat_kept c (with_held_page (processor_at s.processors c) e) s.ready
      (entry.FillPage c e.frame) spare k within (fill_page_keeps k.book can) refl refl other

  pub clear_kept : {w : What} → (processor_at s.processors c).cpu.due ≡ Some w
      → Keeps (reseat (done_dropping (processor_at s.processors c) w) s.ready (entry.Clear c w))
  unfolding after_entry
  clear_kept {w} due = reseat_kept c (done_dropping (processor_at s.processors c) w) s.ready
      (entry.Clear c w) spare k within (clear_keeps c k.book due) refl refl other

-- ---- how far a process has come

-- whether a try goes on depends on the tries alone
tries_alike : (q r : Progress) (c : Command) (x : Reply) → q.tries ≡ r.tries → tries_on q c x ≡ tries_on r c x
tries_alike q r (command.Await number offset word tries) (reply.Word w) same = rw same refl
tries_alike q r _ _ same = refl

pub tries_of_run : {q : Progress} {run : Run} (c : Option Command) (x : Reply) → IsRun q run → (s : Store) (k : ℕ)
    → progress_of s k ≡ q → is_try s k c x ≡ goes_on run c x
tries_of_run None x is s k e = refl
tries_of_run {q} {run} (Some c) x is s k e = cc (tries_alike q (progress_of_run run) c x is.tries)

pub run_is : {q : Progress} {run : Run} (c : Command) (x : Reply) → IsRun q run
    → IsRun (gone_on q c x) (run_after run (Some c) x)
run_is {q} {run} c x is = by (tries_on q c x) (goes_on run (Some c) x)
    (tries_alike q (progress_of_run run) c x is.tries)
  where
    by : (a b : Bool) → a ≡ b → IsRun (cond a (record q { tries = q.tries + 1; faulted = false })
        (record { place = q.place + 1; tries = 0; ended = is_end c; faulted = false }))
        (cond b (record run { tries = run.tries + 1 }) (record { place = run.place + 1; tries = 0; ended = is_end c }))
    by true true e = assumption (ap (λ (n : ℕ). n + 1) is.tries)
    by false false e = assumption (ap (λ (n : ℕ). n + 1) is.place)
    by true false e = absurd (let no = e in cc)
    by false true e = absurd (let no = e in cc)

-- ---- what custody sees of an answer

module _ (s : State) (c k : ℕ) (f : Option ℕ) (r : Reply) (book : KeepsBook (seen s)) where
  abbrev place : ℕ
  place = (run_at s.runs k).place

  -- the next command by the runs is that by the flat store
  pub next_same : next_of s.plan (flat_of s) k ≡ next_command s k
  next_same = cc ((book.runs k).place)

  pub told_seen : c < length s.processors → k < length s.runs
      → seen (told_by s c k f r) ≡ answered (seen s) c k place f r (run_after (run_at s.runs k) (next_command s k) r)
  told_seen there known = λ i. record (seen s) {
    processors = λ d. (put_list s.processors c now no_processor d there
        ∙ ap (λ (p : Processor). at_put (processor_at s.processors) c p d)
        (ap (counted (processor_at s.processors c)) (sym tried))) i;
    ready = s.ready ++ released_by s.plan k (sym next_same i);
    runs = λ j. put_list s.runs k (run_after (run_at s.runs k) (next_command s k) r) no_run j known i;
    entries = s.entries ++ entry.Do k place c f r ∷ [];
  }
    where
      now : Processor
      now = counted (processor_at s.processors c) (goes_on (run_at s.runs k) (next_command s k) r)

      tried : is_try (flat_of s) k (next_of s.plan (flat_of s) k) r ≡ goes_on (run_at s.runs k) (next_command s k) r
      tried = cc (next_same, tries_of_run (next_command s k) r (book.runs k) (flat_of s) k refl)

-- The next command of a process may be answered so at a processor: the flat store and custody allow it.
pub record CanTell (s : State) (c k : ℕ) (f : Option ℕ) (r : Reply) : Type 0 where
  pub there : c < length s.processors
  pub known : k < length s.runs
  pub command : Command
  pub next : next_command s k ≡ Some command
  pub lawful : IsLawfulDo s.plan (flat_of s) k (run_at s.runs k).place r
  pub allowed : MayDo s.plan (flat_of s) (shown (seen s)) k c f r

pub told_keeps : {s : State} {c k : ℕ} {f : Option ℕ} {r : Reply} → KeepsBook (seen s) → CanTell s c k f r
    → KeepsBook (seen (told_by s c k f r))
told_keeps {s} {c} {k} {f} {r} book can = subst KeepsBook (sym (told_seen s c k f r book can.there can.known))
    (answer_keeps c k (run_at s.runs k).place f r (run_after (run_at s.runs k) (next_command s k) r) book
    (record {
      command = can.command;
      there = can.next;
      lawful = can.lawful;
      allowed = can.allowed;
      come = rw can.next (run_is can.command r (book.runs k));
    }))

-- ---- the whole promise, after an answer

-- counting a command leaves a processor at work
counted_works : (p : Processor) (tried : Bool) → IsAtWork p → IsAtWork (counted p tried)
counted_works p tried w = assumption

-- one processor has counted a command, the others are as they were
pub works_counted : (ps : List Processor) (c : ℕ) (tried : Bool) (d : ℕ) → c < length ps → IsAtWork (processor_at ps d)
    → IsAtWork (processor_at (set ps c (counted (processor_at ps c) tried)) d)
works_counted ps c tried d there w = subst IsAtWork
    (sym (put_list ps c (counted (processor_at ps c) tried) no_processor d there)) (elim (eqb_tells d c) [
      | inl e ↦ rw e.0 (counted_works (processor_at ps c) tried (rw (← e.1) w))
      | inr n ↦ rw n.0 w
    ])

pub tell_kept : {s : State} {c k : ℕ} {f : Option ℕ} {r : Reply} → Keeps s → CanTell s c k f r
    → StoreSays (told_by s c k f r) → Keeps (told_by s c k f r)
tell_kept {s} {c} {k} {f} {r} keeps can says = record {
  book = told_keeps keeps.book can;
  store = says.store;
  faithful = says.faithful;
  rights = says.rights;
  cut = says.cut;
  conserved = says.conserved;
  few_faults = omega (arith, faults_push s.entries (entry.Do k (run_at s.runs k).place c f r));
  sizes = record {
    frames = says.frames;
    processors = length-set s.processors c _ ∙ keeps.sizes.processors;
    processes = length-set s.runs k _ ∙ keeps.sizes.processes;
  };
  at_work = λ o h. works_counted s.processors c (goes_on (run_at s.runs k) (next_command s k) r) o.cpu can.there
      (keeps.at_work o h);
}

-- ---- the owner

-- the supervisor is taken by a processor at work, or given up, where nothing goes
pub owner_kept : {s : State} {owner : Option Owner} → Keeps s → IsIdle s.owner → IsIdle owner
    → is_pending s.owner ≡ is_pending owner
    → ((o : Owner) → owner ≡ Some o → IsAtWork (processor_at s.processors o.cpu)) → Keeps (with_owner s owner)
owner_kept {s} {owner} k was now pending works = record {
  book = owner_keeps k.book was now pending;
  store = k.store;
  faithful = k.faithful;
  rights = record {
    modes = λ i d n at. k.rights.modes i d n (same i d at);
    lengths = λ i d n at. k.rights.lengths i d n (same i d at);
  };
  cut = rw now.cut tt;
  conserved = k.conserved;
  few_faults = k.few_faults;
  sizes = assumption;
  at_work = works;
}
  where
    same : (i : ℕ) (d : CutDescriptor) → slice_get (cut_of_owner owner) i ≡ Some d
        → slice_get (cut_of_owner s.owner) i ≡ Some d
    same i d at = ap (λ (ds : List CutDescriptor). slice_get ds i) (cc) ∙ at
