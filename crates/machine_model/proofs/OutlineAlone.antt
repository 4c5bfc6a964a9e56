-- In the outline of the machine, the steps that a processor makes without the supervisor are steps of the outline.
use Rattle.machine_model.proofs.Prelude.{◌≡◌, ◌≢◌, ◌<◌, ℕ, ◌+◌, ◌-◌, ◌/◌, Bool, true, false, cond, ◌&&◌, eqb, List, [], ◌∷◌, ◌++◌, length, drop, Option, Some, None, is_some, option_map, refl, sym, ap, subst, ◌∙◌, arith, find, Reference, What, HeldSeg, HeldPage, Held, frame_of, is_number, is_page, nothing_held, seg_of, with_page, with_seg, Transfer, Sdw, ForOwner, WhileIdle, Processor, Run, State, Owner, processor_at, cpu_at, process_at, run_at, descriptor_of, came_online, held_page, held_seg, left_at, loaded, looking, page_filled, queued, seg_filled, transferred, uid_of_held, with_faults, with_owner, Refer, Runner, Look, Outline, Turn, Moved, WaitsFor, runner_at, want_at, with_runner, at_stage, lack, Comes, Clears, Reads, Loads, Leaves, Commands, rule_of, Step, comes, clears, reads, loads, idles, leaves, fills, faults, enters, waits, IsCleared, HasLoaded, HasLeft, IsFilled, with_bound, Around, around, reference_in, holds_seg, holds_page, bare, runner_by, runner_of, keeper_of, stage_of, outline_of, eqb_self, held_cleared as cleared, held_page_of as page_of, Sdw as sdw, Frame as frame, steps_cleared_at as cleared_at, slice_get, inl, inr, ◌⊎◌, get_or-set_same, length-set, commands_of, Command, Reply, CutDescriptor, or_zero, no_processor, next_command, frames_of_owner, cut_of_owner, with_store, with_pages, pages_after, fault_told, page_created, page_made, run_after, told, went_through, page_back, pages_back, seg_back, segs_back, write_failed, committed, left_after, Stage, dues, IsIn, IsAnswered, IsReplied, JobStep, answers, replies, left_in, CanTell, Plain, Command as command, Reply as reply, steps_answered as answered}
use Rattle.machine_model.proofs.OutlineReads.{at_outline, one_outlined, set_map, seen_online, seen_running, seen_due, seen_reading, seen_since, seen_tried, ready_seen}
use Rattle.machine_model.proofs.LeftLaws.{answer_falls, left_falls}

-- a step to an outline that is the same
pub step_to : {s t : Outline} (u : Outline) {c : ℕ} {turn : Turn} → t ≡ u → Step s c turn t → Step s c turn u
step_to {s} u {c} {turn} same step = subst (λ (x : Outline). Step s c turn x) same step

-- ---- a processor comes online, or clears

online_runner : (a : Around) (p : Processor) → runner_of a (record p { cpu = record p.cpu { online = true } })
    ≡ record (runner_of a p) { online = true }
online_runner a p = by p.cpu.process
  where
    by : (o : Option ℕ) → runner_by a (record p { cpu = record p.cpu { online = true } }) o ≡ record (runner_by a p o)
        { online = true }
    by None = refl
    by (Some k) = refl

pub online_outlined : (s : State) (c : ℕ) → rule_of (outline_of s) c ≡ Comes
    → Step (outline_of s) c Moved (outline_of (came_online s c))
online_outlined s c h = let p = processor_at s.processors c in step_to (outline_of (came_online s c))
    (ap (λ (x : Runner). with_runner (outline_of s) c (record x { online = true })) (at_outline s c)
    ∙ ap (λ (x : Runner). with_runner (outline_of s) c x) (sym (online_runner (around s) (processor_at s.processors c)))
    ∙ sym (one_outlined s c (record (processor_at s.processors c)
    { cpu = record (cpu_at s.processors c) { online = true } }) _)) (comes h)

-- two processors of which the outlines read the same but for what is due
cleared_runner : (a : Around) (p : Processor) (held : Held)
    → IsCleared (runner_of a p) (runner_of a (record p { cpu = record p.cpu { due = None; assoc = held } }))
cleared_runner a p held = let q : Processor = record p { cpu = record p.cpu { due = None; assoc = held } } in
    assumption (
      seen_due a (record p { cpu = record p.cpu { due = None; assoc = held } }),
      seen_online a (record p { cpu = record p.cpu { due = None; assoc = held } }) ∙ sym (seen_online a p),
      seen_running a (record p { cpu = record p.cpu { due = None; assoc = held } }) ∙ sym (seen_running a p),
      seen_reading a (record p { cpu = record p.cpu { due = None; assoc = held } }) ∙ sym (seen_reading a p),
      seen_since a (record p { cpu = record p.cpu { due = None; assoc = held } }) ∙ sym (seen_since a p),
      seen_tried a (record p { cpu = record p.cpu { due = None; assoc = held } }) ∙ sym (seen_tried a p),
    )

pub clear_outlined : (s : State) (c : ℕ) (w : What) → rule_of (outline_of s) c ≡ Clears
    → Step (outline_of s) c Moved (outline_of (cleared_at s c w))
clear_outlined s c w h = let cpu = cpu_at s.processors c in step_to (outline_of (cleared_at s c w))
    (sym (one_outlined s c (record (processor_at s.processors c) {
      cpu = record (cpu_at s.processors c) { due = None; assoc = cleared (cpu_at s.processors c).assoc w };
    }) _)) (clears (runner_of (around s) (record (processor_at s.processors c) {
      cpu = record (cpu_at s.processors c) { due = None; assoc = cleared (cpu_at s.processors c).assoc w };
    })) h (rw (at_outline s c) (cleared_runner (around s) (processor_at s.processors c)
    (cleared (cpu_at s.processors c).assoc w))))

-- ---- processes are loaded, and leave

drop_one : (xs : List ℕ) → length (drop 1 xs) ≡ length xs - 1
drop_one [] = refl
drop_one (x ∷ xs) = omega arith

-- what a processor has that is neither to drop anything nor reading
pub record IsFree (p : Processor) : Type 0 where
  pub online : p.cpu.online ≡ true
  pub due : p.cpu.due ≡ None
  pub transfer : p.cpu.transfer ≡ None

abbrev loaded_processor : Processor → ℕ → Processor
loaded_processor p k = record {
  cpu = record p.cpu { process = Some k; assoc = nothing_held };
  count = 0;
  tried = false;
}

loaded_runner : (a : Around) {p : Processor} (k : ℕ) → IsFree p → HasLoaded (runner_of a (loaded_processor p k))
loaded_runner a k free = assumption (ap (λ (o : Option What). is_some o) free.due)

loaded_outline : (s : State) (c k : ℕ) → outline_of (loaded s c k) ≡ record (with_runner (outline_of s) c
    (runner_of (around s) (loaded_processor (processor_at s.processors c) k))) { ready = (outline_of s).ready - 1 }
unfolding outline_of
loaded_outline s c k = cc (
  set_map (runner_of (around s)) s.processors c (loaded_processor (processor_at s.processors c) k),
  drop_one s.ready,
)

pub load_outlined : (s : State) (c k : ℕ) → rule_of (outline_of s) c ≡ Loads → 0 < length s.ready
    → IsFree (processor_at s.processors c) → Step (outline_of s) c Moved (outline_of (loaded s c k))
load_outlined s c k h some free = step_to (outline_of (loaded s c k)) (sym (loaded_outline s c k))
    (loads (runner_of (around s) (loaded_processor (processor_at s.processors c) k)) h (rw (ready_seen s) some)
    (loaded_runner (around s) k free))

pub idle_outlined : (s : State) (c busy : ℕ) → rule_of (outline_of s) c ≡ Loads → s.ready ≡ []
    → Step (outline_of s) c (WaitsFor (WhileIdle busy)) (outline_of s)
idle_outlined s c busy h none = idles busy h (cc (ready_seen s))

abbrev left_processor : Processor → Processor
left_processor p = record p { cpu = record p.cpu { process = None; assoc = nothing_held } }

left_runner : (a : Around) {p : Processor} → IsFree p → HasLeft (runner_of a (left_processor p))
left_runner a free = assumption (ap (λ (o : Option What). is_some o) free.due)

one_more : (xs : List ℕ) (k : ℕ) → length (xs ++ k ∷ []) ≡ length xs + 1
one_more [] k = refl
one_more (x ∷ xs) k = omega (arith, one_more xs k)

queued_long : (run : Run) (ready : List ℕ) (k : ℕ) → run.ended ≡ false → length (queued run ready k) ≡ length ready + 1
queued_long run ready k going = cc (one_more ready k)

left_outline : (s : State) (c : ℕ) → (run_at s.runs (process_at s c)).ended ≡ false
    → outline_of (left_at s c) ≡ record (with_runner (outline_of s) c
    (runner_of (around s) (left_processor (processor_at s.processors c)))) { ready = (outline_of s).ready + 1 }
unfolding outline_of
left_outline s c going = cc (
  set_map (runner_of (around s)) s.processors c (left_processor (processor_at s.processors c)),
  queued_long (run_at s.runs (process_at s c)) s.ready (process_at s c) going,
)

pub leave_outlined : (s : State) (c : ℕ) → rule_of (outline_of s) c ≡ Leaves
    → (run_at s.runs (process_at s c)).ended ≡ false → IsFree (processor_at s.processors c)
    → Step (outline_of s) c Moved (outline_of (left_at s c))
leave_outlined s c h going free = step_to (outline_of (left_at s c)) (sym (left_outline s c going))
    (leaves (runner_of (around s) (left_processor (processor_at s.processors c))) h (left_runner (around s) free))

-- ---- associative memories

abbrev held_processor : Processor → Held → Processor
held_processor p held = record p { cpu = record p.cpu { assoc = held } }

-- what a processor with a process lacks in its associative memories
abbrev lacking : Held → Option Reference → ℕ
lacking held r = cond (holds_seg held r) (cond (holds_page held r) 0 1) 2

filled_runner : (a : Around) (p : Processor) (held : Held) {k : ℕ} → p.cpu.process ≡ Some k
    → lacking held (reference_in (a.next k)) < lacking p.cpu.assoc (reference_in (a.next k))
    → IsFilled (runner_of a p) (runner_of a (held_processor p held))
filled_runner a p held {k} process less = record {
  online = seen_online a (held_processor p held) ∙ sym (seen_online a p);
  running = seen_running a (held_processor p held) ∙ sym (seen_running a p);
  due = seen_due a (held_processor p held) ∙ sym (seen_due a p);
  reading = seen_reading a (held_processor p held) ∙ sym (seen_reading a p);
  since = seen_since a (held_processor p held) ∙ sym (seen_since a p);
  tried = seen_tried a (held_processor p held) ∙ sym (seen_tried a p);
  want = want p.cpu.process;
  linked = linked p.cpu.process;
  missing = rw process less;
}
  where
    want : (o : Option ℕ) → (runner_by a (held_processor p held) o).want ≡ (runner_by a p o).want
    want None = refl
    want (Some k) = refl

    linked : (o : Option ℕ) → (runner_by a (held_processor p held) o).linked ≡ (runner_by a p o).linked
    linked None = refl
    linked (Some k) = refl

pub fill_outlined : (s : State) (c : ℕ) {k : ℕ} (held : Held) → rule_of (outline_of s) c ≡ Commands
    → (cpu_at s.processors c).process ≡ Some k
    → lacking held (reference_in ((around s).next k)) < lacking (cpu_at s.processors c).assoc
    (reference_in ((around s).next k))
    → Step (outline_of s) c Moved
    (with_runner (outline_of s) c (runner_of (around s) (held_processor (processor_at s.processors c) held)))
fill_outlined s c {k} held h process less =
    fills (runner_of (around s) (held_processor (processor_at s.processors c) held)) h
    (rw (at_outline s c) (filled_runner (around s) (processor_at s.processors c) held process less))

-- what is found once one more stands at the end
found_last : {A : Type 0} (test : A → Bool) (xs : List A) (x : A) → test x ≡ true
    → is_some (find test (xs ++ x ∷ [])) ≡ true
found_last test [] x h = cc
found_last test (y ∷ ys) x h = by (test y) (found_last test ys x h)
  where
    by : (b : Bool) → is_some (find test (ys ++ x ∷ [])) ≡ true
        → is_some (cond b (Some y) (find test (ys ++ x ∷ []))) ≡ true
    by true i = refl
    by false i = i

holds_filled_seg : (held : Held) (e : HeldSeg) {n : ℕ} → e.number ≡ n → is_some (seg_of (with_seg held e) n) ≡ true
holds_filled_seg held e {n} same =
    found_last (is_number n) (cond (eqb (length held.segs) 16) (drop 1 held.segs) held.segs) e
    (rw (← same) (eqb_self e.number))

number_held : (s : State) (n : ℕ) (w : Sdw) → (held_seg s.store n w).number ≡ n
number_held s n sdw.Fault = refl
number_held s n (sdw.Present aste m pages) = refl

pub fill_seg_outlined : (s : State) (c : ℕ) {k : ℕ} {r : Reference} → rule_of (outline_of s) c ≡ Commands
    → (cpu_at s.processors c).process ≡ Some k → reference_in ((around s).next k) ≡ Some r
    → is_some (seg_of (cpu_at s.processors c).assoc r.number) ≡ false
    → Step (outline_of s) c Moved (outline_of (seg_filled s c r.number))
fill_seg_outlined s c {k} {r} h process next none = let cpu = cpu_at s.processors c in
    let e = held_seg s.store r.number (descriptor_of s.store.links (process_at s c) r.number) in
    step_to (outline_of (seg_filled s c r.number))
    (sym (one_outlined s c (held_processor (processor_at s.processors c) (with_seg (cpu_at s.processors c).assoc
    (held_seg s.store r.number (descriptor_of s.store.links (process_at s c) r.number)))) _))
    (fill_outlined s c (with_seg (cpu_at s.processors c).assoc
    (held_seg s.store r.number (descriptor_of s.store.links (process_at s c) r.number))) h process (rw (
      next,
      none,
      holds_filled_seg (cpu_at s.processors c).assoc
          (held_seg s.store r.number (descriptor_of s.store.links (process_at s c) r.number))
          (number_held s r.number (descriptor_of s.store.links (process_at s c) r.number)),
    ) (few (holds_page (with_seg (cpu_at s.processors c).assoc
    (held_seg s.store r.number (descriptor_of s.store.links (process_at s c) r.number))) (Some r)))))
  where
    few : (b : Bool) → cond {A = ℕ} b 0 1 < 2
    few true = omega arith
    few false = omega arith

holds_filled_page : (held : Held) (e : HeldPage) (uid page : ℕ) → e.uid ≡ uid → e.page ≡ page
    → is_some (frame_of (with_page held e) uid page) ≡ true
holds_filled_page held e uid page a b = mapped (page_of (with_page held e) uid page)
    (found_last (is_page uid page) (cond (eqb (length held.pages) 16) (drop 1 held.pages) held.pages) e
    (rw (a, b) (both (eqb_self uid) (eqb_self page))))
  where
    mapped : (o : Option HeldPage) → is_some o ≡ true → is_some (option_map (λ x. x.frame) o) ≡ true
    mapped None h = h
    mapped (Some x) h = refl

    both : {x y : Bool} → x ≡ true → y ≡ true → (x && y) ≡ true
    both g h = rw (g, h) refl

pub fill_page_outlined : (s : State) (c : ℕ) {k : ℕ} (f : ℕ) {r : Reference} → rule_of (outline_of s) c ≡ Commands
    → (cpu_at s.processors c).process ≡ Some k → reference_in ((around s).next k) ≡ Some r
    → is_some (seg_of (cpu_at s.processors c).assoc r.number) ≡ true
    → holds_page (cpu_at s.processors c).assoc (Some r) ≡ false
    → Step (outline_of s) c Moved (outline_of (page_filled s c f r))
fill_page_outlined s c {k} f {r} h process next seg none = let cpu = cpu_at s.processors c in
    step_to (outline_of (page_filled s c f r))
    (sym (one_outlined s c (held_processor (processor_at s.processors c)
    (with_page (cpu_at s.processors c).assoc (held_page (cpu_at s.processors c) f r))) _))
    (fill_outlined s c (with_page (cpu_at s.processors c).assoc (held_page (cpu_at s.processors c) f r)) h process
    (rw (next, seg, none, now) (omega arith)))
  where
    now : holds_page (with_page (cpu_at s.processors c).assoc (held_page (cpu_at s.processors c) f r)) (Some r) ≡ true
    now = holds_filled_page (cpu_at s.processors c).assoc (held_page (cpu_at s.processors c) f r)
        (uid_of_held (seg_of (cpu_at s.processors c).assoc r.number)) (r.offset / 1024) refl refl

-- ---- a transfer ends

abbrev idle_processor : Processor → Processor
idle_processor p = record p { cpu = record p.cpu { transfer = None } }

idle_runner : (a : Around) (p : Processor) → runner_of a (idle_processor p) ≡ record (runner_of a p) { reading = None }
idle_runner a p = by p.cpu.process
  where
    by : (o : Option ℕ) → runner_by a (idle_processor p) o ≡ record (runner_by a p o) { reading = None }
    by None = refl
    by (Some k) = refl

transferred_outline : (s : State) (c count : ℕ) (t : Transfer) → outline_of (transferred (with_faults s count) c t)
    ≡ with_runner (with_bound (outline_of s) t false false) c
    (runner_of (around s) (idle_processor (processor_at s.processors c)))
unfolding outline_of
transferred_outline s c count t = cc (
  set_map (runner_of (around s)) s.processors c (idle_processor (processor_at s.processors c)),
  set_map bare s.store.pages.core.frames t.frame (frame.Bound t.uid t.page false false),
)

pub transfer_outlined : (s : State) (c count : ℕ) {t : Transfer} → rule_of (outline_of s) c ≡ Reads
    → (cpu_at s.processors c).transfer ≡ Some t
    → Step (outline_of s) c Moved (outline_of (transferred (with_faults s count) c t))
transfer_outlined s c count {t} h reading = step_to (outline_of (transferred (with_faults s count) c t))
    (cc (at_outline s c, idle_runner (around s) (processor_at s.processors c), transferred_outline s c count t))
    (reads t false false h (cc (at_outline s c, seen_reading (around s) (processor_at s.processors c))))

-- ---- the supervisor

pub owner_none : (s : State) → s.owner ≡ None → (outline_of s).owner ≡ None
unfolding outline_of
owner_none s none = cc

looking_outline : (s : State) (c : ℕ) → outline_of (with_owner s (Some (looking c))) ≡ at_stage (outline_of s) c Look
unfolding outline_of
looking_outline s c = refl

-- a tree command, or a reference that the look refuses, needs the supervisor
pub enter_outlined : (s : State) (c : ℕ) → rule_of (outline_of s) c ≡ Commands → s.owner ≡ None
    → ((chain : List ℕ) (uid page : ℕ) (makes : Bool) → want_at (outline_of s) c ≢ Refer chain uid page makes)
    → Step (outline_of s) c Moved (outline_of (with_owner s (Some (looking c))))
enter_outlined s c h none want = step_to (outline_of (with_owner s (Some (looking c))))
    (sym (looking_outline s c)) (enters h (owner_none s none) want)

-- so does a reference for which the tables lack something
pub fault_outlined : (s : State) (c : ℕ) (chain : List ℕ) (uid page : ℕ) (makes : Bool)
    → rule_of (outline_of s) c ≡ Commands → s.owner ≡ None → want_at (outline_of s) c ≡ Refer chain uid page makes
    → lack (outline_of s) (runner_at (outline_of s).runners c) ≡ 1
    → Step (outline_of s) c Moved (outline_of (with_owner s (Some (looking c))))
fault_outlined s c chain uid page makes h none want lacks = step_to (outline_of (with_owner s (Some (looking c))))
    (sym (looking_outline s c)) (faults chain uid page makes h (owner_none s none) want lacks)

owner_some : (s : State) {o : Owner} → s.owner ≡ Some o → (outline_of s).owner ≡ keeper_of s.store.ast.entries (Some o)
unfolding outline_of
owner_some s some = cc

pub owned_outlined : (s : State) (c : ℕ) {o : Owner} → rule_of (outline_of s) c ≡ Commands → s.owner ≡ Some o
    → Step (outline_of s) c (WaitsFor (ForOwner o.cpu)) (outline_of s)
owned_outlined s c {o} h some =
    waits (record { cpu = o.cpu; stage = stage_of s.store.ast.entries o.frames o.phase }) h (owner_some s some)

-- ---- In the outline of the machine, what answers a command is a step that leaves less to come.

-- what is to come, of a machine
abbrev pub left_is : State → ℕ
left_is s = left_in s.plan.processes s.runs

pub told_left : {u : State} {c k : ℕ} (f : Option ℕ) (r : Reply) {command : Command} → CanTell u c k command
    → left_is (told u c f r) < left_is u
told_left {u} {c} {k} f r {command} can =
    rw (ap or_zero can.process) (left_falls u.plan.processes u.runs k (run_after (run_at u.runs k) (next_command u k) r)
    can.planned can.there (rw can.on.next (answer_falls r can.on)))

pub outline_left : (s : State) → (outline_of s).left ≡ left_is s
unfolding outline_of
outline_left s = refl

-- the count of a processor that answered
told_count : (u : State) (c : ℕ) (f : Option ℕ) (r : Reply) → c < length u.processors
    → (processor_at (told u c f r).processors c).count ≡ (processor_at u.processors c).count + 1
told_count u c f r lt = ap (λ (p : Processor). p.count) (get_or-set_same u.processors c _ no_processor lt)

since_at : (s : State) (c : ℕ) → (runner_at (outline_of s).runners c).since ≡ (processor_at s.processors c).count
since_at s c = cc (at_outline s c, seen_since (around s) (processor_at s.processors c))

pub running_at : (s : State) (c : ℕ) → (runner_at (outline_of s).runners c).running ≡ is_some
    (cpu_at s.processors c).process
running_at s c = cc (at_outline s c, seen_running (around s) (processor_at s.processors c))

-- a machine in which nothing was answered since another, of these processors' counts
pub record SameTale (s u : State) (c : ℕ) : Type 0 where
  pub plan : u.plan ≡ s.plan
  pub runs : u.runs ≡ s.runs
  pub processors : u.processors ≡ s.processors

tale : {s u : State} {c : ℕ} → u.plan ≡ s.plan → u.runs ≡ s.runs → u.processors ≡ s.processors → SameTale s u c
tale plan runs processors = assumption

tale_left : {s u : State} {c : ℕ} → SameTale s u c → left_is u ≡ left_is s
tale_left same = λ i. left_in (same.plan i).processes (same.runs i)

-- the answer that ends a job
pub ends_job : (s u t : State) (c k : ℕ) (f : Option ℕ) (r : Reply) (command : Command) → SameTale s u c
    → CanTell u c k command → t.owner ≡ None → t.plan ≡ (told u c f r).plan → t.runs ≡ (told u c f r).runs
    → (is_some (cpu_at t.processors c).process ≡ true
    → (processor_at t.processors c).count ≡ (processor_at (told u c f r).processors c).count)
    → IsAnswered (outline_of s) c (outline_of t)
ends_job s u t c k f r command same can owner plan runs count = record {
  owner = owner_none t owner;
  fewer = let less = told_left f r can in
      let a : left_is t ≡ left_is (told u c f r) = λ i. left_in (plan i).processes (runs i) in
      omega (arith, tale_left same, outline_left s, outline_left t);
  over = λ h. cc (since_at t c, count (sym (running_at t c) ∙ h), told_count u c f r can.within, since_at s c);
}

-- ---- replies of a look

pub answer_outlined : {s : State} {c k : ℕ} (stage : Stage) (r : Reply) {command : Command}
    → IsIn (outline_of s) c stage → dues (outline_of s).runners ≡ 0 → CanTell s c k command
    → JobStep (outline_of s) c (outline_of (answered s c r))
answer_outlined {s} {c} {k} stage r {command} owner due can = answers stage (outline_of (answered s c r)) owner due
    (ends_job s s (answered s c r) c k None r command (assumption) can refl refl refl (λ h. refl))

pub create_outlined : {s : State} {c k : ℕ} (stage : Stage) (f uid p : ℕ) (r : Reference) {command : Command}
    → IsIn (outline_of s) c stage → dues (outline_of s).runners ≡ 0 → CanTell s c k command
    → JobStep (outline_of s) c (outline_of (page_created s c f uid p r))
create_outlined {s} {c} {k} stage f uid p r {command} owner due can =
    answers stage (outline_of (page_created s c f uid p r)) owner due
    (ends_job s (page_made s f uid p r) (page_created s c f uid p r) c k None _ command (assumption) (assumption)
    refl refl refl (λ h. refl))

-- ---- a write failed

pages_tale : (s : State) (fs : List ℕ) (c : ℕ) → SameTale s (pages_back s fs) c
pages_tale s [] c = assumption
pages_tale s (f ∷ fs) c = let rest = pages_tale (page_back s f) fs c in tale rest.plan rest.runs rest.processors

segs_tale : (s : State) (ds : List CutDescriptor) (c : ℕ) → SameTale s (segs_back s ds) c
segs_tale s [] c = assumption
segs_tale s (d ∷ ds) c = let rest = segs_tale (seg_back s d) ds c in tale rest.plan rest.runs rest.processors

-- the machine once all that was still going is back
abbrev all_back : State → ℕ → ℕ → State
all_back s c n = segs_back (pages_back (fault_told s (Some (process_at s c)) n) (frames_of_owner s.owner))
    (cut_of_owner s.owner)

back_tale : (s : State) (c n : ℕ) → SameTale s (all_back s c n) c
back_tale s c n = let one = pages_tale (fault_told s (Some (process_at s c)) n) (frames_of_owner s.owner) c in
    let two = segs_tale (pages_back (fault_told s (Some (process_at s c)) n) (frames_of_owner s.owner))
    (cut_of_owner s.owner) c in
    assumption (two.plan ∙ one.plan, two.runs ∙ one.runs, two.processors ∙ one.processors)

can_tell_on : {s u : State} {c k : ℕ} {command : Command} → SameTale s u c → CanTell s c k command
    → CanTell u c k command
can_tell_on {s} {u} {c} {k} same can = record {
  within = rw same.processors can.within;
  process = cc;
  there = rw same.runs can.there;
  planned = rw same.plan can.planned;
  on = record {
    going = cc;
    next = (λ i. slice_get (commands_of (same.plan i) k) (run_at (same.runs i) k).place) ∙ can.on.next;
    tries = rw same.runs can.on.tries;
  };
}

pub failed_outlined : {s : State} {c k : ℕ} (n : ℕ) (stage : Stage) {command : Command} → IsIn (outline_of s) c stage
    → dues (outline_of s).runners ≡ 0 → CanTell s c k command
    → JobStep (outline_of s) c (outline_of (write_failed s c n))
failed_outlined {s} {c} {k} n stage {command} owner due can = answers stage (outline_of (write_failed s c n)) owner due
    (ends_job s (all_back s c n) (write_failed s c n) c k None reply.Device command (back_tale s c n)
    (can_tell_on (back_tale s c n) can) refl refl refl (λ h. refl))

-- ---- a tree command takes effect

-- after an end the processor has no process
left_cases : (s : State) (c : ℕ) (x : Command) → (left_after s c x ≡ s) ⊎ (left_after s c x ≡ left_at s c)
left_cases s c command.End = inr refl
left_cases s c _ = inl refl

-- a processor that left has no process
left_none : (s : State) (c : ℕ) → c < length s.processors → is_some (cpu_at (left_at s c).processors c).process ≡ false
left_none s c lt = ap (λ (p : Processor). is_some p.cpu.process) (get_or-set_same s.processors c _ no_processor lt)

left_ends : (s u : State) (c k : ℕ) (r : Reply) (x : Command) → SameTale s u c → CanTell u c k x
    → IsAnswered (outline_of s) c (outline_of (with_owner (left_after (told u c None r) c x) None))
left_ends s u c k r x same can = by (left_cases (told u c None r) c x)
  where
    long : c < length (told u c None r).processors
    long = rw (length-set u.processors c _) can.within

    by : (left_after (told u c None r) c x ≡ told u c None r)
        ⊎ (left_after (told u c None r) c x ≡ left_at (told u c None r) c)
        → IsAnswered (outline_of s) c (outline_of (with_owner (left_after (told u c None r) c x) None))
    by (inl e) = rw e (ends_job s u (with_owner (told u c None r) None) c k None r x same can refl refl refl
        (λ h. refl))
    by (inr e) = rw e (ends_job s u (with_owner (left_at (told u c None r) c) None) c k None r x same can refl refl refl
        (λ h. cc (left_none (told u c None r) c long)))

pub commit_outlined : {s : State} {c k : ℕ} (stage : Stage) {x : Command} → IsIn (outline_of s) c stage
    → dues (outline_of s).runners ≡ 0 → CanTell s c k x → JobStep (outline_of s) c (outline_of (committed s c k x))
commit_outlined {s} {c} {k} stage {x} owner due can = answers stage (outline_of (committed s c k x)) owner due
    (left_ends s _ c k _ x (assumption) (assumption))

-- ---- replies without the supervisor

replied_is : {s u : State} (c k : ℕ) (f : Option ℕ) (r : Reply) (x : Command) → SameTale s u c → CanTell u c k x
    → (outline_of u).owner ≡ (outline_of s).owner → (outline_of (told u c f r)).owner ≡ (outline_of u).owner
    → IsReplied (outline_of s) c (outline_of (told u c f r))
replied_is {s} {u} c k f r x same can before owner = record {
  owner = cc;
  fewer = omega (arith, told_left f r can, tale_left same, outline_left s, outline_left (told u c f r));
  since = cc (since_at (told u c f r) c, told_count u c f r can.within, since_at s c);
}

told_owner : (u : State) (c : ℕ) (f : Option ℕ) (r : Reply) → (outline_of (told u c f r)).owner ≡ (outline_of u).owner
unfolding outline_of
told_owner u c f r = refl

through_owner : (s : State) (pages : Plain) → (outline_of (with_store s (with_pages s.store pages))).owner
    ≡ (outline_of s).owner
unfolding outline_of
through_owner s pages = refl

pub plain_outlined : {s : State} {c k : ℕ} (r : Reply) {x : Command} → rule_of (outline_of s) c ≡ Commands
    → CanTell s c k x → Step (outline_of s) c Moved (outline_of (told s c None r))
plain_outlined {s} {c} {k} r {x} h can = replies (outline_of (told s c None r)) h
    (replied_is c k None r x (assumption) can refl (told_owner s c None r))

pub through_outlined : {s : State} {c k : ℕ} (f : ℕ) (r : Reference) {x : Command} → rule_of (outline_of s) c ≡ Commands
    → CanTell s c k x → Step (outline_of s) c Moved (outline_of (went_through s c f r))
through_outlined {s} {c} {k} f r {x} h can =
    replies (outline_of (went_through s c f r)) h (replied_is c k (Some f) _ x (assumption)
    (assumption) (through_owner s (pages_after s.store.pages f r))
    (told_owner (with_store s (with_pages s.store (pages_after s.store.pages f r))) c (Some f) _))
