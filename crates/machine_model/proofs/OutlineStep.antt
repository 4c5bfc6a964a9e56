-- Each step of the machine is a step of its outline, where the machine finds what its actions ask.
use Rattle.machine_model.proofs.Basics.{◌≡◌, ℕ, ◌*◌, ◌/◌, Bool, true, false, not, cond, ◌&&◌, eqb, nat_lt, nat_le, List, [], ◌∷◌, length, count_by, Option, Some, None, is_some, refl, sym, ap, ◌∙◌, inl, inr, arith, Decides-ltb, reference_of, Command, Reference, RefKind, What, HeldSeg, Held, frame_of, seg_of, Ptw, Sdw, sdw_at, new_word, permits, word_reply, Transfer, Move, by_descriptor, by_held, by_page, by_seg, by_word, State, Owner, or_zero, next_command, processor_at, cpu_at, process_at, run_at, sdws_at, word_of, uid_of_held, has_had_its_turn, is_empty, Outcome, after, turn_of, Moved, Comes, Clears, Reads, Works, Loads, Leaves, Commands, rule_of, Step, reference_in, holds_page, outline_of, Foresees, MayAnswer, MayEnter, MayLose, Ptw as ptw, Sdw as sdw, Reply as reply, Move as move, Action, by_move, come_to, has_process, load_or_idle, move_of, refer_or_take, run_process, take_or_wait, Action as act, cond_both, ◌≢◌, ◌<◌, zero, suc, ◌+◌, map, set, subst, append-nil, get_or-set_same, get_or-set_other, length-set, Plan, is_end, released_by, Processor, no_processor, no_run, fault_told, frame_lost, goes_on, run_after, transfer_failed, Runner, runner_at, with_runner, with_frame, HasLost, loses, Around, around, bare, runner_by, runner_of, CanTell, IsPlaced, Frame as frame, by_end, is_owner, rule_seen, at_outline, set_map, seen_online, seen_running, seen_due, seen_reading, seen_since, IsFree, enter_outlined, fault_outlined, fill_page_outlined, fill_seg_outlined, idle_outlined, leave_outlined, load_outlined, owned_outlined, transfer_outlined, step_to, plain_outlined, through_outlined, told_left, outline_left, left_is, map_change}

-- ---- In the outline of the machine, a transfer that fails is a step that frees its frame and leaves less to come.

set_twice : {A : Type 0} (xs : List A) (i : ℕ) (x y : A) → set (set xs i x) i y ≡ set xs i y
set_twice [] i x y = refl
set_twice (z ∷ zs) zero x y = refl
set_twice {A} (z ∷ zs) (suc i) x y = cc (set_twice zs i x y)

-- the runner of a processor whose process comes to the same command next
next_runner : (a : Around) (next : ℕ → Option Command) (p : Processor)
    → ((j : ℕ) → p.cpu.process ≡ Some j → next j ≡ a.next j) → runner_of (record a { next = next }) p ≡ runner_of a p
next_runner a next p same = by p.cpu.process same
  where
    by : (o : Option ℕ) → ((j : ℕ) → o ≡ Some j → next j ≡ a.next j)
        → runner_by (record a { next = next }) p o ≡ runner_by a p o
    by None h = refl
    by (Some j) h = cc (h j refl)

-- what was released where the command was no end
none_released : (p : Plan) (k : ℕ) (x : Command) (o : Option Command) → o ≡ Some x → is_end x ≡ false
    → released_by p k o ≡ []
none_released p k x o is out = cc is

-- the processor once its transfer failed and its process was told
abbrev lost_processor : State → ℕ → ℕ → Transfer → Processor
lost_processor s c n t = processor_at (transfer_failed s c t n).processors c

abbrev failed_around : State → ℕ → ℕ → Transfer → Around
failed_around s c n t = around (transfer_failed s c t n)

failed_processors : (s : State) (c n : ℕ) (t : Transfer) → c < length s.processors
    → (transfer_failed s c t n).processors ≡ set s.processors c (lost_processor s c n t)
failed_processors s c n t lt = set_twice s.processors c _ _ ∙ ap (λ (p : Processor). set s.processors c p)
    (sym (get_or-set_same (set s.processors c _) c _ no_processor (rw (length-set s.processors c _) lt)))

-- the machine once the frame is lost and the failure told, before its process is
abbrev lost_state : State → ℕ → ℕ → Transfer → State
lost_state s c n t = fault_told (frame_lost s c t) (Some (process_at s c)) n

lost_process : (s : State) (c n : ℕ) (t : Transfer) → c < length s.processors
    → (cpu_at (lost_state s c n t).processors c).process ≡ (cpu_at s.processors c).process
lost_process s c n t lt = ap (λ (p : Processor). p.cpu.process) (get_or-set_same s.processors c _ no_processor lt)

lost_tells : {s : State} {c k : ℕ} (n : ℕ) (t : Transfer) {x : Command} → CanTell s c k x
    → CanTell (lost_state s c n t) c k x
lost_tells {s} {c} n t can = record {
  within = rw (length-set s.processors c _) can.within;
  process = lost_process s c n t can.within ∙ can.process;
  there = can.there;
  planned = can.planned;
  on = can.on;
}

-- which process is told
lost_told : {s : State} {c k : ℕ} (n : ℕ) (t : Transfer) {x : Command} → CanTell s c k x
    → process_at (lost_state s c n t) c ≡ k
lost_told {s} {c} n t can = cc (lost_process s c n t can.within)

other_next : (s : State) (c k n j : ℕ) (t : Transfer) (x : Command) → CanTell s c k x → j ≢ k
    → next_command (transfer_failed s c t n) j ≡ next_command s j
other_next s c k n j t x can apart = rw (get_or-set_other s.runs (process_at (lost_state s c n t) c) j
    (run_after (run_at s.runs (process_at (lost_state s c n t) c)) (next_command (lost_state s c n t)
    (process_at (lost_state s c n t) c)) reply.Device) no_run (λ e. apart (e ∙ lost_told n t can)))

others_same : {s : State} {c k : ℕ} (n d : ℕ) (t : Transfer) {x : Command} → CanTell s c k x → IsPlaced s.processors c k
    → d ≢ c
    → runner_of (failed_around s c n t) (processor_at (set s.processors c (lost_processor s c n t)) d) ≡ runner_of
    (around s) (processor_at (set s.processors c (lost_processor s c n t)) d)
others_same {s} {c} {k} n d t {x} can placed apart = next_runner (around s) (next_command (transfer_failed s c t n))
    (processor_at (set s.processors c (lost_processor s c n t)) d) (λ j h. other_next s c k n j t x can
    (λ e. placed.only d apart (cc (get_or-set_other s.processors c d (lost_processor s c n t) no_processor apart))))

failed_runners : {s : State} {c k : ℕ} (n : ℕ) (t : Transfer) {x : Command} → CanTell s c k x
    → IsPlaced s.processors c k
    → map (runner_of (failed_around s c n t)) (transfer_failed s c t n).processors ≡ set
    (map (runner_of (around s)) s.processors) c (runner_of (failed_around s c n t) (lost_processor s c n t))
failed_runners {s} {c} {k} n t {x} can placed = cc (
  failed_processors s c n t can.within,
  map_change (runner_of (around s)) (runner_of (failed_around s c n t))
      (set s.processors c (lost_processor s c n t)) c (runner_of (failed_around s c n t) (lost_processor s c n t))
      no_processor (rw (length-set s.processors c (lost_processor s c n t)) can.within)
      (cc (get_or-set_same s.processors c (lost_processor s c n t) no_processor can.within))
      (λ d apart. others_same n d t can placed apart),
  set_map (runner_of (around s)) s.processors c (lost_processor s c n t),
  set_twice (map (runner_of (around s)) s.processors) c (runner_of (around s) (lost_processor s c n t))
      (runner_of (failed_around s c n t) (lost_processor s c n t)),
)

failed_ready : {s : State} {c k : ℕ} (n : ℕ) (t : Transfer) {x : Command} → CanTell s c k x → is_end x ≡ false
    → length (transfer_failed s c t n).ready ≡ length s.ready
failed_ready {s} {c} {k} n t {x} can out = cc (
  none_released s.plan (process_at (lost_state s c n t) c) x (next_command (lost_state s c n t)
      (process_at (lost_state s c n t) c)) (cc (lost_told n t can)) out,
  append-nil s.ready,
)

failed_outline : (s : State) (c k n : ℕ) (t : Transfer) (x : Command) → CanTell s c k x → IsPlaced s.processors c k
    → is_end x ≡ false → outline_of (transfer_failed s c t n)
    ≡ record (with_runner (with_frame (outline_of s) t.frame frame.Free) c
    (runner_of (failed_around s c n t) (lost_processor s c n t))) { left = left_is (transfer_failed s c t n) }
unfolding outline_of
failed_outline s c k n t x can placed out = λ i. record {
  runners = failed_runners n t can placed i;
  frames = set_map bare s.store.pages.core.frames t.frame frame.Free i;
  entries = (outline_of s).entries;
  stored = (outline_of s).stored;
  full = (outline_of s).full;
  owner = (outline_of s).owner;
  ready = failed_ready n t can out i;
  left = left_is (transfer_failed s c t n);
}

lost_runner : (s : State) (c n : ℕ) (t : Transfer) → c < length s.processors
    → HasLost (runner_at (outline_of s).runners c) (runner_of (failed_around s c n t) (lost_processor s c n t))
lost_runner s c n t lt = subst (λ (y : Runner). HasLost y (runner_of (failed_around s c n t) (lost_processor s c n t)))
    (sym (at_outline s c)) (record {
      reading = seen_reading (failed_around s c n t) (lost_processor s c n t)
          ∙ ap (λ (p : Processor). p.cpu.transfer) is;
      due = seen_due (failed_around s c n t) (lost_processor s c n t) ∙ ap (λ (p : Processor). is_some p.cpu.due) is
          ∙ sym (seen_due (around s) (processor_at s.processors c));
      online = seen_online (failed_around s c n t) (lost_processor s c n t) ∙ ap (λ (p : Processor). p.cpu.online) is
          ∙ sym (seen_online (around s) (processor_at s.processors c));
      running = seen_running (failed_around s c n t) (lost_processor s c n t) ∙ ap
          (λ (p : Processor). is_some p.cpu.process) is ∙ sym (seen_running (around s) (processor_at s.processors c));
      since = seen_since (failed_around s c n t) (lost_processor s c n t) ∙ ap (λ (p : Processor). p.count) is
          ∙ sym (ap (λ (m : ℕ). m + 1) (seen_since (around s) (processor_at s.processors c)));
    })
  where
    tried : Bool
    tried = goes_on (run_at s.runs (process_at (lost_state s c n t) c))
        (next_command (lost_state s c n t) (process_at (lost_state s c n t) c)) reply.Device

    is : lost_processor s c n t ≡ record {
      cpu = record (cpu_at s.processors c) { transfer = None };
      count = (processor_at s.processors c).count + 1;
      tried = goes_on (run_at s.runs (process_at (lost_state s c n t) c))
          (next_command (lost_state s c n t) (process_at (lost_state s c n t) c)) reply.Device;
    }
    is = rw (
      get_or-set_same (lost_state s c n t).processors c _ no_processor
          (subst (λ (m : ℕ). c < m) (sym (length-set s.processors c _)) lt),
      (get_or-set_same s.processors c _ no_processor lt),
    )

pub loss_outlined : {s : State} {c k : ℕ} (n : ℕ) {t : Transfer} {x : Command} → rule_of (outline_of s) c ≡ Reads
    → (cpu_at s.processors c).transfer ≡ Some t → CanTell s c k x → IsPlaced s.processors c k → is_end x ≡ false
    → Step (outline_of s) c Moved (outline_of (transfer_failed s c t n))
loss_outlined {s} {c} {k} n {t} {x} h reading can placed out = step_to (outline_of (transfer_failed s c t n))
    (sym (failed_outline s c k n t x can placed out)) (loses t
    (runner_of (failed_around s c n t) (lost_processor s c n t)) (left_is (transfer_failed s c t n)) h
    (cc (at_outline s c, seen_reading (around s) (processor_at s.processors c))) (lost_runner s c n t can.within)
    (rw (outline_left s) (told_left None reply.Device (lost_tells n t can))))

-- ---- which rule applies

not_empty : (xs : List ℕ) → not (is_empty xs) ≡ nat_lt 0 (length xs)
not_empty [] = refl
not_empty (x ∷ xs) = sym ((Decides-ltb 0 (length (x ∷ xs))).1 (omega arith))

pub comes_rule : (s : State) (c : ℕ) → (cpu_at s.processors c).online ≡ false → rule_of (outline_of s) c ≡ Comes
comes_rule s c off = rule_seen s c ∙ rw (off) refl

pub clears_rule : (s : State) (c : ℕ) (w : What) → (cpu_at s.processors c).online ≡ true
    → (cpu_at s.processors c).due ≡ Some w → rule_of (outline_of s) c ≡ Clears
clears_rule s c w on due = rule_seen s c ∙ rw (on, due) refl

pub reads_rule : (s : State) (c : ℕ) (t : Transfer) → (cpu_at s.processors c).online ≡ true
    → (cpu_at s.processors c).due ≡ None → (cpu_at s.processors c).transfer ≡ Some t → rule_of (outline_of s) c ≡ Reads
reads_rule s c t on due reading = rule_seen s c ∙ rw (on, due, reading) refl

-- a processor that takes part, has nothing to drop, and reads nothing
pub record IsAtRest (s : State) (c : ℕ) : Type 0 where
  pub online : (cpu_at s.processors c).online ≡ true
  pub due : (cpu_at s.processors c).due ≡ None
  pub transfer : (cpu_at s.processors c).transfer ≡ None

pub works_seen : {s : State} {c : ℕ} → IsAtRest s c → is_owner s.owner c ≡ true → rule_of (outline_of s) c ≡ Works
works_seen {s} {c} rest own = rule_seen s c ∙ rw (rest.online, rest.due, rest.transfer, own) refl

loads_rule : {s : State} {c : ℕ} → IsAtRest s c → is_owner s.owner c ≡ false → (cpu_at s.processors c).process ≡ None
    → rule_of (outline_of s) c ≡ Loads
loads_rule {s} {c} rest own none = rule_seen s c ∙ rw (rest.online, rest.due, rest.transfer, own, none) refl

turn_rule : {s : State} {c k : ℕ} {turn : Bool} → IsAtRest s c → is_owner s.owner c ≡ false
    → (cpu_at s.processors c).process ≡ Some k
    → (has_had_its_turn (processor_at s.processors c) && not (is_empty s.ready)) ≡ turn
    → rule_of (outline_of s) c ≡ cond turn Leaves Commands
turn_rule {s} {c} rest own process is =
    rule_seen s c ∙ rw (rest.online, rest.due, rest.transfer, own, process, ← not_empty s.ready, is) refl

leaves_rule : {s : State} {c k : ℕ} → IsAtRest s c → is_owner s.owner c ≡ false
    → (cpu_at s.processors c).process ≡ Some k
    → (has_had_its_turn (processor_at s.processors c) && not (is_empty s.ready)) ≡ true
    → rule_of (outline_of s) c ≡ Leaves
leaves_rule {s} {c} {k} rest own process turn = turn_rule rest own process turn

commands_rule : {s : State} {c k : ℕ} → IsAtRest s c → is_owner s.owner c ≡ false
    → (cpu_at s.processors c).process ≡ Some k
    → (has_had_its_turn (processor_at s.processors c) && not (is_empty s.ready)) ≡ false
    → rule_of (outline_of s) c ≡ Commands
commands_rule {s} {c} {k} rest own process turn = turn_rule rest own process turn

-- ---- moves by itself

-- a move that takes in a descriptor, or a page table word
is_fill_seg : Move → Bool
is_fill_seg move.FillSeg = true
is_fill_seg _ = false

is_fill_page : Move → Bool
is_fill_page (move.FillPage f) = true
is_fill_page _ = false

word_fill : (w : Ptw) (how : RefKind) → is_fill_seg (by_word w how) ≡ false
unfolding is_fill_seg
word_fill ptw.Null how = cond_both (eqb (new_word 0 how) 0) (move.Plain (word_reply 0 how)) move.Fault
    (λ x. is_fill_seg x ≡ false) (λ e. refl) (λ e. refl)
word_fill _ how = refl

held_fill : (held : Held) (words : ℕ → ℕ → Ptw) (r : Reference) (e : HeldSeg)
    → is_fill_seg (by_held held words r e) ≡ false
unfolding is_fill_seg
held_fill held words r e = by (not (permits e.mode r.kind)) (nat_le (1024 * e.pages) r.offset)
    (frame_of held e.uid (r.offset / 1024))
  where
    page : (o : Option ℕ) → is_fill_seg (by_page o (words e.uid (r.offset / 1024)) r.kind) ≡ false
    page (Some f) = refl
    page None = word_fill (words e.uid (r.offset / 1024)) r.kind

    by : (a b : Bool) (o : Option ℕ) → is_fill_seg (cond a (move.Plain reply.NoAccess) (cond b (move.Plain reply.Length)
        (by_page o (words e.uid (r.offset / 1024)) r.kind))) ≡ false
    by false false o = page o
    by _ _ o = refl

fill_seg_new : (held : Held) (ds : List Sdw) (words : ℕ → ℕ → Ptw) (r : Reference) (o : Option HeldSeg)
    → by_seg held ds words r o ≡ move.FillSeg → is_some o ≡ false
unfolding is_fill_seg
fill_seg_new held ds words r None h = refl
fill_seg_new held ds words r (Some e) h = let no = sym (held_fill held words r e) ∙ ap is_fill_seg h in absurd cc

descriptor_page : (w : Sdw) → is_fill_page (by_descriptor w) ≡ false
unfolding is_fill_page
descriptor_page sdw.Fault = refl
descriptor_page (sdw.Present aste mode pages) = refl

-- a page table word is taken in where the descriptor is held and the word isn't
fill_page_new : (held : Held) (ds : List Sdw) (words : ℕ → ℕ → Ptw) (r : Reference) (f : ℕ) (o : Option HeldSeg)
    → seg_of held r.number ≡ o → by_seg held ds words r o ≡ move.FillPage f
    → (is_some o ≡ true) × (holds_page held (Some r) ≡ false)
unfolding is_fill_page
fill_page_new held ds words r f None seg h =
    let no = sym (descriptor_page (sdw_at ds r.number)) ∙ ap is_fill_page h in absurd cc
fill_page_new held ds words r f (Some e) seg h = (
  refl,
  ap (λ (x : Option HeldSeg). is_some (frame_of held (uid_of_held x) (r.offset / 1024))) seg
      ∙ by (not (permits e.mode r.kind)) (nat_le (1024 * e.pages) r.offset) (frame_of held e.uid (r.offset / 1024))
      (ap is_fill_page h),
)
  where
    by : (a b : Bool) (o : Option ℕ) → is_fill_page
        (cond a (move.Plain reply.NoAccess) (cond b (move.Plain reply.Length)
        (by_page o (words e.uid (r.offset / 1024)) r.kind))) ≡ true → is_some o ≡ false
    by false false None i = refl
    by _ _ _ i = let no = i in absurd cc

-- ---- a processor by itself

-- what a step to an action is
abbrev pub Goal : State → ℕ → Outcome → Action → Type 0
Goal s c o a = Step (outline_of s) c (turn_of a) (outline_of (after s c a o))

pub transfer_goal : {s : State} {c : ℕ} (o : Outcome) {t : Transfer} → Foresees s c → rule_of (outline_of s) c ≡ Reads
    → (cpu_at s.processors c).transfer ≡ Some t → Goal s c o (act.EndTransfer t)
unfolding after
transfer_goal {s} {c} o {t} f h reading = by_end (λ x. Step (outline_of s) c Moved (outline_of x)) o _ _
    (λ e. transfer_outlined s c o.faults h reading)
    (λ e. loss_outlined o.faults h reading lost.can lost.placed lost.more)
  where
    lost : MayLose s c
    lost = f.loses (cc)

-- ---- a process at a processor that doesn't own the supervisor

enter_goal : (s : State) (c : ℕ) (o : Outcome) → rule_of (outline_of s) c ≡ Commands → s.owner ≡ None → MayEnter s c
    → Goal s c o act.TakeSupervisor
unfolding after
enter_goal s c o h none (inl wants) =
    fault_outlined s c wants.0.chain wants.0.uid wants.0.page wants.0.makes h none wants.0.want wants.1
enter_goal s c o h none (inr want) = enter_outlined s c h none want

take_goal : (s : State) (c : ℕ) (o : Outcome) → rule_of (outline_of s) c ≡ Commands → (x : Option Owner) → s.owner ≡ x
    → (x ≡ None → MayEnter s c) → Goal s c o (take_or_wait x)
unfolding after
take_goal s c o h None none may = enter_goal s c o h none (may refl)
take_goal s c o h (Some w) some may = owned_outlined s c h some

-- the processor's process refers to a word
move_goal : (s : State) (c k : ℕ) (o : Outcome) (r : Reference) → rule_of (outline_of s) c ≡ Commands
    → (cpu_at s.processors c).process ≡ Some k → reference_in (next_command s k) ≡ Some r → MayAnswer s c
    → (m : Move) → move_of s (cpu_at s.processors c) k r ≡ m
    → (s.owner ≡ None → by_move s.owner r m ≡ act.TakeSupervisor → MayEnter s c) → Goal s c o (by_move s.owner r m)
unfolding after
move_goal s c k o r h process next may move.FillSeg is enters = fill_seg_outlined s c h process next
    (fill_seg_new (cpu_at s.processors c).assoc (sdws_at s.store.links.descriptors k) (word_of s.store.ast) r
    (seg_of (cpu_at s.processors c).assoc r.number) is)
move_goal s c k o r h process next may (move.FillPage f) is enters =
    let new = fill_page_new (cpu_at s.processors c).assoc (sdws_at s.store.links.descriptors k) (word_of s.store.ast)
    r f (seg_of (cpu_at s.processors c).assoc r.number) refl is in
    fill_page_outlined s c f h process next new.0 new.1
move_goal s c k o r h process next may (move.Through f) is enters = through_outlined f r h may.can
move_goal s c k o r h process next may (move.Plain answer) is enters = plain_outlined answer h may.can
move_goal s c k o r h process next may move.Fault is enters =
    take_goal s c o h s.owner refl (λ none. enters none (ap take_or_wait none))

refer_goal : {s : State} {c k : ℕ} (o : Outcome) → rule_of (outline_of s) c ≡ Commands
    → (cpu_at s.processors c).process ≡ Some k → MayAnswer s c → (x : Option Reference)
    → reference_in (next_command s k) ≡ x
    → (s.owner ≡ None → refer_or_take s (cpu_at s.processors c) k x ≡ act.TakeSupervisor → MayEnter s c)
    → Goal s c o (refer_or_take s (cpu_at s.processors c) k x)
refer_goal {s} {c} o h process may None next enters =
    take_goal s c o h s.owner refl (λ none. enters none (ap take_or_wait none))
refer_goal {s} {c} {k} o h process may (Some r) next enters =
    move_goal s c k o r h process next may (move_of s (cpu_at s.processors c) k r) refl enters

command_goal : {s : State} {c k : ℕ} (o : Outcome) → rule_of (outline_of s) c ≡ Commands
    → (cpu_at s.processors c).process ≡ Some k → MayAnswer s c → (x : Option Command) → next_command s k ≡ x
    → (s.owner ≡ None → come_to s (cpu_at s.processors c) k x ≡ act.TakeSupervisor → MayEnter s c)
    → Goal s c o (come_to s (cpu_at s.processors c) k x)
command_goal {s} {c} o h process may None next enters =
    take_goal s c o h s.owner refl (λ none. enters none (ap take_or_wait none))
command_goal {s} {c} {k} o h process may (Some x) next enters =
    refer_goal o h process may (reference_of x) (ap reference_in next) enters

free_of : {s : State} {c : ℕ} → IsAtRest s c → IsFree (processor_at s.processors c)
free_of rest = assumption

load_goal : {s : State} {c : ℕ} (o : Outcome) → IsAtRest s c → rule_of (outline_of s) c ≡ Loads → (ready : List ℕ)
    → s.ready ≡ ready → Goal s c o (load_or_idle s ready)
unfolding after
load_goal {s} {c} o rest h [] is = idle_outlined s c (count_by has_process s.processors) h is
load_goal {s} {c} o rest h (k ∷ ks) is = load_outlined s c k h (rw is (omega arith)) (free_of rest)

-- a process that is at a processor goes on
going_on : {s : State} {c : ℕ} → MayAnswer s c → (run_at s.runs (process_at s c)).ended ≡ false
going_on may = cc

pub run_goal : {s : State} {c : ℕ} (o : Outcome) → Foresees s c → IsAtRest s c → is_owner s.owner c ≡ false
    → (x : Option ℕ) → (cpu_at s.processors c).process ≡ x → Goal s c o (run_process s (processor_at s.processors c) x)
unfolding after
run_goal {s} {c} o f rest own None none = load_goal o rest (loads_rule rest own none) s.ready refl
run_goal {s} {c} o f rest own (Some k) process =
    by (has_had_its_turn (processor_at s.processors c) && not (is_empty s.ready)) refl
  where
    may : MayAnswer s c
    may = f.answers (cc)

    by : (b : Bool) → (has_had_its_turn (processor_at s.processors c) && not (is_empty s.ready)) ≡ b
        → Goal s c o (cond b act.Leave (come_to s (cpu_at s.processors c) k (next_command s k)))
    by true turn = leave_outlined s c (leaves_rule rest own process turn) (going_on may) (free_of rest)
    by false turn = command_goal o (commands_rule rest own process turn) process may (next_command s k) refl
        (λ none is. f.enters none rest.transfer (cc (ap or_zero process)))
