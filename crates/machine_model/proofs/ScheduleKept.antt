-- After each action each process that goes on is at one processor, ready, or kept back by the initializer.
use Rattle.machine_model.proofs.Kept.{◌≡◌, ◌<◌, ℕ, ◌+◌, ◌-◌, Bool, true, false, ◌&&◌, cond, eqb, List, [], ◌∷◌, ◌++◌, drop, length, set, Option, Some, None, refl, sym, ap, subst, ◌∙◌, length-set, get_or-set_same, Plan, Command, Reply, What, is_end, word_reply, IsFront, range, released_by, Processor, Run, Outcome, after, committed_at, told_from, write_failed, without_move, cpu_at, next_command, no_processor, or_zero, process_at, processor_at, run_at, reply_of, AreScheduled, IsScheduled, State, fault_told, frame_lost, goes_on, is_its_end, left_at, old_word, page_made, run_after, told, told_by, with_store, pages_after, with_pages, no_run, append-nil, Command as command, Reply as reply, Aim as aim, Action, Action as act, cond_both, Stays, all_taken, emptying, is_back, is_emptied, emptying_victim, by_end, told_reads, told_online, told_process, SameSeats, schedule_laws_end_kept as end_kept, leave_kept, load_kept, one_run, one_seat, runs_kept, seats_kept, effected}

-- ---- nobody's process and run changes

pub record Sits (s t : State) : Type 0 where
  pub plan : t.plan ≡ s.plan
  pub runs : t.runs ≡ s.runs
  pub ready : t.ready ≡ s.ready
  pub processors : t.processors ≡ s.processors

pub still : {s t : State} → t.plan ≡ s.plan → t.runs ≡ s.runs → t.ready ≡ s.ready → t.processors ≡ s.processors
    → Sits s t
still a b c d = assumption

pub sits : {s t : State} → Stays s t → Sits s t
sits h = assumption

sits_kept : {s t : State} → Sits s t → IsScheduled s → IsScheduled t
sits_kept same h = rw same.plan (rw (same.runs, same.ready, same.processors) h)

-- ---- a command is answered

-- a processor's process goes on, and its next command isn't its end
pub record IsAnswering (s : State) (c : ℕ) : Type 0 where
  pub process : ℕ
  pub its : (cpu_at s.processors c).process ≡ Some process
  pub known : process < length s.runs
  pub more : is_its_end (next_command s process) ≡ false

more_run : (run : Run) (x : Option Command) (r : Reply) → run.ended ≡ false → is_its_end x ≡ false
    → (run_after run x r).ended ≡ false
more_run run x r going more = cond_both (goes_on run x r) _ _ (λ (u : Run). u.ended ≡ false) (λ e. going) (λ e. more)

nobody_released : (p : Plan) (k : ℕ) (x : Option Command) → is_its_end x ≡ false → released_by p k x ≡ []
nobody_released p k None more = refl
nobody_released p k (Some c) more = by (is_end c) more
  where
    by : (b : Bool) → b ≡ false → cond (b && (p.initializer && eqb k 0)) (range 1 (length p.processes - 1)) [] ≡ []
    by false e = refl
    by true e = cc

told_kept : (s : State) (c : ℕ) {k : ℕ} (f : Option ℕ) (r : Reply) → IsScheduled s → c < length s.processors
    → (cpu_at s.processors c).process ≡ Some k → k < length s.runs → is_its_end (next_command s k) ≡ false
    → IsScheduled (told_by s c k f r)
told_kept s c {k} f r h there its known more = rw (← (sym (append-nil s.ready) ∙ ap (λ (q : List ℕ). s.ready ++ q)
    (sym (nobody_released s.plan k (next_command s k) more))))
    (runs_kept
    (one_run s.runs k (run_after (run_at s.runs k) (next_command s k) r) known (h.running c k its).going
    (more_run (run_at s.runs k) (next_command s k) r (h.running c k its).going more))
    (seats_kept (one_seat c _ there refl (λ e. e)) h))

-- the machine is answered after steps that leave all as it is
told_after : (s b : State) (c : ℕ) (f : Option ℕ) (r : Reply) → Sits s b → IsScheduled s → c < length s.processors
    → IsAnswering s c → IsScheduled (told b c f r)
told_after s b c f r same h there a = rw (ap or_zero its) (told_kept b c f r (sits_kept same h)
    (rw same.processors there) its (rw same.runs a.known) (cc))
  where
    its : (cpu_at b.processors c).process ≡ Some a.process
    its = cc

    next : next_command b a.process ≡ next_command s a.process
    next = λ i. next_command (record s { plan = same.plan i; runs = same.runs i }) a.process

-- ---- a process ends

module _ (b : State) (c k : ℕ) (r : Reply) (h : IsScheduled b) (there : c < length b.processors)
    (its : (cpu_at b.processors c).process ≡ Some k) (known : k < length b.runs)
    (next : next_command b k ≡ Some command.End) where
  abbrev run : Run
  run = run_after (run_at b.runs k) (next_command b k) r

  abbrev ps : List Processor
  ps = (told_by b c k None r).processors

  abbrev now : Processor
  now = processor_at (left_at (told_by b c k None r) c).processors c

  over : run.ended ≡ true
  over = cc

  seats : SameSeats b.processors ps
  seats = one_seat c _ there refl (λ e. e)

  its_still : (cpu_at ps c).process ≡ Some k
  its_still = seats.process c ∙ its

  ready_is : (left_at (told_by b c k None r) c).ready
      ≡ b.ready ++ cond (b.plan.initializer && eqb k 0) (range 1 (length b.plan.processes - 1)) []
  ready_is = rw ((ap or_zero its_still), get_or-set_same b.runs k run no_run known, over, next)

  pub ended_kept : IsScheduled (left_at (told_by b c k None r) c)
  ended_kept = rw ready_is (end_kept b.plan b.runs b.ready ps c k _ run (rw (length-set b.processors c _) there) known
      (seats_kept seats h) its_still refl over)

-- ---- each action

-- what an action asks of the processes
abbrev pub MaySchedule : State → ℕ → Outcome → Action → Type 0
MaySchedule s c o (act.EndTransfer t) = o.failed ≡ true → IsAnswering s c
MaySchedule s c o (act.Load n) = ((cpu_at s.processors c).online ≡ true) × ((cpu_at s.processors c).process ≡ None)
    × IsFront s.ready n
MaySchedule s c o act.Leave = (k : ℕ) × ((cpu_at s.processors c).process ≡ Some k)
MaySchedule s c o (act.Through f r) = IsAnswering s c
MaySchedule s c o (act.Plain r) = IsAnswering s c
MaySchedule s c o (act.Answer r) = IsAnswering s c
MaySchedule s c o (act.Create f u p r) = IsAnswering s c
MaySchedule s c o (act.FinishEviction f) = o.failed ≡ true → IsAnswering s c
MaySchedule s c o (act.FinishPage f) = o.failed ≡ true → IsAnswering s c
MaySchedule s c o (act.CopyPage m p) = o.failed ≡ true → IsAnswering s c
MaySchedule s c o act.Commit = (k : ℕ) × ((cpu_at s.processors c).process ≡ Some k) × (k < length s.runs)
MaySchedule s c o _ = Unit {0}

pub told_seats : (s : State) (c : ℕ) (w : What) → SameSeats s.processors (told_from c w 0 s.processors)
told_seats s c w = record {
  process = λ d. cc (told_reads c w s.processors 0 d, told_process c w (0 + d) (processor_at s.processors d));
  online = λ d h. cc (told_reads c w s.processors 0 d, told_online c w (0 + d) (processor_at s.processors d));
}

front_is : (s : State) {n : ℕ} (xs : List ℕ) → s.ready ≡ xs → IsFront xs n → s.ready ≡ n ∷ drop 1 s.ready
front_is s [] e h = absurd h
front_is s (x ∷ xs) e h = e ∙ λ i. h i ∷ drop 1 (sym e i)

module _ (s : State) (c : ℕ) (o : Outcome) (h : IsScheduled s) (there : c < length s.processors) where
  one_changed : (p : Processor) → p.cpu.process ≡ (cpu_at s.processors c).process
      → ((cpu_at s.processors c).online ≡ true → p.cpu.online ≡ true)
      → AreScheduled s.plan s.runs s.ready (set s.processors c p)
  one_changed p process online = seats_kept (one_seat c p there process online) h

  plain : (cmd : Command) → is_end cmd ≡ false → (k : ℕ) → (cpu_at s.processors c).process ≡ Some k → k < length s.runs
      → next_command s k ≡ Some cmd
      → IsScheduled (told (effected s (process_at s c) cmd) c None (reply_of s (process_at s c) cmd))
  plain cmd more k its known next = told_after s (effected s (process_at s c) cmd) c None
      (reply_of s (process_at s c) cmd) (still refl refl refl refl) h there
      (record { process = k; its = its; known = known; more = cc })

  command_kept : (x : Option Command) {k : ℕ} → (cpu_at s.processors c).process ≡ Some k → k < length s.runs
      → next_command s k ≡ x → IsScheduled (committed_at s c x)
  command_kept None its known next = h
  command_kept (Some command.End) {k} its known next = rw (ap or_zero its) (ended_kept (effected s k command.End) c k
      (reply_of s k command.End) h there its known next)
  command_kept (Some (command.MkDir path volume)) {k} its known next = plain
      (command.MkDir path volume) refl k its known next
  command_kept (Some (command.MkSeg path pages volume)) {k} its known next =
      plain (command.MkSeg path pages volume) refl k its known next
  command_kept (Some (command.Initiate path)) {k} its known next = plain (command.Initiate path) refl k its known next
  command_kept (Some (command.Terminate n)) {k} its known next = plain (command.Terminate n) refl k its known next
  command_kept (Some (command.Acl path row m)) {k} its known next = plain (command.Acl path row m) refl k its known next
  command_kept (Some (command.Length path pages)) {k} its known next =
      plain (command.Length path pages) refl k its known next
  command_kept (Some (command.Truncate path words)) {k} its known next =
      plain (command.Truncate path words) refl k its known next
  command_kept (Some (command.Delete path)) {k} its known next = plain (command.Delete path) refl k its known next
  command_kept (Some (command.Move path amount)) {k} its known next = plain
      (command.Move path amount) refl k its known next
  command_kept (Some (command.Status path)) {k} its known next = plain (command.Status path) refl k its known next
  command_kept (Some (command.Read n w)) {k} its known next = plain (command.Read n w) refl k its known next
  command_kept (Some (command.Write n w x)) {k} its known next = plain (command.Write n w x) refl k its known next
  command_kept (Some (command.Add n w x)) {k} its known next = plain (command.Add n w x) refl k its known next
  command_kept (Some (command.Await n w x t)) {k} its known next = plain (command.Await n w x t) refl k its known next

  -- a write failed
  failed_kept : IsAnswering s c → IsScheduled (write_failed s c o.faults)
  failed_kept may = told_after s _ c None reply.Device (sits (is_back s c o.faults)) h there may

  -- what an action asks of the processes is all that it wants
  pub schedule_kept : (a : Action) → MaySchedule s c o a → IsScheduled (after s c a o)
  unfolding after
  schedule_kept act.Online may = one_changed _ refl (λ e. refl)
  schedule_kept (act.Clear w) may = one_changed _ refl (λ e. e)
  schedule_kept (act.EndTransfer t) may = by_end IsScheduled o _ _
      (λ e. one_changed _ refl (λ e. e)) (λ failed. told_after (frame_lost s c t)
      (fault_told (frame_lost s c t) (Some (process_at s c)) o.faults) c None reply.Device
      (still refl refl refl refl) (one_changed _ refl (λ e. e)) (rw (length-set s.processors c _) there) (record {
        process = (may failed).process;
        its = ap (λ (p : Processor). p.cpu.process) (get_or-set_same s.processors c _ no_processor there)
            ∙ (may failed).its;
        known = (may failed).known;
        more = (may failed).more;
      }))
  schedule_kept (act.Load n) may = load_kept s.plan s.runs s.processors c _ there n (drop 1 s.ready)
      (rw (← (front_is s s.ready refl may.2)) h) may.1 refl may.0
  schedule_kept act.Leave may = leaves (run_at s.runs (process_at s c)).ended refl
    where
      leaves : (b : Bool) → (run_at s.runs (process_at s c)).ended ≡ b
          → AreScheduled s.plan s.runs (cond b s.ready (s.ready ++ process_at s c ∷ [])) (left_at s c).processors
      leaves true e = cc (sym e ∙
          (subst (λ (j : ℕ). (run_at s.runs j).ended ≡ false) (cc) (h.running c may.0 may.1).going))
      leaves false e = subst (λ (j : ℕ). AreScheduled s.plan s.runs (s.ready ++ j ∷ []) (left_at s c).processors)
          (cc) (leave_kept s.plan s.runs s.processors c _ there may.0 s.ready h may.1 refl)
  schedule_kept (act.FillSeg n) may = one_changed _ refl (λ e. e)
  schedule_kept (act.FillPage f r) may = one_changed _ refl (λ e. e)
  schedule_kept (act.Through f r) may = told_after s (with_store s (with_pages s.store (pages_after s.store.pages f r)))
      c (Some f) (word_reply (old_word s.store.pages f r) r.kind) (still refl refl refl refl) h there may
  schedule_kept (act.Plain r) may = told_after s s c None r (still refl refl refl refl) h there may
  schedule_kept (act.Answer r) may = told_after s s c None r (still refl refl refl refl) h there may
  schedule_kept (act.Create f u p r) may = told_after s (page_made s f u p r) c None (word_reply 0 r.kind)
      (still refl refl refl refl) h there may
  schedule_kept (act.Start f u p) may = one_changed _ refl (λ e. e)
  schedule_kept (act.Empty u) may = sits_kept (sits (emptying s c u)) h
  schedule_kept (act.EmptyVictim pool chain u) may = sits_kept (sits (emptying_victim s c pool chain u)) h
  schedule_kept (act.TakeAway fs pairs w) may = sits_kept (sits (all_taken s c aim.Committing w fs pairs)) h
  schedule_kept (act.CopyPage m p) may = by_end IsScheduled o _ _ (λ e. h)
      (λ failed. told_after s (fault_told (with_store s (without_move s.store)) (Some (process_at s c)) o.faults) c None
      reply.Device (still refl refl refl refl) h there (may failed))
  schedule_kept (act.Signal w) may = seats_kept (told_seats s c w) h
  schedule_kept (act.FinishEviction f) may = by_end IsScheduled o _ _ (λ e. h) (λ e. failed_kept (may e))
  schedule_kept (act.FinishPage f) may = by_end IsScheduled o _ _ (λ e. h) (λ e. failed_kept (may e))
  schedule_kept (act.Deactivate u) may = sits_kept (sits (is_emptied s c u)) h
  schedule_kept act.Commit may = command_kept (next_command s (process_at s c)) may.1 may.2 (cc)
  schedule_kept _ may = h
