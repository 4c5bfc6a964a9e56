-- Which processes run and which are ready, where a process is loaded, leaves its processor, is answered or ends.
use Rattle.machine_model.proofs.Basics.{◌≡◌, ◌≢◌, ◌<◌, ◌≤◌, ℕ, zero, suc, ◌+◌, ◌-◌, Bool, true, false, ◌||◌, ◌&&◌, cond, eqb, List, [], ◌∷◌, ◌++◌, length, set, Some, None, ◌⊎◌, inl, inr, refl, sym, ap, subst, ◌∙◌, arith, eqb_tells, get_or-set_other, get_or-set_same, Plan, has, range, AreDistinct, cpu_at, no_processor, no_run, processor_at, run_at, AreScheduled, HasTurn, MayRun, Processor, Run, append-nil, not_both, or_parts, eqb_self, some_same, false_from_ne_true, put_list, distinct_push, push_other, push_same, by_place, none_some, or_true}

-- ---- nobody's process changes

-- the processors run the same processes, and those that took part do so still
pub record SameSeats (old now : List Processor) : Type 0 where
  pub process : (d : ℕ) → (cpu_at now d).process ≡ (cpu_at old d).process
  pub online : (d : ℕ) → (cpu_at old d).online ≡ true → (cpu_at now d).online ≡ true

pub seats_kept : {p : Plan} {runs : List Run} {ready : List ℕ} {old now : List Processor} → SameSeats old now
    → AreScheduled p runs ready old → AreScheduled p runs ready now
seats_kept same h = record {
  running = λ d k e. h.running d k (sym (same.process d) ∙ e);
  online = λ d k e. same.online d (h.online d k (sym (same.process d) ∙ e));
  alone = λ d e k a b. h.alone d e k (sym (same.process d) ∙ a) (sym (same.process e) ∙ b);
  waiting = h.waiting;
  once = h.once;
  apart = λ d k e. h.apart d k (sym (same.process d) ∙ e);
  back = h.back;
  placed = λ k m. elim (h.placed k m) [ inl r ↦ inl r | inr x ↦ inr (x.0, same.process x.0 ∙ x.1) ];
}

-- one processor changes, and keeps its process
pub one_seat : {ps : List Processor} (c : ℕ) (p : Processor) → c < length ps → p.cpu.process ≡ (cpu_at ps c).process
    → ((cpu_at ps c).online ≡ true → p.cpu.online ≡ true) → SameSeats ps (set ps c p)
one_seat {ps} c p there process online = record {
  process = λ d. cc (
    put_list ps c p no_processor d there,
    by_place (λ (x : Processor). x.cpu.process ≡ (cpu_at ps d).process) (processor_at ps) c p d (λ e. cc) (λ n. refl),
  );
  online = λ d h. cc (
    put_list ps c p no_processor d there,
    by_place (λ (x : Processor). x.cpu.online ≡ true) (processor_at ps) c p d (λ e. online (cc)) (λ n. h),
  );
}

-- ---- how far processes have come

-- each process goes on where it did, and has ended where it had
pub record SameRuns (old now : List Run) : Type 0 where
  pub same : (k : ℕ) → (run_at now k).ended ≡ (run_at old k).ended

turn_kept : (p : Plan) {old now : List Run} (k : ℕ) → SameRuns old now → HasTurn p old k → HasTurn p now k
turn_kept p k same (inl h) = inl h
turn_kept p k same (inr (inl h)) = inr (inl h)
turn_kept p k same (inr (inr h)) = inr (inr (same.same 0 ∙ h))

may_kept : {p : Plan} {old : List Run} (now : List Run) {k : ℕ} → SameRuns old now → MayRun p old k → MayRun p now k
may_kept {p} {old} now {k} same h = assumption (same.same k ∙ h.going, turn_kept p k same h.turn)

pub runs_kept : {p : Plan} {old now : List Run} {ready : List ℕ} {ps : List Processor} → SameRuns old now
    → AreScheduled p old ready ps → AreScheduled p now ready ps
runs_kept {p} {old} {now} same h = record {
  running = λ d k e. may_kept now same (h.running d k e);
  online = h.online;
  alone = h.alone;
  waiting = λ k e. may_kept now same (h.waiting k e);
  once = h.once;
  apart = h.apart;
  back = λ i e k planned. same.same k ∙ h.back i (sym (same.same 0) ∙ e) k planned;
  placed = λ k m. h.placed k (may_kept old (record { same = λ j. sym (same.same j) }) m);
}

-- one process goes on, which went on before
pub one_run : (runs : List Run) (k : ℕ) (run : Run) → k < length runs → (run_at runs k).ended ≡ false
    → run.ended ≡ false → SameRuns runs (set runs k run)
one_run runs k run there was now = record {
  same = λ j. cc (
    put_list runs k run no_run j there,
    by_place (λ (x : Run). x.ended ≡ (run_at runs j).ended) (run_at runs) k run j (λ e. cc) (λ n. refl),
  );
}

-- ---- a processor loads a process, and gives it up

-- the processes once a processor has another one, or none
put_seen : {A : Type 0} (see : Processor → A) (ps : List Processor) (c : ℕ) (p : Processor) → c < length ps → (d : ℕ)
    → (d ≡ c → see (processor_at (set ps c p) d) ≡ see p)
    × (d ≢ c → see (processor_at (set ps c p) d) ≡ see (processor_at ps d))
put_seen see ps c p there d = (
  (λ e. cc (get_or-set_same ps c p no_processor there)),
  (λ n. ap see (get_or-set_other ps c d p no_processor n)),
)

put_process : (ps : List Processor) (c : ℕ) (p : Processor) → c < length ps → (d : ℕ)
    → (d ≡ c → (cpu_at (set ps c p) d).process ≡ p.cpu.process)
    × (d ≢ c → (cpu_at (set ps c p) d).process ≡ (cpu_at ps d).process)
put_process ps c p there d = put_seen (λ x. x.cpu.process) ps c p there d

put_online : (ps : List Processor) (c : ℕ) (p : Processor) → c < length ps → (d : ℕ)
    → (d ≡ c → (cpu_at (set ps c p) d).online ≡ p.cpu.online)
    × (d ≢ c → (cpu_at (set ps c p) d).online ≡ (cpu_at ps d).online)
put_online ps c p there d = put_seen (λ x. x.cpu.online) ps c p there d

either : (d c : ℕ) → (d ≡ c) ⊎ (d ≢ c)
either d c = elim (eqb_tells d c) [ inl e ↦ inl e.1 | inr n ↦ inr n.1 ]

module _ (p : Plan) (runs : List Run) (ps : List Processor) (c : ℕ) (now : Processor) (there : c < length ps) where
  -- the front of the ready list is loaded
  pub load_kept : (k : ℕ) (ready : List ℕ) → AreScheduled p runs (k ∷ ready) ps → (cpu_at ps c).process ≡ None
      → now.cpu.process ≡ Some k → now.cpu.online ≡ true → AreScheduled p runs ready (set ps c now)
  load_kept k ready h none its on = record {
    running = λ d j e. elim (either d c) [
      | inl same ↦ rw (← (mine d j same e)) (h.waiting k front)
      | inr other ↦ h.running d j (sym ((put_process ps c now there d).1 other) ∙ e)
    ];
    online = λ d j e. elim (either d c) [
      | inl same ↦ (put_online ps c now there d).0 same ∙ on
      | inr other ↦ (put_online ps c now there d).1 other
          ∙ h.online d j (sym ((put_process ps c now there d).1 other) ∙ e)
    ];
    alone = λ d e j a b. elim (either d c) [
      | inl same ↦ elim (either e c) [
        | inl also ↦ same ∙ sym also
        | inr other ↦ absurd (not_here e j other b (mine d j same a))
      ]
      | inr other ↦ elim (either e c) [
        | inl same ↦ absurd (not_here d j other a (mine e j same b))
        | inr also ↦ h.alone d e j (sym ((put_process ps c now there d).1 other) ∙ a)
            (sym ((put_process ps c now there e).1 also) ∙ b)
      ]
    ];
    waiting = λ j e. h.waiting j (later j e);
    once = h.once.1;
    apart = λ d j e. elim (either d c) [
      | inl same ↦ rw (← (mine d j same e)) h.once.0
      | inr other ↦ (or_parts (eqb k j) (has ready j)
          (h.apart d j (sym ((put_process ps c now there d).1 other) ∙ e))).1
    ];
    back = h.back;
    placed = λ j m. elim (either j k) [
      | inl same ↦ inr (c, cc ((put_process ps c now there c).0 refl))
      | inr other ↦ elim (h.placed j m) [
        | inl r ↦ inl (still_ready j other r)
        | inr x ↦ elim (either x.0 c) [
          | inl same ↦ absurd (none_some (sym none ∙ (ap (λ (i : ℕ). (cpu_at ps i).process) (sym same) ∙ x.1)))
          | inr away ↦ inr (x.0, (put_process ps c now there x.0).1 away ∙ x.1)
        ]
      ]
    ];
  }
    where
      front : has (k ∷ ready) k ≡ true
      front = cc (eqb_self k)

      still_ready : (j : ℕ) → j ≢ k → has (k ∷ ready) j ≡ true → has ready j ≡ true
      still_ready j other e = elim (eqb_tells k j) [
        | inl i ↦ absurd (other (sym i.1))
        | inr n ↦ sym (cc) ∙ e
      ]

      later : (j : ℕ) → has ready j ≡ true → has (k ∷ ready) j ≡ true
      later j e = rw e (or_true (eqb k j))

      mine : (d j : ℕ) → d ≡ c → (cpu_at (set ps c now) d).process ≡ Some j → k ≡ j
      mine d j same e = some_same k j (cc ((put_process ps c now there d).0 same))

      not_here : (d j : ℕ) → d ≢ c → (cpu_at (set ps c now) d).process ≡ Some j → k ≡ j → ⊥
      not_here d j other e same = not_both (subst (λ (i : ℕ). has (k ∷ ready) i ≡ true) same front)
          (h.apart d j (sym ((put_process ps c now there d).1 other) ∙ e))

  -- the other processors' processes, once one is at its processor no more
  record OthersRun (ready : List ℕ) : Type 0 where
    running : (d j : ℕ) → (cpu_at (set ps c now) d).process ≡ Some j → MayRun p runs j
    online : (d j : ℕ) → (cpu_at (set ps c now) d).process ≡ Some j → (cpu_at (set ps c now) d).online ≡ true
    alone : (d e j : ℕ) → (cpu_at (set ps c now) d).process ≡ Some j → (cpu_at (set ps c now) e).process ≡ Some j
        → d ≡ e
    apart : (d j : ℕ) → (cpu_at (set ps c now) d).process ≡ Some j → has ready j ≡ false

  gone_kept : (k : ℕ) (ready : List ℕ) → AreScheduled p runs ready ps → now.cpu.process ≡ None → OthersRun ready
  gone_kept k ready h none = record {
    running = λ d j e. h.running d j (was d j e);
    online = λ d j e. (put_online ps c now there d).1 (not_here d j e) ∙ h.online d j (was d j e);
    alone = λ d e j a b. h.alone d e j (was d j a) (was e j b);
    apart = λ d j e. h.apart d j (was d j e);
  }
    where
      not_here : (d j : ℕ) → (cpu_at (set ps c now) d).process ≡ Some j → d ≢ c
      not_here d j e same = none_some (sym none ∙ (sym ((put_process ps c now there d).0 same) ∙ e))

      was : (d j : ℕ) → (cpu_at (set ps c now) d).process ≡ Some j → (cpu_at ps d).process ≡ Some j
      was d j e = sym ((put_process ps c now there d).1 (not_here d j e)) ∙ e

  -- it goes to the back of the ready list
  pub leave_kept : (k : ℕ) (ready : List ℕ) → AreScheduled p runs ready ps → (cpu_at ps c).process ≡ Some k
      → now.cpu.process ≡ None → AreScheduled p runs (ready ++ k ∷ []) (set ps c now)
  leave_kept k ready h its none = let gone = gone_kept k ready h none in record {
    running = gone.running;
    online = gone.online;
    alone = gone.alone;
    waiting = λ j e. elim (either j k) [
      | inl same ↦ rw same (h.running c k its)
      | inr other ↦ h.waiting j (sym (push_other ready k j other) ∙ e)
    ];
    once = distinct_push ready k h.once (h.apart c k its);
    apart = λ d j e. elim (either j k) [
      | inl same ↦ absurd (not_there d j e same)
      | inr other ↦ push_other ready k j other ∙ gone.apart d j e
    ];
    back = h.back;
    placed = λ j m. elim (either j k) [
      | inl same ↦ inl (cc (push_same ready k))
      | inr other ↦ elim (h.placed j m) [
        | inl r ↦ inl (push_other ready k j other ∙ r)
        | inr x ↦ elim (either x.0 c) [
          | inl same ↦ absurd (other (some_same j k (cc)))
          | inr away ↦ inr (x.0, (put_process ps c now there x.0).1 away ∙ x.1)
        ]
      ]
    ];
  }
    where
      not_there : (d j : ℕ) → (cpu_at (set ps c now) d).process ≡ Some j → j ≡ k → ⊥
      not_there d j e same = elsewhere d j e (h.alone d c k (cc ((put_process ps c now there d).1 (elsewhere d j e)))
          its)
        where
          elsewhere : (i m : ℕ) → (cpu_at (set ps c now) i).process ≡ Some m → i ≢ c
          elsewhere i m x y = none_some (sym none ∙ (sym ((put_process ps c now there i).0 y) ∙ x))

-- ---- a process ends

-- the numbers from one on
pub in_range : (from n j : ℕ) → has (range from n) j ≡ true → (from ≤ j) × (j < from + n)
in_range from zero j h = cc
in_range from (suc n) j h = elim (eqb_tells from j) [
  | inl e ↦ (let same = e.1 in (omega arith, omega arith))
  | inr m ↦ (let rest = in_range (from + 1) n j (cc) in
      let a = rest.0 in let b = rest.1 in (omega arith, omega arith))
]

not_before : (from n j : ℕ) → j < from → has (range from n) j ≡ false
not_before from n j h =
    false_from_ne_true (has (range from n) j) (λ e. (let at = (in_range from n j e).0 in omega arith))

pub range_has : (from n j : ℕ) → from ≤ j → j < from + n → has (range from n) j ≡ true
range_has from zero j a b = absurd (omega arith)
range_has from (suc n) j a b = elim (eqb_tells from j) [
  | inl e ↦ ap (λ (x : Bool). x || has (range (from + 1) n) j) e.0
  | inr m ↦ (cc (range_has (from + 1) n j (omega arith) (omega arith)))
]

pub range_once : (from n : ℕ) → AreDistinct (range from n)
range_once from zero = tt
range_once from (suc n) = (not_before (from + 1) n from (omega arith), range_once (from + 1) n)

nothing_in : (xs : List ℕ) → ((j : ℕ) → has xs j ≡ false) → xs ≡ []
nothing_in [] h = refl
nothing_in (x ∷ xs) h = cc (eqb_self x, h x)

module _ (p : Plan) (runs : List Run) (ready : List ℕ) (ps : List Processor) (c k : ℕ) (now : Processor) (run : Run)
    (there : c < length ps) (known : k < length runs) (h : AreScheduled p runs ready ps)
    (its : (cpu_at ps c).process ≡ Some k) (none : now.cpu.process ≡ None) (over : run.ended ≡ true) where
  others : (j : ℕ) → j ≢ k → (run_at (set runs k run) j).ended ≡ (run_at runs j).ended
  others j other = cc (get_or-set_other runs k j run no_run other)

  ended_now : (run_at (set runs k run) k).ended ≡ true
  ended_now = cc (get_or-set_same runs k run no_run known)

  gone : OthersRun p runs ps c now there ready
  gone = gone_kept p runs ps c now there k ready h none

  turn_still : (j : ℕ) → HasTurn p runs j → HasTurn p (set runs k run) j
  turn_still j (inl e) = inl e
  turn_still j (inr (inl e)) = inr (inl e)
  turn_still j (inr (inr e)) = inr (inr (elim (either 0 k) [
    | inl same ↦ ap (λ (i : ℕ). (run_at (set runs k run) i).ended) same ∙ ended_now
    | inr other ↦ others 0 other ∙ e
  ]))

  may_still : {j : ℕ} → j ≢ k → MayRun p runs j → MayRun p (set runs k run) j
  may_still {j} other m = assumption (others j other ∙ m.going, turn_still j m.turn)

  not_its : (d j : ℕ) → (cpu_at (set ps c now) d).process ≡ Some j → j ≢ k
  not_its d j e same = none_some (sym none ∙ (sym ((put_process ps c now there d).0 here) ∙ e))
    where
      here : d ≡ c
      here = elim (either d c) [
        | inl x ↦ x
        | inr y ↦ h.alone d c k (cc ((put_process ps c now there d).1 y)) its
      ]

  not_ready : (j : ℕ) → has ready j ≡ true → j ≢ k
  not_ready j e same = not_both (rw (← same) e) (h.apart c k its)

  back_still : p.initializer ≡ true → (run_at (set runs k run) 0).ended ≡ false → (j : ℕ) → j < length p.processes
      → (run_at (set runs k run) j).ended ≡ false
  back_still i e j planned = elim (h.running c k its).turn [
    | inl off ↦ absurd (not_both i off)
    | inr on ↦ elim on [
      | inl first ↦ absurd (not_both (subst (λ (x : ℕ). (run_at (set runs k run) x).ended ≡ true) first ended_now) e)
      | inr ended ↦ absurd (not_both ended_first e)
    ]
  ]
    where
      ended_first : (run_at (set runs k run) 0).ended ≡ true
      ended_first = elim (either 0 k) [
        | inl same ↦ ap (λ (x : ℕ). (run_at (set runs k run) x).ended) same ∙ ended_now
        | inr other ↦ (others 0 other ∙ (elim (h.running c k its).turn [
          | inl off ↦ absurd (not_both i off)
          | inr on ↦
              elim on [ inl first ↦ absurd (other (sym first)) | inr ended ↦ ended ]
        ]))
      ]

  not_over : {j : ℕ} → MayRun p (set runs k run) j → j ≢ k
  not_over m same = not_both (cc (same, ended_now)) m.going

  -- whatever may run could before, where no other process becomes ready by it
  may_before : (p.initializer ≡ true → k ≢ 0) → {j : ℕ} → MayRun p (set runs k run) j → MayRun p runs j
  may_before off {j} m = assumption (sym (others j (not_over m)) ∙ m.going, by p.initializer refl m.turn)
    where
      by : (i : Bool) → p.initializer ≡ i → HasTurn p (set runs k run) j → HasTurn p runs j
      by false e t = inl e
      by true e (inl t) = inl t
      by true e (inr (inl t)) = inr (inl t)
      by true e (inr (inr t)) = inr (inr (sym (others 0 (λ same. off e (sym same))) ∙ t))

  -- no other process becomes ready by it
  plain_end : (p.initializer ≡ true → k ≢ 0) → AreScheduled p (set runs k run) ready (set ps c now)
  plain_end off = record {
    placed = λ j m. elim (h.placed j (may_before off m)) [
      | inl r ↦ inl r
      | inr x ↦ elim (either x.0 c) [
        | inl same ↦ absurd (not_over m (some_same j k (cc same)))
        | inr away ↦ inr (x.0, (put_process ps c now there x.0).1 away ∙ x.1)
      ]
    ];
    running = λ d j e. may_still (not_its d j e) (gone.running d j e);
    online = gone.online;
    alone = gone.alone;
    waiting = λ j e. may_still (not_ready j e) (h.waiting j e);
    once = h.once;
    apart = gone.apart;
    back = back_still;
  }

  module _ (initial : p.initializer ≡ true) (first : k ≡ 0) where
    not_ended : (run_at runs 0).ended ≡ false
    not_ended = subst (λ (i : ℕ). (run_at runs i).ended ≡ false) first (h.running c k its).going

    only_first : (j : ℕ) → MayRun p runs j → j ≡ k
    only_first j m = elim m.turn [
      | inl off ↦ absurd (not_both initial off)
      | inr on ↦ elim on [ inl zero_is ↦ zero_is ∙ sym first | inr ended ↦ absurd (not_both ended not_ended) ]
    ]

    none_ready : ready ≡ []
    none_ready = nothing_in ready (λ j. by j (has ready j) refl)
      where
        by : (j : ℕ) (b : Bool) → has ready j ≡ b → b ≡ false
        by j false e = refl
        by j true e = absurd (not_ready j e (only_first j (h.waiting j e)))

    nobody_runs : (d j : ℕ) → (cpu_at (set ps c now) d).process ≡ Some j → ⊥
    nobody_runs d j e = not_its d j e (only_first j (gone.running d j e))

    -- the others are ready from now on
    initial_end : AreScheduled p (set runs k run) (range 1 (length p.processes - 1)) (set ps c now)
    initial_end = record {
      running = λ d j e. absurd (nobody_runs d j e);
      online = gone.online;
      alone = gone.alone;
      waiting = λ j e. (let at = in_range 1 (length p.processes - 1) j e in let low = at.0 in let high = at.1 in
          let planned : j < length p.processes = omega arith in
          record {
            planned = planned;
            going = others j (λ same. (omega (arith, same ∙ first))) ∙ h.back initial not_ended j planned;
            turn = inr (inr (subst (λ (i : ℕ). (run_at (set runs k run) i).ended ≡ true) first ended_now));
          });
      once = range_once 1 (length p.processes - 1);
      apart = λ d j e. absurd (nobody_runs d j e);
      back = back_still;
      placed = λ j m. inl (let planned = m.planned in range_has 1 (length p.processes - 1) j
          (positive j (λ (z : j ≡ 0). not_over m (cc))) (omega arith));
    }
      where
        positive : (j : ℕ) → j ≢ 0 → 1 ≤ j
        positive zero other = absurd (other refl)
        positive (suc j) other = omega arith

  pub end_kept : AreScheduled p (set runs k run)
      (ready ++ cond (p.initializer && eqb k 0) (range 1 (length p.processes - 1)) []) (set ps c now)
  end_kept = by (p.initializer) (eqb k 0) refl (first_is (eqb k 0) refl) (later_is (eqb k 0) refl)
    where
      first_is : (b : Bool) → eqb k 0 ≡ b → b ≡ true → k ≡ 0
      first_is b e t = elim (eqb_tells k 0) [ inl x ↦ x.1 | inr m ↦ absurd (not_both (e ∙ t) m.0) ]

      later_is : (b : Bool) → eqb k 0 ≡ b → b ≡ false → k ≢ 0
      later_is b e t = elim (eqb_tells k 0) [ inl x ↦ absurd (not_both x.0 (e ∙ t)) | inr m ↦ m.1 ]

      by : (i z : Bool) → p.initializer ≡ i → (z ≡ true → k ≡ 0) → (z ≡ false → k ≢ 0)
          → AreScheduled p (set runs k run) (ready ++ cond (i && z) (range 1 (length p.processes - 1)) [])
          (set ps c now)
      by true true e z other = rw (none_ready e (z refl)) (initial_end e (z refl))
      by true false e z other = rw (← (append-nil ready)) at (plain_end (λ i. other refl))
      by false z e f other = rw (← (append-nil ready)) at (plain_end (λ i first. not_both i e))
