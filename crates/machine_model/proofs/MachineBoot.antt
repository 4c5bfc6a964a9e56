-- The whole promise holds of the machine at first.
use Rattle.machine_model.proofs.StepBasics.{◌≡◌, ◌≢◌, ◌⊎◌, ◌<◌, ℕ, Bool, true, false, cond, eqb, List, [], ◌∷◌, length, replicate, Some, inl, inr, refl, sym, ap, ◌∙◌, arith, eqb_tells, get_or-replicate, BeginsWithInitializer, IsPlan, Plan, ProcessPlan, Transfer, has, range, booted, first_run, AreDistinct, StoreSays, KeepsAll, cpu_at, no_processor, no_run, run_at, HasTurn, IsScheduled, MayRun, Processor, zero, suc, get_or, None, subst, sum, list_any, length-replicate, bound_page, started_page, no_segments, is_for, Progress, at_first, boot, progress_of, legal_nil, store_after-nil, ready_at_first, clean_nil, custody_after-nil, fine_first, IsRun, KeepsBook, led_to, seen, Keeps, is_active, Seen, Run, Frame as frame, Ptw as ptw, Sdw as sdw, in_range, schedule_laws_range_has as range_has, range_once, none_some, inactive_blank, map_list, kept_with}
use Rattle.machine_model.proofs.FitsKept.{none_fits}
use Rattle.machine_model.proofs.ComingLaws.{booted_come}
use Rattle.machine_model.proofs.WorkStep.{none_work}

-- ---- The machine keeps its promise at first, where its store does.

-- ---- lists of one value

module _ {A : Type 0} where
  -- each element of a list of one value is that, and so is the default past its end
  pub at_fill : (n : ℕ) (x : A) (i : ℕ) → get_or (replicate n x) i x ≡ x
  at_fill (suc n) x (suc i) = at_fill n x i
  at_fill _ x _ = refl

  none_of : (p : A → Bool) (n : ℕ) (x : A) → p x ≡ false → list_any p (replicate n x) ≡ false
  none_of p zero x h = refl
  none_of p (suc n) x h = rw h (none_of p n x h)

-- ---- what custody sees at first

-- nothing is bound, read, active or connected, and no processor takes part
abbrev blank : Plan → (ℕ → Run) → Seen
blank p runs = record {
  plan = p;
  entries = [];
  bound = λ f. None;
  reads = λ f. None;
  words = λ u q. ptw.Null;
  active = λ u. false;
  linked = λ k n. None;
  ready = ready_at_first p;
  processors = λ c. no_processor;
  owner = None;
  runs = runs;
}

blank_keeps : (p : Plan) (runs : ℕ → Run) → ((k : ℕ) → IsRun (progress_of (boot p) k) (runs k))
    → KeepsBook (blank p runs)
blank_keeps p runs are = record {
  legal = legal_nil p;
  clean = clean_nil p;
  held = sym (custody_after-nil p);
  stale_due = fine_first p;
  going_owned = record {
    frames = λ f. refl;
    cuts = λ k n. refl;
    once = tt;
    apart = tt;
    due = λ d w h. cc;
    alive = λ d w h. cc;
    says = λ w h. cc;
    shaped = tt;
  };
  tied = record {
    named = λ f u q h. cc;
    back = λ f u q h. cc;
    out = λ f u q h. cc;
    alone = λ f g u q h. cc;
    unbound = λ f u q h. cc;
  };
  holding_right = λ d. record {
    pages = tt;
    segs = refl;
    few_pages = omega arith;
    few_segs = omega arith;
    warned = λ w h. cc;
  };
  under_way = record { reading = λ d t h. cc; reader = λ f u q h. cc; alone = λ d e t v h. cc };
  runs = λ k. rw (store_after-nil p) (are k);
}

-- ---- the machine at first

faults_alone : (dss n k j : ℕ) → get_or (get_or (replicate dss (replicate n sdw.Fault)) k []) j sdw.Fault ≡ sdw.Fault
faults_alone zero n k j = refl
faults_alone (suc m) n zero j = at_fill n sdw.Fault j
faults_alone (suc m) n (suc k) j = faults_alone m n k j

abbrev no_progress : Progress
no_progress = record { place = 0; tries = 0; ended = true; faulted = false }

runs_alone : (n k : ℕ) → IsRun (get_or (replicate n at_first) k no_progress) (get_or (replicate n first_run) k no_run)
runs_alone (suc n) (suc k) = runs_alone n k
runs_alone _ _ = assumption

runs_first : (p : Plan) (k : ℕ) → IsRun (progress_of (boot p) k)
    (get_or (replicate (length p.processes) first_run) k no_run)
unfolding boot
runs_first p k = runs_alone (length p.processes) k

first_inactive : (p : Plan) (u : ℕ) → is_active (no_segments p.pools) u ≡ false
first_inactive p u = none_of (is_for u) (sum p.pools) None refl

first_seen : (p : Plan) (words : List (List ℕ)) (disks : List (List (List ℕ)))
    → length (no_segments p.pools).tables ≡ length (no_segments p.pools).entries
    → seen (booted p words disks) ≡ blank p (λ k. get_or (replicate (length p.processes) first_run) k no_run)
first_seen p words disks tables = λ i. record
    (blank p (λ k. get_or (replicate (length p.processes) first_run) k no_run)) {
      bound = λ f. (map_list bound_page (replicate p.frames frame.Free) f frame.Free
          ∙ ap bound_page (at_fill p.frames frame.Free f)) i;
      reads = λ f. (map_list started_page (replicate p.frames frame.Free) f frame.Free
          ∙ ap started_page (at_fill p.frames frame.Free f)) i;
      words = λ u q. inactive_blank (no_segments p.pools) u tables (first_inactive p u) q i;
      active = λ u. first_inactive p u i;
      linked = λ k n. ap (led_to (no_segments p.pools).entries) (faults_alone (length p.processes) 256 k n) i;
      processors = λ c. at_fill p.processors no_processor c i;
    }

-- The machine keeps its promise at first: what the store says of itself is all that it wants.
pub boot_keeps : (p : Plan) (words : List (List ℕ)) (disks : List (List (List ℕ))) → StoreSays (booted p words disks)
    → Keeps (booted p words disks)
boot_keeps p words disks says = kept_with (booted p words disks)
    (subst KeepsBook (sym (first_seen p words disks says.store.kept.places)) (blank_keeps p _ (runs_first p))) says
    (omega arith) (length-replicate p.processors no_processor) (length-replicate (length p.processes) first_run)
    (λ o h. cc)

module _ (p : Plan) (words : List (List ℕ)) (disks : List (List (List ℕ))) (script : IsPlan p) where
  -- no processor has a process
  nobody : (d k : ℕ) → (cpu_at (replicate p.processors no_processor) d).process ≡ Some k → ⊥
  nobody d k h = none_some (sym (ap (λ (x : Processor). x.cpu.process) (at_fill p.processors no_processor d)) ∙ h)

  reads_nothing : (d : ℕ) {t : Transfer} → (cpu_at (replicate p.processors no_processor) d).transfer ≡ Some t → ⊥
  reads_nothing d h = none_some (sym (ap (λ (x : Processor). x.cpu.transfer) (at_fill p.processors no_processor d)) ∙ h)

  goes : (k : ℕ) → k < length p.processes → (run_at (replicate (length p.processes) first_run) k).ended ≡ false
  goes k h = cc (get_or-replicate (length p.processes) k first_run no_run h)

  some_process : (xs : List ProcessPlan) → BeginsWithInitializer xs → 0 < length xs
  some_process [] h = absurd h
  some_process (x ∷ xs) h = omega arith

  -- what is ready at first is of the script, and its turn
  ready_is : (b : Bool) → p.initializer ≡ b → (k : ℕ) → has (cond b (0 ∷ []) (range 0 (length p.processes))) k ≡ true
      → (k < length p.processes) × HasTurn p (replicate (length p.processes) first_run) k
  ready_is true e k h = by (eqb_tells 0 k)
    where
      by : ((eqb 0 k ≡ true) × (0 ≡ k)) ⊎ ((eqb 0 k ≡ false) × (0 ≢ k))
          → (k < length p.processes) × HasTurn p (replicate (length p.processes) first_run) k
      by (inl same) = (rw (← same.1) (some_process p.processes (script.first e)), inr (inl (sym same.1)))
      by (inr other) = cc
  ready_is false e k h = (omega (arith, (in_range 0 (length p.processes) k h).1), inl e)

  once : (b : Bool) → AreDistinct (cond b (0 ∷ []) (range 0 (length p.processes)))
  once true = (refl, tt)
  once false = range_once 0 (length p.processes)

  first_scheduled : IsScheduled (booted p words disks)
  first_scheduled = record {
    running = λ d k h. absurd (nobody d k h);
    online = λ d k h. absurd (nobody d k h);
    alone = λ d e k h g. absurd (nobody d k h);
    waiting = λ k h. (let at = ready_is p.initializer refl k h in assumption (goes k at.0));
    once = once p.initializer;
    apart = λ d k h. absurd (nobody d k h);
    back = λ i e k h. goes k h;
    placed = λ k m. inl (by p.initializer refl k m);
  }
    where
      not_first : p.initializer ≡ true → (k : ℕ) → HasTurn p (replicate (length p.processes) first_run) k → k ≡ 0
      not_first e k (inl off) = absurd (let none : true ≡ false = sym e ∙ off in cc)
      not_first e k (inr (inl same)) = same
      not_first e k (inr (inr ended)) = absurd (let none : false ≡ true =
          sym (goes 0 (some_process p.processes (script.first e))) ∙ ended in cc)

      by : (b : Bool) → p.initializer ≡ b → (k : ℕ) → MayRun p (replicate (length p.processes) first_run) k
          → has (cond b (0 ∷ []) (range 0 (length p.processes))) k ≡ true
      by true e k m = ap (λ (j : ℕ). has (0 ∷ []) j) (not_first e k m.turn)
      by false e k m = let planned = m.planned in range_has 0 (length p.processes) k (omega arith)
          (omega (arith, planned))

  -- The machine keeps all of it at first: what the store says of itself is all that it wants.
  pub boot_keeps_all : StoreSays (booted p words disks) → KeepsAll (booted p words disks)
  boot_keeps_all says = record {
    machine = assumption (boot_keeps p words disks says, booted_come words disks script, first_scheduled);
    entitled = record { each = λ d k h. absurd (nobody d k h) };
    reading = record { each = λ d t h. absurd (reads_nothing d h) };
    working = none_work (booted p words disks) refl;
    fitting = none_fits (booted p words disks) refl;
  }
