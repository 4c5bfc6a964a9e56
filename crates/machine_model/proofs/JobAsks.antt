-- What the owner's job asks where a write fails, and where a segment becomes inactive, follows from what it rests on.
use Rattle.machine_model.proofs.Kept.{◌≡◌, ℕ, Bool, true, false, ◌&&◌, List, [], ◌∷◌, ◌++◌, Option, Some, None, inl, inr, refl, sym, ap, subst, ◌∙◌, get_or-set_same, reference_of, Command, Reference, reply_to_command, takes_effect, after_entry, after_fault, may_fail, store_after, Progress, Store, progress_of, store_after-push, MayAnswerBy, Outcome, IsRun, seen, pages_back, write_failed, IsFaithful, Keeps, StoreSays, copy_failed, cpu_at, cut_of_owner, flat_of, frames_of_owner, next_command, process_at, processor_at, or_zero, run_at, shown, State, fault_told, with_owner, MayFailBy, Processor, length-set, Rose, Cpu, Transfer, frame_lost, transfer_failed, no_processor, Run, HasTurn, is_its_end, going_within, Entry as entry, Reply as reply, one_still, alike_shown, fault_alike, fails_more, may_fail_is, says_laws_back_on as back_on, pages_are_back, segs_are_back, is_back, Speaks, can_tell, tell_kept_CanTell as CanTell, all_back, runs_failed}
use Rattle.machine_model.proofs.MovingKept.{copy_failing}
use Rattle.machine_model.proofs.StepKept.{CanLose, CanFailWrite, CanFailCopy}
use Rattle.machine_model.proofs.ScheduleKept.{IsAnswering, Sits, still}

-- ---- a failure is told

-- a process of which a failure was told may be answered so
pub device_tell : {b : State} {c k : ℕ} {cmd : Command} → Speaks b c k cmd → (progress_of (flat_of b) k).faulted ≡ true
    → may_fail cmd (reply_to_command b.plan (flat_of b) k cmd) ≡ true → CanTell b c k None reply.Device
device_tell {b} {c} {k} {cmd} sp faulted may = can_tell None reply.Device sp (inr (assumption)) (by (reference_of cmd))
  where
    off : (x : Bool) → (x && false) ≡ true → ⊥
    off true h = let none = h in cc
    off false h = let none = h in cc

    by : (x : Option Reference) → MayAnswerBy b.plan (flat_of b) (shown (seen b)) c k None cmd reply.Device x
    by (Some r) = inl refl
    by None = record {
      without = refl;
      out = λ h. absurd (off (takes_effect (reply_to_command b.plan (flat_of b) k cmd)) h);
    }

faulted_now : (t : Store) (k : ℕ) → (progress_of t k).ended ≡ false
    → (progress_of (after_fault t (Some k)) k).faulted ≡ true
faulted_now t k h = ap (λ (q : Progress). q.faulted)
    (get_or-set_same t.processes k (record (progress_of t k) { faulted = true }) _ (going_within t k h))

fault_is : (s : State) (k : ℕ) → store_after s.plan (s.entries ++ entry.Fault (Some k) ∷ [])
    ≡ after_fault (flat_of s) (Some k)
unfolding after_entry
fault_is s k = store_after-push s.plan s.entries (entry.Fault (Some k))

-- the machine after the failure was told of a process, and steps that leave all of it as it is
module _ {s b : State} {c k : ℕ} {cmd : Command} (keeps : Keeps s) (sp : Speaks s c k cmd) (same : Sits s b)
    (flat : flat_of b ≡ after_fault (flat_of s) (Some k)) (may : MayFailBy s.store k (Some cmd)) where
  speaks_still : Speaks b c k cmd
  speaks_still = record {
    there = rw same.processors sp.there;
    known = rw same.runs sp.known;
    its = cc;
    next = (λ i. next_command (record s { plan = same.plan i; runs = same.runs i }) k) ∙ sp.next;
    going = cc;
    turn = rw (← same.plan) at (subst (λ (rs : List Run). HasTurn s.plan rs k) (sym same.runs) sp.turn);
    runs = λ j. (rw (← same.runs) at (subst (λ (t : Store). IsRun (progress_of t j) (run_at s.runs j)) (sym flat)
        (runs_failed (flat_of s) (Some k) (λ i. run_at s.runs i) sp.runs j)));
  }

  shown_still : IsFaithful s.plan (flat_of b) s.store
  shown_still = alike_shown (flat_of b)
      (rw (← (fault_is s k ∙ sym flat)) (fault_alike s.plan s.entries (Some k))) keeps.faithful

  pub failure_tell : CanTell b c k None reply.Device
  failure_tell = device_tell speaks_still (cc (faulted_now (flat_of s) k ((sp.runs k).ended ∙ sp.going)))
      (rw (← same.plan) at (may_fail_is s k shown_still cmd may))

-- ---- a write fails

module _ {s : State} {c : ℕ} (o : Outcome) {cmd : Command} (keeps : Keeps s) (sp : Speaks s c (process_at s c) cmd)
    (may : MayFailBy s.store (process_at s c) (Some cmd)) where
  abbrev back : State
  back = with_owner (all_back s c o.faults (frames_of_owner s.owner) (cut_of_owner s.owner)) None

  abbrev fault_state : State
  fault_state = fault_told s (Some (process_at s c)) o.faults

  back_sits : Sits s back
  back_sits = let all = is_back s c o.faults in still all.plan all.runs all.ready all.processors

  back_flat : flat_of back ≡ after_fault (flat_of s) (Some (process_at s c))
  back_flat = (back_on (pages_are_back fault_state (frames_of_owner s.owner))
      (segs_are_back (pages_back fault_state (frames_of_owner s.owner)) (cut_of_owner s.owner))).flat
      ∙ fault_is s (process_at s c)

  pub write_asks : Rose s.faults o.faults → StoreSays (write_failed s c o.faults) → CanFailWrite s c o × IsAnswering s c
  write_asks rose says = (
    record {
      rose = rose;
      may = (sp.runs (process_at s c)).ended ∙ sp.going;
      tell = subst (λ (j : ℕ). CanTell back c j None reply.Device)
          (sym (ap (λ (ps : List Processor). or_zero (processor_at ps c).cpu.process) back_sits.processors))
          (failure_tell keeps sp back_sits back_flat may);
      says = says;
    },
    record {
      process = process_at s c;
      its = sp.its;
      known = sp.known;
      more = ap (λ (x : Option Command). is_its_end x) sp.next ∙ fails_more s (process_at s c) keeps.faithful cmd may;
    },
  )

-- ---- a page of a segment that moves can't be copied

pub copy_asks : {s : State} {c : ℕ} (o : Outcome) {cmd : Command} → Keeps s → Speaks s c (process_at s c) cmd
    → MayFailBy s.store (process_at s c) (Some cmd) → Rose s.faults o.faults → StoreSays (copy_failed s c o.faults)
    → CanFailCopy s c o
copy_asks {s} {c} o {cmd} keeps sp may rose says = assumption (
  (sp.runs (process_at s c)).ended ∙ sp.going,
  failure_tell keeps sp (still {t = copy_failing s c o.faults} refl refl refl refl) (fault_is s (process_at s c)) may,
)

-- ---- a page can't be read in

module _ (s : State) (c : ℕ) (o : Outcome) (t : Transfer) (cmd : Command) (keeps : Keeps s)
    (sp : Speaks s c (process_at s c) cmd) (may : MayFailBy s.store (process_at s c) (Some cmd)) where
  abbrev k : ℕ
  k = process_at s c

  abbrev lost : State
  lost = fault_told (frame_lost s c t) (Some k) o.faults

  lost_flat : flat_of lost ≡ after_fault (flat_of s) (Some k)
  unfolding after_entry
  lost_flat = cc (
    store_after-push s.plan (s.entries ++ entry.Lose t.frame ∷ []) (entry.Fault (Some k)),
    one_still s.plan s.entries (entry.Lose t.frame) refl,
  )

  lost_here : cpu_at lost.processors c ≡ record (cpu_at s.processors c) { transfer = None }
  lost_here = ap (λ (p : Processor). p.cpu) (get_or-set_same s.processors c _ no_processor sp.there)

  lost_speaks : Speaks lost c k cmd
  lost_speaks = record {
    there = rw (length-set s.processors c _) sp.there;
    known = sp.known;
    its = cc (lost_here, sp.its);
    next = sp.next;
    going = sp.going;
    turn = sp.turn;
    runs = λ j. (rw lost_flat (runs_failed (flat_of s) (Some k) (λ i. run_at s.runs i) sp.runs j));
  }

  lost_shown : IsFaithful s.plan (flat_of lost) s.store
  lost_shown = alike_shown (flat_of lost)
      (rw (← (fault_is s k ∙ sym lost_flat)) (fault_alike s.plan s.entries (Some k))) keeps.faithful

  pub read_asks : Rose s.faults o.faults → StoreSays (transfer_failed s c t o.faults)
      → CanLose s c t o.faults × IsAnswering s c
  read_asks rose says = (
    assumption (
      ap (λ (x : Store). (progress_of x k).ended) (one_still s.plan s.entries (entry.Lose t.frame) refl)
          ∙ ((sp.runs k).ended ∙ sp.going),
      subst (λ (j : ℕ). CanTell lost c j None reply.Device) (sym (ap (λ (x : Cpu). or_zero x.process) lost_here))
          (device_tell lost_speaks (ap (λ (x : Store). (progress_of x k).faulted) lost_flat ∙ faulted_now
          (flat_of s) k ((sp.runs k).ended ∙ sp.going)) (may_fail_is s k lost_shown cmd may)),
    ),
    record {
      process = k;
      its = sp.its;
      known = sp.known;
      more = ap (λ (x : Option Command). is_its_end x) sp.next ∙ fails_more s k keeps.faithful cmd may;
    },
  )
