-- A processor without a process holds nothing, and after each action of a step too.
use Rattle.machine_model.proofs.Laws.{◌≡◌, ◌≢◌, ◌<◌, ℕ, ◌+◌, true, false, eqb, set, length, List, Option, Some, None, ◌⊎◌, inl, inr, refl, sym, subst, eqb_tells, get_or-set_other, get_or-set_same, length-set, What, nothing_held, Command, Processor, Outcome, after, committed_at, told_from, write_failed, cpu_at, next_command, no_processor, process_at, processor_at, AreIdle, State, Command as command, Aim as aim, jobs_told_at as told_at, Action, Action as act, by_end, Stays, job_stays_all_back as all_back, all_taken, emptying, job_stays_evicted as evicted, evicting, is_back, is_emptied, page_left, emptying_victim, told_reads, told_has, told_process}

-- ---- one processor is another

set_idle : {ps : List Processor} (c : ℕ) (p : Processor) → c < length ps → AreIdle ps
    → (p.cpu.process ≡ None → p.cpu.assoc ≡ nothing_held) → AreIdle (set ps c p)
set_idle {ps} c p there h one = record { held = λ d i. by d i (eqb_tells c d) }
  where
    by : (d : ℕ) → (cpu_at (set ps c p) d).process ≡ None
        → ((eqb c d ≡ true) × (c ≡ d)) ⊎ ((eqb c d ≡ false) × (c ≢ d)) → (cpu_at (set ps c p) d).assoc ≡ nothing_held
    by d i (inl same) = subst (λ (j : ℕ). (cpu_at (set ps c p) j).assoc ≡ nothing_held) same.1
        (subst (λ (x : Processor). x.cpu.assoc ≡ nothing_held) (sym (get_or-set_same ps c p no_processor there))
        (one (cc (get_or-set_same ps c p no_processor there))))
    by d i (inr other) = subst (λ (x : Processor). x.cpu.assoc ≡ nothing_held)
        (sym (get_or-set_other ps c d p no_processor (λ e. other.1 (sym e))))
        (h.held d (cc (get_or-set_other ps c d p no_processor (λ e. other.1 (sym e)))))

told_idle : (c : ℕ) (w : What) {ps : List Processor} → AreIdle ps → AreIdle (told_from c w 0 ps)
told_idle c w {ps} h = record {
  held = λ d i. subst (λ (x : Processor). x.cpu.assoc ≡ nothing_held) (sym (told_reads c w ps 0 d))
      (by (0 + d) (processor_at ps d) (h.held d (cc (
        told_process c w (0 + d) (processor_at ps d),
        told_reads c w ps 0 d,
      ))));
}
  where
    by : (d : ℕ) (p : Processor) → p.cpu.assoc ≡ nothing_held → (told_at c w d p).cpu.assoc ≡ nothing_held
    by d p g = told_has (λ q. q.cpu.assoc ≡ nothing_held) c w d p (cc) g g

-- ---- each action

-- only a processor that has a process takes entries in
abbrev pub FillsBusy : State → ℕ → Action → Type 0
FillsBusy s c (act.FillSeg n) = (cpu_at s.processors c).process ≢ None
FillsBusy s c (act.FillPage f r) = (cpu_at s.processors c).process ≢ None
FillsBusy s c _ = Unit {0}

module _ (s : State) (c : ℕ) (o : Outcome) (there : c < length s.processors) (h : AreIdle s.processors) where
  one : (p : Processor) → (p.cpu.process ≡ None → p.cpu.assoc ≡ nothing_held) → AreIdle (set s.processors c p)
  one p each = set_idle c p there h each

  abbrev own : (cpu_at s.processors c).process ≡ None → (cpu_at s.processors c).assoc ≡ nothing_held
  own e = h.held c e

  -- the same processors
  same : {t : State} → Stays s t → AreIdle t.processors
  same names = subst AreIdle (sym names.processors) h

  failed : AreIdle (write_failed s c o.faults).processors
  failed = set_idle c _ (rw back.processors there) (same back) (λ e. (same back).held c e)
    where
      back : Stays s (all_back s c o.faults)
      back = is_back s c o.faults

  -- a processor's own entry, and another change of it
  twice : (p q : Processor) → (p.cpu.process ≡ None → p.cpu.assoc ≡ nothing_held)
      → (q.cpu.process ≡ None → q.cpu.assoc ≡ nothing_held) → AreIdle (set (set s.processors c p) c q)
  twice p q a b = set_idle c q (rw (length-set s.processors c p) there) (one p a) b

  commits : (x : Option Command) → AreIdle (committed_at s c x).processors
  commits None = h
  commits (Some command.End) = twice _ _ own (λ e. refl)
  commits (Some _) = one _ own

  -- What holds nothing holds nothing still.
  pub idle_kept : (a : Action) → FillsBusy s c a → AreIdle (after s c a o).processors
  unfolding after
  idle_kept act.Online busy = one _ own
  idle_kept (act.Clear w) busy = one _ (λ e. cc (own e))
  idle_kept (act.EndTransfer t) busy = by_end (λ x. AreIdle x.processors) o _ _ (λ e. one _ own) (λ e.
      (set_idle c _ (rw (length-set s.processors c _) there) (one _ own) (λ e. (one _ own).held c e)))
  idle_kept (act.Load n) busy = one _ (λ e. cc)
  idle_kept act.Leave busy = one _ (λ e. refl)
  idle_kept (act.FillSeg n) busy = one _ (λ e. absurd (busy e))
  idle_kept (act.FillPage f r) busy = one _ (λ e. absurd (busy e))
  idle_kept (act.Through f r) busy = one _ own
  idle_kept (act.Plain r) busy = one _ own
  idle_kept (act.Answer r) busy = one _ own
  idle_kept (act.Create f u p r) busy = one _ own
  idle_kept (act.Start f u p) busy = one _ own
  idle_kept (act.Evict f) busy = same (evicting s c f)
  idle_kept (act.Empty u) busy = same (emptying s c u)
  idle_kept (act.EmptyVictim pool chain u) busy = same (emptying_victim s c pool chain u)
  idle_kept (act.TakeAway fs pairs w) busy = same (all_taken s c aim.Committing w fs pairs)
  idle_kept (act.CopyPage m page) busy = by_end (λ x. AreIdle x.processors) o _ _ (λ e. h) (λ e. one _ own)
  idle_kept (act.Signal w) busy = told_idle c w h
  idle_kept (act.FinishEviction f) busy =
      by_end (λ x. AreIdle x.processors) o _ _ (λ e. same (evicted s c f o.faults)) (λ e. failed)
  idle_kept (act.FinishPage f) busy =
      by_end (λ x. AreIdle x.processors) o _ _ (λ e. same (page_left s f o.faults)) (λ e. failed)
  idle_kept (act.Deactivate u) busy = same (is_emptied s c u)
  idle_kept act.Commit busy = commits (next_command s (process_at s c))
  idle_kept _ busy = h
