-- A processor that does more than take part, drop and load has a process.
use Rattle.machine.proofs.Prelude.{◌≡◌, ◌<◌, ℕ, length, true, false, eqb, List, ◌∷◌, Option, Some, None, refl, sym, ap, ◌∙◌, cond_both, What, Transfer, Processor, action_of, clear_or, go_on_with, load_or_idle, own_or_run, run_process, transfer_or, no_call, Keeps, IsReading, or_zero, process_at, processor_at, Owner, State, action_by, process_here, reads_for, IsBusy, is_of_process, eqb-true, [], Action}

-- what its action tells of a processor
abbrev pub Busy : State → ℕ → Action → Type 0
Busy s c a = is_of_process a ≡ true → IsBusy s c

module _ (s : State) (c : ℕ) (k : Keeps s) (reading : IsReading s) (there : c < length s.processors) where
  abbrev p : Processor
  p = processor_at s.processors c

  none : false ≡ true → IsBusy s c
  none h = cc

  run_busy : (x : Option ℕ) → p.cpu.process ≡ x → Busy s c (run_process s p x)
  run_busy None e = by s.ready
    where
      by : (xs : List ℕ) → Busy s c (load_or_idle s xs)
      by [] = none
      by (n ∷ ns) = none
  run_busy (Some n) e = λ h. e ∙ ap (λ (y : Option ℕ). Some (or_zero y)) (sym e)

  owner_busy : (x : Option Owner) → s.owner ≡ x → Busy s c (own_or_run s c p x)
  owner_busy None e = run_busy p.cpu.process refl
  owner_busy (Some q) e = cond_both (eqb q.cpu c) (go_on_with s (process_at s c) q q.phase)
      (run_process s p p.cpu.process) (Busy s c)
      (λ h g. process_here s c (no_call s) k there (record { owner = q; mine = e; same = eqb-true q.cpu c h }))
      (λ h. run_busy p.cpu.process refl)

  transfer_busy : (x : Option Transfer) → p.cpu.transfer ≡ x → Busy s c (transfer_or s c p x)
  transfer_busy (Some t) e = λ h. (reads_for s c t k reading e).its
  transfer_busy None e = owner_busy s.owner refl

  clear_busy : (x : Option What) → Busy s c (clear_or s c p x)
  clear_busy (Some w) = none
  clear_busy None = transfer_busy p.cpu.transfer refl

  -- the same by the action's name
  pub busy_of : (a : Action) → action_of s c ≡ a → Busy s c a
  busy_of a doing = rw (← doing) (action_by (Busy s c) s c none none (λ off. none) (λ on. clear_busy p.cpu.due))
