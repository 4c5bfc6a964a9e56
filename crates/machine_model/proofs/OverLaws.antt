-- Once no process is ready or running nobody owns the supervisor, and no processor holds anything, is to drop anything,
-- or reads a page; and a drive's failure may be told of no process.
use Rattle.machine_model.proofs.Kept.{◌≡◌, ◌≢◌, ℕ, zero, suc, true, false, length, is_some, List, [], ◌∷◌, get_or, Option, Some, None, inl, inr, refl, sym, ap, ◌∙◌, arith, cases_lt, get_or_past, What, Transfer, MayFault, have_ended, Progress, progress_of, is_over, KeepsAll, cpu_at, flat_of, no_run, processor_at, Owner, State, AreIdle, Run, none_some, over_ended, over_idle}
use Rattle.machine_model.proofs.VisitKept.{AreBare}

-- ---- of lists of progress

abbrev past : Progress
past = record { place = 0; tries = 0; ended = true; faulted = false }

each_ended : (xs : List Progress) → ((i : ℕ) → (get_or xs i past).ended ≡ true) → have_ended xs ≡ true
each_ended [] h = refl
each_ended (x ∷ xs) h = rw (h zero) (each_ended xs (λ i. h (suc i)))

module _ (s : State) (all : KeepsAll s) (over : is_over s ≡ true) where
  -- no processor has a process
  pub over_none : (d : ℕ) → (cpu_at s.processors d).process ≡ None
  over_none d = by (cpu_at s.processors d).process refl
    where
      by : (x : Option ℕ) → (cpu_at s.processors d).process ≡ x → x ≡ None
      by None e = refl
      by (Some k) e = absurd (over_idle s over d k e)

  -- nobody owns the supervisor
  pub over_free : s.owner ≡ None
  over_free = by s.owner refl
    where
      by : (x : Option Owner) → s.owner ≡ x → x ≡ None
      by None e = refl
      by (Some q) e = cc (sym (all.machine.keeps.at_work q e).busy ∙ ap (λ (x : Option ℕ). is_some x) (over_none q.cpu))

  pub over_bare : AreIdle s.processors → AreBare s
  over_bare idle = record {
    held = λ d. idle.held d (over_none d);
    due = λ d. by d (processor_at s.processors d).cpu.due refl;
  }
    where
      by : (d : ℕ) (x : Option What) → (processor_at s.processors d).cpu.due ≡ x → x ≡ None
      by d None e = refl
      by d (Some w) e = cc (over_free, all.machine.keeps.book.going_owned.due d w e)

  -- no page is being read
  pub over_unread : (d : ℕ) (t : Transfer) → (cpu_at s.processors d).transfer ≢ Some t
  over_unread d t h = none_some (sym (over_none d) ∙ (all.reading.each d t h).its)

  -- every process has ended in the flat store
  each_over : (k : ℕ) → (progress_of (flat_of s) k).ended ≡ true
  each_over k = (all.machine.keeps.book.runs k).ended ∙ elim (cases_lt k (length s.plan.processes)) [
    | inl lt ↦ over_ended s all over k lt
    | inr far ↦ ap (λ (r : Run). r.ended) (get_or_past s.runs k no_run (omega arith))
  ]

  -- so a drive's failure may be told of none
  pub over_faults : MayFault (flat_of s) None
  over_faults = each_ended (flat_of s).processes each_over
