-- No process is ready or running just where every one has ended.
use Rattle.machine.proofs.Prelude.{◌≡◌, ℕ, suc, Bool, true, false, ◌||◌, is_some, List, ◌∷◌, Option, Some, None, refl, sym, ◌∙◌, ◌↔◌, list_any, has_process, is_empty, is_over, KeepsAll, cpu_at, MayRun, State, Processor, flat_ended, HaveEnded, has_head, []}

-- a processor of a list has a process, where one has
busy_found : (ps : List Processor) → list_any has_process ps ≡ true
    → (d : ℕ) × (k : ℕ) × ((cpu_at ps d).process ≡ Some k)
busy_found [] h = cc
busy_found (p ∷ ps) h = by p.cpu.process refl h (busy_found ps)
  where
    by : (x : Option ℕ) → p.cpu.process ≡ x → (is_some x || list_any has_process ps) ≡ true
        → (list_any has_process ps ≡ true → (d : ℕ) × (k : ℕ) × ((cpu_at ps d).process ≡ Some k))
        → (d : ℕ) × (k : ℕ) × ((cpu_at (p ∷ ps) d).process ≡ Some k)
    by (Some k) e i rest = (0, k, e)
    by None e i rest = let later = rest i in (suc later.0, later.1, later.2)

module _ (s : State) (all : KeepsAll s) (ended : HaveEnded s) where
  none_may : (k : ℕ) → MayRun s.plan s.runs k → ⊥
  none_may k may = let over = sym (all.machine.keeps.book.runs k).ended ∙ ended k may.planned in
      let no : true ≡ false = sym over ∙ may.going in absurd cc

  none_ready : is_empty s.ready ≡ true
  none_ready = by s.ready refl
    where
      by : (xs : List ℕ) → s.ready ≡ xs → is_empty xs ≡ true
      by [] e = refl
      by (x ∷ xs) e = absurd (none_may x (all.machine.scheduled.waiting x (cc (has_head x xs))))

  none_busy : list_any has_process s.processors ≡ false
  none_busy = by (list_any has_process s.processors) refl
    where
      by : (b : Bool) → list_any has_process s.processors ≡ b → b ≡ false
      by false e = refl
      by true e = let one = busy_found s.processors e in
          absurd (none_may one.1 (all.machine.scheduled.running one.0 one.1 one.2))

  all_over : is_over s ≡ true
  all_over = cc (none_ready, none_busy)

pub over_ended : (s : State) → KeepsAll s → (is_over s ≡ true) ↔ HaveEnded s
over_ended s all = (flat_ended s all, all_over s all)
