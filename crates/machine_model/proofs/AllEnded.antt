-- Once no process is ready or running each has ended, and the book is complete.
use Rattle.machine_model.proofs.Prelude.{◌≡◌, ◌≢◌, ◌<◌, ℕ, zero, suc, ◌+◌, Bool, true, false, ◌||◌, cond, length, List, [], ◌∷◌, get_or, set, Option, Some, None, inl, inr, refl, sym, ap, ◌∙◌, arith, replicate, filter, list_any, eqb_tells, get_or-set_other, get_or-set_same, Plan, command_at, Command, Entry, Reply, has, after_command, effect_of, gone_on, is_end, takes_effect, tries_on, IsAnswer, IsComplete, IsEnd, IsLawful, IsLegal, IsLegalFrom, MayFault, after_do, after_entry, after_fault, is_part, last_of, part, store_after, store_from, Progress, Store, at_first, boot, progress_of, with_progress, has_process, is_empty, is_over, KeepsAll, cpu_at, flat_of, run_at, HasTurn, MayRun, State, Processor, and_parts, not_both, going_within, Command as command, Entry as entry, true_from_ne_false, cond_both, eq-eqb, ◌≤◌, if◌then◌else◌, subst, leb_tells, at_put, IsRun, Run, effect_advances, not-true}
use Rattle.machine_model.proofs.TieLaws.{none_some}
use Rattle.machine_model.proofs.Places.{by_place}

-- ---- How far each process has come by the flat store, once a command was answered or a drive's failure was told.

-- ---- one process has come to another place

abbrev ended : Progress
ended = record { place = 0; tries = 0; ended = true; faulted = false }

put_progress : (ps : List Progress) (k : ℕ) (q : Progress) (j : ℕ) → k < length ps
    → get_or (set ps k q) j ended ≡ at_put (λ i. get_or ps i ended) k q j
put_progress ps k q j within = by_place (λ (x : Progress). get_or (set ps k q) j ended ≡ x) (λ i. get_or ps i ended) k q
    j (λ e. cc (get_or-set_same ps k q ended within)) (λ n. get_or-set_other ps k j q ended n)

-- an effect leaves how far each has come
pub base_same : (p : Plan) (s : Store) (j : ℕ) (c : Command) (r : Reply)
    → (cond (takes_effect r) (effect_of p s j c) s).processes ≡ s.processes
base_same p s j c r = cond_both (takes_effect r) (effect_of p s j c) s (λ (x : Store). x.processes ≡ s.processes)
    (λ e. (effect_advances p s j c).processes) (λ e. refl)

-- a command was answered
pub runs_answered : (p : Plan) (s : Store) (k : ℕ) (c : Command) (r : Reply) {run : Run} (runs : ℕ → Run)
    → (progress_of s k).ended ≡ false → IsRun (gone_on (progress_of s k) c r) run
    → ((j : ℕ) → IsRun (progress_of s j) (runs j)) → (j : ℕ)
    → IsRun (progress_of (after_command p s k c r) j) (at_put runs k run j)
unfolding after_command
runs_answered p s k c r {run} runs going is others j = rw moved_to cases
  where
    base : Store
    base = if takes_effect r then effect_of p s k c else s

    moved_to : progress_of (with_progress base k (gone_on (progress_of s k) c r)) j
        ≡ at_put (progress_of s) k (gone_on (progress_of s k) c r) j
    moved_to = cc (
      base_same p s k c r,
      put_progress s.processes k (gone_on (progress_of s k) c r) j (going_within s k going),
    )

    cases : IsRun (at_put (progress_of s) k (gone_on (progress_of s k) c r) j) (at_put runs k run j)
    cases = elim (eqb_tells j k) [ inl e ↦ rw e.0 is | inr n ↦ rw n.0 (others j) ]

set_past : (ps : List Progress) (k : ℕ) (q : Progress) → length ps ≤ k → set ps k q ≡ ps
set_past [] k q h = refl
set_past (x ∷ xs) zero q h = absurd (omega arith)
set_past (x ∷ xs) (suc k) q h = cc (set_past xs k q (omega arith))

-- a drive's failure was told
pub runs_failed : (s : Store) (o : Option ℕ) (runs : ℕ → Run) → ((j : ℕ) → IsRun (progress_of s j) (runs j)) → (j : ℕ)
    → IsRun (progress_of (after_fault s o) j) (runs j)
runs_failed s None runs others j = others j
runs_failed s (Some k) runs others j = elim (leb_tells (length s.processes) k) [
  | inl e ↦ rw (past e.1) (others j)
  | inr n ↦ rw (put_progress s.processes k _ j n.1) (cases)
]
  where
    told : Progress
    told = record (progress_of s k) { faulted = true }

    past : length s.processes ≤ k → get_or (set s.processes k told) j ended ≡ progress_of s j
    past h = cc (set_past s.processes k told h)

    cases : IsRun (at_put (progress_of s) k told j) (runs j)
    cases = by_place (λ (q : Progress). IsRun q (runs j)) (progress_of s) k told j
        (λ e. (let was = subst (λ (i : ℕ). IsRun (progress_of s i) (runs j)) e (others j) in
        assumption)) (λ n. others j)

-- ---- nobody is ready or running

empty_is : (xs : List ℕ) → is_empty xs ≡ true → xs ≡ []
empty_is [] h = refl
empty_is (x ∷ xs) h = cc

nobody_runs : (ps : List Processor) (d k : ℕ) → list_any has_process ps ≡ false → (cpu_at ps d).process ≢ Some k
nobody_runs [] d k h e = none_some e
nobody_runs (p ∷ ps) zero k h e = not_both (cc) (first_off (has_process p) h)
  where
    first_off : (b : Bool) → (b || list_any has_process ps) ≡ false → b ≡ false
    first_off false i = refl
    first_off true i = cc
nobody_runs (p ∷ ps) (suc d) k h e = nobody_runs ps d k (rest_off (has_process p) h) e
  where
    rest_off : (b : Bool) → (b || list_any has_process ps) ≡ false → list_any has_process ps ≡ false
    rest_off false i = i
    rest_off true i = cc

-- no processor has a process
pub over_idle : (s : State) → is_over s ≡ true → (d k : ℕ) → (cpu_at s.processors d).process ≢ Some k
over_idle s over d k = nobody_runs s.processors d k (not-true (list_any has_process s.processors)
    (and_parts (is_empty s.ready) _ over).1)

module _ (s : State) (all : KeepsAll s) (over : is_over s ≡ true) where
  none_may : (k : ℕ) → MayRun s.plan s.runs k → ⊥
  none_may k m = elim (all.machine.scheduled.placed k m) [
    | inl r ↦ (let none =
        sym (ap (λ (xs : List ℕ). has xs k) (empty_is s.ready (and_parts (is_empty s.ready) _ over).0)) ∙ r in cc)
    | inr x ↦ over_idle s over x.0 k x.1
  ]

  ends : (k : ℕ) → k < length s.plan.processes → HasTurn s.plan s.runs k → (run_at s.runs k).ended ≡ true
  ends k planned turn = true_from_ne_false (run_at s.runs k).ended (λ e. none_may k (assumption))

  -- each process has ended
  pub over_ended : (k : ℕ) → k < length s.plan.processes → (run_at s.runs k).ended ≡ true
  over_ended k planned = ends k planned (inr (inr (ends 0 (omega arith) (inr (inl refl)))))

  -- and so the flat store says
  pub flat_ended : (k : ℕ) → k < length s.plan.processes → (progress_of (flat_of s) k).ended ≡ true
  flat_ended k planned = (all.machine.keeps.book.runs k).ended ∙ over_ended k planned

-- ---- the end of a process is its last entry

abbrev ended_progress : Progress
ended_progress = record { place = 0; tries = 0; ended = true; faulted = false }

-- an entry ends no process but by its end
module _ (p : Plan) (s : Store) (k : ℕ) (going : (progress_of s k).ended ≡ false) where
  -- a process that hasn't ended, and ends by this entry
  IsItsEnd : Entry → Type 0
  IsItsEnd (entry.Do j place cpu frame r) = (j ≡ k) × (command_at p j place ≡ Some command.End)
  IsItsEnd _ = ⊥

  end_of : (c : Command) → is_end c ≡ true → c ≡ command.End
  end_of command.End h = refl
  end_of _ h = cc

  do_ends : (j : ℕ) (c : Command) (r : Reply) → (progress_of s j).ended ≡ false
      → (progress_of (after_command p s j c r) k).ended ≡ true → (j ≡ k) × (c ≡ command.End)
  unfolding after_command
  do_ends j c r its h = elim (eqb_tells k j) [
    | inl e ↦ (sym e.1, end_of c (by (tries_on (progress_of s j) c r) (cc (here e.1))))
    | inr n ↦ absurd (not_both h (cc (at k ∙ get_or-set_other s.processes j k now ended_progress n.1)))
  ]
    where
      now : Progress
      now = gone_on (progress_of s j) c r

      at : (i : ℕ) → get_or (set (cond (takes_effect r) (effect_of p s j c) s).processes j now) i ended_progress
          ≡ get_or (set s.processes j now) i ended_progress
      at i = cc (base_same p s j c r)

      here : k ≡ j → progress_of (after_command p s j c r) k ≡ now
      here e = cc (at k, get_or-set_same s.processes j now ended_progress (going_within s j its))

      by : (x : Bool) → (cond x (record (progress_of s j) { tries = (progress_of s j).tries + 1; faulted = false })
          (record { place = (progress_of s j).place + 1; tries = 0; ended = is_end c; faulted = false })).ended ≡ true
          → is_end c ≡ true
      by true i = cc
      by false i = i

  -- a failure that is told ends none
  fault_same : (j : ℕ) → (progress_of s j).ended ≡ false
      → (progress_of (with_progress s j (record (progress_of s j) { faulted = true })) k).ended
      ≡ (progress_of s k).ended
  fault_same j its = elim (eqb_tells k j) [
    | inl e ↦ ap (λ (i : ℕ). (get_or (set s.processes j (record (progress_of s j) { faulted = true })) i
        ended_progress).ended) e.1
        ∙ (ap (λ (q : Progress). q.ended) (get_or-set_same s.processes j _ ended_progress (going_within s j its))
        ∙ ap (λ (i : ℕ). (progress_of s i).ended) (sym e.1))
    | inr n ↦ ap (λ (q : Progress). q.ended) (get_or-set_other s.processes j k _ ended_progress n.1)
  ]

  entry_ends : (e : Entry) → IsLawful p s e → (progress_of (after_entry p s e) k).ended ≡ true → IsItsEnd e
  unfolding IsLawful IsItsEnd after_entry
  entry_ends (entry.Do j place cpu frame r) h ended = by (command_at p j place) refl h.answer ended
    where
      by : (x : Option Command) → command_at p j place ≡ x → IsAnswer p s j x r
          → (progress_of (after_do p s j x r) k).ended ≡ true → (j ≡ k) × (command_at p j place ≡ Some command.End)
      by None e i f = absurd i
      by (Some c) e i f = let its = do_ends j c r h.going f in (its.0, cc)
  entry_ends (entry.Fault process) h ended = by process h ended
    where
      by : (x : Option ℕ) → MayFault s x → (progress_of (after_fault s x) k).ended ≡ true → ⊥
      by None i f = not_both f going
      by (Some j) i f = not_both f (fault_same j i ∙ going)
  entry_ends _ h ended = not_both ended going

-- a process that has ended has no entry more
module _ (p : Plan) (k : ℕ) where
  other_do : (s : Store) (j : ℕ) (c : Command) (r : Reply) → k ≢ j
      → progress_of (after_command p s j c r) k ≡ progress_of s k
  unfolding after_command
  other_do s j c r n = ap (λ (qs : List Progress). get_or (set qs j (gone_on (progress_of s j) c r)) k ended_progress)
      (base_same p s j c r) ∙ get_or-set_other s.processes j k (gone_on (progress_of s j) c r) ended_progress n

  stays_ended : (s : Store) (e : Entry) → (progress_of s k).ended ≡ true → IsLawful p s e
      → (is_part k e ≡ false) × ((progress_of (after_entry p s e) k).ended ≡ true)
  unfolding IsLawful after_entry
  stays_ended s (entry.Do j place cpu frame r) over h = (
    elim (eqb_tells j k) [ inl e ↦ absurd (other (sym e.1)) | inr n ↦ n.0 ],
    by (command_at p j place) h.answer,
  )
    where
      other : k ≢ j
      other e = not_both over (cc)

      by : (x : Option Command) → IsAnswer p s j x r → (progress_of (after_do p s j x r) k).ended ≡ true
      by None i = absurd i
      by (Some c) i = cc (other_do s j c r other)
  stays_ended s (entry.Fault process) over h = (refl, by process h)
    where
      by : (x : Option ℕ) → MayFault s x → (progress_of (after_fault s x) k).ended ≡ true
      by None i = over
      by (Some j) i = ap (λ (q : Progress). q.ended) (get_or-set_other s.processes j k _ ended_progress
          (λ e. not_both over (cc))) ∙ over
  stays_ended s _ over h = (refl, over)

  none_later : (s : Store) (es : List Entry) → (progress_of s k).ended ≡ true → IsLegalFrom p s es → part k es ≡ []
  unfolding IsLegalFrom part
  none_later s [] over h = refl
  none_later s (e ∷ es) over h = let step = stays_ended s e over h.0 in
      cc (none_later (after_entry p s e) es step.1 h.1)

  -- an entry more before the last
  end_on : (e : Entry) (es : List Entry) → IsEnd p k (last_of es) → IsEnd p k (last_of (e ∷ es))
  end_on e [] h = absurd h
  end_on e (x ∷ xs) h = h

  book_ends : (s : Store) (es : List Entry) → (progress_of s k).ended ≡ false → IsLegalFrom p s es
      → (progress_of (store_from p s es) k).ended ≡ true → IsEnd p k (last_of (part k es))
  unfolding IsLegalFrom store_from part IsItsEnd
  book_ends s [] going h over = not_both over going
  book_ends s (e ∷ es) going h over = by (progress_of (after_entry p s e) k).ended refl
      (λ g. book_ends (after_entry p s e) es g h.1 over)
    where
      ends_now : (d : Entry) → IsItsEnd p s k going d → IsEnd p k (last_of (cond (is_part k d) (d ∷ []) []))
      ends_now (entry.Do j place cpu frame r) its = rw (eq-eqb j k its.0) (rw (← its.0) its.1)
      ends_now _ its = absurd its

      by : (b : Bool) → (progress_of (after_entry p s e) k).ended ≡ b
          → ((progress_of (after_entry p s e) k).ended ≡ false → IsEnd p k (last_of (filter (is_part k) es)))
          → IsEnd p k (last_of (cond (is_part k e) (e ∷ filter (is_part k) es) (filter (is_part k) es)))
      by true i rest = rw (none_later (after_entry p s e) es i h.1) (ends_now e (entry_ends p s k going e h.0 i))
      by false i rest = cond_both (is_part k e) (e ∷ filter (is_part k) es) (filter (is_part k) es)
          (λ xs. IsEnd p k (last_of xs)) (λ x. end_on e (filter (is_part k) es) (rest i)) (λ x. rest i)

boot_goes : (p : Plan) (k : ℕ) → k < length p.processes → (progress_of (boot p) k).ended ≡ false
unfolding boot
boot_goes p k lt = by (length p.processes) k lt
  where
    by : (n i : ℕ) → i < n → (get_or (replicate n at_first) i ended_progress).ended ≡ false
    by zero i h = absurd (omega arith)
    by (suc n) zero h = refl
    by (suc n) (suc i) h = by n i (omega arith)

-- The book of a machine in which no process is ready or running is complete.
pub over_complete : (s : State) → KeepsAll s → is_over s ≡ true → IsComplete s.plan s.entries
unfolding IsComplete IsLegal store_after
over_complete s all over k planned = book_ends s.plan k (boot s.plan) s.entries (boot_goes s.plan k planned)
    all.machine.keeps.book.legal (flat_ended s all over k planned)
