-- What processors hold stays what their processes may do, through every action that no command ends.
use Rattle.machine_model.proofs.Kept.{◌≡◌, ◌≢◌, ◌<◌, ℕ, Bool, true, false, not, eqb, List, [], ◌∷◌, ◌++◌, drop, filter, length, set, ◌+◌, Option, Some, ◌⊎◌, inl, inr, refl, sym, ap, subst, ◌∙◌, eqb_tells, get_or-set_other, get_or-set_same, length-set, Who, filled, names_seg, HeldSeg, What, Sdw, leads, Node, node_in, Processor, Outcome, after, AreEntitled, HoldEntitled, IsEntitled, IsEntitledToAll, led_to, told_from, write_failed, Keeps, move_committed, cpu_at, descriptor_of, no_processor, or_zero, process_at, processor_at, State, held_seg, transfer_failed, Sdw as sdw, Aim as aim, jobs_told_at as told_at, Action, Action as act, cond_both, Stays, job_stays_all_back as all_back, all_taken, emptying, job_stays_evicted as evicted, evicting, is_back, is_emptied, page_left, emptying_victim, by_end, told_reads, told_has, told_process}
use Rattle.machine_model.proofs.StepKept.{CanDo, CanFill}

-- ---- the entries of one processor

module _ (nodes : List Node) (whos : List Who) (known : List (List (Option ℕ))) where
  rest_entitled : (k : ℕ) (es : List HeldSeg) → AreEntitled nodes whos known k es
      → AreEntitled nodes whos known k (drop 1 es)
  rest_entitled k [] h = tt
  rest_entitled k (e ∷ es) h = h.1

  push_entitled : {k : ℕ} (es : List HeldSeg) {e : HeldSeg} → AreEntitled nodes whos known k es
      → IsEntitled nodes whos known k e → AreEntitled nodes whos known k (es ++ e ∷ [])
  push_entitled [] h i = (i, tt)
  push_entitled {k} (x ∷ xs) {e} h i = (h.0, push_entitled xs h.1 i)

  filled_entitled : (k : ℕ) (es : List HeldSeg) (e : HeldSeg) → AreEntitled nodes whos known k es
      → IsEntitled nodes whos known k e → AreEntitled nodes whos known k (filled es e)
  filled_entitled k es e h i = push_entitled _ (cond_both (eqb (length es) 16) (drop 1 es) es
      (AreEntitled nodes whos known k) (λ j. rest_entitled k es h) (λ j. h)) i

  kept_entitled : (k : ℕ) (test : HeldSeg → Bool) (es : List HeldSeg) → AreEntitled nodes whos known k es
      → AreEntitled nodes whos known k (filter test es)
  kept_entitled k test [] h = tt
  kept_entitled k test (e ∷ es) h = let rest = kept_entitled k test es h.1 in cond_both (test e) (e ∷ filter test es)
      (filter test es) (AreEntitled nodes whos known k) (λ i. (h.0, rest)) (λ i. rest)

  -- one processor is another
  pub set_entitled : {ps : List Processor} (c : ℕ) (p : Processor) → c < length ps → HoldEntitled nodes whos known ps
      → ((k : ℕ) → p.cpu.process ≡ Some k → AreEntitled nodes whos known k p.cpu.assoc.segs)
      → HoldEntitled nodes whos known (set ps c p)
  set_entitled {ps} c p there h one = record { each = λ d k i. by d k i (eqb_tells c d) }
    where
      by : (d k : ℕ) → (cpu_at (set ps c p) d).process ≡ Some k → ((eqb c d ≡ true) × (c ≡ d))
          ⊎ ((eqb c d ≡ false) × (c ≢ d)) → AreEntitled nodes whos known k (cpu_at (set ps c p) d).assoc.segs
      by d k i (inl same) = rw (← same.1) (subst (λ (x : Processor). AreEntitled nodes whos known k x.cpu.assoc.segs)
          (sym (get_or-set_same ps c p no_processor there)) (one k (cc (get_or-set_same ps c p no_processor there))))
      by d k i (inr other) = subst (λ (x : Processor). AreEntitled nodes whos known k x.cpu.assoc.segs)
          (sym (get_or-set_other ps c d p no_processor (λ e. other.1 (sym e))))
          (h.each d k (cc (get_or-set_other ps c d p no_processor (λ e. other.1 (sym e)))))

  told_entitled : (c : ℕ) (w : What) {ps : List Processor} → HoldEntitled nodes whos known ps
      → HoldEntitled nodes whos known (told_from c w 0 ps)
  told_entitled c w {ps} h = record {
    each = λ d k i. (rw (← (told_reads c w ps 0 d)) at (by (0 + d) (processor_at ps d) k
        (h.each d k (cc (told_process c w (0 + d) (processor_at ps d), told_reads c w ps 0 d)))));
  }
    where
      by : (d : ℕ) (p : Processor) (k : ℕ) → AreEntitled nodes whos known k p.cpu.assoc.segs
          → AreEntitled nodes whos known k (told_at c w d p).cpu.assoc.segs
      by d p k g = told_has (λ q. AreEntitled nodes whos known k q.cpu.assoc.segs) c w d p
          (kept_entitled k (λ x. not (names_seg w x)) p.cpu.assoc.segs g) g g

-- ---- nothing of the tree, the principals and the numbers changes

names_kept : {s t : State} → Stays s t → IsEntitledToAll s → IsEntitledToAll t
names_kept same h = rw (same.nodes, same.whos, same.known, same.processors) h

-- ---- each action

-- what a commit, and the end of a move, leave
abbrev pub MayEntitle : State → ℕ → Outcome → Action → Type 0
MayEntitle s c o act.Commit = IsEntitledToAll (after s c act.Commit o)
MayEntitle s c o (act.CommitMove m) = IsEntitledToAll (move_committed s c m)
MayEntitle s c o _ = Unit {0}

module _ (s : State) (c : ℕ) (o : Outcome) (k : Keeps s) (there : c < length s.processors) (h : IsEntitledToAll s) where
  abbrev nodes : List Node
  nodes = s.store.accounts.nodes

  one : (p : Processor) → ((j : ℕ) → p.cpu.process ≡ Some j
      → AreEntitled nodes s.store.whos s.store.links.known j p.cpu.assoc.segs)
      → HoldEntitled nodes s.store.whos s.store.links.known (set s.processors c p)
  one p each = set_entitled nodes s.store.whos s.store.links.known c p there h each

  abbrev held : (j : ℕ) → (cpu_at s.processors c).process ≡ Some j
      → AreEntitled nodes s.store.whos s.store.links.known j (cpu_at s.processors c).assoc.segs
  held j e = h.each c j e

  -- what a descriptor gives
  to_hold_is : {n : ℕ} (j : ℕ) (y : Sdw) → descriptor_of s.store.links j n ≡ y → (held_seg s.store n y).number ≡ n
      → led_to s.store.ast.entries (descriptor_of s.store.links j n) ≡ Some (held_seg s.store n y).uid
      → IsEntitled nodes s.store.whos s.store.links.known j (held_seg s.store n y)
  to_hold_is j sdw.Fault e number linked = cc
  to_hold_is {n} j (sdw.Present place mode pages) e number linked = let known = k.store.kept.linked.known j n place
      (ap leads e) in let same = ap or_zero known.active in record {
        stands = cc;
        mode = λ x at. k.store.counted.rights.modes j n place pages known.uid mode x e known.active
            (ap (λ (v : ℕ). node_there v) (sym same) ∙ at);
        pages = λ x at. k.store.counted.rights.lengths j n place pages known.uid mode x e known.active
            (ap (λ (v : ℕ). node_there v) (sym same) ∙ at);
      }
    where
      node_there : ℕ → Option Node
      node_there v = node_in nodes v

  fills : (n : ℕ) → CanFill s c n → (j : ℕ) → (cpu_at s.processors c).process ≡ Some j
      → AreEntitled nodes s.store.whos s.store.links.known j (filled (cpu_at s.processors c).assoc.segs
      (held_seg s.store n (descriptor_of s.store.links (process_at s c) n)))
  fills n can j e = filled_entitled nodes s.store.whos s.store.links.known j (cpu_at s.processors c).assoc.segs
      (held_seg s.store n (descriptor_of s.store.links (process_at s c) n)) (held j e) (rw (← (ap or_zero e))
      (to_hold_is (process_at s c) (descriptor_of s.store.links (process_at s c) n) refl can.number (cc)))

  failed : IsEntitledToAll (write_failed s c o.faults)
  failed = set_entitled _ _ _ c _ (rw names.processors there) back (λ j e. back.each c j e)
    where
      names : Stays s (all_back s c o.faults)
      names = is_back s c o.faults

      back : IsEntitledToAll (all_back s c o.faults)
      back = names_kept names h

  -- What processors hold stays so.
  pub entitled_kept : (a : Action) → CanDo s c o a → MayEntitle s c o a → IsEntitledToAll (after s c a o)
  unfolding after
  entitled_kept act.Online can may = one _ held
  entitled_kept (act.Clear w) can may = one _ (λ j e. kept_entitled nodes s.store.whos s.store.links.known j
      (λ x. not (names_seg w x)) (cpu_at s.processors c).assoc.segs (held j e))
  entitled_kept (act.EndTransfer t) can may = by_end IsEntitledToAll o _ _ (λ e. one _ held) (λ e. ill)
    where
      ill : IsEntitledToAll (transfer_failed s c t o.faults)
      ill = set_entitled nodes s.store.whos s.store.links.known c _
          (rw (length-set s.processors c _) there) (one _ held) (λ j e. (one _ held).each c j e)
  entitled_kept (act.Load n) can may = one _ (λ j e. tt)
  entitled_kept act.Leave can may = one _ (λ j e. tt)
  entitled_kept (act.FillSeg n) can may = one _ (fills n can)
  entitled_kept (act.FillPage f r) can may = one _ held
  entitled_kept (act.Through f r) can may = one _ held
  entitled_kept (act.Plain r) can may = one _ held
  entitled_kept (act.Answer r) can may = one _ held
  entitled_kept (act.Create f u p r) can may = one _ held
  entitled_kept (act.Start f u p) can may = one _ held
  entitled_kept (act.Evict f) can may = names_kept (evicting s c f) h
  entitled_kept (act.Empty u) can may = names_kept (emptying s c u) h
  entitled_kept (act.EmptyVictim pool chain u) can may = names_kept (emptying_victim s c pool chain u) h
  entitled_kept (act.TakeAway fs pairs w) can may = names_kept (all_taken s c aim.Committing w fs pairs) h
  entitled_kept (act.CopyPage m p) can may = by_end IsEntitledToAll o _ _ (λ e. h) (λ e. one _ held)
  entitled_kept (act.CommitMove m) can may = may
  entitled_kept (act.Signal w) can may = told_entitled nodes s.store.whos s.store.links.known c w h
  entitled_kept (act.FinishEviction f) can may =
      by_end IsEntitledToAll o _ _ (λ e. names_kept (evicted s c f o.faults) h) (λ e. failed)
  entitled_kept (act.FinishPage f) can may =
      by_end IsEntitledToAll o _ _ (λ e. names_kept (page_left s f o.faults) h) (λ e. failed)
  entitled_kept (act.Deactivate u) can may = names_kept (is_emptied s c u) h
  entitled_kept act.Commit can may = may
  entitled_kept _ can may = h
