-- Laws of a trace.
use Rattle.lab_runs.proofs.Prelude.{Entry, HasRunBy, IsTraceable, Line, List, Plan, Ran, Step, [], add-one, any_places, ap, append-nil, append_assoc, arith, common_steps, drop, drop-cons, entries_in, entry_lines, faults_in, get_or, length, length-append, plan_of, refl, run_grows, step_line, steps_text, sum_by-cons, sym, take, ℕ, ◌++◌, ◌+◌, ◌<◌, ◌∙◌, ◌∷◌, ◌≡◌, ◌≤◌}
use Rattle.lab_runs.proofs.StepLaws.{made_count}

one_left : (steps : List Step) (i : ℕ) (d : Step) → i < length steps
    → drop i steps ≡ get_or steps i d ∷ drop (i + 1) steps
one_left steps i d lt = rw (add-one, drop-cons steps i d) refl

first_left : (steps : List Step) (i : ℕ) (step : Step) → i < length steps → step ≡ get_or steps i step
    → drop i steps ≡ step ∷ drop (i + 1) steps
first_left steps i step lt at = one_left steps i step lt ∙ ap (λ (s : Step). s ∷ drop (i + 1) steps) (sym at)

-- a step more, with its entries
pub steps_more : (all : List ℕ) (steps : List Step) (i : ℕ)
    (step : Step) (now one two : List ℕ) (rest its after : List Entry) → i < length steps → step ≡ get_or steps i step
    → now ++ steps_text (drop i steps) rest ≡ all → its ≡ take step.entries rest → after ≡ drop step.entries rest
    → one ≡ now ++ step_line step → two ≡ one ++ entry_lines its → two ++ steps_text (drop (i + 1) steps) after ≡ all
steps_more all steps i step now one two rest its after lt at so front back first second =
    let tail : List ℕ = steps_text (drop (i + 1) steps) (drop step.entries rest) in
    let lines : List ℕ = entry_lines (take step.entries rest) in
    ap (λ (t : List ℕ). t ++ steps_text (drop (i + 1) steps) after) (second ∙ ap (λ (t : List ℕ). t ++ entry_lines its)
    first ∙ ap (λ (es : List Entry). (now ++ step_line step) ++ entry_lines es) front)
    ∙ ap (λ (es : List Entry). ((now ++ step_line step) ++ lines) ++ steps_text (drop (i + 1) steps) es) back
    ∙ append_assoc (now ++ step_line step) lines tail ∙ append_assoc now (step_line step) (lines ++ tail)
    ∙ sym (ap (λ (ss : List Step). now ++ steps_text ss rest) (first_left steps i step lt at)) ∙ so

pub few_more : (steps : List Step) (i : ℕ) (step : Step) (rest : List Entry) → i < length steps
    → step ≡ get_or steps i step → entries_in (drop i steps) ≤ length rest → step.entries ≤ length rest
few_more steps i step rest lt at few =
    let sum : entries_in (drop i steps) ≡ step.entries + entries_in (drop (i + 1) steps) =
    ap entries_in (first_left steps i step lt at) ∙ sum_by-cons (λ (s : Step). s.entries) step (drop (i + 1) steps) in
    omega (arith, sum, few)

pub few_left : (steps : List Step) (i : ℕ) (step : Step) (rest after : List Entry) → i < length steps
    → step ≡ get_or steps i step → entries_in (drop i steps) ≤ length rest → after ≡ drop step.entries rest
    → entries_in (drop (i + 1) steps) ≤ length after
few_left steps i step rest after lt at few back =
    let sum : entries_in (drop i steps) ≡ step.entries + entries_in (drop (i + 1) steps) =
    ap entries_in (first_left steps i step lt at) ∙ sum_by-cons (λ (s : Step). s.entries) step (drop (i + 1) steps) in
    let size : length (drop step.entries rest) + step.entries ≡ length rest =
    left rest step.entries (few_more steps i step rest lt at few) in
    let same : length after ≡ length (drop step.entries rest) = ap length back in
    omega (arith, sum, few, size, same)
  where
    left : (xs : List Entry) (n : ℕ) → n ≤ length xs → length (drop n xs) + n ≡ length xs
    left xs n le = grind (arith, common_steps)

pub steps_end : (all : List ℕ) (steps : List Step) (i : ℕ) (now : List ℕ) (rest : List Entry) → length steps ≤ i
    → now ++ steps_text (drop i steps) rest ≡ all → now ≡ all
steps_end all steps i now rest le so =
    let none : drop i steps ≡ [] = grind (arith, common_steps) in
    sym (append-nil now) ∙ sym (ap (λ (ss : List Step). now ++ steps_text ss rest) none) ∙ so

-- what the proof of `push_steps` is given
pub ruleset push_steps_steps = (steps_more, few_more, few_left, steps_end, common_steps)

-- ---- a run

-- a machine that ran so can be traced
pub traceable : (p : Plan) (lines : List Line) (r : Ran) → HasRunBy p lines r → IsTraceable r
traceable p lines r h = record {
  rest = h.ended.rest;
  steps =
      let count = made_count h.booted h.stepped r.steps.items h.made in
      let none : length h.booted.state.entries ≡ 0 = ap length h.boot.entries in
      let is = h.stepped_is in omega (arith, count, none, is);
  finished =
      let grows = run_grows plan_of any_places faults_in h.stepped h.finished h.ended.cpus h.ended.moved
      h.ended.finish in
      let more : length h.finished.state.entries ≡ length h.stepped.state.entries + length grows.more =
      ap length grows.entries ∙ length-append h.stepped.state.entries grows.more in
      let one = h.stepped_is in let two = h.finished_is in omega (arith, more, one, two);
  all =
      let more : length r.machine.state.entries ≡ length h.finished.state.entries + length h.ended.shutdown.more =
      ap length h.ended.shutdown.entries ∙ length-append h.finished.state.entries h.ended.shutdown.more in
      let two = h.finished_is in omega (arith, more, two);
}
