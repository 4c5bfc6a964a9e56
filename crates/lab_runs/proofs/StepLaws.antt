-- Laws of steps that are made one after the other.
pub use Rattle.lab_runs.proofs.Prelude.{Appends, AreMade, Grows, IsMade, IsTurn, KeepsParts, List, Machine, MakesAll, Runs, Step, TellsFaults, Turn, [], any_places, ap, append_assoc, arith, entries_in, faults_in, get_or, is_moved, length, length-append, map, map-append, moves_of, plan_of, process_at, processor_of, refl, round_made, rules, run_grows, run_keeps, subst, sum_by, sum_by-cons, sym, take, take_more, tally, with_room, ℕ, ◌++◌, ◌+◌, ◌-◌, ◌<◌, ◌∙◌, ◌∷◌, ◌≡◌}

-- room was made for a step, and it was made
pub step_made : (old mid new : Machine) (c n before : ℕ) (answer : Turn) → mid ≡ with_room old mid.state.spare
    → IsTurn plan_of any_places faults_in mid new c answer → Appends mid.state.entries new.state.entries 320
    → KeepsParts plan_of any_places faults_in mid new → TellsFaults faults_in mid new (process_at mid.state c)
    → before ≡ length mid.state.entries → n ≡ length new.state.entries - before
    → IsMade old new (record { processor = c; answer = answer; entries = n })
step_made old mid new c n before answer same turn appends keeps told was is = record {
  round =
      let r = round_made plan_of any_places faults_in old mid new c (tally (is_moved answer)) answer same turn appends
      keeps told refl in
      record {
        spare = mid.state.spare;
        answer = answer;
        moved_is = refl;
        turn = subst (λ (t : Machine). IsTurn plan_of any_places faults_in t new c answer) same turn;
        entries = r.entries;
        kept = r.kept;
        told = r.told;
      };
  answer = refl;
  entries =
      let there : length mid.state.entries ≡ length old.state.entries =
      ap (λ (m : Machine). length m.state.entries) same in
      let more : length new.state.entries ≡ length mid.state.entries + length appends.more =
      ap length appends.entries ∙ length-append mid.state.entries appends.more in
      omega (arith, there, more, was, is);
}

-- one step more
pub made_on : (old mid new : Machine) (steps : List Step) (step : Step) → AreMade old mid steps → IsMade mid new step
    → AreMade old new (steps ++ step ∷ [])
made_on old mid new [] step same made = (new, subst (λ (t : Machine). IsMade t new step) same made, refl)
made_on old mid new (s ∷ ss) step (next, first, rest) made = (next, first, made_on next mid new ss step rest made)

-- some steps after others
pub made_append : (old mid new : Machine) (xs ys : List Step) → AreMade old mid xs → AreMade mid new ys
    → AreMade old new (xs ++ ys)
made_append old mid new [] ys same more = subst (λ (t : Machine). AreMade t new ys) same more
made_append old mid new (s ∷ ss) ys (next, first, rest) more =
    (next, first, made_append next mid new ss ys rest more)

-- they are steps of their processors
pub made_run : (old new : Machine) (steps : List Step) → AreMade old new steps
    → Runs old new (map processor_of steps) (sum_by moves_of steps)
made_run old new [] same = (same, refl)
made_run old new (s ∷ ss) (mid, first, rest) = (
  mid,
  moves_of s,
  sum_by moves_of ss,
  sum_by-cons moves_of s ss,
  first.round,
  made_run mid new ss rest,
)

pub made_grows : (old new : Machine) (steps : List Step) → AreMade old new steps
    → Grows old.state.entries new.state.entries
made_grows old new steps made = run_grows plan_of any_places faults_in old new (map processor_of steps)
    (sum_by moves_of steps) (made_run old new steps made)

pub made_keeps : (old new : Machine) (steps : List Step) → AreMade old new steps
    → KeepsParts plan_of any_places faults_in old new
made_keeps old new steps made = run_keeps plan_of any_places faults_in old new (map processor_of steps)
    (sum_by moves_of steps) (made_run old new steps made)

-- how many entries they appended
pub made_count : (old new : Machine) (steps : List Step) → AreMade old new steps
    → length new.state.entries ≡ length old.state.entries + entries_in steps
made_count old new [] same = let here = ap (λ (m : Machine). length m.state.entries) same in omega (arith, here)
made_count old new (s ∷ ss) (mid, first, rest) =
    let one = first.entries in let more = made_count mid new ss rest in
    let all : entries_in (s ∷ ss) ≡ s.entries + entries_in ss = sum_by-cons (λ (x : Step). x.entries) s ss in
    omega (arith, one, more, all)

-- ---- the processors of a list

pub all_more : (old mid new : Machine) (before middle after : List Step) (cpus : List ℕ) (i : ℕ) (step : Step)
    → MakesAll old mid before middle (take i cpus) → IsMade mid new step → step.processor ≡ get_or cpus i 0
    → after ≡ middle ++ step ∷ [] → i < length cpus → MakesAll old new before after (take (i + 1) cpus)
all_more old mid new before middle after cpus i step all made its added lt = record {
  steps = all.steps ++ step ∷ [];
  made = made_on old mid new all.steps step all.made made;
  added = added ∙ ap (λ (t : List Step). t ++ step ∷ []) all.added ∙ append_assoc before all.steps (step ∷ []);
  cpus_are = map-append processor_of all.steps (step ∷ []) ∙ ap (λ (t : List ℕ). t ++ step.processor ∷ []) all.cpus_are
      ∙ ap (λ (c : ℕ). take i cpus ++ c ∷ []) its ∙ sym (take_more cpus i 0 lt);
}
