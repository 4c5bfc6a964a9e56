-- Laws of the runs of a script by schedules that are drawn.
pub use Rattle.lab_runs.proofs.Prelude.{AddsDrawn, AddsRun, AreTold, DrawsOut, EndsRan, Entry, Err, Gathers, HasDrawn, HaveCounted, IfOk, IsBooted, KeepsParts, List, Machine, Ok, OnOk, Plan, Ran, Result, Runs, Step, Table, accounts_after, added, any_places, ap, arith, counted_on, drawn_cpus, faults_in, flat_of, length, map, moves_of, plan_of, processor_of, replies_of, script_of, subst, suc, sum_by, sym, told_still, ℕ, ◌+◌, ◌∙◌, ◌≡◌}
use Rattle.lab_runs.proofs.StepLaws.{made_keeps, made_run}

-- the machine of a script has made the steps that were drawn
module _ (p : Plan) (seed : ℕ) (booted stepped : Machine) (boot : IsBooted p booted) (script : booted.state.plan ≡ p)
    (out : DrawsOut booted.state.plan.processors seed booted stepped)
  where
    kept : KeepsParts plan_of any_places faults_in booted stepped
    kept = made_keeps booted stepped out.steps out.draws.made

    pub drawn_told : AreTold stepped.state.plan stepped.drives
    drawn_told = subst (λ (q : Plan). AreTold q stepped.drives) (sym (kept.script ∙ script))
        (told_still p booted.drives stepped.drives kept.plans kept.stores boot.drives)

    pub drawn_counted : HaveCounted faults_in 0 0 booted → HaveCounted faults_in 0 0 stepped
    drawn_counted counted = counted_on faults_in 0 0 booted stepped counted kept.alike

    cpus : map processor_of out.steps ≡ drawn_cpus p.processors seed (length out.steps)
    cpus = out.draws.cpus_are ∙ ap (λ (q : Plan). drawn_cpus q.processors seed (length out.steps)) script

    -- and was finished and shut down
    pub drawn_ran : (steps : List Step) (r : Ran) → EndsRan stepped steps r → HasDrawn p seed r.machine
    drawn_ran steps r e = record {
      booted = booted;
      stepped = stepped;
      finished = e.finished;
      script = e.script ∙ kept.script ∙ script;
      boot = boot;
      steps = out.steps;
      made = out.draws.made;
      run = subst (λ (cs : List ℕ). Runs booted stepped cs (sum_by moves_of out.steps)) cpus
          (made_run booted stepped out.steps out.draws.made);
      in_time = out.in_time;
      ended = e.ended;
    }

    pub drawn_by : {E : Type 0} (steps : List Step) (r : Result Ran E) → IfOk r (EndsRan stepped steps)
        → IfOk r (λ ran. HasDrawn p seed ran.machine)
    drawn_by steps (Ok ran) h = drawn_ran steps ran h
    drawn_by steps (Err e) h = h

-- how it ended was added to a table
pub adds_by : {T E : Type 0} (p : Plan) (seed : ℕ) (m : Machine) (script : Plan) (entries : List Entry)
    (replies accounts : List ℕ) (old new : Table) (r : Result T E) → HasDrawn p seed m → script ≡ m.state.plan → entries
    ≡ m.state.entries → replies ≡ replies_of script entries → accounts ≡ accounts_after m.state.plan m.state.entries
    → OnOk r (new ≡ added old replies accounts seed) → OnOk r (AddsDrawn p seed old new)
adds_by p seed m script entries replies accounts old new (Ok x) run same there told left is = record {
  machine = m;
  run = run;
  added_is = is ∙ ap (λ (t : List ℕ). added old t accounts seed) (told ∙ ap (λ (q : Plan). replies_of q entries) (same
      ∙ run.script) ∙ ap (replies_of p) there) ∙ ap (λ (t : List ℕ). added old (replies_of p m.state.entries) t seed)
      (left ∙ ap (λ (q : Plan). accounts_after q m.state.entries) run.script);
}
adds_by p seed m script entries replies accounts old new (Err e) run same there told left is = is

pub adds_run : (bytes : List ℕ) (seed : ℕ) (p : Plan) (old new : Table) → script_of bytes ≡ Ok p
    → AddsDrawn p seed old new → AddsRun bytes seed old new
adds_run bytes seed p old new read adds = record { script = p; read = read; adds = adds }

-- a run more
pub gathers_more : (bytes : List ℕ) (seed run : ℕ) (old new : Table) → Gathers bytes seed run old
    → AddsRun bytes (seed + run) old new → Gathers bytes seed (run + 1) new
gathers_more bytes seed run old new before one =
    let same : suc run ≡ run + 1 = omega arith in
    subst (λ (n : ℕ). Gathers bytes seed n new) same (old, before, one)
