-- Each process that hasn't ended comes to a command next: at first, and after each answer.
use Rattle.machine_model.proofs.Prelude.{◌≡◌, ◌<◌, ℕ, zero, suc, ◌+◌, Bool, true, false, cond, List, [], ◌∷◌, length, slice_get, get_or, replicate, Option, Some, set, not, refl, sym, subst, inl, inr, arith, ◌≢◌, ◌==◌, nat_lt, list_all, eqb_tells, nat_tests, get_or-replicate, get_or-set_other, get_or-set_same, length-replicate, length-set, IsPlan, ends_once, is_command, is_process, weight, Plan, ProcessPlan, commands_of, process_of, Command, Reply, Progress, is_end, tries_on, Run, State, next_command, no_run, run_at, goes_on, is_its_end, progress_of_run, run_after, told_by, GoesOn, AllCome, booted, first_run, command_of, heavy, bool_and_parts as and_parts, Command as command, Reply as reply, ForeseenComes as Comes}
use Rattle.machine_model.proofs.LeftLaws.{no_process}
use Rattle.script.specs.Forms as script

-- a try that doesn't end an `await` leaves another
tries_less : (q : Progress) (c : Command) (r : Reply) → tries_on q c r ≡ true → q.tries + 1 < weight c
tries_less q (command.Await number offset word tries) (reply.Word w) h =
    grind (arith, (and_parts (not (w == word)) (nat_lt (q.tries + 1) tries) h).1, nat_tests)
tries_less q c r h = absurd cc

-- after a command that isn't the end comes another
more_there : (cs : List Command) (place : ℕ) (c : Command) → ends_once cs ≡ true → slice_get cs place ≡ Some c
    → is_end c ≡ false → place + 1 < length cs
unfolding ends_once
more_there [] place c once at more = absurd cc
more_there (command.End ∷ []) zero command.End once at more = absurd cc
more_there (a ∷ []) zero c once at more = absurd cc
more_there (a ∷ []) (suc place) c once at more = absurd cc
more_there (a ∷ b ∷ cs) zero c once at more = omega arith
more_there (a ∷ b ∷ cs) (suc place) c once at more =
    omega (arith, more_there (b ∷ cs) place c (and_parts (not (script.is_end a)) (ends_once (b ∷ cs)) once).1 at more)

pub record IsThere (cs : List Command) (place : ℕ) : Type 0 where
  pub command : Command
  pub at : slice_get cs place ≡ Some command

there : (cs : List Command) (place : ℕ) → place < length cs → IsThere cs place
there [] place lt = absurd (omega arith)
there (c ∷ cs) zero lt = record { command = c; at = refl }
there (c ∷ cs) (suc place) lt =
    let rest = there cs place (omega arith) in record { command = rest.command; at = rest.at }

comes_to : (volumes : ℕ) (cs : List Command) (place : ℕ) → list_all (is_command volumes) cs ≡ true
    → place < length cs → Comes cs (record { place = place; tries = 0; ended = false })
comes_to volumes cs place are lt =
    let it = there cs place lt in
    record {
      command = it.command;
      on = assumption (heavy volumes it.command (command_of volumes cs place it.command are it.at));
    }

some_there : (cs : List Command) → ends_once cs ≡ true → 0 < length cs
unfolding ends_once
some_there [] once = absurd cc
some_there (c ∷ cs) once = omega arith

pub comes_at_first : (volumes : ℕ) (cs : List Command) → list_all (is_command volumes) cs ≡ true
    → ends_once cs ≡ true → Comes cs (record { place = 0; tries = 0; ended = false })
comes_at_first volumes cs are once = comes_to volumes cs 0 are (some_there cs once)

pub comes_after : (volumes : ℕ) {cs : List Command} {run : Run} {c : Command} (r : Reply)
    → list_all (is_command volumes) cs ≡ true → ends_once cs ≡ true → GoesOn cs run c
    → (run_after run (Some c) r).ended ≡ false → Comes cs (run_after run (Some c) r)
comes_after volumes {cs} {run} {c} r are once on =
    by (goes_on run (Some c) r) (is_its_end (Some c)) (tries_less (progress_of_run run) c r) (λ e. e)
  where
    then : Bool → Bool → Run
    then again ends = cond again (record run { tries = run.tries + 1 })
        (record { place = run.place + 1; tries = 0; ended = ends })

    by : (again ends : Bool) → (again ≡ true → run.tries + 1 < weight c) → (ends ≡ false → is_end c ≡ false)
        → (then again ends).ended ≡ false → Comes cs (then again ends)
    by true ends less more going = record {
      command = c;
      on = assumption (less refl);
    }
    by false true less more going = absurd cc
    by false false less more going =
        comes_to volumes cs (run.place + 1) are (more_there cs run.place c once on.next (more refl))

-- ---- of the machine

-- the commands of each process are in their ranges, and its `end` comes last
pub record AreScripts (p : Plan) : Type 0 where
  pub ranges : (k : ℕ) → k < length p.processes → list_all (is_command (length p.volumes)) (commands_of p k) ≡ true
  pub ends : (k : ℕ) → k < length p.processes → ends_once (commands_of p k) ≡ true

process_there : (volumes : ℕ) (xs : List ProcessPlan) (k : ℕ) → list_all (is_process volumes) xs ≡ true
    → k < length xs → is_process volumes (get_or xs k no_process) ≡ true
process_there volumes [] k are lt = absurd (omega arith)
process_there volumes (x ∷ xs) zero are lt = (and_parts _ _ are).0
process_there volumes (x ∷ xs) (suc k) are lt = process_there volumes xs k (and_parts _ _ are).1 (omega arith)

process_commands : (volumes : ℕ) (x : ProcessPlan) → is_process volumes x ≡ true
    → (list_all (is_command volumes) x.commands ≡ true) × (ends_once x.commands ≡ true)
unfolding is_process
process_commands volumes x h = and_parts _ _ (and_parts _ _ h).1

pub scripts_are : {p : Plan} → IsPlan p → AreScripts p
scripts_are {p} h = record {
  ranges = λ (k : ℕ) (lt : k < length p.processes). (of k lt).0;
  ends = λ (k : ℕ) (lt : k < length p.processes). (of k lt).1;
}
  where
    of : (k : ℕ) → k < length p.processes → (list_all (is_command (length p.volumes)) (commands_of p k) ≡ true)
        × (ends_once (commands_of p k) ≡ true)
    of k lt = process_commands (length p.volumes) (process_of p k)
        (process_there (length p.volumes) p.processes k h.each lt)

-- at first
pub booted_come : {p : Plan} (words : List (List ℕ)) (disks : List (List (List ℕ))) → IsPlan p
    → AllCome (booted p words disks)
unfolding AllCome
booted_come {p} words disks h k lt more = at_first
  where
    scripts : AreScripts p
    scripts = scripts_are h

    within : k < length p.processes
    within = omega (arith, length-replicate (length p.processes) first_run)

    run : run_at (replicate (length p.processes) first_run) k ≡ first_run
    run = get_or-replicate (length p.processes) k first_run no_run within

    at_first : Comes (commands_of p k) (run_at (replicate (length p.processes) first_run) k)
    at_first = rw run (comes_at_first (length p.volumes) (commands_of p k) (scripts.ranges k within)
        (scripts.ends k within))

-- after an answer
pub told_come : (s : State) (c k : ℕ) (f : Option ℕ) (r : Reply) {command : Command} → IsPlan s.plan → AllCome s
    → k < length s.runs → k < length s.plan.processes → GoesOn (commands_of s.plan k) (run_at s.runs k) command
    → AllCome (told_by s c k f r)
unfolding AllCome
told_come s c k f r {command} h come there planned on j lt more =
    elim (eqb_tells j k) [ inl e ↦ at_it e.1 more | inr e ↦ elsewhere e.1 more ]
  where
    after : List Run
    after = set s.runs k (run_after (run_at s.runs k) (next_command s k) r)

    at_it : j ≡ k → (run_at after j).ended ≡ false → Comes (commands_of s.plan j) (run_at after j)
    at_it same going =
        subst (λ (i : ℕ). (run_at after i).ended ≡ false → Comes (commands_of s.plan i) (run_at after i)) (sym same)
        (rw (get_or-set_same s.runs k (run_after (run_at s.runs k) (next_command s k) r) no_run there)
        (rw on.next (comes_after (length s.plan.volumes) r
        ((scripts_are h).ranges k planned) ((scripts_are h).ends k planned) on))) going

    elsewhere : j ≢ k → (run_at after j).ended ≡ false → Comes (commands_of s.plan j) (run_at after j)
    elsewhere other going =
        (rw (← (get_or-set_other s.runs k j (run_after (run_at s.runs k) (next_command s k) r) no_run other)) at (come j
        (omega (arith, length-set s.runs k (run_after (run_at s.runs k) (next_command s k) r))))) going
