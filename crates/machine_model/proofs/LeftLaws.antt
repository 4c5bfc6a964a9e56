-- Each answer leaves a command, or a try of an `await`, less to come.
use Rattle.machine_model.proofs.Prelude.{◌≡◌, ◌<◌, ℕ, zero, suc, ◌+◌, ◌-◌, Bool, true, false, cond, List, [], ◌∷◌, length, drop, sum_by, slice_get, Some, set, get_or, arith, sum_by-drop_more, get_or_from_slice_get, slice_get_within, weight, ProcessPlan, nobody, Command, Reply, Run, run_at, goes_on, is_its_end, run_after, left_in, GoesOn, Command as command, outlined_left_of as left_of}

-- what is to come begins with the next command
rest_of : (commands : List Command) (place : ℕ) (c : Command) → slice_get commands place ≡ Some c
    → sum_by weight (drop place commands) ≡ weight c + sum_by weight (drop (place + 1) commands)
rest_of commands place c next = cc (
  sum_by-drop_more weight commands place command.End (slice_get_within commands place c next),
  get_or_from_slice_get commands place c command.End next,
)

pub answer_falls : {commands : List Command} {run : Run} {c : Command} (r : Reply) → GoesOn commands run c
    → left_of commands (run_after run (Some c) r) < left_of commands run
answer_falls {commands} {run} {c} r on = rw was (by (goes_on run (Some c) r) (is_its_end (Some c)))
  where
    was : left_of commands run ≡ sum_by weight (drop run.place commands) - run.tries
    was = cc

    rest : sum_by weight (drop run.place commands) ≡ weight c + sum_by weight (drop (run.place + 1) commands)
    rest = rest_of commands run.place c on.next

    tried : left_of commands (record run { tries = run.tries + 1 }) ≡ sum_by weight (drop run.place commands)
        - (run.tries + 1)
    tried = cc

    by : (more ends : Bool) → left_of commands (cond more (record run { tries = run.tries + 1 })
        (record { place = run.place + 1; tries = 0; ended = ends })) < sum_by weight (drop run.place commands)
        - run.tries
    by true ends = omega (arith, tried, rest, on.tries)
    by false true = omega (arith, rest, on.tries)
    by false false = omega (arith, rest, on.tries)

abbrev pub no_process : ProcessPlan
no_process = record { who = nobody; commands = [] }

-- of all processes, where one was answered
pub left_falls : (xs : List ProcessPlan) (runs : List Run) (k : ℕ) (run : Run) → k < length xs → k < length runs
    → left_of (get_or xs k no_process).commands run < left_of (get_or xs k no_process).commands (run_at runs k)
    → left_in xs (set runs k run) < left_in xs runs
left_falls (x ∷ xs) (y ∷ ys) zero run lt within less = omega arith
left_falls (x ∷ xs) (y ∷ ys) (suc k) run lt within less =
    omega (arith, (left_falls xs ys k run (omega arith) (omega arith) less))
left_falls _ _ k run lt within less = absurd (omega arith)
