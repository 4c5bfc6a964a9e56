-- How far a process may come: to one of its commands, of which a script has few.
use Rattle.flat_model.proofs.Prelude.{common_steps, ◌≡◌, ℕ, suc, zero, ◌+◌, ◌<◌, ◌≤◌, ◌^◌, true, List, [], ◌∷◌, length, get_or, Some, arith, sum_by, slice_get, list_all, and_parts, nat_tests, sum_by-cons, IsPlan, is_command, is_process, weight, weight_of, Plan, ProcessPlan, command_at, commands_of, nobody, Command, command}

pub heavy : (volumes : ℕ) (c : Command) → is_command volumes c ≡ true → 1 ≤ weight c
unfolding is_command
heavy volumes (command.Await number offset word tries) is = grind (arith, nat_tests)
heavy volumes _ is = omega arith

commands_weigh : (volumes : ℕ) (cs : List Command) → list_all (is_command volumes) cs ≡ true
    → length cs ≤ sum_by weight cs
commands_weigh volumes [] are = omega arith
commands_weigh volumes (c ∷ cs) are =
    let parts = and_parts (is_command volumes c) (list_all (is_command volumes) cs) are in
    let one : 1 ≤ weight c = heavy volumes c parts.0 in
    let rest : length cs ≤ sum_by weight cs = commands_weigh volumes cs parts.1 in
    omega (arith, one, rest, sum_by-cons weight c cs)

pub process_weighs : (volumes : ℕ) (x : ProcessPlan) → is_process volumes x ≡ true → length x.commands ≤ weight_of x
unfolding is_process weight_of
process_weighs volumes x is = commands_weigh volumes x.commands (and_parts _ _ (and_parts _ _ is).1).0

command_there : (cs : List Command) (i : ℕ) (c : Command) → slice_get cs i ≡ Some c → i < length cs
command_there [] i c e = cc
command_there (d ∷ cs) zero c e = omega arith
command_there (d ∷ cs) (suc i) c e = (let lt : i < length cs = command_there cs i c e in omega (arith, lt))

pub place_within : (p : Plan) (k place : ℕ) (c : Command) → command_at p k place ≡ Some c
    → place < length (commands_of p k)
place_within p k place c at = command_there (commands_of p k) place c at

-- a place is small
place_small : (volumes : ℕ) (xs : List ProcessPlan) (k : ℕ) → list_all (is_process volumes) xs ≡ true
    → length (get_or xs k (record { who = nobody; commands = [] })).commands ≤ sum_by weight_of xs
place_small volumes [] k are = omega arith
place_small volumes (x ∷ xs) zero are = grind (arith, nat_tests, common_steps, and_parts, process_weighs, sum_by-cons)
place_small volumes (x ∷ xs) (suc k) are =
    let parts = and_parts (is_process volumes x) (list_all (is_process volumes) xs) are in
    let rest = place_small volumes xs k parts.1 in
    omega (arith, rest, sum_by-cons weight_of x xs)

pub place_fits : (p : Plan) (k place : ℕ) → IsPlan p → place < length (commands_of p k) → place + 1 < 2 ^ 32
place_fits p k place plan lt = grind (arith, nat_tests, common_steps, place_small)
