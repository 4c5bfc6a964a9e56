-- What each script promises of its segments and of its first volume.
use Rattle.flat_model.proofs.Prelude.{◌≡◌, ℕ, suc, zero, ◌≤◌, true, List, [], ◌∷◌, length, get_or, Some, arith, slice_get, list_all, and_parts, nat_tests, Plan, ProcessPlan, nobody, command_at, IsPlan, is_command, is_process, is_volume, VolumeLine, Command, entries_in, entries_of, command}

entries_some : (v : VolumeLine) → is_volume v ≡ true → 1 ≤ v.entries
unfolding is_volume
entries_some v h = grind (arith, nat_tests)

-- the first volume has an entry for the root
pub root_there : (p : Plan) → IsPlan p → 1 ≤ entries_of p 0
root_there p h = by_volumes p.volumes h.some h.volumes
  where
    by_volumes : (vs : List VolumeLine) → 1 ≤ length vs → list_all is_volume vs ≡ true → 1 ≤ entries_in (slice_get vs 0)
    by_volumes [] there are = absurd (omega arith)
    by_volumes (v ∷ vs) there are = entries_some v (and_parts _ _ are).0

pub command_of : (volumes : ℕ) (cs : List Command) (place : ℕ) (c : Command) → list_all (is_command volumes) cs ≡ true
    → slice_get cs place ≡ Some c → is_command volumes c ≡ true
command_of volumes [] place c are at = absurd cc
command_of volumes (d ∷ cs) zero c are at = let same : d ≡ c = cc in let is : is_command volumes d ≡ true =
    (and_parts _ _ are).0 in cc
command_of volumes (d ∷ cs) (suc place) c are at = command_of volumes cs place c (and_parts _ _ are).1 at

commands_are : (volumes : ℕ) (x : ProcessPlan) → is_process volumes x ≡ true → list_all (is_command volumes) x.commands
    ≡ true
unfolding is_process
commands_are volumes x h = (and_parts _ _ (and_parts _ _ h).1).0

-- each command of a script has its numbers in their ranges
pub command_there : (volumes : ℕ) (xs : List ProcessPlan) (process place : ℕ) (c : Command)
    → list_all (is_process volumes) xs ≡ true
    → slice_get (get_or xs process (record { who = nobody; commands = [] })).commands place ≡ Some c
    → is_command volumes c ≡ true
command_there volumes [] process place c are at = absurd cc
command_there volumes (x ∷ xs) zero place c are at = command_of volumes x.commands place c
    (commands_are volumes x (and_parts _ _ are).0) at
command_there volumes (x ∷ xs) (suc process) place c are at =
    command_there volumes xs process place c (and_parts _ _ are).1 at

pub few_pages : (volumes : ℕ) (path : List (List ℕ)) (pages volume : ℕ)
    → is_command volumes (command.MkSeg path pages volume) ≡ true → pages ≤ 256
unfolding is_command
few_pages volumes path pages volume h = grind (arith, nat_tests)

-- each command of a script has its numbers in their ranges
pub command_planned : (p : Plan) (process place : ℕ) (c : Command) → IsPlan p → command_at p process place ≡ Some c
    → is_command (length p.volumes) c ≡ true
command_planned p process place c h at = command_there (length p.volumes) p.processes process place c h.each at
