-- What is kept once a part of it is changed.
use Rattle.std.proofs.lemmas.Grind.{common_steps}
use Rattle.flat_store.proofs.Prelude.{arith, nat_tests, ◌≡◌, ℕ, ◌≤◌, true, List, [], length, set, get_or_past, Option, None, is_some, refl, length-set, Plan, Command, takes_effect, AccountMaps, ShowsTree, uid_of, numbers_of, known_uid, with_numbers, terminate_reply, effect_of_tree_command, reply_to_tree_command, KeepsOthers, Progress, Store, with_progress, Held, Holds, IsShown, Kept}

-- the tree that is held
pub tree_shown : {p : Plan} {k : Kept} {s : Store} {tree : AccountMaps} → IsShown p k s → tree ≡ k.held.accounts
    → ShowsTree s tree
tree_shown h same = rw same (record { nodes = h.holds.nodes; next = h.holds.next; counts = h.holds.counts })

-- a process that the script hasn't knows nothing
pub nobody_knows : {p : Plan} {k : Kept} {s : Store} → IsShown p k s → (process number : ℕ)
    → length p.processes ≤ process → uid_of (numbers_of s process) number ≡ None
nobody_knows {s = s} h process number le = rw (get_or_past s.known process [] (rw h.knowers le)) refl

-- what numbers stand for, and how far processes have come, isn't of the holdings
holds_beside : {p : Plan} {held : Held} {s : Store} {known : List (List (Option ℕ))} {processes : List Progress}
    → Holds p held s → Holds p held (record s { known = known; processes = processes })
holds_beside h = assumption

-- the holdings alone are changed
pub effect_shown : {p : Plan} {k : Kept} {s t : Store} {held : Held} → IsShown p k s → Holds p held t → KeepsOthers s t
    → IsShown p (record k { held = held }) t
effect_shown h holds keeps = grind (arith, nat_tests, common_steps)

-- so by the effect of a command, once it is known which it is
pub effect_done : {p : Plan} {s : Store} {inside told : Kept} {held : Held} → inside ≡ told → (process : ℕ)
    {command known : Command} → command ≡ known → IsShown p told s
    → takes_effect (reply_to_tree_command p s process command) ≡ true
    → (Holds p inside.held s → takes_effect (reply_to_tree_command p s process known) ≡ true
    → Holds p held (effect_of_tree_command p s process known))
    → KeepsOthers s (effect_of_tree_command p s process known)
    → IsShown p (record inside { held = held }) (effect_of_tree_command p s process command)
effect_done same process is h effect done keeps = grind (arith, nat_tests, common_steps, effect_shown)

-- what the numbers of a process stand for is changed alone
pub numbers_shown : {p : Plan} {k : Kept} {s : Store} {known : List (List (Option ℕ))} (process : ℕ)
    (numbers : List (Option ℕ)) → IsShown p k s → known ≡ set s.known process numbers
    → IsShown p (record k { known = known }) (with_numbers s process numbers)
numbers_shown {s = s} process numbers h now = grind (arith, nat_tests, common_steps, holds_beside, length-set)

-- how far a process has come is changed alone
pub progress_shown : {p : Plan} {k : Kept} {s : Store} {processes : List Progress} (process : ℕ) (q : Progress)
    → IsShown p k s → processes ≡ set s.processes process q
    → IsShown p (record k { processes = processes }) (with_progress s process q)
progress_shown {s = s} process q h now = grind (arith, nat_tests, common_steps, holds_beside, length-set)

pub terminate_asked : (s : Store) (process number : ℕ) → takes_effect (terminate_reply s process number) ≡ true
    → is_some (known_uid s process number) ≡ true
unfolding terminate_reply
terminate_asked s process number = grind (arith, nat_tests, common_steps, is_some (known_uid s process number))
