-- What a path leads to, by its walk.
use Rattle.machine_tables.proofs.Prelude.{◌≡◌, ℕ, true, is_some, List, Ok, Err, path_answer, PathFault, Node, Walk, node_in, walk_in, node_at, walked, uid_of_node, found_uid, arith}

led_to : (ns : List Node) (w : Walk) (u : ℕ) → Ok u ≡ path_answer w → is_some (node_in ns u) ≡ true
    → u ≡ uid_of_node (walked ns w)
led_to ns w u h1 h2 = grind (arith, found_uid)

led_nowhere : (ns : List Node) (w : Walk) (e : PathFault) → Err e ≡ path_answer w → 0 ≡ uid_of_node (walked ns w)
led_nowhere ns w e h1 = grind arith

pub path_leads : (ns : List Node) (path : List (List ℕ)) (u : ℕ) → Ok u ≡ path_answer (walk_in ns path)
    → is_some (node_in ns u) ≡ true → u ≡ uid_of_node (node_at ns path)
unfolding node_at
path_leads ns path u is there = led_to ns (walk_in ns path) u is there

pub path_fails : (ns : List Node) (path : List (List ℕ)) (e : PathFault) → Err e ≡ path_answer (walk_in ns path)
    → 0 ≡ uid_of_node (node_at ns path)
unfolding node_at
path_fails ns path e is = led_nowhere ns (walk_in ns path) e is
