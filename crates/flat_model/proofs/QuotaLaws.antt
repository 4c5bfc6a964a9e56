-- No quota is moved.
use Rattle.flat_model.proofs.Prelude.{common_steps, ◌≡◌, ℕ, ℤ, pos, ◌≤◌, Bool, true, false, eqb, not, ◌&&◌, ◌||◌, List, [], ◌∷◌, map, None, Ok, refl, ap, ◌∙◌, arith, nat_lt, nat_tests, getter_of, giver_of, is_over, over_in, tree_moved, with_moved, with_quota_of, Node, above, has_directory, quota_in, used_by, directory_at, move_reply, Store, least_none, reply}

quota_same : (u : ℕ) (change : ℕ → ℕ) (n : Node) → ((q : ℕ) → change q ≡ q) → with_quota_of u change n ≡ n
quota_same u change n same = grind (arith, nat_tests, common_steps)

nodes_same : (ns : List Node) (giver getter : ℕ) → with_moved ns giver getter 0 ≡ ns
nodes_same [] giver getter = refl
nodes_same (n ∷ ns) giver getter = grind (arith, nat_tests, common_steps, quota_same, nodes_same ns giver getter)

pub nothing_moved : (ns : List Node) (d : ℕ) (down : Bool) → tree_moved ns d down 0 ≡ ns
nothing_moved ns d down = nodes_same ns (giver_of (above ns) d down) (getter_of (above ns) d down)

none_over : (ns : List Node) (xs : List (ℕ × ℕ)) → ((a : ℕ) → used_by ns xs a ≤ quota_in ns a) → over_in ns xs ≡ None
unfolding over_in
none_over ns xs within = least_none (is_over ns xs) (map (λ n. n.uid) ns) each
  where
    both : (a b : Bool) → (a && (b && false)) ≡ false
    both true true = refl
    both true false = refl
    both false b = refl

    each : (u : ℕ) → is_over ns xs u ≡ false
    each u =
        let le : used_by ns xs u ≤ quota_in ns u = within u in
        let below : nat_lt (quota_in ns u) (used_by ns xs u) ≡ false = grind (arith, nat_tests) in
        ap (λ (z : Bool). has_directory ns u && ((eqb u 1 || not (eqb (quota_in ns u) 0)) && z)) below
        ∙ both (has_directory ns u) (eqb u 1 || not (eqb (quota_in ns u) 0))

pub move_of_none : (s : Store) (nodes : List Node) (path : List (List ℕ)) (n : Node) (amount : ℤ) → s.nodes ≡ nodes
    → directory_at nodes path ≡ Ok n → amount ≡ pos 0
    → ((a : ℕ) → used_by s.nodes s.stored a ≤ quota_in s.nodes a) → reply.Done ≡ move_reply s path amount
unfolding move_reply
move_of_none s nodes path n amount same found none within =
    grind (arith, nat_tests, common_steps, nothing_moved, none_over)
