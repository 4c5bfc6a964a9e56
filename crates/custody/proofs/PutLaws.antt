-- The list of active segments once it has a place for a uid, and what is counted once one is put there.
use Rattle.std.proofs.lemmas.Grind.{common_steps}
use Rattle.custody.proofs.Prelude.{nat_tests, ◌≡◌, ◌<◌, ◌≤◌, ◌+◌, ◌-◌, ◌^◌, ℕ, List, [], ◌∷◌, ◌++◌, Option, None, zero, suc, length, set, replicate, refl, sym, ap, ◌∙◌, arith, length-set, length-append, sum_by, length-replicate, sum_by-cons, Counted, Keeps, Shifts, AreFew, key_bit, IsTally, AreActive, active_at, pool_key, superior_of, with_place, ActiveUse, all_same, subst}
use Rattle.custody.proofs.BootLaws.{none_counted}
use Rattle.custody.proofs.TallyLaws.{tally_set, tally_kept, tally_few}

grown_sum : {X : Type 0} (f : X → ℕ) (xs : List X) (n : ℕ) (d : X) → f d ≡ 0 → sum_by f (xs ++ replicate n d)
    ≡ sum_by f xs
grown_sum f [] n d e = none_counted f d n e
grown_sum f (x ∷ xs) n d e = grind (arith, nat_tests, common_steps, sum_by-cons)

grown_tally : {X : Type 0} (key : X → Option ℕ) (xs : List X) (c : Counted) (n : ℕ) (d : X) → key d ≡ None
    → IsTally key xs c → IsTally key (xs ++ replicate n d) c
grown_tally key xs c n d e t = λ a.
    t a ∙ sym (grown_sum (λ x. key_bit (key x) a) xs n d (ap (λ (k : Option ℕ). key_bit k a) e))

place_length : (uses : List (Option ActiveUse)) (u : ℕ) → length (with_place uses u)
    ≡ length uses + (u + 1 - length uses)
place_length uses u =
    let a = length-append uses (replicate (u + 1 - length uses) None) in
    let r : length (replicate {A = Option ActiveUse} (u + 1 - length uses) None) ≡ u + 1 - length uses =
    length-replicate (u + 1 - length uses) None in
    a ∙ ap (λ (n : ℕ). length uses + n) r

pub place_there : (uses : List (Option ActiveUse)) (u : ℕ) → u < length (with_place uses u)
place_there uses u = let l = place_length uses u in omega (arith, l)

-- the places that come are of nothing
pub grown_at : (uses : List (Option ActiveUse)) (n v : ℕ) → active_at (uses ++ replicate n None) v ≡ active_at uses v
grown_at [] n v = all_same n v None
grown_at (x ∷ xs) n zero = refl
grown_at (x ∷ xs) n (suc v) = grown_at xs n v

place_few : (uses : List (Option ActiveUse)) (u : ℕ) → length uses ≤ 2 ^ 32 → u < 2 ^ 32
    → length (with_place uses u) ≤ 2 ^ 32
place_few uses u few below = let l = place_length uses u in omega (arith, l, few, below)

pub active_kept : (uses : List (Option ActiveUse)) (p q i j : Counted) → AreActive uses p i → Keeps p q → Keeps i j
    → AreActive uses q j
active_kept uses p q i j t k l = grind (arith, nat_tests, common_steps, tally_kept)

pub active_grown : (uses : List (Option ActiveUse)) (p i : Counted) (u : ℕ) → u < 2 ^ 32 → AreActive uses p i
    → AreActive (with_place uses u) p i
active_grown uses p i u below t = grind (arith, nat_tests, common_steps, place_few, grown_tally)

pub active_few : (uses : List (Option ActiveUse)) (p i : Counted) → AreActive uses p i → AreFew p × AreFew i
active_few uses p i t = (tally_few pool_key uses p t.few t.in_pools, tally_few superior_of uses i t.few t.below)

pub active_put : (uses placed : List (Option ActiveUse)) (p q i j : Counted) (u : ℕ) (x : Option ActiveUse)
    → placed ≡ with_place uses u → u < 2 ^ 32 → AreActive uses p i
    → Shifts p q (pool_key (active_at uses u)) (pool_key x)
    → Shifts i j (superior_of (active_at uses u)) (superior_of x) → AreActive (set placed u x) q j
active_put uses placed p q i j u x is below t s r =
    let grown = active_grown uses p i u below t in
    let was = grown_at uses (u + 1 - length uses) u in
    let there = place_there uses u in
    rw is (record {
      few = rw (length-set (with_place uses u) u x) grown.few;
      in_pools = tally_set pool_key (with_place uses u) p q u x None there grown.in_pools
          (subst (λ (o : Option ActiveUse). Shifts p q (pool_key o) (pool_key x)) (sym was) s);
      below = tally_set superior_of (with_place uses u) i j u x None there grown.below
          (subst (λ (o : Option ActiveUse). Shifts i j (superior_of o) (superior_of x)) (sym was) r);
    })

pub ruleset active_counted = (active_kept, active_grown, active_put, place_there)
