-- Pools of the active segment table: the least free place of one, which pool a node's page table is of, and what the
-- pools of a script have.
use Rattle.machine_tables.proofs.Prelude.{◌≡◌, ◌≢◌, ℕ, zero, suc, ◌+◌, ◌-◌, ◌<◌, ◌≤◌, Bool, true, false, cond, is_none, List, [], ◌∷◌, Option, Some, None, refl, sym, ap, ◌∙◌, arith, inl, inr, IfSome, IsNone, ◌↔◌, find, range_with_len, eqb_tells, ArePools, Node, ActiveSegs, IsFull, IsLeastFree, entry_at, first_of, size_of, pool_of_node, free_place, pool_small, some_not_none}

-- ---- what is found among numbers in order

module _ (test : ℕ → Bool) where
  first_in : (from n place : ℕ) → from ≤ place → place < from + n → test place ≡ true
      → ((q : ℕ) → from ≤ q → q < place → test q ≡ false) → find test (range_with_len from n) ≡ Some place
  first_in from zero place a b h before = absurd (omega arith)
  first_in from (suc n) place a b h before = elim (eqb_tells from place) [
    | inl e ↦ ap (λ (t : Bool). cond t (Some from) (find test (range_with_len (from + 1) n))) (ap test e.1 ∙ h)
        ∙ ap (λ (x : ℕ). Some x) e.1
    | inr m ↦ (let other = m.1 in
        cc (
          before from (omega arith) (omega (arith, a, other)),
          first_in (from + 1) n place (omega (arith, a, other))
              (omega (arith, b)) h (λ q c d. before q (omega (arith, c)) d),
        ))
  ]

  none_in : (from n : ℕ) → ((q : ℕ) → from ≤ q → q < from + n → test q ≡ false)
      → find test (range_with_len from n) ≡ None
  none_in from zero off = refl
  none_in from (suc n) off = cc (
    off from (omega arith) (omega arith),
    none_in (from + 1) n (λ q c d. off q (omega (arith, c)) (omega (arith, d))),
  )

module _ (ast : ActiveSegs) (pool : ℕ) where
  abbrev first : ℕ
  first = first_of ast.sizes pool

  abbrev size : ℕ
  size = size_of ast.sizes pool

  -- the least free place of a pool, however it is told
  pub least_free : (place : ℕ) → IsLeastFree ast pool place → free_place ast pool ≡ Some place
  least_free place h = (let from = h.in_pool.from in let to = h.in_pool.to in
      first_in (λ q. is_none (entry_at ast.entries q)) first (first + size - first) place from
      (omega arith) (ap is_none h.free) (λ q a b. some_not_none (entry_at ast.entries q)
      (h.least q (record { from = a; to = omega arith }) b)))

  pub full_none : IsFull ast pool → free_place ast pool ≡ None
  full_none h = grind (arith, none_in, some_not_none)

  pub free_told : (found : ActiveSegs) (o : Option ℕ) → found ≡ ast → IfSome o (IsLeastFree found pool)
      → (IsNone o ↔ IsFull found pool) → o ≡ free_place ast pool
  free_told found (Some place) same some none = sym (least_free place (rw (← same) some))
  free_told found None same some none = sym (full_none (rw (← same) (none.0 refl)))

-- ---- the pool of a node

pub pool_few : (o : Option Node) → pool_of_node o < 4
pool_few o = grind (arith, pool_small)

-- ---- the pools of a script

-- each other pool has some, after those of the first
pub others_some : (sizes : List ℕ) (pool : ℕ) → ArePools sizes → pool < 4 → pool ≢ 0
    → (1 ≤ size_of sizes pool) × (size_of sizes 0 ≤ first_of sizes pool)
others_some (a ∷ b ∷ c ∷ d ∷ []) zero h few other = absurd (other refl)
others_some (a ∷ b ∷ c ∷ d ∷ []) (suc zero) h few other = (h.1, omega arith)
others_some (a ∷ b ∷ c ∷ d ∷ []) (suc (suc zero)) h few other = (h.2, omega arith)
others_some (a ∷ b ∷ c ∷ d ∷ []) (suc (suc (suc zero))) h few other = (h.3, omega arith)
others_some (a ∷ b ∷ c ∷ d ∷ []) (suc (suc (suc (suc n)))) h few other = absurd (omega arith)
others_some _ pool h few other = absurd h
