-- Laws that several crates cite.
use Rattle.flat_model.proofs.Prelude.{nat_tests, List, [], arith, drop, eqb, false, length, refl, sum, true, ℕ, ◌++◌, ◌+◌, ◌<◌, ◌∷◌, ◌≡◌, ◌≤◌, leb_tells, common_steps, get_or_past, Entry, Store, progress_of, ArePools, alters, new_word, RefKind, kind}

pub going_within : (t : Store) (k : ℕ) → (progress_of t k).ended ≡ false → k < length t.processes
going_within t k h = grind (arith, nat_tests, common_steps, leb_tells, get_or_past)

pub pools_few : (pools : List ℕ) → ArePools pools → sum pools ≤ 1024
pools_few [] h = absurd h
pools_few (a ∷ b ∷ c ∷ d ∷ []) h = (let few : a + b + c + d ≤ 1024 = h.4 in grind (arith, common_steps))
pools_few _ h = absurd h

pub nonzero_alters : (how : RefKind) → eqb (new_word 0 how) 0 ≡ false → alters how ≡ true
nonzero_alters kind.Read h = absurd (let no : true ≡ false = h in cc)
nonzero_alters _ h = refl

pub front_dropped : (xs ys : List Entry) → drop (length xs) (xs ++ ys) ≡ ys
front_dropped xs ys = grind (arith, common_steps)
