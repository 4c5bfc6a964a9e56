-- The least number that stands for nothing.
use Rattle.std.proofs.lemmas.Grind.{common_steps}
use Rattle.flat_store.proofs.Prelude.{◌≡◌, ℕ, ◌<◌, ◌≤◌, true, false, not, ltb, List, length, Option, Some, None, is_some, is_none, refl, ap, ◌∙◌, arith, nat_tests, least_free, uid_of}
use Rattle.std.proofs.lemmas.List.Sums.{position_or_len_is}
use Rattle.laws.proofs.Numbers.{below}

opposite : (o : Option ℕ) → is_none o ≡ not (is_some o)
opposite None = refl
opposite (Some u) = refl

pub free_found : (kst : List (Option ℕ)) (n : ℕ) {o : Option ℕ} → o ≡ uid_of kst n → is_some o ≡ false
    → n < length kst → ((k : ℕ) → k < n → is_some (uid_of kst k) ≡ true) → Some n ≡ least_free kst
free_found kst n at empty within before =
    grind (arith, nat_tests, common_steps, position_or_len_is, opposite (uid_of kst n), below n (length kst) within)

pub none_free : (kst : List (Option ℕ)) (n : ℕ) → length kst ≤ n → ((k : ℕ) → k < n → is_some (uid_of kst k) ≡ true)
    → None ≡ least_free kst
none_free kst n past before =
    let first = position_or_len_is is_none kst (length kst) None (omega arith)
    (λ k lt. opposite (uid_of kst k) ∙ ap not (before k (omega arith))) (λ lt. absurd (omega arith)) in
    let over : ltb (length kst) (length kst) ≡ false = grind (arith, nat_tests) in
    rw (first, over) refl
