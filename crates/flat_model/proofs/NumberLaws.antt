-- Where no number is free, each stands for something.
use Rattle.flat_model.proofs.Prelude.{common_steps, nat_tests, ◌≡◌, ℕ, ◌<◌, false, List, length, Option, None, is_none, arith, ltb-false, not-true, prefix_len_passes, least_free, uid_of}

pub free_none : (kst : List (Option ℕ)) (k : ℕ) → least_free kst ≡ None → k < length kst
    → is_none (uid_of kst k) ≡ false
free_none kst k e within = grind (arith, nat_tests, common_steps, ltb-false, not-true, prefix_len_passes)
