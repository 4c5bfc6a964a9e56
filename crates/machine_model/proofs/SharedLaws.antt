-- Laws that several crates cite.
use Rattle.machine_model.proofs.Prelude.{Bool, List, None, Option, Some, [], ap, arith, false, inl, inr, is_none, refl, suc, true, zero, ℕ, ◌&&◌, ◌∙◌, ◌∷◌, ◌≡◌, eqb_tells, IsSome, are_zeros, AreZero, Active as Entry}

pub zeros_to : (ws : List ℕ) → AreZero ws → are_zeros ws ≡ true
zeros_to [] h = refl
zeros_to (w ∷ ws) h = elim (eqb_tells w 0) [
  | inl e ↦ ap (λ (b : Bool). b && are_zeros ws) e.0 ∙ zeros_to ws (λ k d lt. h (suc k) d (omega arith))
  | inr n ↦ absurd (n.1 (h zero zero (omega arith)))
]

pub some_not_none : (o : Option Entry) → IsSome o → is_none o ≡ false
some_not_none None h = cc
some_not_none (Some e) h = refl
