-- A trailer that is in a list has a place there.
use Rattle.std.proofs.Common.{ℕ, List, refl, Contains, IsSome, ap, ◌∙◌}
use Rattle.std.proofs.lemmas.Bool.{eq-eqb, and_from}
use Rattle.trailers.specs.Trailer.{leads_to, place_in}
use Rattle.laws.proofs.Lists.{position_there}

pub there_is_a_place : (xs : List (ℕ × ℕ)) (process number : ℕ) → Contains xs (process, number)
    → IsSome (place_in xs process number)
there_is_a_place xs process number h =
    position_there (leads_to process number) xs h.0 (process, number) h.1
    (ap (leads_to process number) h.2 ∙ and_from _ _ (eq-eqb process process refl) (eq-eqb number number refl))
