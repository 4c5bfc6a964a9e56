-- What was written of a line at fault in a listing that was judged.
use Rattle.lab_calls.proofs.Prelude.{Explains, IsTold, List, Offence, ap, offence_text, ℕ, ◌++◌, ◌∙◌, ◌≡◌}

pub explains_more : (bytes : List ℕ) (o : Offence) (front why all : List ℕ)
    → front ≡ offence_text o → all ≡ front ++ why → IsTold bytes o why → Explains bytes o all
explains_more bytes o front why all is more told = record {
  why = why;
  told = told;
  text_is = more ∙ ap (λ (xs : List ℕ). xs ++ why) is;
}
