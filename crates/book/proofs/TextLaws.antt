-- Texts that are compared byte by byte.
use Rattle.book.proofs.Prelude.{◌≡◌, ◌≢◌, ℕ, suc, ◌<◌, true, false, List, [], ◌∷◌, length, get_or, refl, sym, ap, arith, eqb, eq-eqb, inl, inr, bytes_eq, bytes_decides, cases_Bool}

-- they are one where they are as long and each byte is the same
pub same_bytes : (xs ys : List ℕ) → length xs ≡ length ys
    → ((k : ℕ) → k < length ys → get_or xs k 0 ≡ get_or ys k 0) → true ≡ bytes_eq xs ys
same_bytes [] [] long each = refl
same_bytes [] (y ∷ ys) long each = absurd (omega (arith, long))
same_bytes (x ∷ xs) [] long each = absurd (omega (arith, long))
same_bytes (x ∷ xs) (y ∷ ys) long each =
    let here : eqb x y ≡ true = eq-eqb x y (each 0 (omega arith)) in
    rw here (same_bytes xs ys (omega (arith, long)) (λ k lt. each (suc k) (omega (arith, lt))))

-- and else they aren't
apart_bytes : (xs ys : List ℕ) → xs ≢ ys → false ≡ bytes_eq xs ys
apart_bytes xs ys apart = elim (cases_Bool (bytes_eq xs ys)) [
  | inl same ↦ absurd (apart ((bytes_decides xs ys).0 same))
  | inr other ↦ sym other
]

pub other_length : (xs ys : List ℕ) → length xs ≢ length ys → false ≡ bytes_eq xs ys
other_length xs ys long = apart_bytes xs ys (λ e. long (ap length e))

pub other_byte : (xs ys : List ℕ) (k : ℕ) → get_or xs k 0 ≢ get_or ys k 0 → false ≡ bytes_eq xs ys
other_byte xs ys k byte = apart_bytes xs ys (λ e. byte (ap (λ (t : List ℕ). get_or t k 0) e))

pub ruleset text_compared = (same_bytes, other_length, other_byte)
