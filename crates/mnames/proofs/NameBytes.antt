-- Which bytes may stand in a name, as bits.
use Rattle.mnames.proofs.Prelude.{◌≡◌, ◌<◌, ◌/◌, ◌^◌, ℕ, Bool, [], ◌∷◌, nat_eq, slice_index_or, bit_and, refl, agree_below_at, is_name_byte}

-- the bit of a byte in these words
abbrev pub bit_of : ℕ → Bool
bit_of b = nat_eq (bit_and (slice_index_or (288054454291267584 ∷ 576460745995190270 ∷ 0 ∷ 0 ∷ []) (b / 64) 0
    / 2 ^ bit_and b 63) 1) 1

pub name_bit : (b : ℕ) → b < 256 → bit_of b ≡ is_name_byte b
name_bit b lt = agree_below_at bit_of is_name_byte 256 b refl lt
