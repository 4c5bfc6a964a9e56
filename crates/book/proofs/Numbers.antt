-- The numbers in the text of an entry are read as those of a script are.
use Rattle.book.proofs.Prelude.{◌≡◌, ℕ, ◌+◌, ◌-◌, ◌*◌, ◌^◌, Bool, true, false, cond, ◌&&◌, nat_lt, nat_le, List, [], ◌∷◌, length, Option, Some, None, refl, ◌∙◌, arith, digits_value, digits_value_after, digit_value, is_ascii_digit, list_all, nat_tests, decimal_value, decimal_value_from, up_to, script_number, is_plain, number_of}

pub not_plain : (w : List ℕ) → is_plain w ≡ false → None ≡ number_of w
unfolding number_of
not_plain w h = rw h refl

digit_is : (b : ℕ) → is_ascii_digit b ≡ true → digit_value b ≡ b - 48
digit_is b h = grind (arith, nat_tests)

-- digit by digit, or all at once
digits_read : (n : ℕ) (ds : List ℕ) → decimal_value_from n ds
    ≡ cond (list_all is_ascii_digit ds) (Some (digits_value_after 10 n ds)) None
unfolding decimal_value_from
digits_read n [] = refl
digits_read n (d ∷ ds) = by_test (is_ascii_digit d) refl (digits_read (n * 10 + (d - 48)) ds)
  where
    by_test : (z : Bool) → is_ascii_digit d ≡ z → decimal_value_from (n * 10 + (d - 48)) ds
        ≡ cond (list_all is_ascii_digit ds) (Some (digits_value_after 10 (n * 10 + (d - 48)) ds)) None
        → cond z (decimal_value_from (n * 10 + (d - 48)) ds) None
        ≡ cond (z && list_all is_ascii_digit ds) (Some (digits_value_after 10 (n * 10 + digit_value d) ds)) None
    by_test true e later = rw (digit_is d e) later
    by_test false e later = refl

fits_same : (v : ℕ) → nat_le v 4294967295 ≡ nat_lt v (2 ^ 32)
fits_same v = by_test (nat_le v 4294967295) refl
  where
    by_test : (z : Bool) → nat_le v 4294967295 ≡ z → z ≡ nat_lt v (2 ^ 32)
    by_test true e = grind (arith, nat_tests)
    by_test false e = grind (arith, nat_tests)

-- a word without leading zeros is read by its digits
pub plain_number : (w : List ℕ) (o : Option ℕ) → is_plain w ≡ true → o ≡ script_number w → o ≡ number_of w
unfolding number_of script_number decimal_value
plain_number w o plain read =
    let short : (nat_le 1 (length w) && nat_le (length w) 10) ≡ true = grind (arith, nat_tests) in
    read ∙ rw (plain, short, digits_read 0 w) (by_digits (list_all is_ascii_digit w))
  where
    by_digits : (z : Bool) → up_to 4294967295 (cond z (Some (digits_value 10 w)) None)
        ≡ cond (z && nat_lt (digits_value 10 w) (2 ^ 32)) (Some (digits_value 10 w)) None
    by_digits true = rw (fits_same (digits_value 10 w)) refl
    by_digits false = refl
