-- The texts of values: each is a field, and is read back as the value (own).
use Rattle.script.proofs.Prelude.{common_steps, ◌≡◌, ℕ, ◌+◌, ◌-◌, ◌*◌, ◌/◌, ◌%◌, ◌^◌, ◌<◌, ◌≤◌, true, ◌&&◌, nat_le, List, [], ◌∷◌, ◌++◌, length, Some, Ok, refl, sym, ap, ◌∙◌, arith, nat_tests, decimal_by_steps, decimal_nonempty, length-decimal-le, is_ascii_digit, decimal, list_all, is_name, is_name_byte, names_text, path_text, octal_digits, is_octal_digit, octal_digits_all, length-octal_digits, octal_reads_back, decimal_value, decimal_value_from, is_path, number_in, word_in, path_in, and_from, and_parts}
use Rattle.script.proofs.FieldTexts.{is_field_byte, IsField, all_from, all_both, short_field}
use Rattle.script.proofs.PathLaws.{path_again}
use Rattle.script.proofs.NumberLaws.{nil_step}

-- ---- decimal numbers

value_digit : (before d : ℕ) (ds : List ℕ) → is_ascii_digit d ≡ true → decimal_value_from before (d ∷ ds)
    ≡ decimal_value_from (before * 10 + (d - 48)) ds
unfolding decimal_value_from
value_digit before d ds z = rw z refl

digits_push : (before : ℕ) (ds : List ℕ) (d n : ℕ) → list_all is_ascii_digit ds ≡ true → is_ascii_digit d ≡ true
    → decimal_value_from before ds ≡ Some n → decimal_value_from before (ds ++ d ∷ []) ≡ Some (n * 10 + (d - 48))
digits_push before [] d n all z h = grind (arith, nat_tests, common_steps, nil_step, value_digit)
digits_push before (x ∷ xs) d n all z h =
    let parts = and_parts (is_ascii_digit x) (list_all is_ascii_digit xs) all in
    value_digit before x (xs ++ d ∷ []) parts.0 ∙ digits_push (before * 10 + (x - 48)) xs d n parts.1 z
    (sym (value_digit before x xs parts.0) ∙ h)

-- digits that stand for a number
record StandsFor (n : ℕ) (ds : List ℕ) : Type 0 where
  digits : list_all is_ascii_digit ds ≡ true
  value : decimal_value_from 0 ds ≡ Some n

one_digit : (m : ℕ) → m < 10 → StandsFor m ((48 + m) ∷ [])
one_digit m l =
    let z : is_ascii_digit (48 + m) ≡ true = grind (arith, nat_tests) in
    record {
      digits = and_from (is_ascii_digit (48 + m)) true z refl;
      value = value_digit 0 (48 + m) [] z ∙ nil_step (0 * 10 + (48 + m - 48)) ∙ ap (λ (k : ℕ). Some k) (omega arith);
    }

more_digits : (m : ℕ) (ds : List ℕ) → 10 ≤ m → StandsFor (m / 10) ds → StandsFor m (ds ++ (48 + m % 10) ∷ [])
more_digits m ds l h =
    let z : is_ascii_digit (48 + m % 10) ≡ true = grind (arith, nat_tests) in
    record {
      digits = all_both is_ascii_digit ds ((48 + m % 10) ∷ []) h.digits
          (and_from (is_ascii_digit (48 + m % 10)) true z refl);
      value = digits_push 0 ds (48 + m % 10) (m / 10) h.digits z h.value ∙ ap (λ (k : ℕ). Some k) (omega arith);
    }

decimal_stands : (n : ℕ) → n < 2 ^ 64 → StandsFor n (decimal n)
decimal_stands = decimal_by_steps StandsFor one_digit more_digits

decimal_again : (n : ℕ) → n ≤ 1000000 → decimal_value (decimal n) ≡ Some n
unfolding decimal_value
decimal_again n h =
    let some = decimal_nonempty n (omega arith) in
    let short : length (decimal n) ≤ 10 = length-decimal-le 10 n (omega arith) (omega arith) (omega arith) in
    let fits : (nat_le 1 (length (decimal n)) && nat_le (length (decimal n)) 10) ≡ true = grind (arith, nat_tests) in
    rw fits (decimal_stands n (omega arith)).value

pub number_again : (low high n : ℕ) → high ≤ 1000000 → low ≤ n → n ≤ high → number_in low high (decimal n) ≡ Ok n
unfolding number_in
number_again low high n top l u =
    let within : (nat_le low n && nat_le n high) ≡ true = grind (arith, nat_tests) in
    rw (decimal_again n (omega arith), within) refl

pub decimal_digits : (n : ℕ) → n ≤ 1000000 → list_all is_ascii_digit (decimal n) ≡ true
decimal_digits n h = (decimal_stands n (omega arith)).digits

digit_is_field : (b : ℕ) → is_ascii_digit b ≡ true → is_field_byte b ≡ true
digit_is_field b h = grind (arith, nat_tests)

pub decimal_field : (n : ℕ) → n ≤ 1000000 → IsField (decimal n)
decimal_field n h = record {
  some = omega (arith, decimal_nonempty n (omega arith));
  bytes = all_from is_ascii_digit is_field_byte digit_is_field (decimal n) (decimal_stands n (omega arith)).digits;
}

-- ---- words

octal_is_field : (b : ℕ) → is_octal_digit b ≡ true → is_field_byte b ≡ true
octal_is_field b h = grind (arith, nat_tests)

pub word_field : (w : ℕ) → IsField (octal_digits 12 w)
word_field w = record {
  some = omega (arith, length-octal_digits 12 w);
  bytes = all_from is_octal_digit is_field_byte octal_is_field (octal_digits 12 w) (octal_digits_all 12 w);
}

pub word_again : (w : ℕ) → w < 68719476736 → word_in (octal_digits 12 w) ≡ Ok w
word_again w h = rw (octal_reads_back w (omega arith)) refl

-- ---- names and paths

name_byte_is_field : (b : ℕ) → is_name_byte b ≡ true → is_field_byte b ≡ true
name_byte_is_field b h = grind (arith, nat_tests)

pub name_field : (name : List ℕ) → is_name name ≡ true → IsField name
unfolding is_name
name_field name h = short_field is_name_byte name_byte_is_field name h

names_bytes : (names : List (List ℕ)) → list_all is_name names ≡ true → list_all is_field_byte (names_text names) ≡ true
names_bytes [] h = refl
names_bytes (name ∷ names) h =
    let parts = and_parts (is_name name) (list_all is_name names) h in
    all_both is_field_byte name (names_text names) (name_field name parts.0).bytes (names_bytes names parts.1)

pub path_field : (names : List (List ℕ)) → is_path names ≡ true → IsField (path_text names)
unfolding is_path
path_field [] h = record { some = omega arith; bytes = refl }
path_field (name ∷ names) h =
    record { some = omega arith; bytes = names_bytes (name ∷ names) (grind (arith, nat_tests)) }

pub path_in_again : (names : List (List ℕ)) → is_path names ≡ true → path_in (path_text names) ≡ Ok names
path_in_again names h = rw (path_again names h) refl
