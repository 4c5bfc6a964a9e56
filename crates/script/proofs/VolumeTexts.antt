-- The names of volumes, modes, amounts and calls that fail: each is a field, and is read back (own).
use Rattle.script.proofs.Prelude.{common_steps, ◌≡◌, ℕ, suc, zero, ◌+◌, ◌-◌, ◌<◌, ◌≤◌, Bool, true, false, eqb, List, [], ◌∷◌, ◌++◌, length, take, Some, Ok, refl, sym, ap, subst, ◌∙◌, arith, get_or, ℤ, pos, negsuc, nat_tests, take_at, bytes_eq-Decides, is_ascii_digit, decimal, is_negative, unsigned_abs, list_all, list_any, bytes_eq, is_name, Mode, has_name, have_own_names, is_from, is_volume, amount_in, call_in, ends_with_plus, is_write_in, mode_in, new_name_in, number_from, volume_in, call_text, onward_text, mode_text, sign_text, volume_name, VolumeLine, first_false, second_false, mode}
use Rattle.std.proofs.lemmas.List.{length_push}
use Rattle.script.proofs.FieldTexts.{is_field_byte, IsField, all_both}
use Rattle.script.proofs.PushLaws.{apart_parts, names_apart}
use Rattle.script.proofs.ValueTexts.{decimal_digits, decimal_field, name_field, number_again}
use Rattle.script.proofs.SmallLaws.{nil_after}

-- ---- volumes

-- the volumes of a script
pub record AreVolumes (vs : List VolumeLine) : Type 0 where
  pub each : list_all is_volume vs ≡ true
  pub own : have_own_names vs ≡ true

same_name : (v : VolumeLine) → has_name v.name v ≡ true
same_name v = (bytes_eq-Decides v.name v.name).1 refl

-- a name that no volume has is no volume's name
other_name : (name : List ℕ) (vs : List VolumeLine) (k : ℕ) → k < length vs → list_any (has_name name) vs ≡ false
    → bytes_eq (volume_name vs k) name ≡ false
other_name name [] k lt h = absurd (omega arith)
other_name name (v ∷ vs) zero lt h = first_false (has_name name v) (list_any (has_name name) vs) h
other_name name (v ∷ vs) (suc k) lt h = other_name name vs k (omega arith)
    (second_false (has_name name v) (list_any (has_name name) vs) h)

number_again_from : (n : ℕ) (vs : List VolumeLine) (k : ℕ) → k < length vs → have_own_names vs ≡ true
    → number_from n vs (volume_name vs k) ≡ Some (n + k)
unfolding number_from
number_again_from n [] k lt h = absurd (omega arith)
number_again_from n (v ∷ vs) zero lt h = rw (same_name v) (ap (λ (m : ℕ). Some m) (omega arith))
number_again_from n (v ∷ vs) (suc k) lt h =
    let own = apart_parts (λ a b. has_name a.name b) v vs h in
    let other : has_name (volume_name vs k) v ≡ false =
    names_apart (volume_name vs k) v.name (other_name v.name vs k (omega arith) own.0) in
    rw other (number_again_from (n + 1) vs k (omega arith) own.1 ∙ ap (λ (m : ℕ). Some m) (omega arith))

volume_is_named : (v : VolumeLine) → is_volume v ≡ true → is_name v.name ≡ true
unfolding is_volume
volume_is_named v h = grind (arith, nat_tests)

pub name_of_volume : (vs : List VolumeLine) (k : ℕ) → k < length vs → list_all is_volume vs ≡ true
    → is_name (volume_name vs k) ≡ true
name_of_volume [] k lt h = absurd (omega arith)
name_of_volume (v ∷ vs) zero lt h = volume_is_named v (grind (arith, nat_tests))
name_of_volume (v ∷ vs) (suc k) lt h = name_of_volume vs k (omega arith) (grind (arith, nat_tests))

pub volume_field : (vs : List VolumeLine) (k : ℕ) → k < length vs → list_all is_volume vs ≡ true
    → IsField (volume_name vs k)
volume_field vs k lt h = name_field (volume_name vs k) (name_of_volume vs k lt h)

pub volume_again : (vs : List VolumeLine) (k : ℕ) → k < length vs → list_all is_volume vs ≡ true → have_own_names vs
    ≡ true → volume_in vs (volume_name vs k) ≡ Ok k
unfolding volume_in
volume_again vs k lt each own = grind (arith, nat_tests, common_steps, name_of_volume, number_again_from)

-- a name that no volume so far has
pub new_name_again : (vs : List VolumeLine) (name : List ℕ) → is_name name ≡ true → list_any (has_name name) vs ≡ false
    → new_name_in vs name ≡ Ok name
unfolding new_name_in
new_name_again vs name h new = rw (h, new) refl

-- ---- modes

pub mode_again : (m : Mode) → mode_in (mode_text m) ≡ Ok m
unfolding mode_in mode_text
mode_again mode.Null = refl
mode_again _ = refl

pub mode_field : (m : Mode) → IsField (mode_text m)
unfolding mode_text
mode_field mode.Null = record { some = omega arith; bytes = refl }
mode_field _ = record { some = omega arith; bytes = refl }

-- ---- amounts

not_below : (n : ℕ) → is_negative (pos n) ≡ false
not_below n = grind (arith, nat_tests)

pub amount_again : (z : ℤ) → is_from 1 16384 (unsigned_abs z) ≡ true
    → amount_in (sign_text (is_negative z) ++ decimal (unsigned_abs z)) ≡ Ok z
unfolding amount_in sign_text
amount_again (pos n) h =
    let low : 1 ≤ n = grind (arith, nat_tests) in
    let high : n ≤ 16384 = grind (arith, nat_tests) in
    rw (not_below n, number_again 1 16384 n (omega arith) low high) refl
amount_again (negsuc n) h =
    let low : 1 ≤ suc n = omega arith in
    let high : suc n ≤ 16384 = grind (arith, nat_tests) in
    rw (number_again 1 16384 (suc n) (omega arith) low high) refl

pub amount_field : (z : ℤ) → is_from 1 16384 (unsigned_abs z) ≡ true
    → IsField (sign_text (is_negative z) ++ decimal (unsigned_abs z))
unfolding sign_text
amount_field (pos n) h =
    let high : n ≤ 1000000 = grind (arith, nat_tests) in
    rw (not_below n) (record { some = omega arith; bytes = (decimal_field n high).bytes })
amount_field (negsuc n) h =
    let high : suc n ≤ 1000000 = grind (arith, nat_tests) in
    record { some = omega arith; bytes = (decimal_field (suc n) high).bytes }

-- ---- calls that fail

pub write_again : (write : Bool) → is_write_in (call_text write) ≡ Ok write
unfolding is_write_in
write_again true = refl
write_again false = refl

pub write_field : (write : Bool) → IsField (call_text write)
write_field true = record { some = omega arith; bytes = refl }
write_field false = record { some = omega arith; bytes = refl }

plus_at : (xs : List ℕ) → get_or (xs ++ 43 ∷ []) (length xs) 0 ≡ 43
plus_at [] = refl
plus_at (x ∷ xs) = plus_at xs

before_plus : (xs : List ℕ) → length (xs ++ 43 ∷ []) - 1 ≡ length xs
before_plus xs = omega (arith, length_push xs 43)

last_plus : (xs : List ℕ) → ends_with_plus (xs ++ 43 ∷ []) ≡ true
last_plus xs = rw (before_plus xs, plus_at xs) refl

cut_plus : (xs : List ℕ) → take (length (xs ++ 43 ∷ []) - 1) (xs ++ 43 ∷ []) ≡ xs
cut_plus xs = rw (before_plus xs) (take_at xs (43 ∷ []) (length xs) refl)

digit_at : (xs : List ℕ) (i : ℕ) → i < length xs → list_all is_ascii_digit xs ≡ true → is_ascii_digit (get_or xs i 0)
    ≡ true
digit_at [] i lt h = absurd (omega arith)
digit_at (x ∷ xs) zero lt h = grind (arith, nat_tests)
digit_at (x ∷ xs) (suc i) lt h = digit_at xs i (omega arith) (grind (arith, nat_tests))

digit_is_no_plus : (b : ℕ) → is_ascii_digit b ≡ true → eqb b 43 ≡ false
digit_is_no_plus b h = grind (arith, nat_tests)

no_plus : (n : ℕ) → n ≤ 1000000 → ends_with_plus (decimal n) ≡ false
no_plus n h = grind (arith, nat_tests, common_steps, digit_is_no_plus, digit_at, decimal_field, decimal_digits)

pub call_field : (n : ℕ) (onward : Bool) → n ≤ 1000000 → IsField (decimal n ++ onward_text onward)
call_field n true h = grind (arith, nat_tests, common_steps, decimal_field, length_push, all_both, is_field_byte)
call_field n false h = subst IsField (sym (nil_after (decimal n))) (decimal_field n h)

pub call_again : (n : ℕ) (onward : Bool) → 1 ≤ n → n ≤ 1000000 → call_in (decimal n ++ onward_text onward)
    ≡ Ok (n, onward)
unfolding call_in
call_again n true low high = grind (arith, nat_tests, common_steps, last_plus, cut_plus, number_again)
call_again n false low high = grind (arith, nat_tests, common_steps, nil_after, no_plus, number_again)
