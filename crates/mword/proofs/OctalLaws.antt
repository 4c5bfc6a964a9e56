-- Laws of octal text: what a digit adds, and that twelve digits of a word read back as the word.
use Rattle.mword.proofs.Prelude.{◌≡◌, ℕ, suc, zero, ◌+◌, ◌-◌, ◌*◌, ◌/◌, ◌%◌, ◌^◌, ◌<◌, ◌≤◌, ◌↔◌, Bool, true, false, nat_le, ◌&&◌, List, [], ◌∷◌, ◌++◌, length, All, IsSome, IfSome, Option, Some, None, refl, sym, ◌∙◌, arith, get_or, take, drop, set, add-one, list_all, append_assoc, drop-set, length_push, take_more, take_all, list_all_more, list_all_at, list_all-append, fold_push, All-cons, All-head, All-tail, All-nil, pow_more, nat_tests, IsUtf8, IsAscii, IsUtf8-from_ascii, IsAscii-append, IsAscii-nil, pow-le-pow_right, octal_digits, is_octal_digit, octal_number, is_octal, octal_value, IsOctal}

pub octal_number_push : (ds : List ℕ) (d : ℕ) → octal_number (ds ++ d ∷ []) ≡ octal_number ds * 8 + (d - 48)
unfolding octal_number
octal_number_push ds d = fold_push (λ number digit. number * 8 + (digit - 48)) 0 ds d

pub list_all_octal_push : (ds : List ℕ) (d : ℕ) → list_all is_octal_digit (ds ++ d ∷ [])
    ≡ (list_all is_octal_digit ds && is_octal_digit d)
list_all_octal_push ds d = list_all-append is_octal_digit ds (d ∷ []) ∙ grind (arith, nat_tests)

pub length-octal_digits : (count n : ℕ) → length (octal_digits count n) ≡ count
unfolding octal_digits
length-octal_digits zero n = refl
length-octal_digits (suc count) n = length_push (octal_digits count (n / 8)) (48 + n % 8)
    ∙ omega (arith, length-octal_digits count (n / 8))

digit_is_octal : (r : ℕ) → is_octal_digit (48 + r % 8) ≡ true
digit_is_octal r = grind (arith, nat_tests)

pub octal_digits_all : (count n : ℕ) → list_all is_octal_digit (octal_digits count n) ≡ true
unfolding octal_digits
octal_digits_all zero n = refl
octal_digits_all (suc count) n = list_all_octal_push (octal_digits count (n / 8)) (48 + n % 8)
    ∙ rw (octal_digits_all count (n / 8)) (digit_is_octal n)

one_is_ascii : (d : ℕ) → d < 128 → IsAscii (d ∷ [])
one_is_ascii d h zero = h
one_is_ascii d h (suc i) = omega arith

octal_digits_ascii : (count n : ℕ) → IsAscii (octal_digits count n)
unfolding octal_digits
octal_digits_ascii zero n = IsAscii-nil
octal_digits_ascii (suc count) n = IsAscii-append (octal_digits count (n / 8)) ((48 + n % 8) ∷ [])
    (octal_digits_ascii count (n / 8)) (one_is_ascii (48 + n % 8) (omega arith))

pub octal_number_digits : (count n : ℕ) → n < 8 ^ count → octal_number (octal_digits count n) ≡ n
unfolding octal_digits octal_number
octal_number_digits zero n h = omega arith
octal_number_digits (suc count) n h =
    let e = rw add-one at (pow_more 8 count) in
    let k : n / 8 < 8 ^ count = omega arith in
    octal_number_push (octal_digits count (n / 8)) (48 + n % 8) ∙ rw (octal_number_digits count (n / 8) k) (omega arith)

-- twelve octal digits of a word read back as the word
pub octal_reads_back : (w : ℕ) → w < 2 ^ 36 → octal_value (octal_digits 12 w) ≡ Some w
unfolding octal_value is_octal
octal_reads_back w h = rw (length-octal_digits 12 w, octal_digits_all 12 w, octal_number_digits 12 w h) refl

digit_facts : (b : ℕ) → is_octal_digit b ≡ true → (48 ≤ b) × (b ≤ 55)
digit_facts b h = (grind (arith, nat_tests), grind (arith, nat_tests))

digit_test : (b : ℕ) → 48 ≤ b → b ≤ 55 → is_octal_digit b ≡ true
digit_test b l u = grind (arith, nat_tests)

digits_facts : (text : List ℕ) → list_all is_octal_digit text ≡ true → All (λ byte. (48 ≤ byte) × (byte ≤ 55)) text
digits_facts [] h = All-nil (λ byte. (48 ≤ byte) × (byte ≤ 55))
digits_facts (b ∷ bs) h = All-cons (λ byte. (48 ≤ byte) × (byte ≤ 55)) b bs
    (digit_facts b (grind (arith, nat_tests))) (digits_facts bs (grind (arith, nat_tests)))

digits_test : (text : List ℕ) → All (λ byte. (48 ≤ byte) × (byte ≤ 55)) text → list_all is_octal_digit text ≡ true
digits_test [] h = refl
digits_test (b ∷ bs) h =
    let first = All-head (λ byte. (48 ≤ byte) × (byte ≤ 55)) b bs h in
    rw (digit_test b first.0 first.1) (digits_test bs (All-tail (λ byte. (48 ≤ byte) × (byte ≤ 55)) b bs h))

-- the test, and the facts that it stands for
pub is_octal_facts : {text : List ℕ} → is_octal text ≡ true → IsOctal text
unfolding is_octal
is_octal_facts {text} h = record {
  some = grind (arith, nat_tests);
  within = grind (arith, nat_tests);
  digits = digits_facts text (grind (arith, nat_tests));
}

pub is_octal_test : {text : List ℕ} → IsOctal text → is_octal text ≡ true
unfolding is_octal
is_octal_test {text} h = grind (arith, nat_tests, digits_test text h.digits, h.some, h.within)

-- a digit more, in front of those that are written
pub octal_digits_step : (place rest : ℕ) (digits all : List ℕ) → 0 < place → place ≤ length digits
    → octal_digits place rest ++ drop place digits ≡ all → octal_digits (place - 1) (rest / 8)
    ++ drop (place - 1) (set digits (place - 1) (48 + rest % 8)) ≡ all
unfolding octal_digits
octal_digits_step zero rest digits all some h e = absurd (omega arith)
octal_digits_step (suc place) rest digits all some h e =
    let low : suc place - 1 ≡ place = omega arith in
    rw (low, rw add-one at (drop-set digits place (48 + rest % 8) (omega arith)))
    (sym (append_assoc (octal_digits place (rest / 8)) ((48 + rest % 8) ∷ []) (drop (suc place) digits))
    ∙ e)

pub octal_digits_end : (place rest : ℕ) (digits all : List ℕ) → place ≤ 0 → octal_digits place rest
    ++ drop place digits ≡ all → digits ≡ all
unfolding octal_digits
octal_digits_end zero rest digits all none e = e
octal_digits_end (suc place) rest digits all none e = absurd (omega arith)

pub octal_digits_text : (count n : ℕ) → IsUtf8 (octal_digits count n)
octal_digits_text count n = IsUtf8-from_ascii (octal_digits count n) (octal_digits_ascii count n)

-- where a byte isn't an octal digit, the text is no word
pub octal_value_stops : (text : List ℕ) (i : ℕ) → i < length text → (48 ≤ get_or text i 0 → 55 < get_or text i 0)
    → octal_value text ≡ None
unfolding octal_value is_octal
octal_value_stops text i h other =
    rw (list_all_at is_octal_digit text i 0 h (grind (arith, nat_tests))) (grind (arith, nat_tests))

pub octal_value_empty : (text : List ℕ) → length text ≡ 0 → octal_value text ≡ None
unfolding octal_value is_octal
octal_value_empty text h = let low : nat_le 1 (length text) ≡ false = grind (arith, nat_tests) in rw low refl

pub octal_value_long : (text : List ℕ) → 12 < length text → octal_value text ≡ None
unfolding octal_value is_octal
octal_value_long text h =
    let high : nat_le (length text) 12 ≡ false = grind (arith, nat_tests) in
    rw high (grind (arith, nat_tests))

-- one more digit
pub octal_more : (text : List ℕ) (i : ℕ) → i < length text → 48 ≤ get_or text i 0 → get_or text i 0 ≤ 55
    → list_all is_octal_digit (take i text) ≡ true → list_all is_octal_digit (take (i + 1) text) ≡ true
octal_more text i h l u d = list_all_more is_octal_digit text i 0 h ∙ rw (d, digit_test (get_or text i 0) l u) refl

pub octal_number_more : (text : List ℕ) (i : ℕ) {value : ℕ} → i < length text → value ≡ octal_number (take i text)
    → 8 * value + (get_or text i 0 - 48) ≡ octal_number (take (i + 1) text)
octal_number_more text i h v =
    rw (take_more text i 0 h, octal_number_push (take i text) (get_or text i 0), ← v) (omega arith)

pub octal_bound_more : (i value digit : ℕ) → value < 8 ^ i → digit < 8 → 8 * value + digit < 8 ^ (i + 1)
octal_bound_more i value digit h d = rw (pow_more 8 i) (omega arith)

-- a number of at most twelve octal digits is a word
pub octal_below : (i value : ℕ) → i ≤ 12 → value < 8 ^ i → value < 2 ^ 36
octal_below i value h v = let m : 8 ^ i ≤ 8 ^ 12 = pow-le-pow_right (omega arith) h in omega arith

pub octal_value_read : (text : List ℕ) {i value : ℕ} → 0 < length text → length text ≤ 12 → i ≡ length text
    → list_all is_octal_digit (take i text) ≡ true → value ≡ octal_number (take i text) → octal_value text ≡ Some value
unfolding octal_value is_octal
octal_value_read text {i} some within e d v =
    let whole : take i text ≡ text = take_all i text (omega arith) in
    let low : nat_le 1 (length text) ≡ true = grind (arith, nat_tests) in
    let high : nat_le (length text) 12 ≡ true = grind (arith, nat_tests) in
    rw (low, high, rw whole at d) (cc)

-- the word that is made of the value, which fits
pub octal_value_made : (text : List ℕ) (value : ℕ) (r : Option ℕ) → octal_value text ≡ Some value → IsSome r
    → IfSome r (λ w. w ≡ value) → r ≡ octal_value text
octal_value_made text value None e some is = absurd (cc)
octal_value_made text value (Some w) e some is = cc

-- a text has a value exactly where it is 1 to 12 octal digits
pub octal_exactly : (text : List ℕ) (r : Option ℕ) → r ≡ octal_value text → IsSome r ↔ IsOctal text
unfolding octal_value
octal_exactly text r e = rw e (cases (is_octal text) refl)
  where
    cases : (b : Bool) → is_octal text ≡ b → IsSome (octal_value text) ↔ IsOctal text
    cases true t = rw t (λ _. is_octal_facts t, λ _. refl)
    cases false t = rw t (λ n. absurd (cc), λ o. absurd (cc (is_octal_test o)))

-- what the proof of `digits_of` is given
pub ruleset digits_of_steps = (octal_digits_step, octal_digits_end, octal_digits_text)

-- what the proof of `read_octal` is given
pub ruleset read_octal_steps = (octal_value_empty, octal_value_long, octal_exactly)
