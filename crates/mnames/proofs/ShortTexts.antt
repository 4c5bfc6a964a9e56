-- What the texts of names and labels keep.
use Rattle.mnames.proofs.Prelude.{◌≡◌, ℕ, ◌<◌, ◌≤◌, Bool, true, false, ◌&&◌, nat_le, List, [], ◌∷◌, length, arith, le-leb, nat_tests, IsAscii-nil, IsAscii-cons, IsAscii, IsUtf8, IsUtf8-from_ascii, list_all, IsShort, is_name, is_name_byte, is_label, is_label_byte}

-- a test that only ASCII bytes pass
all_ascii : (p : ℕ → Bool) → ((b : ℕ) → p b ≡ true → b < 128) → (bs : List ℕ) → list_all p bs ≡ true → IsAscii bs
all_ascii p below [] h = IsAscii-nil
all_ascii p below (b ∷ bs) h = IsAscii-cons b bs (below b (grind (arith, nat_tests)))
    (all_ascii p below bs (grind (arith, nat_tests)))

name_byte_below : (b : ℕ) → is_name_byte b ≡ true → b < 128
name_byte_below b h = grind (arith, nat_tests)

label_byte_below : (b : ℕ) → is_label_byte b ≡ true → b < 128
label_byte_below b h = grind (arith, nat_tests)

-- 1 to 32 bytes that pass such a test
short_text : (p : ℕ → Bool) → ((b : ℕ) → p b ≡ true → b < 128) → (text : List ℕ)
    → ((nat_le 1 (length text) && nat_le (length text) 32) && list_all p text) ≡ true → IsShort text
short_text p below text h = record {
  ascii = all_ascii p below text (grind (arith, nat_tests));
  short = grind (arith, nat_tests);
}

pub name_is_short : (text : List ℕ) → is_name text ≡ true → IsShort text
unfolding is_name
name_is_short text h = short_text is_name_byte name_byte_below text h

pub label_is_short : (text : List ℕ) → is_label text ≡ true → IsShort text
unfolding is_label
label_is_short text h = short_text is_label_byte label_byte_below text h

pub ascii_is_utf8 : (bs : List ℕ) → IsAscii bs → IsUtf8 bs
ascii_is_utf8 bs h = IsUtf8-from_ascii bs h

pub name_tested : (text : List ℕ) (a : Bool) → 1 ≤ length text → length text ≤ 32 → a ≡ list_all is_name_byte text → a
    ≡ is_name text
unfolding is_name
name_tested text a low high h = rw (le-leb 1 (length text) low, le-leb (length text) 32 high) h

pub name_wrong_length : (text : List ℕ) → (1 ≤ length text → length text ≤ 32 → ⊥) → false ≡ is_name text
unfolding is_name
name_wrong_length text h = grind (arith, nat_tests)

pub label_tested : (text : List ℕ) (a : Bool) → 1 ≤ length text → length text ≤ 32 → a ≡ list_all is_label_byte text
    → a ≡ is_label text
unfolding is_label
label_tested text a low high h = rw (le-leb 1 (length text) low, le-leb (length text) 32 high) h

pub label_wrong_length : (text : List ℕ) → (1 ≤ length text → length text ≤ 32 → ⊥) → false ≡ is_label text
unfolding is_label
label_wrong_length text h = grind (arith, nat_tests)

-- what tests of labels and names, and those that give them, go by
pub ruleset label_test = (label_tested, label_wrong_length)

-- a test of a name
pub ruleset name_test = (name_tested, name_wrong_length)
