-- Texts of fields with a space between them, and of lines with a line feed after each, read back (own).
use Rattle.script.proofs.Prelude.{common_steps, ◌≡◌, ◌≢◌, ℕ, ◌≤◌, Bool, true, false, ◌&&◌, nat_le, eqb, List, [], ◌∷◌, ◌++◌, length, refl, ap, ◌∙◌, arith, nat_tests, list_all-append, list_all, line_byte, line_feed, lines_of, onto_piece, fields_of, onto_field, is_printable, is_printable_byte, and_from, and_parts, fields_nil}

-- a printable byte that isn't a space
abbrev pub is_field_byte : ℕ → Bool
is_field_byte b = nat_le 33 b && nat_le b 126

pub record IsField (text : List ℕ) : Type 0 where
  pub some : 1 ≤ length text
  pub bytes : list_all is_field_byte text ≡ true

-- ---- bytes

-- a test that holds wherever another does holds of each of a list
pub all_from : (p q : ℕ → Bool) → ((b : ℕ) → p b ≡ true → q b ≡ true) → (bs : List ℕ) → list_all p bs ≡ true
    → list_all q bs ≡ true
all_from p q step [] h = refl
all_from p q step (b ∷ bs) h =
    let parts = and_parts (p b) (list_all p bs) h in
    and_from (q b) (list_all q bs) (step b parts.0) (all_from p q step bs parts.1)

pub all_both : (p : ℕ → Bool) (xs ys : List ℕ) → list_all p xs ≡ true → list_all p ys ≡ true → list_all p (xs ++ ys)
    ≡ true
all_both p xs ys a b = list_all-append p xs ys ∙ and_from (list_all p xs) (list_all p ys) a b

-- a text of 1 to 32 bytes that may stand in a field
pub short_field : (p : ℕ → Bool) → ((b : ℕ) → p b ≡ true → is_field_byte b ≡ true) → (text : List ℕ)
    → ((nat_le 1 (length text) && nat_le (length text) 32) && list_all p text) ≡ true → IsField text
short_field p stands text h =
    record { some = grind (arith, nat_tests); bytes = all_from p is_field_byte stands text (grind (arith, nat_tests)) }

byte_is_printable : (b : ℕ) → is_field_byte b ≡ true → is_printable_byte b ≡ true
byte_is_printable b h = grind (arith, nat_tests)

byte_is_no_space : (b : ℕ) → is_field_byte b ≡ true → eqb b 32 ≡ false
byte_is_no_space b h = grind (arith, nat_tests)

byte_is_no_feed : (b : ℕ) → is_printable_byte b ≡ true → b ≢ 10
byte_is_no_feed b h = grind (arith, nat_tests)

-- ---- lines

cut : (line rest : List ℕ) → list_all is_printable_byte line ≡ true → lines_of (line ++ (10 ∷ rest)) ≡ line
    ∷ lines_of rest
cut [] rest h = line_feed 10 rest refl
cut (b ∷ bs) rest h =
    let parts = and_parts (is_printable_byte b) (list_all is_printable_byte bs) h in
    line_byte b (bs ++ (10 ∷ rest)) (byte_is_no_feed b parts.0) ∙ ap (onto_piece b) (cut bs rest parts.1)

-- the first line of a text
pub line_first : (line rest : List ℕ) → is_printable line ≡ true → lines_of (line ++ (10 ∷ rest)) ≡ line ∷ lines_of rest
unfolding is_printable
line_first line rest h = cut line rest h

-- ---- fields

fields_space : (bs : List ℕ) → fields_of (32 ∷ bs) ≡ fields_of bs
unfolding fields_of
fields_space bs = refl

fields_byte : (b : ℕ) (bs : List ℕ) → eqb b 32 ≡ false → fields_of (b ∷ bs) ≡ onto_field b bs (fields_of bs)
unfolding fields_of
fields_byte b bs z = rw z refl

onto_space : (b : ℕ) (cs : List ℕ) (fs : List (List ℕ)) → onto_field b (32 ∷ cs) fs ≡ (b ∷ []) ∷ fs
onto_space b cs [] = refl
onto_space b cs (f ∷ fs) = refl

onto_byte : (b c : ℕ) (cs f : List ℕ) (fs : List (List ℕ)) → eqb c 32 ≡ false → onto_field b (c ∷ cs) (f ∷ fs)
    ≡ (b ∷ f) ∷ fs
onto_byte b c cs f fs z = rw z refl

before_space : (b : ℕ) (bs rest : List ℕ) → list_all is_field_byte (b ∷ bs) ≡ true
    → fields_of ((b ∷ bs) ++ (32 ∷ rest)) ≡ (b ∷ bs) ∷ fields_of rest
before_space b [] rest h =
    grind (arith, nat_tests, common_steps, fields_byte, byte_is_no_space, onto_space, fields_space)
before_space b (c ∷ cs) rest h =
    let parts = and_parts (is_field_byte b) (list_all is_field_byte (c ∷ cs)) h in
    let next = and_parts (is_field_byte c) (list_all is_field_byte cs) parts.1 in
    fields_byte b ((c ∷ cs) ++ (32 ∷ rest)) (byte_is_no_space b parts.0)
    ∙ ap (onto_field b ((c ∷ cs) ++ (32 ∷ rest))) (before_space c cs rest parts.1)
    ∙ onto_byte b c (cs ++ (32 ∷ rest)) (c ∷ cs) (fields_of rest) (byte_is_no_space c next.0)

alone : (b : ℕ) (bs : List ℕ) → list_all is_field_byte (b ∷ bs) ≡ true → fields_of (b ∷ bs) ≡ (b ∷ bs) ∷ []
alone b [] h =
    fields_byte b [] (byte_is_no_space b (grind (arith, nat_tests))) ∙ ap (onto_field b []) fields_nil
alone b (c ∷ cs) h =
    let parts = and_parts (is_field_byte b) (list_all is_field_byte (c ∷ cs)) h in
    let next = and_parts (is_field_byte c) (list_all is_field_byte cs) parts.1 in
    fields_byte b (c ∷ cs) (byte_is_no_space b parts.0) ∙ ap (onto_field b (c ∷ cs)) (alone c cs parts.1)
    ∙ onto_byte b c cs (c ∷ cs) [] (byte_is_no_space c next.0)

first_of : (w rest : List ℕ) → 1 ≤ length w → list_all is_field_byte w ≡ true → fields_of (w ++ (32 ∷ rest)) ≡ w
    ∷ fields_of rest
first_of [] rest some h = absurd (omega arith)
first_of (b ∷ bs) rest some h = before_space b bs rest h

only_of : (w : List ℕ) → 1 ≤ length w → list_all is_field_byte w ≡ true → fields_of w ≡ w ∷ []
only_of [] some h = absurd (omega arith)
only_of (b ∷ bs) some h = alone b bs h

-- ---- lines of fields

-- a line of printable bytes with these fields
pub record HasFields (line : List ℕ) (fields : List (List ℕ)) : Type 0 where
  pub printable : is_printable line ≡ true
  pub split : fields_of line ≡ fields

pub last_field : {w : List ℕ} → IsField w → HasFields w (w ∷ [])
unfolding is_printable
last_field {w} h = grind (arith, nat_tests, common_steps, all_from, byte_is_printable, only_of)

pub front_field : {w rest : List ℕ} {fields : List (List ℕ)} → IsField w → HasFields rest fields
    → HasFields (w ++ (32 ∷ rest)) (w ∷ fields)
unfolding is_printable
front_field {w} {rest} h r = grind (arith, nat_tests, common_steps, all_both, all_from, byte_is_printable, first_of)
