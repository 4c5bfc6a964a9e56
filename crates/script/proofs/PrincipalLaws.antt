-- The texts of principals and of rows are fields, and are read back as what they are the texts of (own).
use Rattle.script.proofs.Prelude.{common_steps, ◌≡◌, ℕ, Bool, true, false, cond, List, ◌∷◌, ◌++◌, length-append, Option, Some, None, Ok, refl, arith, IfSome, list_all, bytes_eq, nat_tests, who_again, row_again, is_label, is_label_byte, IsLabel, default_project, IsWho, who_of, who_text, parts_text, IsRow, any_text, part_of, row_alone, row_of, row_parts_text, row_text, row_with, Who, Row, is_who, is_part, is_row, who_in, row_in, and_from, and_parts}
use Rattle.script.proofs.FieldTexts.{is_field_byte, IsField, all_both, short_field}

-- ---- labels

label_byte_is_field : (b : ℕ) → is_label_byte b ≡ true → is_field_byte b ≡ true
label_byte_is_field b h = grind (arith, nat_tests)

label_field : (text : List ℕ) → is_label text ≡ true → IsField text
unfolding is_label
label_field text h = short_field is_label_byte label_byte_is_field text h

-- ---- principals

pub who_in_again : (who : Who) → is_who who ≡ true → who_in (who_text who) ≡ Ok who
who_in_again who h =
    let whole : IsWho who = record { person = grind (arith, nat_tests); project = grind (arith, nat_tests) } in
    rw (who_again (who_text who) (who_of (who_text who)) refl who whole refl) refl

dotted_field : (xs ys : List ℕ) → IsField xs → list_all is_field_byte ys ≡ true → IsField (xs ++ (46 ∷ ys))
dotted_field xs ys x y = grind (arith, nat_tests, common_steps, length-append, all_both, is_field_byte)

parts_field : (a b : List ℕ) → is_label a ≡ true → is_label b ≡ true → IsField (parts_text a b)
parts_field a b ha hb = chosen (bytes_eq b default_project)
  where
    chosen : (z : Bool) → IsField (cond z a (a ++ (46 ∷ b)))
    chosen true = label_field a ha
    chosen false = dotted_field a b (label_field a ha) (label_field b hb).bytes

pub who_field : (who : Who) → is_who who ≡ true → IsField (who_text who)
unfolding who_text
who_field who h = parts_field who.person who.project (grind (arith, nat_tests)) (grind (arith, nat_tests))

-- ---- rows

labels_in : (part : Option (List ℕ)) → is_part part ≡ true → IfSome part IsLabel
labels_in None h = tt
labels_in (Some part) h = h

pub row_in_again : (row : Row) → is_row row ≡ true → row_in (row_text row) ≡ Ok row
row_in_again row h =
    let parts = and_parts (is_part row.person) (is_part row.project) h in
    let whole : IsRow row = record { person = labels_in row.person parts.0; project = labels_in row.project parts.1 } in
    rw (row_again (row_text row) (row_of (row_text row)) refl row whole refl) refl

row_parts_field : (person project : Option (List ℕ)) → is_part person ≡ true → is_part project ≡ true
    → IsField (row_parts_text person project)
row_parts_field None None ha hb = record { some = omega arith; bytes = refl }
row_parts_field None (Some b) ha hb = dotted_field any_text b (record { some = omega arith; bytes = refl })
    (label_field b hb).bytes
row_parts_field (Some a) None ha hb = dotted_field a any_text (label_field a ha) refl
row_parts_field (Some a) (Some b) ha hb = parts_field a b ha hb

pub row_field : (row : Row) → is_row row ≡ true → IsField (row_text row)
unfolding row_text
row_field row h = row_parts_field row.person row.project (grind (arith, nat_tests)) (grind (arith, nat_tests))

-- ---- a row that was read has labels as its parts

part_read : (text : List ℕ) (part : Option (List ℕ)) → part_of text ≡ Some part → is_part part ≡ true
unfolding part_of
part_read text part e = grind (arith, nat_tests, common_steps)

default_part : is_part (Some default_project) ≡ true
unfolding is_label
default_part = refl

parts_read : (a b : Option (Option (List ℕ))) (row : Row)
    → ((part : Option (List ℕ)) → a ≡ Some part → is_part part ≡ true)
    → ((part : Option (List ℕ)) → b ≡ Some part → is_part part ≡ true) → row_with a b ≡ Some row → is_row row ≡ true
parts_read None b row ha hb e = absurd (cc)
parts_read (Some x) None row ha hb e = absurd (cc)
parts_read (Some x) (Some y) row ha hb e = grind (arith, nat_tests, common_steps, and_from)

alone_read : (part : Option (List ℕ)) → is_part part ≡ true → is_row (row_alone part) ≡ true
alone_read None h = refl
alone_read (Some person) h = and_from (is_label person) (is_part (Some default_project)) h default_part

pub row_read : (text : List ℕ) (row : Row) → Some row ≡ row_of text → is_row row ≡ true
unfolding row_of
row_read text row e = grind (arith, nat_tests, common_steps, parts_read, part_read, alone_read)
