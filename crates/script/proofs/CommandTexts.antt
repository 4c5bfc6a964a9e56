-- The text of each command is a line of fields, which is read back as the command (own).
use Rattle.script.proofs.Prelude.{◌≡◌, ℕ, ◌<◌, ◌≤◌, true, false, List, [], ◌∷◌, ◌++◌, length, Ok, refl, arith, nat_tests, decimal, is_negative, unsigned_abs, path_text, row_text, octal_digits, acl_of, add_of, await_of, command_of, delete_of, end_of, initiate_of, length_of, mkdir_of, mkseg_of, move_of, other_command_of, read_of, reference_or, status_of, path_alone, path_and_number, place_and_word, place_in, terminate_of, truncate_of, write_of, is_command, is_from, is_path, is_place, is_row, is_comment, four_fields, next_field, no_fields, one_field, three_fields, two_fields, arguments_text, command_text, mode_text, path_fields_text, reference_text, sign_text, volume_name, word_text, Command, VolumeLine, command}
use Rattle.script.proofs.FieldTexts.{IsField, HasFields, front_field, last_field}
use Rattle.script.proofs.PrincipalLaws.{row_field, row_in_again}
use Rattle.script.proofs.ValueTexts.{decimal_field, number_again, path_field, path_in_again, word_again, word_field}
use Rattle.script.proofs.VolumeTexts.{AreVolumes, amount_again, amount_field, mode_again, mode_field, volume_again, volume_field}

-- the fields of a command's text, after its word
abbrev pub fields_text : List VolumeLine → Command → List (List ℕ)
fields_text vs (command.MkDir path volume) = path_text path ∷ volume_name vs volume ∷ []
fields_text vs (command.MkSeg path pages volume) = path_text path ∷ decimal pages ∷ volume_name vs volume ∷ []
fields_text vs (command.Initiate path) = path_text path ∷ []
fields_text vs (command.Terminate number) = decimal number ∷ []
fields_text vs (command.Read number offset) = decimal number ∷ decimal offset ∷ []
fields_text vs (command.Write number offset word) = decimal number ∷ decimal offset ∷ octal_digits 12 word ∷ []
fields_text vs (command.Add number offset word) = decimal number ∷ decimal offset ∷ octal_digits 12 word ∷ []
fields_text vs (command.Await number offset word tries) = decimal number ∷ decimal offset ∷ octal_digits 12 word
    ∷ decimal tries ∷ []
fields_text vs (command.Acl path row mode) = path_text path ∷ row_text row ∷ mode_text mode ∷ []
fields_text vs (command.Length path pages) = path_text path ∷ decimal pages ∷ []
fields_text vs (command.Truncate path words) = path_text path ∷ decimal words ∷ []
fields_text vs (command.Delete path) = path_text path ∷ []
fields_text vs (command.Move path amount) = path_text path
    ∷ (sign_text (is_negative amount) ++ decimal (unsigned_abs amount)) ∷ []
fields_text vs (command.Status path) = path_text path ∷ []
fields_text vs command.End = []

-- ---- the fields of each command

word_is_field : (c : Command) → IsField (word_text c)
unfolding word_text
word_is_field command.End = record { some = omega arith; bytes = refl }
word_is_field _ = record { some = omega arith; bytes = refl }

pub word_is_no_comment : (c : Command) → is_comment (word_text c) ≡ false
unfolding word_text
word_is_no_comment command.End = refl
word_is_no_comment _ = refl

-- a word and fields after it
worded : (c : Command) {rest : List ℕ} {fields : List (List ℕ)} → HasFields rest fields
    → HasFields (word_text c ++ (32 ∷ rest)) (word_text c ∷ fields)
worded c h = front_field (word_is_field c) h

two : {a b : List ℕ} → IsField a → IsField b → HasFields (a ++ (32 ∷ b)) (a ∷ b ∷ [])
two fa fb = front_field fa (last_field fb)

three : {a b c : List ℕ} → IsField a → IsField b → IsField c → HasFields (a ++ (32 ∷ (b ++ (32 ∷ c)))) (a ∷ b ∷ c ∷ [])
three fa fb fc = front_field fa (two fb fc)

-- what places and words of commands are: fields, and read back
record Placed (n o : ℕ) : Type 0 where
  number : IsField (decimal n)
  offset : IsField (decimal o)
  again : place_in (decimal n) (decimal o) ≡ Ok (n, o)

placed : (n o : ℕ) → is_place n o ≡ true → Placed n o
unfolding place_in
placed n o h =
    let few : n ≤ 255 = grind (arith, nat_tests) in
    let near : o ≤ 999999 = grind (arith, nat_tests) in
    record {
      number = decimal_field n (omega arith);
      offset = decimal_field o (omega arith);
      again = rw (
        number_again 0 255 n (omega arith) (omega arith) few,
        number_again 0 999999 o (omega arith)
            (omega arith) near,
      ) refl;
    }

-- ---- each command is read back

-- the text of a command has its fields, and these are read back
pub record ReadBack (vs : List VolumeLine) (c : Command) : Type 0 where
  pub fields : HasFields (command_text vs c) (word_text c ∷ fields_text vs c)
  pub again : command_of vs (word_text c) (fields_text vs c) ≡ Ok c

pub command_again : (vs : List VolumeLine) (c : Command) → AreVolumes vs → is_command (length vs) c ≡ true
    → ReadBack vs c
unfolding command_text word_text arguments_text path_fields_text reference_text is_command command_of reference_or
    other_command_of mkdir_of mkseg_of initiate_of terminate_of read_of write_of add_of await_of acl_of length_of
    truncate_of delete_of move_of status_of end_of path_alone path_and_number place_and_word four_fields three_fields
    two_fields one_field next_field no_fields
command_again vs (command.MkDir path volume) a h =
    let p : is_path path ≡ true = grind (arith, nat_tests) in
    let v : volume < length vs = grind (arith, nat_tests) in
    record {
      fields = worded (command.MkDir path volume) (two (path_field path p) (volume_field vs volume v a.each));
      again = rw (path_in_again path p, volume_again vs volume v a.each a.own) refl;
    }
command_again vs (command.MkSeg path pages volume) a h =
    let p : is_path path ≡ true = grind (arith, nat_tests) in
    let v : volume < length vs = grind (arith, nat_tests) in
    let n : (1 ≤ pages) × (pages ≤ 256) = (grind (arith, nat_tests), grind (arith, nat_tests)) in
    record {
      fields = worded (command.MkSeg path pages volume)
          (three (path_field path p) (decimal_field pages (omega arith)) (volume_field vs volume v a.each));
      again = rw (
        path_in_again path p,
        number_again 1 256 pages (omega arith) n.0 n.1,
        volume_again vs volume v
            a.each a.own,
      ) refl;
    }
command_again vs (command.Initiate path) a h = record {
  fields = worded (command.Initiate path) (last_field (path_field path h));
  again = rw (path_in_again path h) refl;
}
command_again vs (command.Terminate number) a h =
    let n : number ≤ 255 = grind (arith, nat_tests) in
    record {
      fields = worded (command.Terminate number) (last_field (decimal_field number (omega arith)));
      again = rw (number_again 0 255 number (omega arith) (omega arith) n) refl;
    }
command_again vs (command.Read number offset) a h =
    let p = placed number offset h in
    record { fields = worded (command.Read number offset) (two p.number p.offset); again = rw (p.again) refl }
command_again vs (command.Write number offset word) a h =
    let p = placed number offset (grind (arith, nat_tests)) in
    let w : word < 68719476736 = grind (arith, nat_tests) in
    record {
      fields = worded (command.Write number offset word) (three p.number p.offset (word_field word));
      again = rw (p.again, word_again word w) refl;
    }
command_again vs (command.Add number offset word) a h =
    let p = placed number offset (grind (arith, nat_tests)) in
    let w : word < 68719476736 = grind (arith, nat_tests) in
    record {
      fields = worded (command.Add number offset word) (three p.number p.offset (word_field word));
      again = rw (p.again, word_again word w) refl;
    }
command_again vs (command.Await number offset word tries) a h =
    let p = placed number offset (grind (arith, nat_tests)) in
    let w : word < 68719476736 = grind (arith, nat_tests) in
    let t : (1 ≤ tries) × (tries ≤ 100000) = (grind (arith, nat_tests), grind (arith, nat_tests)) in
    record {
      fields = worded (command.Await number offset word tries)
          (front_field p.number (three p.offset (word_field word) (decimal_field tries (omega arith))));
      again = rw (p.again, word_again word w, number_again 1 100000 tries (omega arith) t.0 t.1) refl;
    }
command_again vs (command.Acl path row mode) a h =
    let p : is_path path ≡ true = grind (arith, nat_tests) in
    let r : is_row row ≡ true = grind (arith, nat_tests) in
    record {
      fields = worded (command.Acl path row mode) (three (path_field path p) (row_field row r) (mode_field mode));
      again = rw (path_in_again path p, row_in_again row r, mode_again mode) refl;
    }
command_again vs (command.Length path pages) a h =
    let p : is_path path ≡ true = grind (arith, nat_tests) in
    let n : (1 ≤ pages) × (pages ≤ 256) = (grind (arith, nat_tests), grind (arith, nat_tests)) in
    record {
      fields = worded (command.Length path pages) (two (path_field path p) (decimal_field pages (omega arith)));
      again = rw (path_in_again path p, number_again 1 256 pages (omega arith) n.0 n.1) refl;
    }
command_again vs (command.Truncate path words) a h =
    let p : is_path path ≡ true = grind (arith, nat_tests) in
    let n : words ≤ 262144 = grind (arith, nat_tests) in
    record {
      fields = worded (command.Truncate path words) (two (path_field path p) (decimal_field words (omega arith)));
      again = rw (path_in_again path p, number_again 0 262144 words (omega arith) (omega arith) n) refl;
    }
command_again vs (command.Delete path) a h = record {
  fields = worded (command.Delete path) (last_field (path_field path h));
  again = rw (path_in_again path h) refl;
}
command_again vs (command.Move path amount) a h =
    let p : is_path path ≡ true = grind (arith, nat_tests) in
    let n : is_from 1 16384 (unsigned_abs amount) ≡ true = grind (arith, nat_tests) in
    record {
      fields = worded (command.Move path amount) (two (path_field path p) (amount_field amount n));
      again = rw (path_in_again path p, amount_again amount n) refl;
    }
command_again vs (command.Status path) a h = record {
  fields = worded (command.Status path) (last_field (path_field path h));
  again = rw (path_in_again path h) refl;
}
command_again vs command.End a h = record { fields = last_field (word_is_field command.End); again = refl }
