-- What the texts of principals and of rows are read back as.
use Rattle.mnames.proofs.Prelude.{◌≡◌, ℕ, ◌+◌, ◌<◌, ◌≤◌, Bool, true, false, not, cond, eqb, ltb, List, [], ◌∷◌, ◌++◌, length, Option, Some, None, refl, sym, ap, ◌∙◌, arith, IfSome, list_all, position, position_or_len, bytes_eq, nat_tests, common_steps, take_at, drop-append-add, list_all-append, bytes_eq-Decides, is_label, is_label_byte, default_project, is_dot, before_dot, after_dot, IsWho, who_of, who_text, parts_text, IsRow, any_text, part_of, row_with, row_of, row_text, row_parts_text, Who, Row, and_false, none_left}

pub default_is_label : is_label default_project ≡ true
unfolding is_label
default_is_label = refl

pub nothing_is_no_label : is_label [] ≡ false
unfolding is_label
nothing_is_no_label = refl

-- ---- the first dot

-- a text in which no dot stands
abbrev lacks_dots : List ℕ → Bool
lacks_dots text = list_all (λ b. not (eqb b 46)) text

bytes_lack_dots : (text : List ℕ) → list_all is_label_byte text ≡ true → lacks_dots text ≡ true
bytes_lack_dots [] h = refl
bytes_lack_dots (b ∷ bs) h =
    let rest : lacks_dots bs ≡ true = bytes_lack_dots bs (grind (arith, nat_tests)) in
    let here : eqb b 46 ≡ false = grind (arith, nat_tests) in
    rw (here, rest) refl

label_lacks_dots : (text : List ℕ) → is_label text ≡ true → lacks_dots text ≡ true
unfolding is_label
label_lacks_dots text h = bytes_lack_dots text (grind (arith, nat_tests))

dotted_bytes : (xs ys : List ℕ) → list_all is_label_byte (xs ++ (46 ∷ ys)) ≡ false
dotted_bytes xs ys = list_all-append is_label_byte xs (46 ∷ ys) ∙ and_false (list_all is_label_byte xs)

dotted_is_no_label : (xs ys : List ℕ) → is_label (xs ++ (46 ∷ ys)) ≡ false
unfolding is_label
dotted_is_no_label xs ys = rw (dotted_bytes xs ys) (and_false _)

first_dot : (xs ys : List ℕ) → lacks_dots xs ≡ true → position_or_len is_dot (xs ++ (46 ∷ ys)) ≡ length xs
first_dot [] ys h = refl
first_dot (x ∷ xs) ys h =
    let here : eqb x 46 ≡ false = grind (arith, nat_tests) in
    let rest : position_or_len is_dot (xs ++ (46 ∷ ys)) ≡ length xs = first_dot xs ys (grind (arith, nat_tests)) in
    rw (here, rest) (omega arith)

before_dotted : (xs ys : List ℕ) → lacks_dots xs ≡ true → before_dot (xs ++ (46 ∷ ys)) ≡ xs
before_dotted xs ys h = cc (first_dot xs ys h, take_at xs (46 ∷ ys) (length xs) refl)

after_dotted : (xs ys : List ℕ) → lacks_dots xs ≡ true → after_dot (xs ++ (46 ∷ ys)) ≡ ys
after_dotted xs ys h = cc (first_dot xs ys h, drop-append-add xs (46 ∷ ys) 1)

-- ---- principals

who_alone : (text : List ℕ) → is_label text ≡ true → who_of text
    ≡ Some (record { person = text; project = default_project })
unfolding who_of
who_alone text h = rw h refl

who_dotted : (a b : List ℕ) → is_label a ≡ true → is_label b ≡ true → who_of (a ++ (46 ∷ b))
    ≡ Some (record { person = a; project = b })
unfolding who_of
who_dotted a b ha hb =
    grind (arith, nat_tests, common_steps, label_lacks_dots, dotted_is_no_label, before_dotted, after_dotted)

who_parts : (a b : List ℕ) → is_label a ≡ true → is_label b ≡ true → who_of (parts_text a b)
    ≡ Some (record { person = a; project = b })
who_parts a b ha hb = grind (arith, nat_tests, common_steps, who_alone, bytes_eq-Decides, who_dotted)

pub who_again : (text : List ℕ) (read : Option Who) → read ≡ who_of text → (who : Who) → IsWho who → text
    ≡ who_text who → read ≡ Some who
unfolding who_text
who_again text read e who h same = cc (who_parts who.person who.project h.person h.project)

-- ---- rows

part_any : part_of any_text ≡ Some None
unfolding part_of
part_any = refl

pub part_nothing : part_of [] ≡ None
unfolding part_of is_label
part_nothing = refl

label_not_any : (text : List ℕ) → is_label text ≡ true → bytes_eq text any_text ≡ false
unfolding is_label
label_not_any text h = grind (arith, nat_tests, common_steps, bytes_eq-Decides)

part_label : (text : List ℕ) → is_label text ≡ true → part_of text ≡ Some (Some text)
unfolding part_of
part_label text h = rw (label_not_any text h, h) refl

dotted_not_any : (xs ys : List ℕ) → bytes_eq (xs ++ (46 ∷ ys)) any_text ≡ false
dotted_not_any [] ys = refl
dotted_not_any (x ∷ []) ys = and_false (eqb x 42)
dotted_not_any (x ∷ y ∷ xs) ys = and_false (eqb x 42)

part_dotted : (xs ys : List ℕ) → part_of (xs ++ (46 ∷ ys)) ≡ None
unfolding part_of
part_dotted xs ys = rw (dotted_not_any xs ys, dotted_is_no_label xs ys) refl

row_alone_label : (text : List ℕ) → is_label text ≡ true → row_of text
    ≡ Some (record { person = Some text; project = Some default_project })
unfolding row_of
row_alone_label text h = rw (part_label text h) refl

row_dotted : (a b : List ℕ) (person project : Option (List ℕ)) → lacks_dots a ≡ true → part_of a ≡ Some person
    → part_of b ≡ Some project → row_of (a ++ (46 ∷ b)) ≡ Some (record { person = person; project = project })
unfolding row_of
row_dotted a b person project clear ha hb =
    rw (part_dotted a b, before_dotted a b clear, after_dotted a b clear, ha, hb) refl

row_any : row_of any_text ≡ Some (record { person = None; project = None })
unfolding row_of part_of
row_any = refl

row_parts : (a b : List ℕ) → is_label a ≡ true → is_label b ≡ true → row_of (parts_text a b)
    ≡ Some (record { person = Some a; project = Some b })
row_parts a b ha hb = chosen (bytes_eq b default_project) refl
  where
    chosen : (z : Bool) → bytes_eq b default_project ≡ z → row_of (cond z a (a ++ (46 ∷ b)))
        ≡ Some (record { person = Some a; project = Some b })
    chosen true e = cc (row_alone_label a ha, (bytes_eq-Decides b default_project).0 e)
    chosen false e = row_dotted a b (Some a) (Some b) (label_lacks_dots a ha) (part_label a ha) (part_label b hb)

row_back : (person project : Option (List ℕ)) → IfSome person (λ l. is_label l ≡ true)
    → IfSome project (λ l. is_label l ≡ true) → row_of (row_parts_text person project)
    ≡ Some (record { person = person; project = project })
row_back None None ha hb = row_any
row_back None (Some b) ha hb = row_dotted any_text b None (Some b) refl part_any (part_label b hb)
row_back (Some a) None ha hb = row_dotted a any_text (Some a) None (label_lacks_dots a ha) (part_label a ha) part_any
row_back (Some a) (Some b) ha hb = row_parts a b ha hb

pub row_again : (text : List ℕ) (read : Option Row) → read ≡ row_of text → (row : Row) → IsRow row → text
    ≡ row_text row → read ≡ Some row
unfolding row_text
row_again text read e row h same = cc (row_back row.person row.project h.person h.project)

-- ---- around the first dot

pub row_with_none : (person : Option (Option (List ℕ))) → row_with person None ≡ None
row_with_none None = refl
row_with_none (Some p) = refl

pub dot_found : (text : List ℕ) (i : ℕ) → position is_dot text ≡ Some i → (i < length text)
    × (i ≡ position_or_len is_dot text)
dot_found text i h = chosen (ltb (position_or_len is_dot text) (length text)) refl h
  where
    chosen : (z : Bool) → ltb (position_or_len is_dot text) (length text) ≡ z
        → cond z (Some (position_or_len is_dot text)) None ≡ Some i → (i < length text)
        × (i ≡ position_or_len is_dot text)
    chosen true e h =
        let at : position_or_len is_dot text ≡ i = grind (arith, nat_tests) in
        let within : position_or_len is_dot text < length text = grind (arith, nat_tests) in
        (omega arith, sym at)
    chosen false e h = grind (arith, nat_tests)

pub dot_missing : (text : List ℕ) → position is_dot text ≡ None → after_dot text ≡ []
dot_missing text h = chosen (ltb (position_or_len is_dot text) (length text)) refl h
  where
    chosen : (z : Bool) → ltb (position_or_len is_dot text) (length text) ≡ z
        → cond z (Some (position_or_len is_dot text)) None ≡ None → after_dot text ≡ []
    chosen true e h = grind (arith, nat_tests)
    chosen false e h =
        let past : length text ≤ position_or_len is_dot text = grind (arith, nat_tests) in
        none_left text (position_or_len is_dot text + 1) (omega arith)

-- what a search for the dot of a principal goes by
pub ruleset dot_sought = (dot_found, dot_missing)

-- and a row with a part that is missing
pub ruleset parts_missing = (part_nothing, row_with_none, common_steps)

-- and a principal with no project
pub ruleset project_missing = (nothing_is_no_label, common_steps)
