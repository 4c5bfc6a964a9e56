-- Laws of the texts of paths (own).
use Rattle.script.proofs.Prelude.{◌≡◌, ℕ, ◌≤◌, Bool, true, false, cond, eqb, List, [], ◌∷◌, ◌++◌, length, Option, Some, None, Ok, Err, refl, sym, ap, ◌∙◌, arith, nat_tests, common_steps, list_all, AllByRecursion, is_name, is_name_byte, names_text, path_text, IsName, IsPath, onto_piece, path_of, pieces_of, if_path, is_path, path_in, and_from, and_parts, cause}

pieces_nil : pieces_of [] ≡ [] ∷ []
unfolding pieces_of
pieces_nil = refl

pieces_sign : (bs : List ℕ) → pieces_of (62 ∷ bs) ≡ [] ∷ pieces_of bs
unfolding pieces_of
pieces_sign bs = refl

pieces_byte : (b : ℕ) (bs : List ℕ) → eqb b 62 ≡ false → pieces_of (b ∷ bs) ≡ onto_piece b (pieces_of bs)
unfolding pieces_of
pieces_byte b bs z = rw z refl

-- the text of some pieces is that from which they come
onto_text : (b : ℕ) (bs : List ℕ) (pieces : List (List ℕ)) → names_text pieces ≡ 62 ∷ bs
    → names_text (onto_piece b pieces) ≡ 62 ∷ b ∷ bs
onto_text b bs [] e = absurd (cc)
onto_text b bs (piece ∷ pieces) e = cc

pieces_text : (bs : List ℕ) → names_text (pieces_of bs) ≡ 62 ∷ bs
pieces_text [] = ap names_text pieces_nil
pieces_text (b ∷ bs) = split (eqb b 62) refl (pieces_text bs)
  where
    split : (z : Bool) → eqb b 62 ≡ z → names_text (pieces_of bs) ≡ 62 ∷ bs → names_text (pieces_of (b ∷ bs)) ≡ 62 ∷ b
        ∷ bs
    split true z ih = let e : b ≡ 62 = grind (arith, nat_tests) in rw e
        (ap names_text (pieces_sign bs) ∙ ap (λ (t : List ℕ). 62 ∷ t) ih)
    split false z ih = ap names_text (pieces_byte b bs z) ∙ onto_text b bs (pieces_of bs) ih

some_text : (names : List (List ℕ)) (bs : List ℕ) → names_text names ≡ 62 ∷ bs → path_text names ≡ 62 ∷ bs
some_text [] bs e = absurd (cc)
some_text (name ∷ names) bs e = e

-- no sign stands in a name
no_sign : (b : ℕ) → is_name_byte b ≡ true → eqb b 62 ≡ false
no_sign b h = grind (arith, nat_tests)

name_bytes : (name : List ℕ) → is_name name ≡ true → (1 ≤ length name) × (list_all is_name_byte name ≡ true)
unfolding is_name
name_bytes name h = (grind (arith, nat_tests), grind (arith, nat_tests))

name_before : (name : List ℕ) (names : List (List ℕ)) → list_all is_name_byte name ≡ true
    → pieces_of (names_text names) ≡ [] ∷ names → pieces_of (name ++ names_text names) ≡ name ∷ names
name_before [] names h ih = ih
name_before (b ∷ bs) names h ih =
    let rest = name_before bs names (grind (arith, nat_tests)) ih in
    cc (pieces_byte b (bs ++ names_text names) (no_sign b (grind (arith, nat_tests))), rest)

names_again : (names : List (List ℕ)) → list_all is_name names ≡ true → pieces_of (names_text names) ≡ [] ∷ names
names_again [] h = pieces_nil
names_again (name ∷ names) h =
    let parts = and_parts (is_name name) (list_all is_name names) h in
    let rest = name_before name names (name_bytes name parts.0).1 (names_again names parts.1) in
    cc (pieces_sign (name ++ names_text names))

each_name : (names : List (List ℕ)) → AllByRecursion IsName names → list_all is_name names ≡ true
each_name [] h = refl
each_name (name ∷ names) h = and_from (is_name name) (list_all is_name names) h.0 (each_name names h.1)

each_is_name : (names : List (List ℕ)) → list_all is_name names ≡ true → AllByRecursion IsName names
each_is_name [] h = tt
each_is_name (name ∷ names) h = (grind (arith, nat_tests), each_is_name names (grind (arith, nat_tests)))

-- a path keeps the rules that a script asks of it, and the other way round
pub path_is : (names : List (List ℕ)) → IsPath names → is_path names ≡ true
unfolding is_path
path_is names h = grind (arith, nat_tests, h.few, each_name names h.each)

pub path_from : (names : List (List ℕ)) → is_path names ≡ true → IsPath names
unfolding is_path
path_from names h = record { few = grind (arith, nat_tests); each = each_is_name names (grind (arith, nat_tests)) }

root_again : path_of (62 ∷ []) ≡ Some []
unfolding path_of
root_again = refl

text_again : (text : List ℕ) → 1 ≤ length text → path_of (62 ∷ text) ≡ if_path (pieces_of text)
unfolding path_of
text_again [] some = absurd (omega arith)
text_again (c ∷ cs) some = refl

-- each path is read from its text
pub path_again : (names : List (List ℕ)) → is_path names ≡ true → path_of (path_text names) ≡ Some names
path_again [] h = root_again
path_again (name ∷ names) h =
    let whole = path_from (name ∷ names) h in
    let letters = name_bytes name whole.each.0 in
    text_again (name ++ names_text names) (grind (arith, common_steps, letters.0))
    ∙ ap if_path (name_before name names letters.1 (names_again names (each_name names whole.each.1))) ∙ rw h refl

-- what is read is the text of a path
pub path_only : (text : List ℕ) (names : List (List ℕ)) → path_of text ≡ Some names → (text ≡ path_text names)
    × (is_path names ≡ true)
unfolding path_of
path_only [] names h = absurd (cc)
path_only (b ∷ []) names h = root (eqb b 62) refl h
  where
    root : (z : Bool) → eqb b 62 ≡ z → cond {A = Option (List (List ℕ))} z (Some []) None ≡ Some names
        → (b ∷ [] ≡ path_text names) × (is_path names ≡ true)
    root true z e =
        let same : [] ≡ names = cc in
        let sign : b ≡ 62 = grind (arith, nat_tests) in
        rw (← same) (rw sign refl, path_is [] (record { few = omega arith; each = tt }))
    root false z e = absurd (cc)
path_only (b ∷ c ∷ cs) names h = below (eqb b 62) refl (is_path (pieces_of (c ∷ cs))) refl h
  where
    below : (z : Bool) → eqb b 62 ≡ z → (y : Bool) → is_path (pieces_of (c ∷ cs)) ≡ y
        → cond {A = Option (List (List ℕ))} z (cond y (Some (pieces_of (c ∷ cs))) None) None ≡ Some names
        → (b ∷ c ∷ cs ≡ path_text names) × (is_path names ≡ true)
    below true z true y e =
        let same : pieces_of (c ∷ cs) ≡ names = cc in
        let sign : b ≡ 62 = grind (arith, nat_tests) in
        rw (← same) (rw sign (sym (some_text (pieces_of (c ∷ cs)) (c ∷ cs) (pieces_text (c ∷ cs)))), y)
    below true z false y e = absurd (cc)
    below false z y w e = absurd (cc)

-- the path of a field, as reading gives it
pub path_read : (text : List ℕ) (names : List (List ℕ)) → text ≡ path_text names → IsPath names → path_in text
    ≡ Ok names
path_read text names e h = rw (e, path_again names (path_is names h)) refl

pub no_path_read : (text : List ℕ) → ((names : List (List ℕ)) → IsPath names → text ≡ path_text names → ⊥)
    → path_in text ≡ Err cause.Path
no_path_read text never = none (path_of text) refl
  where
    none : (r : Option (List (List ℕ))) → path_of text ≡ r → path_in text ≡ Err cause.Path
    none None e = rw e refl
    none (Some names) e = let only = path_only text names e in absurd (never names (path_from names only.1) only.0)

-- what reading a path goes by
pub ruleset path_taken = (path_read, no_path_read)
