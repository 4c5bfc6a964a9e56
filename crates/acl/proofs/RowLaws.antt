-- Laws of the search in a list of rows, and of a row that is set.
use Rattle.std.proofs.Common.{◌≡◌, ℕ, suc, ◌+◌, ◌<◌, ◌≤◌, Bool, true, false, not, cond, ◌||◌, ltb, List, [], ◌∷◌, ◌++◌, length, drop, set, get_or, drop-cons, add-one, Option, Some, None, refl, sym, ap, ◌∙◌, arith}
use Rattle.std.specs.Prelude.{is_some}
use Rattle.std.specs.List.{position, position_or_len}
use Rattle.std.proofs.lemmas.Bool.Decides.{nat_tests}
use Rattle.std.proofs.lemmas.Grind.{common_steps}
use Rattle.mnames.specs.declared.modes.Mode.{Mode}
use Rattle.mnames.specs.declared.modes.Mode.TheVariants as mode
use Rattle.tree_model.specs.Access.{Row, names_just, mode_at, with_row, has_row, takes_row}

drop_at : (rows : List Row) (i : ℕ) (d : Row) → i < length rows → drop i rows ≡ get_or rows i d ∷ drop (i + 1) rows
drop_at rows i d h = rw (add-one, drop-cons rows i d) refl

none_left : (rows : List Row) (i : ℕ) → length rows ≤ i → drop i rows ≡ []
none_left rows i h = grind (arith, common_steps)

here : (person project : Option (List ℕ)) (rows : List Row) (i : ℕ) (row : Row) → i < length rows → row
    ≡ get_or rows i row
    → mode_at person project (drop i rows) ≡ mode_at person project (row ∷ drop (i + 1) rows)
here person project rows i row lt at =
    ap (mode_at person project) (drop_at rows i row lt)
    ∙ ap (λ (r : Row). mode_at person project (r ∷ drop (i + 1) rows)) (sym at)

pub row_passed : (person project : Option (List ℕ)) (rows : List Row) (i : ℕ) (row : Row) (m : Option Mode)
    → i < length rows → row ≡ get_or rows i row
    → names_just person project row ≡ false → mode_at person project (drop i rows) ≡ m
    → mode_at person project (drop (i + 1) rows) ≡ m
row_passed person project rows i row m lt at fails h =
    let next : mode_at person project (row ∷ drop (i + 1) rows) ≡ mode_at person project (drop (i + 1) rows) =
    rw fails refl in
    sym (here person project rows i row lt at ∙ next) ∙ h

pub row_found : (person project : Option (List ℕ)) (rows : List Row) (i : ℕ) (row : Row) (m : Option Mode)
    → i < length rows → row ≡ get_or rows i row
    → names_just person project row ≡ true → mode_at person project (drop i rows) ≡ m → Some row.mode ≡ m
row_found person project rows i row m lt at passes h =
    let found : mode_at person project (row ∷ drop (i + 1) rows) ≡ Some row.mode = rw passes refl in
    sym (here person project rows i row lt at ∙ found) ∙ h

pub no_row_left : (person project : Option (List ℕ)) (rows : List Row) (i : ℕ) (m : Option Mode) → length rows ≤ i
    → mode_at person project (drop i rows) ≡ m
    → None ≡ m
no_row_left person project rows i m le h = sym (ap (mode_at person project) (none_left rows i le)) ∙ h

-- ---- where a row is set

-- where the first row stands that names the same
abbrev place : Row → List Row → ℕ
place new rows = position_or_len (names_just new.person new.project) rows

one_more : (n : ℕ) → 1 + n ≡ suc n
one_more n = omega arith

place_set : (new : Row) (rows : List Row) → place new rows < length rows
    → (set rows (place new rows) new ≡ with_row new rows) × (has_row new.person new.project rows ≡ true)
place_set new [] h = grind (arith)
place_set new (row ∷ rows) h = chosen (names_just new.person new.project row) refl h (place_set new rows)
  where
    chosen : (z : Bool) → names_just new.person new.project row ≡ z
        → cond (not z) (1 + place new rows) 0 < length (row ∷ rows)
        → (place new rows < length rows → (set rows (place new rows) new ≡ with_row new rows)
        × (has_row new.person new.project rows ≡ true))
        → (set (row ∷ rows) (cond (not z) (1 + place new rows) 0) new ≡ cond z (new ∷ rows) (row ∷ with_row new rows))
        × ((z || has_row new.person new.project rows) ≡ true)
    chosen true e h rest = (refl, refl)
    chosen false e h rest =
        let later : (set rows (place new rows) new ≡ with_row new rows)
        × (has_row new.person new.project rows ≡ true) = rest (omega (arith, h)) in (
          ap (λ (n : ℕ). set (row ∷ rows) n new) (one_more (place new rows))
              ∙ ap (λ (t : List Row). row ∷ t) later.0,
          later.1,
        )

place_past : (new : Row) (rows : List Row) → length rows ≤ place new rows
    → (rows ++ new ∷ [] ≡ with_row new rows) × (has_row new.person new.project rows ≡ false)
place_past new [] h = (refl, refl)
place_past new (row ∷ rows) h = chosen (names_just new.person new.project row) refl h (place_past new rows)
  where
    chosen : (z : Bool) → names_just new.person new.project row ≡ z
        → length (row ∷ rows) ≤ cond (not z) (1 + place new rows) 0
        → (length rows ≤ place new rows → (rows ++ new ∷ [] ≡ with_row new rows)
        × (has_row new.person new.project rows ≡ false))
        → (row ∷ (rows ++ new ∷ []) ≡ cond z (new ∷ rows) (row ∷ with_row new rows))
        × ((z || has_row new.person new.project rows) ≡ false)
    chosen true e h rest = grind (arith)
    chosen false e h rest =
        let later : (rows ++ new ∷ [] ≡ with_row new rows) × (has_row new.person new.project rows ≡ false) =
        rest (omega (arith, h)) in
        (ap (λ (t : List Row). row ∷ t) later.0, later.1)

pub row_replaced : (new : Row) (rows : List Row) (i : ℕ) → position (names_just new.person new.project) rows ≡ Some i
    → (set rows i new ≡ with_row new rows) × (has_row new.person new.project rows ≡ true)
row_replaced new rows i h = chosen (ltb (place new rows) (length rows)) refl h
  where
    chosen : (z : Bool) → ltb (place new rows) (length rows) ≡ z → cond z (Some (place new rows)) None ≡ Some i
        → (set rows i new ≡ with_row new rows) × (has_row new.person new.project rows ≡ true)
    chosen true e h =
        let same : place new rows ≡ i = grind (arith, nat_tests) in
        let within : place new rows < length rows = grind (arith, nat_tests) in
        let both : (set rows (place new rows) new ≡ with_row new rows) × (has_row new.person new.project rows ≡ true) =
        place_set new rows within in
        (ap (λ (n : ℕ). set rows n new) (sym same) ∙ both.0, both.1)
    chosen false e h = grind (arith, nat_tests)

pub row_appended : (new : Row) (rows : List Row) → position (names_just new.person new.project) rows ≡ None
    → (rows ++ new ∷ [] ≡ with_row new rows) × (has_row new.person new.project rows ≡ false)
row_appended new rows h = chosen (ltb (place new rows) (length rows)) refl h
  where
    chosen : (z : Bool) → ltb (place new rows) (length rows) ≡ z → cond z (Some (place new rows)) None ≡ None
        → (rows ++ new ∷ [] ≡ with_row new rows) × (has_row new.person new.project rows ≡ false)
    chosen true e h = grind (arith, nat_tests)
    chosen false e h =
        let past : length rows ≤ place new rows = grind (arith, nat_tests) in
        place_past new rows past

-- whether a row is there, by where it stands
pub place_tells : (person project : Option (List ℕ)) (rows : List Row)
    → is_some (position (names_just person project) rows) ≡ has_row person project rows
place_tells person project rows = chosen (position (names_just person project) rows) refl
  where
    new : Row
    new = record { person = person; project = project; mode = mode.Null }

    chosen : (o : Option ℕ) → position (names_just person project) rows ≡ o → is_some o ≡ has_row person project rows
    chosen None e = sym (row_appended new rows e).1
    chosen (Some i) e = sym (row_replaced new rows i e).1

-- a list takes a row that it has
pub row_taken : (person project : Option (List ℕ)) (rows : List Row) (i : ℕ)
    → position (names_just person project) rows ≡ Some i
    → takes_row person project rows ≡ true
row_taken person project rows i e =
    let there : has_row person project rows ≡ true = sym (place_tells person project rows) ∙ ap is_some e in
    rw there refl

-- what the proof of `set` is given
pub ruleset set_steps = (row_taken, row_replaced, row_appended)

-- what the proof of `mode_at` is given
pub ruleset mode_at_steps = (row_passed, row_found, no_row_left)
