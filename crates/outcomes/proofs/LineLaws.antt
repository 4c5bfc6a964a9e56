-- Laws of texts that are gone through line by line.
use Rattle.outcomes.proofs.Prelude.{◌≡◌, ℕ, Bool, true, false, ◌&&◌, ◌||◌, List, ◌∷◌, ◌++◌, length, refl, sym, ap, ◌∙◌, false≢true, true≢false, or_left, flat_map, list_all, list_any, bytes_eq, append_assoc, append-nil, lines_of, differing_in, differing_line, has_line, is_common, no_lines}

or_false : (x y : Bool) → x ≡ false → (x || y) ≡ y
or_false true y e = absurd (true≢false e)
or_false false y e = refl

and_true : (x y : Bool) → x ≡ true → (x && y) ≡ y
and_true true y e = refl
and_true false y e = absurd (false≢true e)

and_false : (x y : Bool) → x ≡ false → (x && y) ≡ false
and_false true y e = absurd (true≢false e)
and_false false y e = refl

-- a line is looked for
module _ (sought bytes line rest : List ℕ) (all : Bool) (cut : lines_of bytes ≡ line ∷ lines_of rest)
    (so : has_line sought bytes ≡ all)
  where
    first : (bytes_eq line sought || has_line sought rest) ≡ all
    first = sym (ap (list_any (λ l. bytes_eq l sought)) cut) ∙ so

    pub line_found : bytes_eq line sought ≡ true → true ≡ all
    line_found is = sym (or_left _ (has_line sought rest) is) ∙ first

    pub line_passed : bytes_eq line sought ≡ false → has_line sought rest ≡ all
    line_passed is = sym (or_false _ (has_line sought rest) is) ∙ first

pub line_missing : (sought bytes : List ℕ) (all : Bool) → length bytes ≡ 0 → has_line sought bytes ≡ all → false ≡ all
line_missing sought bytes all e so = sym (ap (list_any (λ l. bytes_eq l sought)) (no_lines bytes e)) ∙ so

-- each line is tested
module _ (texts : List (List ℕ)) (bytes line rest : List ℕ) (all : Bool)
    (cut : lines_of bytes ≡ line ∷ lines_of rest) (so : list_all (is_common texts) (lines_of bytes) ≡ all)
  where
    here : (is_common texts line && list_all (is_common texts) (lines_of rest)) ≡ all
    here = sym (ap (list_all (is_common texts)) cut) ∙ so

    pub line_fails : is_common texts line ≡ false → false ≡ all
    line_fails is = sym (and_false _ (list_all (is_common texts) (lines_of rest)) is) ∙ here

    pub line_passes : is_common texts line ≡ true → list_all (is_common texts) (lines_of rest) ≡ all
    line_passes is = sym (and_true _ (list_all (is_common texts) (lines_of rest)) is) ∙ here

pub lines_pass : (texts : List (List ℕ)) (bytes : List ℕ) (all : Bool) → length bytes ≡ 0
    → list_all (is_common texts) (lines_of bytes) ≡ all → true ≡ all
lines_pass texts bytes all e so = sym (ap (list_all (is_common texts)) (no_lines bytes e)) ∙ so

-- each line is written that differs
pub line_written : (texts : List (List ℕ)) (bytes line rest now new all : List ℕ)
    → lines_of bytes ≡ line ∷ lines_of rest → now ++ differing_in texts bytes ≡ all
    → new ≡ now ++ differing_line texts line → new ++ differing_in texts rest ≡ all
line_written texts bytes line rest now new all cut so added =
    ap (λ (t : List ℕ). t ++ differing_in texts rest) added
    ∙ append_assoc now (differing_line texts line) (differing_in texts rest)
    ∙ sym (ap (λ (ls : List (List ℕ)). now ++ flat_map (differing_line texts) ls) cut)
    ∙ so

pub lines_written : (texts : List (List ℕ)) (bytes now all : List ℕ) → length bytes ≡ 0
    → now ++ differing_in texts bytes ≡ all → now ≡ all
lines_written texts bytes now all e so =
    sym (ap (λ (ls : List (List ℕ)). now ++ flat_map (differing_line texts) ls) (no_lines bytes e)
    ∙ append-nil now) ∙ so

-- what the proofs of `has_line`, `all_common` and `push_differing` are given
pub ruleset has_line_steps = (line_found, line_passed, line_missing)

pub ruleset all_common_steps = (line_fails, line_passes, lines_pass)

pub ruleset push_differing_steps = (line_written, lines_written)
