-- Laws of fields that begin so (own).
use Rattle.schedule.proofs.Prelude.{Bool, List, None, Some, [], after_word, ap, begins, bytes_eq, bytes_eq-Decides, cond, drop, drop-map, false, get_or, length, map, none-some, one_left, refl, sym, true, ℕ, ◌&&◌, ◌+◌, ◌<◌, ◌∙◌, ◌∷◌, ◌≡◌}

-- the first field is another one, or there is none
begins_other : (word : List ℕ) (words fields : List (List ℕ)) → after_word word fields ≡ None
    → begins (word ∷ words) fields ≡ false
begins_other word words [] e = refl
begins_other word words (field ∷ fields) e = by (bytes_eq field word) e
  where
    by : (b : Bool) → cond b (Some fields) None ≡ None → (b && begins words fields) ≡ false
    by true e = absurd (none-some fields (sym e))
    by false e = refl

-- what is left of some texts from a place on
pub left_at : {X : Type 0} (text : X → List ℕ) (xs : List X) (i : ℕ) (x : X) → i < length xs → x ≡ get_or xs i x
    → drop i (map text xs) ≡ text x ∷ drop (i + 1) (map text xs)
left_at text xs i x lt at =
    drop-map text i xs ∙ ap (map text) (one_left xs i x lt ∙ ap (λ y. y ∷ drop (i + 1) xs) (sym at))
    ∙ ap (λ (t : List (List ℕ)). text x ∷ t) (sym (drop-map text (i + 1) xs))

-- a field more begins so
pub begin_more : {X : Type 0} (text : X → List ℕ) (xs : List X) (i : ℕ) (x : X) (all : Bool)
    (fields rest : List (List ℕ)) → i < length xs → x ≡ get_or xs i x → fields ≡ text x ∷ rest
    → begins (drop i (map text xs)) fields ≡ all → begins (drop (i + 1) (map text xs)) rest ≡ all
begin_more text xs i x all fields rest lt at here so =
    same_and (text x) (begins (drop (i + 1) (map text xs)) rest)
    ∙ sym (ap (λ (fs : List (List ℕ)). begins (text x ∷ drop (i + 1) (map text xs)) fs) here)
    ∙ sym (ap (λ (ws : List (List ℕ)). begins ws fields) (left_at text xs i x lt at)) ∙ so
  where
    same_and : (word : List ℕ) (b : Bool) → b ≡ (bytes_eq word word && b)
    same_and word b = let same : bytes_eq word word ≡ true = (bytes_eq-Decides word word).1 refl in rw same refl

pub begin_none : {X : Type 0} (text : X → List ℕ) (xs : List X) (i : ℕ) (x : X) (all : Bool)
    (fields : List (List ℕ)) → i < length xs → x ≡ get_or xs i x → after_word (text x) fields ≡ None
    → begins (drop i (map text xs)) fields ≡ all → false ≡ all
begin_none text xs i x all fields lt at other so =
    sym (begins_other (text x) (drop (i + 1) (map text xs)) fields other)
    ∙ sym (ap (λ (ws : List (List ℕ)). begins ws fields) (left_at text xs i x lt at)) ∙ so
