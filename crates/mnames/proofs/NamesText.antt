-- The text of one name more.
use Rattle.mnames.proofs.Prelude.{◌≡◌, ℕ, ◌<◌, ◌+◌, List, [], ◌∷◌, ◌++◌, length, take, get_or, flat_map_more, take_more, names_text}

pub names_text_more : (xs : List (List ℕ)) (i : ℕ) (x : List ℕ) → i < length xs → x ≡ get_or xs i x
    → names_text (take i xs) ++ 62 ∷ x ≡ names_text (take (i + 1) xs)
names_text_more xs i x h e = cc (flat_map_more (λ name. 62 ∷ name) [] (take i xs) x, take_more xs i x h)
