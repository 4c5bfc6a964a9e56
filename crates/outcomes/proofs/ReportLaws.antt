-- Laws of the text of a report, as it is written piece by piece.
use Rattle.outcomes.proofs.Prelude.{◌≡◌, ℕ, ◌+◌, ◌<◌, ◌≤◌, List, [], ◌∷◌, ◌++◌, length, drop, get_or, refl, sym, ap, ◌∙◌, arith, drop-cons, add-one, common_steps, append_assoc, append-nil, flat_map, accounts_text, blocks_of, outcome_head, outcomes_text, Outcome}

first_left : {X : Type 0} (xs : List X) (i : ℕ) (x : X) → i < length xs → x ≡ get_or xs i x
    → drop i xs ≡ x ∷ drop (i + 1) xs
first_left {X} xs i x lt at = one xs i x lt ∙ ap (λ (y : X). y ∷ drop (i + 1) xs) (sym at)
  where
    one : {X : Type 0} (xs : List X) (i : ℕ) (d : X) → i < length xs → drop i xs ≡ get_or xs i d ∷ drop (i + 1) xs
    one xs i d lt = rw (add-one, drop-cons xs i d) refl

none_left : {X : Type 0} (xs : List X) (i : ℕ) → length xs ≤ i → drop i xs ≡ []
none_left xs i le = grind (arith, common_steps)

-- an outcome more, with its replies
pub outcomes_more : (all : List ℕ) (os : List Outcome) (i runs : ℕ) (o : Outcome) (now one two : List ℕ)
    → i < length os → o ≡ get_or os i o → now ++ outcomes_text (i + 1) (drop i os) runs ≡ all
    → one ≡ now ++ outcome_head (i + 1) o runs → two ≡ one ++ o.replies
    → two ++ outcomes_text (i + 1 + 1) (drop (i + 1) os) runs ≡ all
outcomes_more all os i runs o now one two lt at so first second =
    let tail : List ℕ = outcomes_text (i + 1 + 1) (drop (i + 1) os) runs in
    ap (λ (t : List ℕ). t ++ tail) (second ∙ ap (λ (t : List ℕ). t ++ o.replies) first)
    ∙ append_assoc (now ++ outcome_head (i + 1) o runs) o.replies tail
    ∙ append_assoc now (outcome_head (i + 1) o runs) (o.replies ++ tail)
    ∙ sym (ap (λ (xs : List Outcome). now ++ outcomes_text (i + 1) xs runs) (first_left os i o lt at))
    ∙ so

pub outcomes_end : (all : List ℕ) (os : List Outcome) (i runs : ℕ) (now : List ℕ) → length os ≤ i
    → now ++ outcomes_text (i + 1) (drop i os) runs ≡ all → now ≡ all
outcomes_end all os i runs now le so =
    sym (ap (λ (xs : List Outcome). now ++ outcomes_text (i + 1) xs runs) (none_left os i le) ∙ append-nil now) ∙ so

-- the accounts of an outcome more
pub accounts_more : (all : List ℕ) (texts : List (List ℕ)) (os : List Outcome) (i : ℕ) (o : Outcome)
    (now new : List ℕ) → i < length os → o ≡ get_or os i o → now ++ accounts_text (i + 1) texts (drop i os) ≡ all
    → new ≡ now ++ blocks_of (i + 1) texts o.seen → new ++ accounts_text (i + 1 + 1) texts (drop (i + 1) os) ≡ all
accounts_more all texts os i o now new lt at so first =
    let tail : List ℕ = accounts_text (i + 1 + 1) texts (drop (i + 1) os) in
    ap (λ (t : List ℕ). t ++ tail) first
    ∙ append_assoc now (blocks_of (i + 1) texts o.seen) tail
    ∙ sym (ap (λ (xs : List Outcome). now ++ accounts_text (i + 1) texts xs) (first_left os i o lt at))
    ∙ so

pub accounts_end : (all : List ℕ) (texts : List (List ℕ)) (os : List Outcome) (i : ℕ) (now : List ℕ) → length os ≤ i
    → now ++ accounts_text (i + 1) texts (drop i os) ≡ all → now ≡ all
accounts_end all texts os i now le so =
    sym (ap (λ (xs : List Outcome). now ++ accounts_text (i + 1) texts xs) (none_left os i le) ∙ append-nil now) ∙ so

-- a piece more of several
pub each_more : {X : Type 0} (line : X → List ℕ) (all : List ℕ) (xs : List X) (i : ℕ) (x : X) (now new : List ℕ)
    → i < length xs → x ≡ get_or xs i x → now ++ flat_map line (drop i xs) ≡ all → new ≡ now ++ line x
    → new ++ flat_map line (drop (i + 1) xs) ≡ all
each_more {X} line all xs i x now new lt at so added =
    let tail : List ℕ = flat_map line (drop (i + 1) xs) in
    ap (λ (t : List ℕ). t ++ tail) added
    ∙ append_assoc now (line x) tail
    ∙ sym (ap (λ (ys : List X). now ++ flat_map line ys) (first_left xs i x lt at))
    ∙ so

pub each_end : {X : Type 0} (line : X → List ℕ) (all : List ℕ) (xs : List X) (i : ℕ) (now : List ℕ) → length xs ≤ i
    → now ++ flat_map line (drop i xs) ≡ all → now ≡ all
each_end {X} line all xs i now le so =
    sym (ap (λ (ys : List X). now ++ flat_map line ys) (none_left xs i le) ∙ append-nil now) ∙ so

-- what the proofs of `push_outcomes`, `push_accounts` and `push_blocks` are given
pub ruleset push_outcomes_steps = (outcomes_more, outcomes_end)

pub ruleset push_accounts_steps = (accounts_more, accounts_end)

pub ruleset push_blocks_steps = (each_more, each_end)
