-- How much of two lists is the same (own).
use Rattle.line_reasons.proofs.Prelude.{◌≡◌, ℕ, ◌+◌, Bool, true, false, cond, List, [], ◌∷◌, length, refl, ap, ◌∙◌, arith, bytes_eq, no_lines, lines_of, same_front, one_more}

both : (xs ys ms ns : List (List ℕ)) (a b : List ℕ) → xs ≡ a ∷ ms → ys ≡ b ∷ ns
    → same_front xs ys ≡ cond (bytes_eq a b) (1 + same_front ms ns) 0
both xs ys ms ns a b e f = ap (λ (t : List (List ℕ)). same_front t ys) e
    ∙ ap (λ (t : List (List ℕ)). same_front (a ∷ ms) t) f

-- the next of both are the same
pub front_next : (all n : ℕ) (xs ys ms ns : List (List ℕ)) (a b : List ℕ) → all ≡ n + same_front xs ys → xs ≡ a ∷ ms
    → ys ≡ b ∷ ns → bytes_eq a b ≡ true
    → all ≡ n + 1 + same_front ms ns
front_next all n xs ys ms ns a b h e f is =
    let step : same_front xs ys ≡ 1 + same_front ms ns = both xs ys ms ns a b e f
    ∙ ap (λ (z : Bool). cond z (1 + same_front ms ns) 0) is in omega (arith, h, step)

-- the next of both differ
pub front_other : (all n : ℕ) (xs ys ms ns : List (List ℕ)) (a b : List ℕ) → all ≡ n + same_front xs ys → xs ≡ a ∷ ms
    → ys ≡ b ∷ ns → bytes_eq a b ≡ false
    → n ≡ all
front_other all n xs ys ms ns a b h e f is =
    let step : same_front xs ys ≡ 0 = both xs ys ms ns a b e f
    ∙ ap (λ (z : Bool). cond z (1 + same_front ms ns) 0) is in omega (arith, h, step)

none_due : (xs : List (List ℕ)) → same_front xs [] ≡ 0
none_due [] = refl
none_due (x ∷ xs) = refl

none_left : (ys : List (List ℕ)) → same_front [] ys ≡ 0
none_left ys = refl

last_one : (all n rest : ℕ) (z : Bool) → rest ≡ 0 → all ≡ n + cond z (1 + rest) 0 → cond z (n + 1) n ≡ all
last_one all n rest true e h = omega (arith, e, h)
last_one all n rest false e h = omega (arith, h)

-- one of both is the last
pub front_due_last : (all n r : ℕ) (xs ys ms : List (List ℕ)) (a b : List ℕ) → all ≡ n + same_front xs ys
    → xs ≡ a ∷ ms → ys ≡ b ∷ [] → r ≡ one_more n a b
    → r ≡ all
front_due_last all n r xs ys ms a b h e f is = is
    ∙ last_one all n (same_front ms []) (bytes_eq a b) (none_due ms)
    (h ∙ ap (λ (m : ℕ). n + m) (both xs ys ms [] a b e f))

pub front_left_last : (all n r : ℕ) (xs ys ns : List (List ℕ)) (a b : List ℕ) → all ≡ n + same_front xs ys
    → xs ≡ a ∷ [] → ys ≡ b ∷ ns → r ≡ one_more n a b
    → r ≡ all
front_left_last all n r xs ys ns a b h e f is = is
    ∙ last_one all n (same_front [] ns) (bytes_eq a b) (none_left ns)
    (h ∙ ap (λ (m : ℕ). n + m) (both xs ys [] ns a b e f))

-- one of two texts has no line left
pub front_no_due : (all n : ℕ) (left wanted : List ℕ) → all ≡ n + same_front (lines_of left) (lines_of wanted)
    → length wanted ≡ 0
    → n ≡ all
front_no_due all n left wanted h e =
    let step : same_front (lines_of left) (lines_of wanted) ≡ 0 =
    ap (λ (t : List (List ℕ)). same_front (lines_of left) t)
    (no_lines wanted e) ∙ none_due (lines_of left) in omega (arith, h, step)

pub front_no_left : (all n : ℕ) (left wanted : List ℕ) → all ≡ n + same_front (lines_of left) (lines_of wanted)
    → length left ≡ 0
    → n ≡ all
front_no_left all n left wanted h e =
    let step : same_front (lines_of left) (lines_of wanted) ≡ 0 = ap
    (λ (t : List (List ℕ)). same_front t (lines_of wanted)) (no_lines left e) in omega (arith, h, step)

pub ruleset front_steps = (front_next, front_other, front_due_last, front_left_last, front_no_due, front_no_left)
