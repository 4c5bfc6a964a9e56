-- Laws of one place of a list: whether it is within the list, and what a write of it changes.
use Rattle.laws.proofs.Prelude.{Bool, IsSome, List, None, Option, Some, [], ap, arith, cond, eqb, false, get_or, inl, inr, length, map, refl, replicate, set, suc, sum, sym, true, zero, ℕ, ◌++◌, ◌+◌, ◌<◌, ◌∙◌, ◌∷◌, ◌≡◌, ◌≢◌, cases_eq, eq-eqb, ne_eqb, get_or-set_other, get_or-set_same, length-append, length-replicate, set-set, sum_by-set, count_by, slice_get, option_map, unwrap_or, slice_get-map, unwrap_or-slice_get, common_steps}
use Rattle.laws.proofs.Lists.{within_from}
use Rattle.laws.proofs.Options.{not_none}

-- ---- a place that has something is within

pub some_within : {X : Type 0} (xs : List (Option X)) (i : ℕ) → IsSome (get_or xs i None) → i < length xs
some_within xs i there = within_from xs i None (not_free (get_or xs i None) there)
  where
    not_free : {X : Type 0} (o : Option X) → IsSome o → o ≡ None → ⊥
    not_free None there none = cc
    not_free (Some x) there none = cc

pub shown_within : {X Y : Type 0} (f : X → Option Y) (xs : List X) (i : ℕ) (d : X) (y : Y) → f d ≡ None
    → f (get_or xs i d) ≡ Some y → i < length xs
shown_within f xs i d y none there =
    within_from xs i d (λ same. not_none (f (get_or xs i d)) y (ap f same ∙ none) there)

pub flag_within : (flags : List Bool) (r : ℕ) → get_or flags r false ≡ true → r < length flags
flag_within flags r on = within_from flags r false (λ off. cc)

pub list_within : {X : Type 0} (xs : List (List X)) (v e : ℕ) → e < length (get_or xs v []) → v < length xs
list_within xs v e lt = within_from xs v [] (λ none. (let no : length (get_or xs v []) ≡ 0 =
    ap length none in omega (arith, no, lt)))

-- ---- one place of a list of lists

-- place e of list v becomes x
abbrev pub put : {X : Type 0} → List (List X) → ℕ → ℕ → X → List (List X)
put xs v e x = set xs v (set (get_or xs v []) e x)

pub put_here : {X : Type 0} (xs : List (List X)) (v e : ℕ) (x d : X) → v < length xs → e < length (get_or xs v [])
    → get_or (get_or (put xs v e x) v []) e d ≡ x
put_here xs v e x d vl el =
    ap (λ (ys : List _). get_or ys e d) (get_or-set_same xs v (set (get_or xs v []) e x) [] vl)
    ∙ get_or-set_same (get_or xs v []) e x d el

pub put_other : {X : Type 0} (xs : List (List X)) (v e : ℕ) (x d : X) (w g : ℕ) → v < length xs → (w ≡ v → g ≢ e)
    → get_or (get_or (put xs v e x) w []) g d ≡ get_or (get_or xs w []) g d
put_other xs v e x d w g vl other = elim (cases_eq w v) [
  | inl same ↦ rw same
      (ap (λ (ys : List _). get_or ys g d) (get_or-set_same xs v (set (get_or xs v []) e x) [] vl)
      ∙ get_or-set_other (get_or xs v []) e g x d (other same))
  | inr n ↦ ap (λ (ys : List _). get_or ys g d) (get_or-set_other xs v w (set (get_or xs v []) e x) [] n)
]

pub put_put : {X : Type 0} (xs : List (List X)) (v e : ℕ) (x y : X) → v < length xs → put (put xs v e x) v e y
    ≡ put xs v e y
put_put xs v e x y vl =
    ap (λ (ys : List _). set (put xs v e x) v (set ys e y)) (get_or-set_same xs v (set (get_or xs v []) e x) [] vl)
    ∙ ap (set (put xs v e x) v) (set-set (get_or xs v []) e x y)
    ∙ set-set xs v (set (get_or xs v []) e x) (set (get_or xs v []) e y)

-- ---- what is seen of each place

-- a write that leaves what is seen of its place
pub map_kept : {A B : Type 0} (f : A → B) (xs : List A) (i : ℕ) (d x : A) → f x ≡ f (get_or xs i d)
    → map f (set xs i x) ≡ map f xs
map_kept f [] i d x same = refl
map_kept {A} {B} f (y ∷ xs) zero d x same = ap (λ (z : B). z ∷ map f xs) same
map_kept {A} {B} f (y ∷ xs) (suc i) d x same = ap (λ (zs : List B). f y ∷ zs) (map_kept f xs i d x same)

-- a place that is as it was in another list
pub seen_same : {D : Type 0} (f : D → ℕ) (old new : List D) (v : ℕ) → slice_get new v ≡ slice_get old v
    → get_or (map f new) v 0 ≡ get_or (map f old) v 0
seen_same f old new v same =
    sym (unwrap_or-slice_get (map f new) v 0) ∙ ap (λ (x : Option ℕ). unwrap_or x 0) (slice_get-map f new v)
    ∙ ap (λ (x : Option _). unwrap_or (option_map f x) 0) same
    ∙ sym (ap (λ (x : Option ℕ). unwrap_or x 0) (slice_get-map f old v)) ∙ unwrap_or-slice_get (map f old) v 0

-- ---- how many flags are on

-- one that is turned on counts for one more, and one that is turned off for one less
pub count_with : (flags : List Bool) (r : ℕ) → r < length flags → get_or flags r false ≡ false
    → count_by (λ flag. flag) (set flags r true) ≡ count_by (λ flag. flag) flags + 1
count_with flags r lt free =
    let e = sum_by-set (λ flag. cond {A = ℕ} flag 1 0) flags r true false lt in
    let z : cond {A = ℕ} (get_or flags r false) 1 0 ≡ 0 = rw free refl in
    omega (arith, e, z)

pub count_without : (flags : List Bool) (r : ℕ) → get_or flags r false ≡ true
    → count_by (λ flag. flag) (set flags r false) + 1 ≡ count_by (λ flag. flag) flags
count_without flags r used =
    let e = sum_by-set (λ flag. cond {A = ℕ} flag 1 0) flags r false false (flag_within flags r used) in
    let z : cond {A = ℕ} (get_or flags r false) 1 0 ≡ 1 = rw used refl in
    omega (arith, e, z)

-- ---- four numbers

sum_of_four : (xs : List ℕ) → length xs ≡ 4
    → sum xs ≡ get_or xs 0 0 + get_or xs 1 0 + get_or xs 2 0 + get_or xs 3 0
sum_of_four [] four = absurd (omega (arith, four))
sum_of_four (a ∷ []) four = absurd (omega (arith, four))
sum_of_four (a ∷ b ∷ []) four = absurd (omega (arith, four))
sum_of_four (a ∷ b ∷ c ∷ []) four = absurd (omega (arith, four))
sum_of_four (a ∷ b ∷ c ∷ d ∷ []) four = grind (arith, common_steps)
sum_of_four (a ∷ b ∷ c ∷ d ∷ e ∷ rest) four = absurd (omega (arith, four))

-- as many as four numbers say, one after the other
pub length_of_four : {X : Type 0} (a b c d : X) (xs : List ℕ) → length xs ≡ 4
    → length (replicate (get_or xs 0 0) a ++ replicate (get_or xs 1 0) b ++ replicate (get_or xs 2 0) c
    ++ replicate (get_or xs 3 0) d) ≡ sum xs
length_of_four a b c d xs four =
    let all = sum_of_four xs four in simp (length-append, length-replicate) (omega (arith, all))

-- ---- one place of a function

-- one number more has a value of its own
abbrev pub valued : ℕ → ℕ → (ℕ → ℕ) → ℕ → ℕ
valued i x f j = cond (eqb j i) x (f j)

pub valued_here : (i x : ℕ) (f : ℕ → ℕ) → valued i x f i ≡ x
valued_here i x f = ap (λ b. cond b x (f i)) (eq-eqb i i refl)

pub valued_else : (i j x : ℕ) (f : ℕ → ℕ) → j ≢ i → valued i x f j ≡ f j
valued_else i j x f other = ap (λ b. cond b x (f j)) (ne_eqb j i other)
