-- Laws of a line and its words.
use Rattle.book.proofs.Prelude.{◌≡◌, ◌≢◌, ℕ, suc, zero, ◌+◌, ◌-◌, ◌<◌, ◌≤◌, Bool, true, false, not, cond, eqb, ltb, List, [], ◌∷◌, ◌++◌, length, get_or, take, drop, Option, Some, None, map, refl, sym, ap, subst, ◌∙◌, arith, inl, inr, All, slice_split, position, position_or_len, before_first, after_first, join_with_byte, list_all, eqb_tells, nat_tests, common_steps, drop-drop, take_at, append_assoc, map-append, length-append, length-map, All-from_get_or, All-nil, All-cons, drop-append-add, length-slice_split, slice_split_none, slice_split_at, passes_at_first, is_space, is_dot, number_of, dotted_of, both}

-- ---- the words of a line, taken one after the other

-- the words so far, and those of what is left, are those of the line
word_added : {A : Type 0} (f : A → List ℕ) (xs : List A) (x : A) (parts more whole : List (List ℕ)) → map f xs
    ++ parts ≡ whole → parts ≡ f x ∷ more → map f (xs ++ x ∷ []) ++ more ≡ whole
word_added f xs x parts more whole h e = ap (λ (t : List (List ℕ)). t ++ more) (map-append f xs (x ∷ []))
    ∙ append_assoc (map f xs) (f x ∷ []) more ∙ ap (λ (t : List (List ℕ)). map f xs ++ t) (sym e) ∙ h

last_added : {A : Type 0} (f : A → List ℕ) (xs : List A) (x : A) (parts whole : List (List ℕ)) → map f xs ++ parts
    ≡ whole → parts ≡ f x ∷ [] → map f (xs ++ x ∷ []) ≡ whole
last_added f xs x parts whole h e = map-append f xs (x ∷ []) ∙ ap (λ (t : List (List ℕ)). map f xs ++ t) (sym e) ∙ h

too_many : {A : Type 0} (f : A → List ℕ) (xs : List A) (parts whole : List (List ℕ)) → map f xs ++ parts ≡ whole
    → 10 ≤ length xs → 0 < length parts → 10 < length whole
too_many f xs parts whole h full some = omega (arith, simp (length-append, length-map) at (ap length h))

-- These words come first in the line, and what follows them begins at `start`; from there no space stands before `i`.
pub record Taken (words : List (List ℕ)) (line : List ℕ) (start i : ℕ) : Type 0 where
  pub order : start ≤ i
  pub clear : (k : ℕ) → start ≤ k → k < i → is_space (get_or line k 0) ≡ false
  pub split : words ++ slice_split is_space (drop start line) ≡ slice_split is_space line

pub taken_none : {A : Type 0} (f : A → List ℕ) (xs : List A) (line : List ℕ) → xs ≡ [] → Taken (map f xs) line 0 0
taken_none f xs line none = grind (arith, nat_tests, common_steps)

pub taken_byte : (words : List (List ℕ)) (line : List ℕ) (start i : ℕ) → Taken words line start i
    → get_or line i 0 ≢ 32 → Taken words line start (i + 1)
taken_byte words line start i t other = record {
  order = let h = t.order in omega (arith, h);
  clear = λ k low high. elim (eqb_tells k i) [
    | inl e ↦ rw e.1 (no_space (get_or line i 0) other)
    | inr e ↦ t.clear k low (let apart = e.1 in omega (arith, high, apart))
  ];
  split = t.split;
}
  where
    no_space : (b : ℕ) → b ≢ 32 → is_space b ≡ false
    no_space b apart = grind (arith, nat_tests)

-- a piece of the line that begins at `start` and ends before `i` lacks a space
piece_lacks : (words : List (List ℕ)) (line : List ℕ) (start i : ℕ) → Taken words line start i
    → All (λ x. is_space x ≡ false) (take (i - start) (drop start line))
piece_lacks words line start i t = All-from_get_or (λ x. is_space x ≡ false) (take (i - start) (drop start line)) 0
    (λ k l. subst (λ (b : ℕ). is_space b ≡ false) (sym (at k l)) (t.clear (start + k) (omega arith) (within k l)))
  where
    within : (k : ℕ) → k < length (take (i - start) (drop start line)) → start + k < i
    within k l = grind (arith, common_steps)

    at : (k : ℕ) → k < length (take (i - start) (drop start line)) → get_or (take (i - start) (drop start line)) k 0
        ≡ get_or line (start + k) 0
    at k l = grind (arith, common_steps)

front_cut : (bs : List ℕ) (n : ℕ) → n < length bs → bs ≡ take n bs ++ (get_or bs n 0 ∷ drop (suc n) bs)
front_cut [] n l = let no : ⊥ = omega (arith, l) in absurd no
front_cut (b ∷ bs) zero l = refl
front_cut (b ∷ bs) (suc n) l = ap (λ (t : List ℕ). b ∷ t) (front_cut bs n (omega (arith, l)))

piece_cut : (line : List ℕ) (start i : ℕ) → start ≤ i → i < length line
    → drop start line ≡ take (i - start) (drop start line) ++ (get_or line i 0 ∷ drop (i + 1) line)
piece_cut line start i order l =
    let within : i - start < length (drop start line) = grind (arith, common_steps) in
    let byte : get_or (drop start line) (i - start) 0 ≡ get_or line i 0 = grind (arith, common_steps) in
    let place : start + suc (i - start) ≡ i + 1 = omega (arith, order) in
    let rest = drop-drop (suc (i - start)) start line ∙ ap (λ (n : ℕ). drop n line) place in
    front_cut (drop start line) (i - start) within
    ∙ ap (λ (b : ℕ). take (i - start) (drop start line) ++ (b ∷ drop (suc (i - start)) (drop start line))) byte
    ∙ ap (λ (t : List ℕ). take (i - start) (drop start line) ++ (get_or line i 0 ∷ t)) rest

pub taken_word : {A : Type 0} (f : A → List ℕ) (xs : List A) (x : A) (line : List ℕ) (start i : ℕ)
    → Taken (map f xs) line start i → i < length line → get_or line i 0 ≡ 32
    → f x ≡ take (i - start) (drop start line) → Taken (map f (xs ++ x ∷ [])) line (i + 1) (i + 1)
taken_word f xs x line start i t l space is =
    grind (
      arith,
      nat_tests,
      common_steps,
      word_added,
      piece_cut line start i t.order l,
      slice_split_at,
      get_or line i 0,
      piece_lacks (map f xs) line start i t,
    )

pub taken_last : {A : Type 0} (f : A → List ℕ) (xs : List A) (x : A) (line : List ℕ) (start i : ℕ)
    → Taken (map f xs) line start i → length line ≤ i
    → f x ≡ take (length line - start) (drop start line) → map f (xs ++ x ∷ []) ≡ slice_split is_space line
taken_last f xs x line start i t far is =
    last_added f xs x (slice_split is_space (drop start line)) (slice_split is_space line) t.split
    (slice_split_none is_space (drop start line) lacking ∙ ap (λ (w : List ℕ). w ∷ []) (whole ∙ sym is))
  where
    whole : drop start line ≡ take (length line - start) (drop start line)
    whole = grind (arith, common_steps)

    all : take (i - start) (drop start line) ≡ drop start line
    all = grind (arith, common_steps)

    lacking : All (λ x. is_space x ≡ false) (drop start line)
    lacking = subst (λ (w : List ℕ). All (λ x. is_space x ≡ false) w) all (piece_lacks (map f xs) line start i t)

pub taken_full : {A : Type 0} (f : A → List ℕ) (xs : List A) (line : List ℕ) (start i : ℕ)
    → Taken (map f xs) line start i → 10 ≤ length xs → 10 < length (slice_split is_space line)
taken_full f xs line start i t full = grind (arith, nat_tests, common_steps, too_many, length-slice_split)

-- ---- a dot between two numbers

no_number : number_of [] ≡ None
unfolding number_of
no_number = refl

both_none : {A B : Type 0} (o : Option A) → both {A = A} {B = B} o None ≡ None
both_none None = refl
both_none (Some a) = refl

pub no_dot : (t : List ℕ) → position is_dot t ≡ None → None ≡ dotted_of t
no_dot t h = sym (ap (λ (r : List ℕ). both (number_of (before_first is_dot t)) (number_of r)) none_after
    ∙ ap (λ (o : Option ℕ). both (number_of (before_first is_dot t)) o) no_number
    ∙ both_none (number_of (before_first is_dot t)))
  where
    by_test : (z : Bool) → ltb (position_or_len is_dot t) (length t) ≡ z
        → cond z (Some (position_or_len is_dot t)) None ≡ None → length t ≤ position_or_len is_dot t
    by_test true e is = absurd (let no : Some (position_or_len is_dot t) ≡ None = is in cc)
    by_test false e is = grind (arith, nat_tests)

    none_after : after_first is_dot t ≡ []
    none_after = let far = by_test (ltb (position_or_len is_dot t) (length t)) refl h in grind (arith, common_steps)

-- ---- words without the byte that stands between them

abbrev pub lacks : (ℕ → Bool) → List ℕ → Bool
lacks p w = list_all (λ b. not (p b)) w

lacks_all : (p : ℕ → Bool) (w : List ℕ) → lacks p w ≡ true → All (λ x. p x ≡ false) w
lacks_all p [] h = All-nil (λ x. p x ≡ false)
lacks_all p (b ∷ bs) h = All-cons (λ x. p x ≡ false) b bs (grind (arith, nat_tests))
    (lacks_all p bs (grind (arith, nat_tests)))

abbrev pub AllLack : (ℕ → Bool) → List (List ℕ) → Type 0
AllLack p [] = Unit {0}
AllLack p (w ∷ ws) = (lacks p w ≡ true) × AllLack p ws

-- words that lack a space, with a space between each two, are cut into the words
pub slice_split-join : (w : List ℕ) (ws : List (List ℕ)) → AllLack is_space (w ∷ ws)
    → slice_split is_space (join_with_byte 32 (w ∷ ws)) ≡ w ∷ ws
slice_split-join w [] h = slice_split_none is_space w (lacks_all is_space w h.0)
slice_split-join w (v ∷ ws) h = slice_split_at is_space w 32 (join_with_byte 32 (v ∷ ws)) (lacks_all is_space w h.0)
    refl ∙ ap (λ (t : List (List ℕ)). w ∷ t) (slice_split-join v ws h.1)

-- the first dot comes after a word without one
pub dot_at : (xs ys : List ℕ) → lacks is_dot xs ≡ true → position_or_len is_dot (xs ++ (46 ∷ ys)) ≡ length xs
dot_at [] ys h = refl
dot_at (x ∷ xs) ys h =
    let here : eqb x 46 ≡ false = grind (arith, nat_tests) in
    let rest : position_or_len is_dot (xs ++ (46 ∷ ys)) ≡ length xs = dot_at xs ys (grind (arith, nat_tests)) in
    rw (here, rest) (omega arith)

pub before_dot : (xs ys : List ℕ) → lacks is_dot xs ≡ true → before_first is_dot (xs ++ (46 ∷ ys)) ≡ xs
before_dot xs ys h = ap (λ (n : ℕ). take n (xs ++ (46 ∷ ys))) (dot_at xs ys h) ∙ take_at xs (46 ∷ ys) (length xs) refl

pub after_dot : (xs ys : List ℕ) → lacks is_dot xs ≡ true → after_first is_dot (xs ++ (46 ∷ ys)) ≡ ys
after_dot xs ys h = ap (λ (n : ℕ). drop (n + 1) (xs ++ (46 ∷ ys))) (dot_at xs ys h) ∙ drop-append-add xs (46 ∷ ys) 1

-- where there is a number after the first dot, there is a dot
pub dot_within : (t : List ℕ) (n : ℕ) → number_of (after_first is_dot t) ≡ Some n → position_or_len is_dot t < length t
dot_within t n h = by_test (ltb (position_or_len is_dot t) (length t)) refl
  where
    by_test : (z : Bool) → ltb (position_or_len is_dot t) (length t) ≡ z → position_or_len is_dot t < length t
    by_test true e = grind (arith, nat_tests)
    by_test false e =
        let far : length t ≤ position_or_len is_dot t = grind (arith, nat_tests) in
        let none : after_first is_dot t ≡ [] = grind (arith, common_steps) in
        let no : None ≡ Some n = sym (ap number_of none ∙ no_number) ∙ h in
        absurd cc

pub dot_there : (t : List ℕ) → position_or_len is_dot t < length t → get_or t (position_or_len is_dot t) 0 ≡ 46
dot_there t lt = let passes = passes_at_first is_dot t 0 lt in is_dot_byte (get_or t (position_or_len is_dot t) 0)
    passes
  where
    is_dot_byte : (b : ℕ) → eqb b 46 ≡ true → b ≡ 46
    is_dot_byte b h = grind (arith, nat_tests)

-- the words of a line that is made of words
pub words_of_join : (ws : List (List ℕ)) → 0 < length ws → AllLack is_space ws
    → slice_split is_space (join_with_byte 32 ws) ≡ ws
words_of_join [] some h = absurd (omega arith)
words_of_join (w ∷ ws) some h = slice_split-join w ws h

-- what the proof of `read_words` is given
pub ruleset words_taken = (taken_none, taken_byte, taken_word, taken_last, taken_full)
