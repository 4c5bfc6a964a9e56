-- The first node that passes a test, in a list that is mapped or joined.
use Rattle.tree_model.proofs.Prelude.{◌≡◌, ◌≢◌, ℕ, Bool, true, false, List, [], ◌∷◌, ◌++◌, map, Option, Some, None, refl, ap, ◌∙◌, ◌⊎◌, inl, inr, is_some, find, filter, list_any, option_map, cases_Bool, true_from_ne_false, Term, branch_in, is_branch}

pub find_map : {X Y : Type 0} (p : Y → Bool) (f : X → Y) (xs : List X) → find p (map f xs)
    ≡ option_map f (find (λ x. p (f x)) xs)
find_map p f [] = refl
find_map p f (x ∷ xs) = elim (cases_Bool (p (f x))) [ inl is ↦ rw is refl | inr isnt ↦ rw isnt (find_map p f xs) ]

pub found_front : {X : Type 0} (p : X → Bool) (xs ys : List X) (x : X) → find p xs ≡ Some x → find p (xs ++ ys) ≡ Some x
found_front p [] ys x e = cc
found_front p (y ∷ xs) ys x e = elim (cases_Bool (p y))
    [ inl is ↦ rw is (rw is at e) | inr isnt ↦ rw isnt (found_front p xs ys x (rw isnt at e)) ]

pub past_front : {X : Type 0} (p : X → Bool) (xs ys : List X) → find p xs ≡ None → find p (xs ++ ys) ≡ find p ys
past_front p [] ys e = refl
past_front p (y ∷ xs) ys e = elim (cases_Bool (p y)) [
  | inl is ↦ (let z : Some y ≡ None = rw is at e in cc)
  | inr isnt ↦
      rw isnt (past_front p xs ys (rw isnt at e))
]

-- the branch of a name is the first node that is it
pub branch_found : (d : ℕ) (name : List ℕ) (ns : List Term) → branch_in ns d name ≡ find (is_branch d name) ns
branch_found d name [] = refl
branch_found d name (n ∷ ns) = cc (branch_found d name ns)

-- a member of a list
abbrev pub IsMember : {X : Type 0} → X → List X → Type 0
IsMember x [] = ⊥
IsMember x (y ∷ ys) = (x ≡ y) ⊎ IsMember x ys

pub member_right : {X : Type 0} (x : X) (xs ys : List X) → IsMember x ys → IsMember x (xs ++ ys)
member_right x [] ys m = m
member_right x (y ∷ xs) ys m = inr (member_right x xs ys m)

pub member_left : {X : Type 0} (x : X) (xs ys : List X) → IsMember x xs → IsMember x (xs ++ ys)
member_left x [] ys m = absurd m
member_left x (y ∷ xs) ys (inl e) = inl e
member_left x (y ∷ xs) ys (inr m) = inr (member_left x xs ys m)

pub member_parts : {X : Type 0} (x : X) (xs ys : List X) → IsMember x (xs ++ ys) → IsMember x xs ⊎ IsMember x ys
member_parts x [] ys m = inr m
member_parts x (y ∷ xs) ys (inl e) = inl (inl e)
member_parts x (y ∷ xs) ys (inr m) = elim (member_parts x xs ys m) [ inl a ↦ inl (inr a) | inr b ↦ inr b ]

pub member_map : {X Y : Type 0} (f : X → Y) (x : X) (xs : List X) → IsMember x xs → IsMember (f x) (map f xs)
member_map f x [] m = absurd m
member_map f x (y ∷ xs) (inl e) = inl (ap f e)
member_map f x (y ∷ xs) (inr m) = inr (member_map f x xs m)

pub found_member : {X : Type 0} (p : X → Bool) (xs : List X) (x : X) → find p xs ≡ Some x → IsMember x xs
found_member p [] x e = cc
found_member p (y ∷ xs) x e = elim (cases_Bool (p y)) [
  | inl is ↦ (let z : Some y ≡ Some x = rw is at e in inl cc)
  | inr isnt ↦ inr (found_member p xs x (rw isnt at e))
]

pub member_found : {X : Type 0} (p : X → Bool) (xs : List X) (x : X) → IsMember x xs → p x ≡ true → find p xs ≢ None
member_found p [] x m is none = absurd m
member_found p (y ∷ xs) x (inl e) is none = (let here : p y ≡ true = rw (← e) is in let z : Some y ≡ None =
    rw here at none in cc)
member_found p (y ∷ xs) x (inr m) is none = elim (cases_Bool (p y)) [
  | inl here ↦ (let z : Some y ≡ None = rw here at none in cc)
  | inr isnt ↦ member_found p xs x m is (rw isnt at none)
]

pub filter_map_same : {X Y : Type 0} (p : Y → Bool) (f : X → Y) (xs : List X) → map f (filter (λ x. p (f x)) xs)
    ≡ filter p (map f xs)
filter_map_same p f [] = refl
filter_map_same p f (x ∷ xs) = elim (cases_Bool (p (f x)))
    [ inl is ↦ rw is (cc (filter_map_same p f xs)) | inr isnt ↦ rw isnt (filter_map_same p f xs) ]

-- some element passes where one is found
pub any_found : {X : Type 0} (p : X → Bool) (xs : List X) → list_any p xs ≡ is_some (find p xs)
any_found p [] = refl
any_found p (x ∷ xs) = elim (cases_Bool (p x)) [ inl is ↦ rw is refl | inr isnt ↦ rw isnt (any_found p xs) ]

pub any_member : {X : Type 0} (p : X → Bool) (xs : List X) (x : X) → IsMember x xs → p x ≡ true → list_any p xs ≡ true
any_member p xs x m is = any_found p xs ∙ true_from_ne_false (is_some (find p xs))
    (λ e. member_found p xs x m is (none_since (find p xs) e))
  where
    none_since : {X : Type 0} (o : Option X) → is_some o ≡ false → o ≡ None
    none_since None e = refl
    none_since (Some x) e = cc
