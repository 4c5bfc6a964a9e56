-- Laws of lists with one more element at the end (own).
use Rattle.script.proofs.Prelude.{◌≡◌, ℕ, ◌+◌, Bool, true, false, eqb, not, List, [], ◌∷◌, ◌++◌, refl, sym, ap, ◌∙◌, arith, sum_by, nat_tests, list_all-append, list_any-append, sum_by-append, sum_by-cons, bytes_eq-Decides, list_all, list_any, bytes_eq, goes_on, BeginsWithInitializer, are_apart, ends_once, has_name, have_own_names, have_own_volumes, is_before, is_end, ProcessPlan, Command, Bulk, VolumeLine, and_from, false_from_ne_true, or_from, or_parts}

pub all_push : {A : Type 0} (f : A → Bool) (xs : List A) (x : A) → list_all f xs ≡ true → f x ≡ true
    → list_all f (xs ++ x ∷ []) ≡ true
all_push f xs x h e = rw (list_all-append, h, e) refl

true_not_false : true ≡ false → ⊥
true_not_false e = cc

pub any_push : {A : Type 0} (f : A → Bool) (xs : List A) (x : A) → list_any f xs ≡ false → f x ≡ false
    → list_any f (xs ++ x ∷ []) ≡ false
any_push f xs x h e = rw (list_any-append, h, e) refl

pub sum_push : {A : Type 0} (f : A → ℕ) (xs : List A) (x : A) → sum_by f (xs ++ x ∷ []) ≡ sum_by f xs + f x
sum_push f xs x = omega (arith, sum_by-append f xs (x ∷ []), sum_by-cons f x [])

pub names_apart : (a b : List ℕ) → bytes_eq a b ≡ false → bytes_eq b a ≡ false
names_apart a b h = false_from_ne_true (bytes_eq b a) (λ e. true_not_false
    (sym ((bytes_eq-Decides a b).1 (sym ((bytes_eq-Decides b a).0 e))) ∙ h))

numbers_apart : (a b : ℕ) → eqb a b ≡ false → eqb b a ≡ false
numbers_apart a b h = grind (arith, nat_tests)

-- where no two elements are alike, the first isn't like any after it
pub apart_parts : {A : Type 0} (alike : A → A → Bool) (x : A) (xs : List A) → are_apart alike (x ∷ xs) ≡ true
    → (list_any (alike x) xs ≡ false) × (are_apart alike xs ≡ true)
unfolding are_apart
apart_parts alike x xs h = (grind (arith, nat_tests), grind (arith, nat_tests))

apart_first : {A : Type 0} (alike : A → A → Bool) (x : A) (xs : List A) → list_any (alike x) xs ≡ false
    → are_apart alike xs ≡ true → are_apart alike (x ∷ xs) ≡ true
unfolding are_apart
apart_first alike x xs new h = and_from (not (list_any (alike x) xs)) (are_apart alike xs) (ap not new) h

pub apart_none : {A : Type 0} (alike : A → A → Bool) → are_apart alike [] ≡ true
unfolding are_apart
apart_none alike = refl

-- one more at the end
apart_push : {A : Type 0} (alike : A → A → Bool) → ((x y : A) → alike x y ≡ false → alike y x ≡ false) → (xs : List A)
    (x : A) → are_apart alike xs ≡ true → list_any (alike x) xs ≡ false → are_apart alike (xs ++ x ∷ []) ≡ true
apart_push alike turned [] x h e = apart_first alike x [] refl (apart_none alike)
apart_push alike turned (y ∷ ys) x h e =
    let parts = apart_parts alike y ys h in
    let other = or_parts (alike x y) (list_any (alike x) ys) e in
    apart_first alike y (ys ++ x ∷ []) (any_push (alike y) ys x parts.0 (turned x y other.0))
    (apart_push alike turned ys x parts.1 other.1)

-- those before one aren't like it
apart_before : {A : Type 0} (alike : A → A → Bool) → ((x y : A) → alike x y ≡ false → alike y x ≡ false)
    → (done : List A) (x : A) (xs : List A) → are_apart alike (done ++ x ∷ xs) ≡ true → list_any (alike x) done ≡ false
apart_before alike turned [] x xs h = refl
apart_before alike turned (u ∷ us) x xs h =
    let own = apart_parts alike u (us ++ x ∷ xs) h in
    let after = or_parts (list_any (alike u) us) (list_any (alike u) (x ∷ xs))
    (sym (list_any-append (alike u) us (x ∷ xs)) ∙ own.0) in
    let here = (or_parts (alike u x) (list_any (alike u) xs) after.1).0 in
    or_from (alike x u) (list_any (alike x) us) (turned u x here) (apart_before alike turned us x xs own.1)

pub names_push : (vs : List VolumeLine) (v : VolumeLine) → have_own_names vs ≡ true → list_any (has_name v.name) vs
    ≡ false → have_own_names (vs ++ v ∷ []) ≡ true
names_push vs v h e = apart_push (λ u v. has_name u.name v) (λ u v z. names_apart v.name u.name z) vs v h e

pub others_before : (done : List VolumeLine) (v : VolumeLine) (vs : List VolumeLine) → have_own_names (done ++ v ∷ vs)
    ≡ true → list_any (has_name v.name) done ≡ false
others_before done v vs h = apart_before (λ u v. has_name u.name v) (λ u v z. names_apart v.name u.name z) done v vs h

pub bulks_push : (bs : List Bulk) (b : Bulk) → have_own_volumes bs ≡ true → list_any (is_before b.volume) bs ≡ false
    → have_own_volumes (bs ++ b ∷ []) ≡ true
bulks_push bs b h e = apart_push (λ a b. is_before a.volume b) (λ a b z. numbers_apart b.volume a.volume z) bs b h e

pub other_volumes : (done : List Bulk) (b : Bulk) (bs : List Bulk) → have_own_volumes (done ++ b ∷ bs) ≡ true
    → list_any (is_before b.volume) done ≡ false
other_volumes done b bs h =
    apart_before (λ a b. is_before a.volume b) (λ a b z. numbers_apart b.volume a.volume z) done b bs h

-- the end after commands that go on
pub end_push : (cs : List Command) (c : Command) → list_all goes_on cs ≡ true → is_end c ≡ true
    → ends_once (cs ++ c ∷ []) ≡ true
unfolding ends_once
end_push [] c h e = e
end_push (a ∷ []) c h e = grind (arith, nat_tests)
end_push (a ∷ b ∷ cs) c h e = grind (arith, nat_tests, end_push (b ∷ cs) c (grind (arith, nat_tests)) e)

-- the last process is replaced by another of the same principal
pub begins_same : (xs : List ProcessPlan) (x y : ProcessPlan) → x.who ≡ y.who → BeginsWithInitializer (xs ++ x ∷ [])
    → BeginsWithInitializer (xs ++ y ∷ [])
begins_same [] x y e h = sym e ∙ h
begins_same (z ∷ zs) x y e h = h
