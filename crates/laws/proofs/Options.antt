-- Laws of options and results.
use Rattle.laws.proofs.Prelude.{Bool, Err, IsSome, None, Ok, Option, Result, Some, ap, false, is_some, refl, true, ℕ, ◌≡◌, arith, cond, eqb, inl, inr, ◌≤◌, same_Some, option_map, IfNone, OnOk, eqb_tells}
use Rattle.laws.proofs.Bools.{bit_le}

pub some_same : {A : Type 0} (x y : A) → Some x ≡ Some y → x ≡ y
some_same x y h = cc

pub some_number : (o : Option ℕ) → IsSome o → (uid : ℕ) × (o ≡ Some uid)
some_number None e = cc
some_number (Some uid) e = (uid, refl)

pub none_there : {X : Type 0} (o : Option X) → is_some o ≡ false → o ≡ None
none_there None e = refl
none_there (Some x) e = cc

pub not_none : {A : Type 0} (x : Option A) (a : A) → x ≡ None → x ≡ Some a → ⊥
not_none x a h i = cc

pub page_is : (v r u q : ℕ) → ◌≡◌ {A = Option (ℕ × ℕ)} (Some (v, r)) (Some (u, q)) → (v ≡ u) × (r ≡ q)
page_is v r u q e =
    let same : ◌≡◌ {A = ℕ × ℕ} (v, r) (u, q) = same_Some (v, r) (u, q) e in
    (ap (λ (x : ℕ × ℕ). x.0) same, ap (λ (x : ℕ × ℕ). x.1) same)

pub when_none : {A : Type 0} {X : Type 0} (r : Option A) → X → IfNone r X
when_none None x = x
when_none (Some a) x = tt

pub map_none : {A : Type 0} {X Y : Type 0} (r : Option A) → (X → Y) → IfNone r X → IfNone r Y
map_none None f x = f x
map_none (Some a) f x = tt

pub on_ok : {A B : Type 0} (r : Result A B) (P Q : Type 0) → (P → Q) → OnOk r P → OnOk r Q
on_ok (Ok x) P Q f h = f h
on_ok (Err e) P Q f h = h

pub none_mapped : {X Y : Type 0} (f : X → Y) (o : Option X) → is_some (option_map f o) ≡ is_some o
none_mapped f None = refl
none_mapped f (Some x) = refl

-- what an option is seen as: none where it has nothing
pub map_some : {X Y : Type 0} (f : X → Y) (o : Option X) (y : Y) → option_map f o ≡ Some y → IsSome o
map_some f None y is = cc
map_some f (Some x) y is = refl

-- its number, and 0 where it has none
abbrev pub or_zero : Option ℕ → ℕ
or_zero None = 0
or_zero (Some x) = x

pub some_unwrapped : (o : Option ℕ) → is_some o ≡ true → o ≡ Some (or_zero o)
some_unwrapped None h = cc
some_unwrapped (Some x) h = refl

-- whether it has something that passes a test
abbrev pub passes : {X : Type 0} → (X → Bool) → Option X → Bool
passes test None = false
passes test (Some x) = test x

pub passed_there : {X : Type 0} (test : X → Bool) (o : Option X) → passes test o ≡ true
    → (x : X) × (o ≡ Some x) × (test x ≡ true)
passed_there test None e = cc
passed_there test (Some x) e = (x, refl, e)

-- how often a number stands in it
abbrev pub times_in : Option ℕ → ℕ → ℕ
times_in None y = 0
times_in (Some x) y = cond (eqb x y) 1 0

pub times_few : (o : Option ℕ) (y : ℕ) → times_in o y ≤ 1
times_few None y = omega arith
times_few (Some x) y = bit_le (eqb x y)

pub times_one : (o : Option ℕ) (y : ℕ) → 1 ≤ times_in o y → o ≡ Some y
times_one None y some = absurd (omega (arith, some))
times_one (Some x) y some = elim (eqb_tells x y) [
  | inl e ↦ ap Some e.1
  | inr n ↦ absurd (let none : cond {A = ℕ} (eqb x y) 1 0 ≡ 0 = ap (λ b. cond b 1 0) n.0 in omega (arith, none, some))
]
