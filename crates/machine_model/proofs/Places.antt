-- A function that is changed at one place.
use Rattle.machine_model.proofs.Prelude.{◌≡◌, ◌≢◌, ℕ, Bool, true, false, ◌&&◌, cond, eqb, refl, inl, inr, eqb_tells, at_put, at_put_two}

-- what a function has at a place: what was put there, or what it had
pub by_place : {A : Type 0} (P : A → Type 0) (f : ℕ → A) (i : ℕ) (x : A) (j : ℕ) → (j ≡ i → P x) → (j ≢ i → P (f j))
    → P (at_put f i x j)
by_place P f i x j here other = elim (eqb_tells j i) [ inl e ↦ rw e.0 (here e.1) | inr n ↦ rw n.0 (other n.1) ]

pub by_places : {A : Type 0} (P : A → Type 0) (f : ℕ → ℕ → A) (k n : ℕ) (x : A) (i j : ℕ) → (i ≡ k → j ≡ n → P x)
    → ((i ≡ k → j ≡ n → ⊥) → P (f i j)) → P (at_put_two f k n x i j)
by_places P f k n x i j here other = elim (eqb_tells i k) [
  | inl e ↦ elim (eqb_tells j n) [ inl d ↦ rw (e.0, d.0) (here e.1 d.1) | inr m ↦ rw (e.0, m.0) (other (λ a b. m.1 b)) ]
  | inr m ↦ rw m.0 (other (λ a b. m.1 a))
]

pub put_here : {A : Type 0} (f : ℕ → A) (i : ℕ) (x : A) → at_put f i x i ≡ x
put_here f i x = by_place (λ y. y ≡ x) f i x i (λ e. refl) (λ n. absurd (n refl))

pub put_other : {A : Type 0} (f : ℕ → A) (i : ℕ) (x : A) (j : ℕ) → j ≢ i → at_put f i x j ≡ f j
put_other f i x j h = by_place (λ y. y ≡ f j) f i x j (λ e. absurd (h e)) (λ n. refl)

pub put_two_here : {A : Type 0} (f : ℕ → ℕ → A) (k n : ℕ) (x : A) → at_put_two f k n x k n ≡ x
put_two_here f k n x = by_places (λ y. y ≡ x) f k n x k n (λ e d. refl) (λ m. absurd (m refl refl))

-- a map of a function that is changed at one place
pub put_map : {A B : Type 0} (g : A → B) (f : ℕ → A) (i : ℕ) (x : A) (j : ℕ)
    → g (at_put f i x j) ≡ at_put (λ k. g (f k)) i (g x) j
put_map g f i x j = by (eqb j i)
  where
    by : (z : Bool) → g (cond z x (f j)) ≡ cond z (g x) (g (f j))
    by true = refl
    by false = refl

-- a function that differs at one place alone
pub one_place : {A : Type 0} (old new : ℕ → A) (i : ℕ) (x : A) → new i ≡ x → ((j : ℕ) → j ≢ i → new j ≡ old j)
    → (j : ℕ) → new j ≡ at_put old i x j
one_place old new i x here other j = by_place (λ y. new j ≡ y) old i x j (λ e. rw e here) (λ n. other j n)

pub one_place_of_two : {A : Type 0} (old new : ℕ → ℕ → A) (k n : ℕ) (x : A) → new k n ≡ x
    → ((i j : ℕ) → (i ≡ k → j ≡ n → ⊥) → new i j ≡ old i j) → (i j : ℕ) → new i j ≡ at_put_two old k n x i j
one_place_of_two old new k n x here other i j =
    by_places (λ y. new i j ≡ y) old k n x i j (λ e d. rw (e, d) here) (λ m. other i j m)

pub put_two_map : {A B : Type 0} (g : A → B) (f : ℕ → ℕ → A) (k n : ℕ) (x : A) (i j : ℕ)
    → g (at_put_two f k n x i j) ≡ at_put_two (λ a b. g (f a b)) k n (g x) i j
put_two_map g f k n x i j = by (eqb i k && eqb j n)
  where
    by : (z : Bool) → g (cond z x (f i j)) ≡ cond z (g x) (g (f i j))
    by true = refl
    by false = refl
