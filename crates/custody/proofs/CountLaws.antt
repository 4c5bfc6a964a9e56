-- Counts in a table by numbers.
use Rattle.std.proofs.lemmas.Grind.{common_steps}
use Rattle.custody.proofs.Prelude.{nat_tests, ◌≡◌, ◌≢◌, ◌<◌, ◌≤◌, ◌-◌, ◌+◌, ℕ, suc, zero, [], ◌∷◌, ◌++◌, Option, Some, None, length, set, replicate, refl, arith, eqb_tells, get_or-set_same, get_or-set_other, Counted, Keeps, Shifts, count_at, key_bit}

-- ---- more places

zeros_at : (n x : ℕ) → count_at (replicate n 0) x ≡ 0
zeros_at zero x = refl
zeros_at (suc n) zero = refl
zeros_at (suc n) (suc x) = zeros_at n x

pub grown : (c : Counted) (n : ℕ) → Keeps c (c ++ replicate n 0)
grown [] n x = zeros_at n x
grown (y ∷ ys) n zero = refl
grown (y ∷ ys) n (suc x) = grown ys n x

pub keeps_all : (c : Counted) → Keeps c c
keeps_all c = λ x. refl

pub ruleset counts_grow = (grown, keeps_all)

-- ---- one count is another

pub stays : (c : Counted) → Shifts c c None None
stays c = λ x. omega arith

bit_same : (k : ℕ) → key_bit (Some k) k ≡ 1
bit_same k = grind (arith, nat_tests, common_steps, eqb_tells k k)

bit_other : (k x : ℕ) → x ≢ k → key_bit (Some k) x ≡ 0
bit_other k x apart = grind (arith, nat_tests, common_steps, eqb_tells k x)

pub entered : (c : Counted) (k n : ℕ) → k < length c → n ≡ count_at c k → Shifts c (set c k (n + 1)) None (Some k)
entered c k n l is x =
    grind (arith, nat_tests, common_steps, eqb_tells, get_or-set_same, bit_same, get_or-set_other, bit_other)

pub left : (c : Counted) (k n : ℕ) → k < length c → n ≡ count_at c k → Shifts c (set c k (n - 1)) (Some k) None
left c k n l is x =
    grind (arith, nat_tests, common_steps, eqb_tells, get_or-set_same, bit_same, get_or-set_other, bit_other)

past : (c : Counted) (x : ℕ) → length c ≤ x → count_at c x ≡ 0
past [] x l = refl
past (y ∷ ys) zero l = absurd (omega (arith, l))
past (y ∷ ys) (suc x) l = past ys x (omega (arith, l))

pub left_past : (c : Counted) (k : ℕ) → length c ≤ k → Shifts c c (Some k) None
left_past c k l x = grind (arith, nat_tests, common_steps, eqb_tells x k, past c k l, bit_same k, bit_other)

pub shifted : (old mid new : Counted) (from to : Option ℕ) → Shifts old mid None to → Shifts mid new from None
    → Shifts old new from to
shifted old mid new from to e l x = let h = l x in let g = e x in omega (arith, g, h)

-- what comes under the key that it goes from
pub unmoved : (c : Counted) (from to : Option ℕ) → from ≡ to → Shifts c c from to
unmoved c from to e x = rw e (omega arith)

pub ruleset counts_change = (stays, entered, left, left_past, shifted, unmoved)
