-- Sums over the first numbers, over a range of numbers, and over the bindings that have ended.
pub use Rattle.drill.proofs.Words.{All, AreDone, AreFirstOf, AreInTurn, AreOfBindings, Binding, Bool, Bound, Holder, In, IsKeeperOf, IsLeftAfterAll, IsOfOneThread, KeeperModel, List, MOST_CPUS, Made, Out, PagesModel, PassModel, TookZeros, Touch, Watch, [], add-one, add_at, added, all_bindings, ap, arith, cond, current, deed, done, ended_bindings, ended_of, eq-eqb, eqb, false, first_words, get_or, get_or-append-add, get_or-replicate, get_or-set_other, get_or-set_same, get_or_append_left, in_order, last_bindings, length, length-append, length-replicate, length-reverse, made_by, made_count, map, map-append, mine, mine_if, missing, ne_eqb, page_given, pages_after, parts_stay, refl, replicate, reverse, reverse-append, set, subst, suc, sum, sum_by-append, sum_of, sums_of, sym, take, take-append-le, take_all, taking_all_in, touches_in, true, words_few, words_left, words_mono, words_to, work_of, work_sum, zero, ℕ, ◌%◌, ◌&&◌, ◌*◌, ◌++◌, ◌+◌, ◌<◌, ◌^◌, ◌∙◌, ◌∷◌, ◌≡◌, ◌≢◌, ◌≤◌}
use mathlib.Core.Logic.{dite}
use native.Mathlib.Decide.{ℕ_discrete}

-- over the numbers below n
abbrev pub last_sum : (ℕ → ℕ) → ℕ → ℕ
last_sum h zero = 0
last_sum h (suc n) = last_sum h n + h n

-- over n numbers from `first` on
abbrev pub range_sum : (ℕ → ℕ) → ℕ → ℕ → ℕ
range_sum h first zero = 0
range_sum h first (suc n) = range_sum h (first + 1) n + h first

-- over the bindings that have ended
abbrev pub ended_sum : (ℕ → ℕ → ℕ) → List Bound → ℕ
ended_sum h [] = 0
ended_sum h (b ∷ bs) = ended_sum h bs + h b.frame b.binding

pub last_add : (h g : ℕ → ℕ) (n : ℕ) → last_sum (λ i. h i + g i) n ≡ last_sum h n + last_sum g n
last_add h g zero = refl
last_add h g (suc n) = let e = last_add h g n in omega (arith, e)

pub last_same : (h g : ℕ → ℕ) (n : ℕ) → ((i : ℕ) → i < n → h i ≡ g i) → last_sum h n ≡ last_sum g n
last_same h g zero same = refl
last_same h g (suc n) same = let e = last_same h g n (λ i lt. same i (omega arith)) in let s =
    same n (omega arith) in omega (arith, e, s)

pub last_zero : (n : ℕ) → last_sum (λ i. 0) n ≡ 0
last_zero zero = refl
last_zero (suc n) = let e = last_zero n in omega (arith, e)

last_more : (h : ℕ → ℕ) (n : ℕ) → last_sum h (n + 1) ≡ last_sum h n + h n
last_more h n = ap (last_sum h) (add-one n)

pub last_range : (h : ℕ → ℕ) (n first : ℕ) → last_sum h (first + n) ≡ last_sum h first + range_sum h first n
last_range h zero first = let e : first + 0 ≡ first = omega arith in let s : last_sum h (first + 0)
    ≡ last_sum h first = ap (last_sum h) e in omega (arith, s)
last_range h (suc n) first =
    let e : first + suc n ≡ first + 1 + n = omega arith in
    let s : last_sum h (first + suc n) ≡ last_sum h (first + 1 + n) = ap (last_sum h) e in
    omega (arith, s, last_range h n (first + 1), last_more h first)

pub range_same : (h g : ℕ → ℕ) (n first : ℕ) → ((i : ℕ) → first ≤ i → h i ≡ g i) → range_sum h first n
    ≡ range_sum g first n
range_same h g zero first same = refl
range_same h g (suc n) first same =
    let e = range_same h g n (first + 1) (λ i le. same i (omega arith)) in
    omega (arith, e, same first (omega arith))

pub ended_add : (h g : ℕ → ℕ → ℕ) (bs : List Bound) → ended_sum (λ f b. h f b + g f b) bs
    ≡ ended_sum h bs + ended_sum g bs
ended_add h g [] = refl
ended_add h g (b ∷ bs) = let e = ended_add h g bs in omega (arith, e)

pub ended_zero : (bs : List Bound) → ended_sum (λ f b. 0) bs ≡ 0
ended_zero [] = refl
ended_zero (b ∷ bs) = let e = ended_zero bs in omega (arith, e)

-- w at k, and 0 elsewhere
abbrev pub at_point : ℕ → ℕ → ℕ → ℕ
at_point w k i = cond (eqb k i) w 0

pub at_here : (w k i : ℕ) → k ≡ i → at_point w k i ≡ w
at_here w k i same = ap (λ t. cond t w 0) (eq-eqb k i same)

pub at_else : (w k i : ℕ) → k ≢ i → at_point w k i ≡ 0
at_else w k i other = ap (λ t. cond t w 0) (ne_eqb k i other)

pub point_sum : (w k n : ℕ) → (k < n → last_sum (at_point w k) n ≡ w) × (n ≤ k → last_sum (at_point w k) n ≡ 0)
point_sum w k zero = (λ lt. absurd (omega arith), λ le. refl)
point_sum w k (suc n) = let e = point_sum w k n in dite (ℕ_discrete k n) (λ (same : k ≡ n).
    let h = at_here w k n same in
    let z = e.1 (omega arith) in
    (λ lt. omega (arith, h, z), λ le. absurd (omega arith))) (λ (other : k ≢ n).
    let h = at_else w k n other in (
      λ lt. (let z = e.0 (omega arith) in omega (arith, h, z)),
      λ le. (let z = e.1 (omega arith) in omega (arith, h, z)),
    ))

pub same_few : (w n : ℕ) → w ≤ 70000 → last_sum (λ i. w) n ≤ n * 70000
same_few w zero le = omega arith
same_few w (suc n) le = let e = same_few w n le in omega (arith, e)

pub all_sums : (frames adds seed n : ℕ) → sum (sums_of frames adds seed n) ≡ last_sum (λ i. words_to adds) n
all_sums frames adds seed zero = refl
all_sums frames adds seed (suc n) =
    let e = sum_by-append (λ (y : ℕ). y) (sums_of frames adds seed n) (sum_of (work_of frames (seed + n) adds) ∷ []) in
    omega (arith, e, work_sum frames (seed + n) adds, all_sums frames adds seed n)
