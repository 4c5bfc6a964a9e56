-- The sums of the words of adds.
pub use Rattle.drill.proofs.Prelude.{All, AreDone, AreFirstOf, AreInTurn, AreOfBindings, Binding, Bool, Bound, Holder, In, IsKeeperOf, IsLeftAfterAll, IsOfOneThread, KeeperModel, List, MOST_CPUS, Made, Out, PagesModel, PassModel, TookZeros, Touch, Watch, [], add-one, add_at, added, all_bindings, ap, arith, cond, current, deed, done, ended_bindings, ended_of, eq-eqb, eqb, false, first_words, get_or, get_or-append-add, get_or-replicate, get_or-set_other, get_or-set_same, get_or_append_left, in_order, last_bindings, length, length-append, length-replicate, length-reverse, made_by, made_count, map, map-append, mine, mine_if, missing, ne_eqb, page_given, pages_after, parts_stay, refl, replicate, reverse, reverse-append, set, subst, suc, sum, sum_by-append, sum_of, sums_of, sym, take, take-append-le, take_all, taking_all_in, touches_in, true, word_at, words_left, words_to, work_of, zero, ℕ, ◌%◌, ◌&&◌, ◌*◌, ◌++◌, ◌+◌, ◌<◌, ◌^◌, ◌∙◌, ◌∷◌, ◌≡◌, ◌≢◌, ◌≤◌}
use mathlib.Core.Logic.{dite}
use native.Mathlib.Decide.{ℕ_discrete}

sum_of_more : (ts : List (ℕ × Touch)) (t : ℕ × Touch) → sum_of (ts ++ t ∷ []) ≡ sum_of ts + added t.1
sum_of_more [] t = refl
sum_of_more (x ∷ xs) t = let e = sum_of_more xs t in omega (arith, e)

pub work_sum : (frames x n : ℕ) → sum_of (work_of frames x n) ≡ words_to n
work_sum frames x zero = refl
work_sum frames x (suc n) = sum_of_more (work_of frames x n) (add_at frames x n)
    ∙ ap (λ s. s + word_at n) (work_sum frames x n)

pub done_sum : (frames x n : ℕ) → sum_of (done frames x n) ≡ words_to n
done_sum frames x zero = refl
done_sum frames x (suc n) = ap (λ s. s + word_at n) (done_sum frames x n)

pub words_few : (n : ℕ) → words_to n ≤ 7 * n
words_few zero = omega arith
words_few (suc n) = let e = words_few n in omega (arith, e)

pub words_mono : (m n : ℕ) → m ≤ n → words_to m ≤ words_to n
words_mono m zero le = let e : m ≡ 0 = omega arith in let w : words_to m ≡ 0 = ap words_to e in omega (arith, w)
words_mono m (suc n) le = dite (ℕ_discrete m (suc n)) (λ (here : m ≡ suc n). let w : words_to m ≡ words_to n + word_at
    n = ap words_to here in omega (arith, w)) (λ (other : m ≢ suc n). omega (arith, words_mono m n (omega arith)))

pub sums_more : (frames adds seed n : ℕ) → sums_of frames adds seed (n + 1) ≡ sums_of frames adds seed n
    ++ words_to adds ∷ []
sums_more frames adds seed n = ap (sums_of frames adds seed) (add-one n)
    ∙ ap (λ w. sums_of frames adds seed n ++ w ∷ []) (work_sum frames (seed + n) adds)
