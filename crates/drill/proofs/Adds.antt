-- Touches that add to the first word of a frame's page.
pub use Rattle.drill.proofs.Prelude.{Add, All, All-pop, All-push, AreAll, AreDone, AreFirstOf, AreOfBindings, Bool, EachRole, Given, HasDone, IsFresh, IsPassOf, List, Made, Option, PagesModel, PassModel, Role, RoleDone, RoleFresh, Some, Touch, Watch, Worker, Works, [], add-one, add_at, added, after_all, ap, arith, cond, deed, done, drawn, eq-eqb, eqb, false, first_passes, first_walker, first_words, get_or, get_or-append_seam, get_or-set_same, get_or_append_left, is_of, length, length-append, length-set, made_by, made_count, map, mine, mine_if, missing, mod-lt, next_state, option_to_list, refl, reverse, reverse-append, reverse-reverse, rules, state_after, subst, suc, sum, sum_of, sums_of, sym, touched, touched_if, touching, true, vec_len, word_at, words_to, work_of, zero, ℕ, ◌%◌, ◌++◌, ◌+◌, ◌-◌, ◌/◌, ◌<◌, ◌^◌, ◌∙◌, ◌∷◌, ◌≡◌, ◌≢◌, ◌≤◌}
use Rattle.drill.proofs.Words.{done_sum}

-- each touch is an add to the first word of the page of a frame that there is
abbrev pub AreAdds : ℕ → List Made → Type 0
AreAdds frames [] = Unit {0}
AreAdds frames (e ∷ es) = AreAdds frames es × (e.frame < frames) × (e.touch ≡ Add 0 (added e.touch))

adds_append : (frames : ℕ) (xs ys : List Made) → AreAdds frames xs → AreAdds frames ys → AreAdds frames (xs ++ ys)
adds_append frames [] ys p q = q
adds_append frames (x ∷ xs) ys p q = (adds_append frames xs ys p.0 q, p.1, p.2)

pub adds_reverse : (frames : ℕ) (es : List Made) → AreAdds frames es → AreAdds frames (reverse es)
adds_reverse frames [] ok = tt
adds_reverse frames (e ∷ es) ok = subst (AreAdds frames) (sym (reverse-append (e ∷ []) es))
    (adds_append frames (reverse es) (e ∷ []) (adds_reverse frames es ok.0) (tt, ok.1, ok.2))

pub done_count : (frames x n : ℕ) (es : List Made) → map deed es ≡ done frames x n → length es ≡ n
done_count frames x zero [] is = refl
done_count frames x zero (e ∷ es) is = cc
done_count frames x (suc n) [] is = cc
done_count frames x (suc n) (e ∷ es) is = ap suc (done_count frames x n es (cc))

pub done_adds : (frames x n : ℕ) (es : List Made) → 0 < frames → map deed es ≡ done frames x n → AreAdds frames es
unfolding drawn
done_adds frames x n [] some is = tt
done_adds frames x zero (e ∷ es) some is = cc
done_adds frames x (suc n) (e ∷ es) some is =
    let first : deed e ≡ add_at frames x n = cc in
    let frame : e.frame ≡ drawn frames (next_state (state_after n x)) = ap (λ t. t.0) first in
    let below = mod-lt (next_state (state_after n x) / 2 ^ 33) some in
    let touch : e.touch ≡ Add 0 (word_at n) = ap (λ t. t.1) first in
    let word : added e.touch ≡ word_at n = ap added touch in
    (done_adds frames x n es some (cc), omega (arith, frame, below), touch ∙ ap (λ w. Add 0 w) (sym word))

-- the words that these touches add, added up
abbrev pub weigh : List Made → ℕ
weigh [] = 0
weigh (e ∷ es) = weigh es + added e.touch

weigh_append : (xs ys : List Made) → weigh (xs ++ ys) ≡ weigh xs + weigh ys
weigh_append [] ys = let z : weigh ys ≡ 0 + weigh ys = omega arith in z
weigh_append (x ∷ xs) ys = let e = weigh_append xs ys in omega (arith, e)

pub weigh_reverse : (es : List Made) → weigh (reverse es) ≡ weigh es
weigh_reverse [] = refl
weigh_reverse (e ∷ es) =
    let more : weigh (reverse (e ∷ es)) ≡ weigh (reverse es ++ e ∷ []) = ap weigh (reverse-append (e ∷ []) es) in
    omega (arith, more, weigh_append (reverse es) (e ∷ []), weigh_reverse es)

weigh_deeds : (es : List Made) → sum_of (map deed es) ≡ weigh es
weigh_deeds [] = refl
weigh_deeds (e ∷ es) = ap (λ s. s + added e.touch) (weigh_deeds es)

pub weigh_done : (frames x n : ℕ) (es : List Made) → map deed es ≡ done frames x n → weigh es ≡ words_to n
weigh_done frames x n es is = sym (weigh_deeds es) ∙ ap sum_of is ∙ done_sum frames x n

-- the word that a touch adds to the page of a binding
abbrev pub weight : Made → ℕ → ℕ → ℕ
weight e f b = cond (is_of f b e) (added e.touch) 0

-- the words that these touches add to the page of a binding, added up
abbrev pub weigh_of : List Made → ℕ → ℕ → ℕ
weigh_of [] f b = 0
weigh_of (e ∷ es) f b = weigh_of es f b + weight e f b

adds_word : (t : Touch) (w : ℕ) (page : List ℕ) → t ≡ Add 0 w → length page ≡ 1024
    → (get_or (touched t page) 0 0 ≡ (get_or page 0 0 + w) % 2 ^ 36) × (length (touched t page) ≡ 1024)
adds_word t w page is size = rw is (
  get_or-set_same page 0 ((get_or page 0 0 + w) % 2 ^ 36) 0 (omega arith),
  length-set page 0 ((get_or page 0 0 + w) % 2 ^ 36) ∙ size,
)

adds_if : (b : Bool) (t : Touch) (w : ℕ) (page : List ℕ) → t ≡ Add 0 w → length page ≡ 1024 → get_or page 0 0 < 2 ^ 36
    → (get_or (touched_if b t page) 0 0 ≡ (get_or page 0 0 + cond b w 0) % 2 ^ 36)
    × (length (touched_if b t page) ≡ 1024)
adds_if true t w page is size small = adds_word t w page is size
adds_if false t w page is size small = (omega arith, size)

-- the first word of the page of a binding after these touches
pub first_word : (frames : ℕ) (es : List Made) (pages : Given) (f b : ℕ) → AreAdds frames es → length (pages f b)
    ≡ 1024 → get_or (pages f b) 0 0 < 2 ^ 36
    → get_or (after_all es pages f b) 0 0 ≡ (get_or (pages f b) 0 0 + weigh_of es f b) % 2 ^ 36
first_word frames [] pages f b ok size small = omega arith
first_word frames (e ∷ es) pages f b ok size small =
    let one = adds_if (is_of f b e) e.touch (added e.touch) (pages f b) ok.2 size small in
    let w = one.0 in
    omega (arith, first_word frames es (touching e pages) f b ok.0 one.1 (omega (arith, one.0)), w)

adds_of_if : (t : Bool) (frames : ℕ) (e : Made) (es : List Made) → AreAdds frames (mine_if t e es) → AreAdds frames es
adds_of_if true frames e es ok = ok.0
adds_of_if false frames e es ok = ok

adds_here : (frames : ℕ) (e : Made) (es : List Made) → AreAdds frames (mine_if (eqb e.cpu e.cpu) e es)
    → AreAdds frames (e ∷ es)
adds_here frames e es ok = subst (λ t. AreAdds frames (mine_if t e es)) (eq-eqb e.cpu e.cpu refl) ok

-- touches of which those of each processor are adds
pub adds_all : (cpus frames : ℕ) (plan : Watch) (es : List Made) → AreOfBindings cpus plan es
    → ((c : ℕ) → c < cpus → AreAdds frames (mine c es)) → AreAdds frames es
adds_all cpus frames plan [] ok each = tt
adds_all cpus frames plan (e ∷ es) ok each =
    let here = adds_here frames e (mine e.cpu es) (each e.cpu ok.1) in (
      adds_all cpus frames plan es ok.0 (λ c lt. adds_of_if (eqb e.cpu c) frames e (mine c es) (each c lt)),
      here.1,
      here.2,
    )
