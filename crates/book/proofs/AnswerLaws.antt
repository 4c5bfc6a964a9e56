-- Laws of the last answer of a book, where one entry more is appended.
use Rattle.book.proofs.Prelude.{common_steps, nat_tests, ◌≡◌, ℕ, ◌+◌, ◌≤◌, Bool, true, false, ◌||◌, List, [], ◌∷◌, ◌++◌, drop, length, refl, ap, ◌∙◌, arith, length-append, list_any, le-ltb, drop-append-le, drop_all, list_any-append, AnswersUpTo, is_answer, Entry}

with_true : (a b : Bool) → b ≡ true → (a || (b || false)) ≡ true
with_true true b is = refl
with_true false b is = ap (λ c. c || false) is

with_false : (a b : Bool) → b ≡ false → (a || (b || false)) ≡ a
with_false true b isnt = refl
with_false false b isnt = ap (λ c. c || false) isnt

-- what there is from place n on, where one entry more stands at the end
from_within : (xs : List Entry) (e : Entry) (n : ℕ) → n ≤ length xs
    → list_any is_answer (drop n (xs ++ e ∷ [])) ≡ (list_any is_answer (drop n xs) || list_any is_answer (e ∷ []))
from_within xs e n le = ap (list_any is_answer) (drop-append-le n xs (e ∷ []) le)
    ∙ list_any-append is_answer (drop n xs) (e ∷ [])

-- and from past the end on
from_past : (xs : List Entry) (e : Entry) (n : ℕ) → length xs + 1 ≤ n
    → list_any is_answer (drop n (xs ++ e ∷ [])) ≡ false
from_past xs e n le = ap (list_any is_answer)
    (drop_all n (xs ++ e ∷ []) (omega (arith, le, length-append {A = Entry} xs (e ∷ []))))

-- an answer is the last one
pub answer_more : (xs : List Entry) (e : Entry) → is_answer e ≡ true → AnswersUpTo (xs ++ e ∷ []) (length xs + 1)
answer_more xs e is n = grind (arith, nat_tests, common_steps, from_within, with_true, from_past, le-ltb)

-- another entry leaves the last answer where it was
pub other_more : (xs : List Entry) (e : Entry) (answered : ℕ) → is_answer e ≡ false → AnswersUpTo xs answered
    → AnswersUpTo (xs ++ e ∷ []) answered
other_more xs e answered isnt upto n =
    grind (arith, nat_tests, common_steps, from_within, with_false, from_past, drop_all)
