-- Laws of lines that are followed one after the other.
use Rattle.lab_runs.proofs.Prelude.{All, All-append, All-nil, All-push, All-same, AreFollowed, AreMade, Astray, FollowsOrder, IsAstray, IsFollowed, Line, List, Machine, Step, Strays, StraysIn, [], ap, append-nil, append_assoc, arith, common_steps, drawn, drawn_below, drawn_cpus, drop, get_or, length, numbers, refl, rounds, state_after, subst, suc, sym, take, take_more, zero, ℕ, ◌++◌, ◌+◌, ◌<◌, ◌∙◌, ◌∷◌, ◌≡◌, ◌≤◌}
pub use Rattle.lab_runs.proofs.StepLaws.{made_append, made_keeps, made_run}
use Rattle.schedule.specs.declared.orders.Order.TheVariants as order
use Rattle.lab_runs.specs.declared.following.Astray.TheVariants as astray

-- one line more
followed_on : (p : ℕ) (lines : List Line) (line : Line) (old mid new : Machine) (steps more : List Step)
    → AreFollowed p lines old mid steps → IsFollowed p line.order mid new more
    → AreFollowed p (lines ++ line ∷ []) old new (steps ++ more)
followed_on p [] line old mid new steps more (same, none) f = (
  new,
  more,
  [],
  ap (λ (s : List Step). s ++ more) none ∙ sym (append-nil more),
  subst (λ (t : Machine). IsFollowed p line.order t new more) same f,
  (refl, refl),
)
followed_on p (l ∷ ls) line old mid new steps more (next, here, rest, is, first, others) f = (
  next,
  here,
  rest ++ more,
  ap (λ (s : List Step). s ++ more) is ∙ append_assoc here rest more,
  first,
  followed_on p ls line next mid new rest more others f,
)

pub followed_made : (p : ℕ) (lines : List Line) (old new : Machine) (steps : List Step)
    → AreFollowed p lines old new steps → AreMade old new steps
followed_made p [] old new steps (same, none) = subst (AreMade old new) (sym none) same
followed_made p (l ∷ ls) old new steps (next, here, rest, is, first, others) =
    subst (AreMade old new) (sym is)
    (made_append old next new here rest first.made (followed_made p ls next new rest others))

pub followed_next : (p : ℕ) (lines : List Line) (line : Line) (old mid new : Machine) (before after : List Step) (i : ℕ)
    → i < length lines → line ≡ get_or lines i line → AreFollowed p (take i lines) old mid before
    → FollowsOrder p line.order mid new before after → AreFollowed p (take (i + 1) lines) old new after
followed_next p lines line old mid new before after i lt at so f =
    subst (λ (ls : List Line). AreFollowed p ls old new after) (ap (λ (l : Line). take i lines ++ l ∷ []) at ∙ sym
    (take_more lines i line lt)) (subst (AreFollowed p (take i lines ++ line ∷ []) old new)
    (sym f.added) (followed_on p (take i lines) line old mid new before f.steps so f.followed))

split_at : (lines : List Line) (line : Line) (i : ℕ) → i < length lines → line ≡ get_or lines i line
    → lines ≡ take i lines ++ line ∷ drop (i + 1) lines
split_at lines line i lt at =
    let all : lines ≡ take (i + 1) lines ++ drop (i + 1) lines = grind (arith, common_steps) in
    all ∙ ap (λ (t : List Line). t ++ drop (i + 1) lines) (take_more lines i line lt
    ∙ ap (λ (l : Line). take i lines ++ l ∷ []) (sym at)) ∙ append_assoc (take i lines) (line ∷ []) (drop (i + 1) lines)

-- a line can't be followed
pub strays_next : (p : ℕ) (lines : List Line) (line : Line) (old mid : Machine) (steps : List Step) (i : ℕ)
    (fault : Astray) → i < length lines → line ≡ get_or lines i line → AreFollowed p (take i lines) old mid steps
    → Strays line.number (IsAstray p line.order mid (length steps)) fault → StraysIn p lines old fault
strays_next p lines line old mid steps i (astray.Refused r) lt at so why = record {
  before = take i lines;
  line = line;
  after = drop (i + 1) lines;
  lines_are = split_at lines line i lt at;
  mid = mid;
  steps = steps;
  followed = so;
  number = why.0;
  why = why.1;
}
strays_next p lines line old mid steps i astray.Memory lt at so why = tt

-- ---- the processors of an order

numbers_below : (p n : ℕ) → n ≤ p → All (λ c. c < p) (numbers n)
numbers_below p zero le = All-nil (λ c. c < p)
numbers_below p (suc n) le = All-push (λ c. c < p) (numbers n) n (numbers_below p n (omega arith)) (omega arith)

rounds_below : (p n : ℕ) → All (λ c. c < p) (rounds p n)
rounds_below p zero = All-nil (λ c. c < p)
rounds_below p (suc n) = All-append (λ c. c < p) (rounds p n) (numbers p) (rounds_below p n)
    (numbers_below p p (omega arith))

draws_below : (p seed n : ℕ) → 0 < p → All (λ c. c < p) (drawn_cpus p seed n)
draws_below p seed zero pos = All-nil (λ c. c < p)
draws_below p seed (suc n) pos = All-push (λ c. c < p) (drawn_cpus p seed n) (drawn p (state_after seed (suc n)))
    (draws_below p seed n pos) (drawn_below p (state_after seed (suc n)) pos)

-- each of them is one of the machine
pub rounds_fit : (p n : ℕ) (cpus : List ℕ) → cpus ≡ rounds p n → All (λ c. c < p) cpus
rounds_fit p n cpus is = All-same (λ c. c < p) cpus (rounds p n) is (rounds_below p n)

pub draws_fit : (p seed n : ℕ) (cpus : List ℕ) → 0 < p → cpus ≡ drawn_cpus p seed n → All (λ c. c < p) cpus
draws_fit p seed n cpus pos is = All-same (λ c. c < p) cpus (drawn_cpus p seed n) is (draws_below p seed n pos)
