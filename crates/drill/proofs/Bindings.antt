-- Each touch is of just one binding and by just one processor, so the sums over all of these have each touch once.
pub use Rattle.drill.proofs.Adds.{AreAdds, adds_all, adds_reverse, done_adds, first_word, weigh, weigh_of, weigh_reverse, weight}
pub use Rattle.drill.proofs.Sums.{All, AreDone, AreFirstOf, AreInTurn, AreOfBindings, Binding, Bool, Bound, Holder, IsKeeperOf, IsLeftAfterAll, IsOfOneThread, KeeperModel, List, MOST_CPUS, Made, PagesModel, PassModel, TookZeros, Touch, Watch, [], add_at, added, all_bindings, all_sums, ap, arith, at_else, at_here, at_point, cond, current, deed, done, ended_add, ended_bindings, ended_of, ended_sum, ended_zero, eq-eqb, eqb, false, first_words, get_or, get_or-append-add, get_or-replicate, get_or_append_left, in_order, last_add, last_bindings, last_range, last_same, last_sum, last_zero, length, length-append, length-replicate, length-reverse, made_by, made_count, map, map-append, mine, mine_if, missing, ne_eqb, page_given, pages_after, point_sum, range_sum, refl, replicate, reverse, reverse-append, same_few, subst, suc, sum, sums_of, sym, take, take-append-le, take_all, taking_all_in, true, words_few, words_left, words_to, work_of, zero, ℕ, ◌%◌, ◌&&◌, ◌++◌, ◌+◌, ◌<◌, ◌^◌, ◌∙◌, ◌∷◌, ◌≡◌, ◌≢◌, ◌≤◌}
use mathlib.Core.Logic.{dite}
use native.Mathlib.Decide.{ℕ_discrete}

weight_here : (e : Made) (f b : ℕ) → e.frame ≡ f → weight e f b ≡ at_point (added e.touch) e.binding b
weight_here e f b same = ap (λ t. cond (t && eqb e.binding b) (added e.touch) 0) (eq-eqb e.frame f same)

weight_else : (e : Made) (f b : ℕ) → e.frame ≢ f → weight e f b ≡ 0
weight_else e f b other = ap (λ t. cond (t && eqb e.binding b) (added e.touch) 0) (ne_eqb e.frame f other)

ended_here : (f : ℕ) (b : Bound) (bs : List Bound) → f ≡ b.frame → ended_of f (b ∷ bs) ≡ ended_of f bs + 1
ended_here f b bs same = ap (λ t. cond t (ended_of f bs + 1) (ended_of f bs)) (eq-eqb b.frame f (sym same))

ended_else : (f : ℕ) (b : Bound) (bs : List Bound) → f ≢ b.frame → ended_of f (b ∷ bs) ≡ ended_of f bs
ended_else f b bs other = ap (λ t. cond t (ended_of f bs + 1) (ended_of f bs)) (ne_eqb b.frame f (λ is. other (sym is)))

-- a touch of a binding that has ended is counted once, and any other never
ended_point : (e : Made) (bs : List Bound) → AreInTurn bs → (e.binding < ended_of e.frame bs
    → ended_sum (weight e) bs ≡ added e.touch) × (ended_of e.frame bs ≤ e.binding → ended_sum (weight e) bs ≡ 0)
ended_point e [] turn = (λ lt. absurd (omega arith), λ le. refl)
ended_point e (b ∷ bs) turn =
    let rest = ended_point e bs turn.0 in
    dite (ℕ_discrete e.frame b.frame) (λ (same : e.frame ≡ b.frame).
    let count = ended_here e.frame b bs same in
    let w = weight_here e b.frame b.binding same in
    let number : b.binding ≡ ended_of e.frame bs = turn.1 ∙ ap (λ f. ended_of f bs) (sym same) in
    dite (ℕ_discrete e.binding b.binding) (λ (here : e.binding ≡ b.binding).
    let v = at_here (added e.touch) e.binding b.binding here in
    let z = rest.1 (omega arith) in
    (λ lt. omega (arith, w, v, z), λ le. absurd (omega (arith, count)))) (λ (else : e.binding ≢ b.binding).
    let v = at_else (added e.touch) e.binding b.binding else in (
      λ lt. (let z = rest.0 (omega (arith, count)) in omega (arith, w, v, z)),
      λ le. (let z = rest.1 (omega (arith, count)) in omega (arith, w, v, z)),
    ))) (λ (other : e.frame ≢ b.frame).
    let count = ended_else e.frame b bs other in
    let w = weight_else e b.frame b.binding other in (
      λ lt. (let z = rest.0 (omega (arith, count)) in omega (arith, w, z)),
      λ le. (let z = rest.1 (omega (arith, count)) in omega (arith, w, z)),
    ))

-- a touch of a frame's last binding is counted once among the last ones
last_point : (e : Made) (c : ℕ → ℕ) (n : ℕ) → e.frame < n → last_sum (λ f. weight e f (c f)) n
    ≡ at_point (added e.touch) e.binding (c e.frame)
last_point e c n lt =
    last_same (λ f. weight e f (c f)) (at_point (at_point (added e.touch) e.binding (c e.frame)) e.frame) n (λ f below.
    dite (ℕ_discrete e.frame f) (λ (same : e.frame ≡ f). weight_here e f (c f) same ∙ ap (λ g. at_point (added e.touch)
    e.binding (c g)) (sym same) ∙ sym (at_here _ e.frame f same)) (λ (other : e.frame ≢ f). weight_else e f (c f) other
    ∙ sym (at_else _ e.frame f other))) ∙ (point_sum (at_point (added e.touch) e.binding (c e.frame)) e.frame n).0 lt

one_binding : (e : Made) (bs : List Bound) (c : ℕ → ℕ) (n : ℕ) → AreInTurn bs → ((f : ℕ) → c f ≡ ended_of f bs)
    → e.frame < n → e.binding ≤ c e.frame → ended_sum (weight e) bs + last_sum (λ f. weight e f (c f)) n ≡ added e.touch
one_binding e bs c n turn count frame binding =
    let ended = ended_point e bs turn in
    let last = last_point e c n frame in
    let at = count e.frame in
    dite (ℕ_discrete e.binding (c e.frame)) (λ (here : e.binding ≡ c e.frame). let v = at_here (added e.touch) e.binding
    (c e.frame) here in omega (arith, last, v, ended.1 (omega arith))) (λ (other : e.binding ≢ c e.frame). let v =
    at_else (added e.touch) e.binding (c e.frame) other in omega (arith, last, v, ended.0 (omega arith)))

-- all that was added to all bindings is all that was added
pub bindings_sum : (cpus frames : ℕ) (plan : Watch) (es : List Made) (bs : List Bound) → AreInTurn bs
    → ((f : ℕ) → current plan f ≡ ended_of f bs) → AreOfBindings cpus plan es → AreAdds frames es
    → ended_sum (weigh_of es) bs + last_sum (λ f. weigh_of es f (current plan f)) frames ≡ weigh es
bindings_sum cpus frames plan [] bs turn count ok adds = omega (arith, ended_zero bs, last_zero frames)
bindings_sum cpus frames plan (e ∷ es) bs turn count ok adds =
    let rest = bindings_sum cpus frames plan es bs turn count ok.0 adds.0 in
    let one = one_binding e bs (current plan) frames turn count adds.1 ok.2 in
    let ended = ended_add (weigh_of es) (weight e) bs in
    let last = last_add (λ f. weigh_of es f (current plan f)) (λ f. weight e f (current plan f)) frames in
    omega (arith, rest, one, ended, last)

-- a measure of touches that adds up, of which each touch has its share
module _ (all : List Made → ℕ) (share : Made → ℕ) (none : all [] ≡ 0)
    (more : (e : Made) (es : List Made) → all (e ∷ es) ≡ all es + share e) where
  measure_if : (t : Bool) (e : Made) (es : List Made) → all (mine_if t e es) ≡ all es + cond t (share e) 0
  measure_if true e es = more e es
  measure_if false e es = omega arith

  -- that of all processors is that of all touches
  pub cpus_sum : (cpus : ℕ) (plan : Watch) (es : List Made) → AreOfBindings cpus plan es
      → last_sum (λ c. all (mine c es)) cpus ≡ all es
  cpus_sum cpus plan [] ok = last_same (λ c. all []) (λ c. 0) cpus (λ c below. none) ∙ last_zero cpus ∙ sym none
  cpus_sum cpus plan (e ∷ es) ok =
      let rest = cpus_sum cpus plan es ok.0 in
      let each = last_same (λ c. all (mine c (e ∷ es))) (λ c. all (mine c es) + at_point (share e) e.cpu c) cpus
      (λ c below. measure_if (eqb e.cpu c) e (mine c es)) in
      let both = last_add (λ c. all (mine c es)) (at_point (share e) e.cpu) cpus in
      let one = (point_sum (share e) e.cpu cpus).0 ok.1 in
      let here = more e es in
      omega (arith, rest, each, both, one, here)
