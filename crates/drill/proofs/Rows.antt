-- The rows of roles and passes, from which the last one is taken and to which one is added.
pub use Rattle.drill.proofs.Adds.{All, All-pop, All-push, AreAll, AreDone, AreFirstOf, EachRole, HasDone, IsFresh, IsPassOf, List, Option, PagesModel, PassModel, Role, RoleDone, RoleFresh, Some, Worker, Works, [], add-one, ap, arith, done, done_count, first_passes, first_walker, first_words, get_or, get_or-append_seam, get_or_append_left, length, length-append, made_by, made_count, missing, option_to_list, refl, reverse, reverse-append, reverse-reverse, rules, subst, suc, sum, sums_of, sym, vec_len, words_to, work_of, zero, ℕ, ◌%◌, ◌++◌, ◌+◌, ◌-◌, ◌<◌, ◌^◌, ◌∙◌, ◌∷◌, ◌≡◌, ◌≢◌, ◌≤◌}
use mathlib.Core.Logic.{dite}
use native.Mathlib.Decide.{ℕ_discrete}

snoc_parts : {X : Type 0} (xs ys : List X) (x y : X) → xs ++ x ∷ [] ≡ ys ++ y ∷ [] → (xs ≡ ys) × (x ≡ y)
snoc_parts xs ys x y e =
    let turned : x ∷ reverse xs ≡ y ∷ reverse ys = sym (reverse-append xs (x ∷ [])) ∙ ap (λ l. reverse l) e
    ∙ reverse-append ys (y ∷ []) in (cc (reverse-reverse xs, reverse-reverse ys), cc)

-- the row before its last one was taken
popped_is : {X : Type 0} (xs ys : List X) (r : Option X) (x : X) → xs ≡ ys ++ option_to_list r → r ≡ Some x → xs ≡ ys
    ++ x ∷ []
popped_is xs ys r x popped some = popped ∙ ap (λ o. ys ++ option_to_list o) some

each_rest : (ok : ℕ → Role → Type 0) (xs : List Role) (x : Role) → EachRole ok (xs ++ x ∷ []) → EachRole ok xs
each_rest ok xs x each place d lt = rw (get_or_append_left xs (x ∷ []) d place lt)
    at (each place d (omega (arith, length-append xs (x ∷ []))))

each_last : (ok : ℕ → Role → Type 0) (xs : List Role) (x : Role) → EachRole ok (xs ++ x ∷ []) → ok (length xs) x
each_last ok xs x each = subst (ok (length xs)) (get_or-append_seam xs x [] x)
    (each (length xs) x (let l = length-append xs (x ∷ []) in omega (arith, l)))

each_push : (ok : ℕ → Role → Type 0) (xs : List Role) (x : Role) → EachRole ok xs → ok (length xs) x
    → EachRole ok (xs ++ x ∷ [])
each_push ok xs x each last place d lt =
    dite (ℕ_discrete place (length xs)) (λ (here : place ≡ length xs). subst (λ p. ok p (get_or (xs ++ x ∷ []) p d))
    (sym here) (subst (ok (length xs)) (sym (get_or-append_seam xs x [] d)) last)) (λ (other : place ≢ length xs).
    let below : place < length xs = omega (arith, length-append xs (x ∷ [])) in
    subst (ok place) (sym (get_or_append_left xs (x ∷ []) d place below)) (each place d below))

last_of_all : {X : Type 0} (P : X → Type 0) (xs : List X) (x : X) → All P (xs ++ x ∷ []) → P x
last_of_all P xs x all = subst P (get_or-append_seam xs x [] x)
    (all (length xs) x (let l = length-append xs (x ∷ []) in omega (arith, l)))

new_pass : PagesModel → ℕ → PassModel
new_pass pages m = record { table = pages.table; walker = first_walker pages.frames pages.cpus m }

-- a new pass was seated
pub fresh_push : (pages : PagesModel) (roles seated : List Role) (passes rest : List PassModel) (r : Option PassModel)
    (pass : PassModel) (n m cpu : ℕ) → passes ≡ rest ++ option_to_list r → r ≡ Some pass → passes ≡ first_passes pages n
    → All (IsPassOf pages) passes → EachRole (RoleFresh pages pages.cpus) roles → seated ≡ roles ++ Works
    (record { pass = pass; cpu = cpu; done = 0 }) ∷ [] → n ≡ m + 1 → cpu ≡ m → n + length roles ≡ pages.cpus
    → EachRole (RoleFresh pages pages.cpus) seated × (rest ≡ first_passes pages m) × All (IsPassOf pages) rest
unfolding new_pass
fresh_push pages roles seated passes rest r pass n m cpu popped some first all each pushed less number count =
    let is = popped_is passes rest r pass popped some in
    let firsts : first_passes pages n ≡ first_passes pages m ++ new_pass pages m ∷ [] =
    ap (first_passes pages) (less ∙ add-one m) in
    let parts = snoc_parts rest (first_passes pages m) pass (new_pass pages m) (sym is ∙ first ∙ firsts) in
    let of : IsPassOf pages pass = last_of_all (IsPassOf pages) rest pass (subst (All (IsPassOf pages)) is all) in
    let own : IsFresh pages (record { pass = pass; cpu = cpu; done = 0 }) =
    record {
      pass = of;
      cpu = ap (λ p. p.walker.walk.cpu) parts.1 ∙ sym number;
      made = ap (λ p. p.walker.made) parts.1;
      done = refl;
    } in (
      subst (EachRole (RoleFresh pages pages.cpus)) (sym pushed) (each_push (RoleFresh pages pages.cpus) roles
          (Works (record { pass = pass; cpu = cpu; done = 0 })) each (own, omega arith)),
      parts.0,
      (All-pop (IsPassOf pages) passes rest r popped all).0,
    )

done_more : (pages : PagesModel) (seed adds first : ℕ) (ps : List PassModel) (p : PassModel)
    → AreDone pages seed adds first ps → p.walker.walk.cpu ≡ first + length ps → HasDone pages seed
    (length p.walker.made) p → length p.walker.made ≤ adds → AreDone pages seed adds first (ps ++ p ∷ [])
done_more pages seed adds first [] p all cpu own few = (tt, omega arith, own, few)
done_more pages seed adds first (q ∷ qs) p all cpu own few =
    (done_more pages seed adds (first + 1) qs p all.0 (omega arith) own few, all.1, all.2, all.3)

missing_more : (adds : ℕ) (ps : List PassModel) (p : PassModel) → missing adds (ps ++ p ∷ [])
    ≡ missing adds ps + (words_to adds - words_to (length p.walker.made))
missing_more adds [] p = refl
missing_more adds (q ∷ qs) p = let e = missing_more adds qs p in omega (arith, e)

count_more : (ps : List PassModel) (p : PassModel) → made_count (ps ++ p ∷ []) ≡ made_count ps + length p.walker.made
count_more [] p = refl
count_more (q ∷ qs) p = let e = count_more qs p in omega (arith, e)

-- a worker's pass was put into the row
pub done_push : (pages : PagesModel) (seed adds cpus : ℕ) (roles rest : List Role) (r : Option Role) (role : Role)
    (w : Worker) (row now : List PassModel) → roles ≡ rest ++ option_to_list r → r ≡ Some role → role ≡ Works w
    → EachRole (RoleDone pages seed adds cpus) roles → All (IsPassOf pages) row → AreDone pages seed adds 0 row
    → now ≡ row ++ w.pass ∷ [] → length rest + 1 + length row ≡ cpus → EachRole (RoleDone pages seed adds cpus) rest
    × All (IsPassOf pages) now × AreDone pages seed adds 0 now × (missing adds now ≡ missing adds row
    + (words_to adds - words_to w.done)) × (made_count now ≡ made_count row + w.done) × (w.done ≤ adds)
done_push pages seed adds cpus roles rest r role w row now popped some works each all are put count =
    let is = popped_is roles rest r role popped some ∙ ap (λ x. rest ++ x ∷ []) works in
    let whole : EachRole (RoleDone pages seed adds cpus) (rest ++ Works w ∷ []) =
    subst (EachRole (RoleDone pages seed adds cpus)) is each in
    let last = each_last (RoleDone pages seed adds cpus) rest (Works w) whole in
    let own = last.0 in
    let number = done_count pages.frames (seed + w.cpu) w.done w.pass.walker.made own.made in
    let few = own.few in
    let has : HasDone pages seed (length w.pass.walker.made) w.pass =
    record {
      pass = own.pass;
      made = own.made ∙ ap (λ c. done pages.frames (seed + c) w.done) (sym own.cpu)
          ∙ ap (done pages.frames (seed + w.pass.walker.walk.cpu)) (sym number);
    } in (
      each_rest (RoleDone pages seed adds cpus) rest (Works w) whole,
      subst (All (IsPassOf pages)) (sym put) (All-push (IsPassOf pages) row w.pass all own.pass),
      subst (AreDone pages seed adds 0) (sym put) (done_more pages
          seed adds 0 row w.pass are (omega (arith, last.1, own.cpu)) has (omega (arith, last.1, own.cpu))),
      ap (missing adds) put ∙ missing_more adds row w.pass
          ∙ ap (λ k. missing adds row + (words_to adds - words_to k)) number,
      ap made_count put ∙ count_more row w.pass ∙ ap (λ k. made_count row + k) number,
      few,
    )

done_at : (pages : PagesModel) (seed adds first : ℕ) (ps : List PassModel) → AreDone pages seed adds first ps
    → (i : ℕ) (d : PassModel) → i < length ps → (get_or ps i d).walker.walk.cpu ≡ first + i
done_at pages seed adds first [] all i d lt = absurd (omega arith)
done_at pages seed adds first (p ∷ ps) all zero d lt = all.1 ∙ (let e : first ≡ first + 0 = omega arith in e)
done_at pages seed adds first (p ∷ ps) all (suc i) d lt = let e =
    done_at pages seed adds (first + 1) ps all.0 i d (omega arith) in omega (arith, e)

-- a row with a pass for each processor has all passes
pub done_all : (pages : PagesModel) (seed adds : ℕ) (ps : List PassModel) → AreDone pages seed adds 0 ps → length ps
    ≡ pages.cpus → AreAll pages ps
done_all pages seed adds ps all count cpu below = (
  cpu,
  omega arith,
  λ d. (let e = done_at pages seed adds 0 ps all cpu d (omega arith) in omega (arith, e)),
)
