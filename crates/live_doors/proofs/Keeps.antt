-- Each kind of step keeps the rule, and the laws that rest on it.
pub use Rattle.live_doors.proofs.Prelude.{Acknowledges, Allows, Bool, Closes, Fills, Final, Forgets, IsShut, Joins, Keeping, Kept, List, Looks, MayBindHasNoHolder, Me, NeverBoundHasNoHolder, None, NotedIsClear, Option, PassOk, PlanOk, Raises, SeatOk, Seen, Size, Some, Spent, Splits, State, View, Walk, Walking, Watch, [], ack_at, acknowledged, acknowledged_ok, ap, arith, blank, blank_ok, door_at, entry_gone, entry_never, eqb, ext_get_or, false, filled, filled_if, filled_ok, first_watch, first_words, forgotten, forgotten_ok, get_or, get_or-append-add, get_or-replicate, get_or_append_left, having_noted, inl, inr, keeper_with_pass, keeps, length, length-append, length-replicate, length-set, noted_still, pass_admits, pass_of_keeper, pass_raised, pass_shut, pass_stays, plan_acknowledged, plan_admits, plan_noted, plan_raised, plan_shut, raised, refl, replicate, rows_noted, rules, seats_stay, set, set-get_or, shut, step, subst, suc, sym, true, valued, valued_else, valued_here, walk_of, watch_of, zero, ℕ, ⊎_elim, ◌%◌, ◌++◌, ◌+◌, ◌<◌, ◌∙◌, ◌∷◌, ◌≡◌, ◌≢◌, ◌≤◌, ◌⊎◌}
use mathlib.Core.Option.{some, none, some-injective, some-ne-none}
use lib.ListN.{get_elem?}

abbrev Board : Type 0
Board = State (Unit {0}) View

abbrev InOrder : Size → Board → Type 0
InOrder z s = Kept z s.words s.views

module _ (z : Size) where
  -- a pass has looked at a word
  pass_looked : (words : List ℕ) (views : List View) (id i : ℕ) (p p' : Walk) → (h : Kept z words views)
      → get_elem? views id ≡ some (Walking p) → p'.cpu ≡ p.cpu → (PassOk z.frames z.cpus words h.plan p
      → PassOk z.frames z.cpus words h.plan p') → Kept z (set words i (get_or words i 0)) (set views id (Walking p'))
  pass_looked words views id i p p' h at same ok =
      let mine = h.seats_ok id (Walking p) at in
      subst (λ ws. Kept z ws (set views id (Walking p'))) (sym (set-get_or words i 0))
      record {
        plan = h.plan;
        keeper = h.keeper;
        seat_of = h.seat_of;
        plan_ok = h.plan_ok;
        seats_ok = seats_stay (SeatOk z.frames z.cpus words h.plan h.keeper h.seat_of) views id (Walking p') (
          cc,
          ok mine.1,
        ) (λ j v _ e. h.seats_ok j v e);
      }

  pub fills : (slots id f : ℕ) (p : Walk) → f < z.frames → Allows (InOrder z) slots id (
    Walking p,
    [],
  ) (door_at f) (λ n. n) (Fills (step slots (door_at f) 0 0 none) (Walking p, []))
  fills slots id f p inside s h homes at fits =
      let n : ℕ = get_or s.words (door_at f) 0 in (
        Walking (filled f n p),
        keeps,
        tt,
        pass_looked s.words s.views id (door_at f) p (filled f n p) h at (cpu_stays f n)
            (filled_ok z.frames z.cpus s.words h.plan p f n inside refl h.plan_ok),
        λ g e. (least s.words h.plan h.plan_ok, ap (λ k. (Walking (filled k n p), [])) (omega arith)),
      )
    where
      least : (words : List ℕ) (plan : Watch) → PlanOk z.frames z.cpus words plan → 1 ≤ get_or words (door_at f) 0
      least words plan k = subst (λ i. 1 ≤ i) (sym (k.doors f inside)) (k.least f inside)

      cpu_stays : (f n : ℕ) → (filled f n p).cpu ≡ p.cpu
      cpu_stays f n = cases (eqb (n % 2) 0)
        where
          cases : (even : Bool) → (filled_if even f n p).cpu ≡ p.cpu
          cases true = refl
          cases false = refl

  pub forgets : (slots id : ℕ) (p : Walk) → Allows (InOrder z) slots id (Walking p, []) 0 (λ n. n)
      (Forgets (step slots 0 0 0 none) (Walking p, []))
  forgets slots id p s h homes at fits =
      let n : ℕ = get_or s.words 0 0 in (
        Walking (forgotten n p),
        keeps,
        tt,
        pass_looked s.words s.views id 0 p (forgotten n p) h at refl
            (forgotten_ok z.frames z.cpus s.words h.plan p n refl h.plan_ok),
        λ _. refl,
      )

  pub acknowledges : (slots id : ℕ) (p : Walk) → Allows (InOrder z) slots id (
    Walking p,
    [],
  ) (ack_at z.frames p.cpu) (λ _. p.stamp) (λ _. Acknowledges (step slots (ack_at z.frames p.cpu) p.stamp 0 none)
      (Walking p, []) p.stamp)
  acknowledges slots id p s h homes at fits =
      let mine = h.seats_ok id (Walking p) at in (
        Walking (acknowledged p),
        keeps,
        tt,
        record {
          plan = h.plan;
          keeper = h.keeper;
          seat_of = h.seat_of;
          plan_ok = plan_acknowledged z.frames z.cpus s.words h.plan p h.plan_ok mine.1;
          seats_ok = seats_stay (SeatOk z.frames z.cpus (set s.words (ack_at z.frames p.cpu) p.stamp) h.plan h.keeper
              h.seat_of) s.views id (Walking (acknowledged p))
              (mine.0, acknowledged_ok z.frames z.cpus s.words h.plan p h.plan_ok mine.1)
              (λ j v other e. stays s.words h.plan h.keeper h.seat_of mine.0 j v other (h.seats_ok j v e));
        },
        refl,
      )
    where
      stays : (words : List ℕ) (plan : Watch) (keeper : ℕ) (seat_of : ℕ → ℕ) → seat_of p.cpu ≡ id → (j : ℕ) (v : View)
          → j ≢ id → SeatOk z.frames z.cpus words plan keeper seat_of j v
          → SeatOk z.frames z.cpus (set words (ack_at z.frames p.cpu) p.stamp) plan keeper seat_of j v
      stays words plan keeper seat_of here j (Walking q) other k = (
        k.0,
        pass_stays z.frames z.cpus words plan q (ack_at z.frames p.cpu) p.stamp
            (λ e. other (sym k.0 ∙ ap seat_of (omega arith) ∙ here)) k.1,
      )
      stays words plan keeper seat_of here j (Keeping w) other k = k
      stays words plan keeper seat_of here j Spent other k = tt

  -- the keeper's step: its plan becomes another, beside words in which each pass is in order
  keeper_stepped : (words words' : List ℕ) (views : List View) (id : ℕ) (w w' : Watch) → (h : Kept z words views)
      → get_elem? views id ≡ some (Keeping w) → (PlanOk z.frames z.cpus words w → PlanOk z.frames z.cpus words' w')
      → (PlanOk z.frames z.cpus words w → (q : Walk) → PassOk z.frames z.cpus words w q
      → PassOk z.frames z.cpus words' w' q) → Kept z words' (set views id (Keeping w'))
  keeper_stepped words words' views id w w' h at plan pass =
      let mine = h.seats_ok id (Keeping w) at in
      let was : PlanOk z.frames z.cpus words w = rw mine.1 h.plan_ok in
      record {
        plan = w';
        keeper = h.keeper;
        seat_of = h.seat_of;
        plan_ok = plan was;
        seats_ok = seats_stay (SeatOk z.frames z.cpus words' w' h.keeper h.seat_of) views id (Keeping w') (mine.0, refl)
            (λ j v other e. stays h.keeper h.seat_of mine.0 (pass was) j v other (rw mine.1 (h.seats_ok j v e)));
      }
    where
      stays : (keeper : ℕ) (seat_of : ℕ → ℕ) → keeper ≡ id → ((q : Walk)
          → PassOk z.frames z.cpus words w q → PassOk z.frames z.cpus words' w' q) → (j : ℕ) (v : View) → j ≢ id
          → SeatOk z.frames z.cpus words w keeper seat_of j v → SeatOk z.frames z.cpus words' w' keeper seat_of j v
      stays keeper seat_of here pass j (Walking q) other k = (k.0, pass q k.1)
      stays keeper seat_of here pass j (Keeping u) other k = absurd (other (cc))
      stays keeper seat_of here pass j Spent other k = tt

  pub closes : (slots id f : ℕ) (w : Watch) → f < z.frames → get_or w.doors f 0 % 2 ≡ 0
      → Allows (InOrder z) slots id (Keeping w, []) (door_at f) (λ _. get_or w.doors f 0 + 1)
      (λ _. Closes (step slots (door_at f) (get_or w.doors f 0 + 1) 0 none) (Keeping w, []) (get_or w.doors f 0 + 1))
  closes slots id f w inside even s h homes at fits = (
    Keeping (shut f w),
    keeps,
    tt,
    keeper_stepped s.words (set s.words (door_at f) (get_or w.doors f 0 + 1)) s.views id w (shut f w) h at (plan_shut
        z.frames z.cpus s.words w f inside) (λ k q ok. pass_shut z.frames z.cpus s.words w f q inside even k ok),
    λ g e. ap (λ k. (Keeping (shut k w), [])) (omega arith),
  )

  pub raises : (slots id : ℕ) (w : Watch) → Allows (InOrder z) slots id (
    Keeping w,
    [],
  ) 0 (λ _. w.request + 1) (λ _. Raises (step slots 0 (w.request + 1) 0 none) (Keeping w, []) (w.request + 1))
  raises slots id w s h homes at fits = (
    Keeping (raised w),
    keeps,
    tt,
    keeper_stepped s.words (set s.words 0 (w.request + 1)) s.views id w (raised w) h at
        (plan_raised z.frames z.cpus s.words w) (λ _ q ok. pass_raised z.frames z.cpus s.words w q ok),
    refl,
  )

  pub looks : (slots id c : ℕ) (w : Watch) → c < z.cpus → length w.doors ≡ z.frames → Allows (InOrder z) slots id
      (Keeping w, []) (ack_at z.frames c) (λ n. n) (Looks (step slots (ack_at z.frames c) 0 0 none) (Keeping w, []))
  looks slots id c w inside row s h homes here fits =
      let at : ℕ = ack_at z.frames c in
      let n : ℕ = get_or s.words (ack_at z.frames c) 0 in
      let mine = h.seats_ok id (Keeping w) here in
      let low : get_or w.noted c 0 ≤ n = rw mine.1 (h.plan_ok.noted c inside) in (
        Keeping (having_noted at c n w),
        keeps,
        tt,
        keeper_stepped s.words (set s.words (ack_at z.frames c) n) s.views id w (having_noted at c n w) h here
            (λ k. rw (set-get_or s.words (ack_at z.frames c) 0) (plan_noted z.frames z.cpus s.words w at c n inside refl
            k)) (λ _ q ok. rw (set-get_or s.words (ack_at z.frames c) 0) ok),
        λ d e. let same : c ≡ d = omega arith in (rw (← same) low, cc),
      )

  -- the same at a seat that is known to be a pass's or the keeper's
  pub fills_at : {slots : ℕ} (id f : ℕ) {m : Me (Unit {0}) View} → m ≡ (Walking (walk_of m.0), []) → f < z.frames
      → Allows (InOrder z) slots id m (1 + f) (λ n. n) (Fills (step slots (1 + f) 0 0 none) m)
  fills_at {slots} id f {m} is inside = rw is (fills slots id f (walk_of m.0) inside)

  pub forgets_at : {slots : ℕ} (id : ℕ) {m : Me (Unit {0}) View} → m ≡ (Walking (walk_of m.0), [])
      → Allows (InOrder z) slots id m 0 (λ n. n) (Forgets (step slots 0 0 0 none) m)
  forgets_at {slots} id {m} is = rw is (forgets slots id (walk_of m.0))

  pub acknowledges_at : {slots : ℕ} (id : ℕ) {i n : ℕ} {m : Me (Unit {0}) View} → m ≡ (Walking (walk_of m.0), []) → i
      ≡ ack_at z.frames (walk_of m.0).cpu → n ≡ (walk_of m.0).stamp
      → Allows (InOrder z) slots id m i (λ _. n) (λ _. Acknowledges (step slots i n 0 none) m n)
  acknowledges_at {slots} id {m} is word stamp = subst (λ (x : ℕ × ℕ). Allows (InOrder z) slots id m x.0 (λ _. x.1)
      (λ _. Acknowledges (step slots x.0 x.1 0 none) m x.1)) (λ k. (sym word k, sym stamp k))
      (rw is (acknowledges slots id (walk_of m.0)))

  pub closes_at : {slots : ℕ} (id f : ℕ) {n : ℕ} {m : Me (Unit {0}) View} → m ≡ (Keeping (watch_of m.0), [])
      → f < z.frames → get_or (watch_of m.0).doors f 0 % 2 ≡ 0 → n ≡ get_or (watch_of m.0).doors f 0 + 1
      → Allows (InOrder z) slots id m (1 + f) (λ _. n) (λ _. Closes (step slots (1 + f) n 0 none) m n)
  closes_at {slots} id f {m} is inside even word = rw (word, is) (closes slots id f (watch_of m.0) inside even)

  pub raises_at : {slots : ℕ} (id : ℕ) {n : ℕ} {m : Me (Unit {0}) View} → m ≡ (Keeping (watch_of m.0), []) → n
      ≡ (watch_of m.0).request + 1 → Allows (InOrder z) slots id m 0 (λ _. n) (λ _. Raises (step slots 0 n 0 none) m n)
  raises_at {slots} id {m} is word = rw (word, is) (raises slots id (watch_of m.0))

  pub looks_at : {slots : ℕ} (id : ℕ) {i : ℕ} (c : ℕ) {m : Me (Unit {0}) View}
      → m ≡ (Keeping (watch_of m.0), []) → i ≡ ack_at z.frames c → c < z.cpus → length (watch_of m.0).doors ≡ z.frames
      → Allows (InOrder z) slots id m i (λ n. n) (Looks (step slots i 0 0 none) m)
  looks_at {slots} id c {m} is word inside row =
      subst (λ k. Allows (InOrder z) slots id m k (λ n. n) (Looks (step slots k 0 0 none) m)) (sym word)
      (rw is (looks slots id c (watch_of m.0) inside row))

-- where the last of a longer list stands
snoc_place : {V : Type 0} (l : List V) (a b : V) (j : ℕ) → get_elem? (l ++ a ∷ []) j ≡ some b
    → (get_elem? l j ≡ some b) ⊎ ((j ≡ length l) × (a ≡ b))
snoc_place [] a b zero e = inr (refl, some-injective a b e)
snoc_place [] a b (suc j) e = absurd (some-ne-none b (sym e))
snoc_place (x ∷ xs) a b zero e = inl e
snoc_place (x ∷ xs) a b (suc j) e = ⊎_elim (λ t. inl t) (λ (t : (j ≡ length xs) × (a ≡ b)). inr (ap suc t.0, t.1))
    (snoc_place xs a b j e)

module _ (z : Size) where
  -- the keeper makes the pass of the next processor
  pub admits : (id : ℕ) (w : Watch) → w.made < z.cpus → length w.doors ≡ z.frames
      → Splits (InOrder z) id (Keeping w) (keeper_with_pass (Keeping w)) (pass_of_keeper (Keeping w))
  admits id w room row s h at =
      let mine = h.seats_ok id (Keeping w) at in
      let was : PlanOk z.frames z.cpus s.words w = rw mine.1 h.plan_ok in
      let longer : List View = set s.views id (keeper_with_pass (Keeping w)) in
      let seat_of : ℕ → ℕ = valued w.made (length longer) h.seat_of in
      record {
        plan = record w { made = w.made + 1 };
        keeper = h.keeper;
        seat_of = seat_of;
        plan_ok = plan_admits z.frames z.cpus s.words w room was;
        seats_ok = λ j v e. ⊎_elim (λ (old : get_elem? longer j ≡ some v). seats_stay (SeatOk z.frames z.cpus s.words
            (record w { made = w.made + 1 }) h.keeper seat_of) s.views id (keeper_with_pass (Keeping w)) (
              mine.0,
              refl,
            ) (λ i u other there. stays s.words h.keeper h.seat_of (length longer) mine.0 i u other
            (rw mine.1 (h.seats_ok i u there)))
            j v old) (λ (new : (j ≡ length longer) × (pass_of_keeper (Keeping w) ≡ v)).
            subst (λ (x : ℕ × View). SeatOk z.frames z.cpus s.words (record w { made = w.made + 1 }) h.keeper seat_of
            x.0 x.1) (λ i. (sym new.0 i, new.1 i)) (
              valued_here w.made (length longer) h.seat_of,
              rw row (blank_ok z.frames z.cpus s.words w room was),
            )) (snoc_place longer (pass_of_keeper (Keeping w)) v j e);
      }
    where
      stays : (words : List ℕ) (keeper : ℕ) (seat_of : ℕ → ℕ) (new : ℕ) → keeper ≡ id → (j : ℕ) (v : View) → j ≢ id
          → SeatOk z.frames z.cpus words w keeper seat_of j v
          → SeatOk z.frames z.cpus words (record w { made = w.made + 1 }) keeper (valued w.made new seat_of) j v
      stays words keeper seat_of new here j (Walking q) other k = (
        valued_else w.made q.cpu new seat_of (λ e. omega arith) ∙ k.0,
        pass_admits z.frames z.cpus words w q k.1,
      )
      stays words keeper seat_of new here j (Keeping u) other k = absurd (other (cc))
      stays words keeper seat_of new here j Spent other k = tt

  pub admits_at : (id : ℕ) {m : Me (Unit {0}) View} → m ≡ (Keeping (watch_of m.0), []) → (watch_of m.0).made < z.cpus
      → length (watch_of m.0).doors ≡ z.frames → Splits (InOrder z) id m.0 (keeper_with_pass m.0) (pass_of_keeper m.0)
  admits_at id {m} is room row = rw (ap (λ y. y.0) is) (admits id (watch_of m.0) room row)

  -- a seat takes in another, which knows nothing any more
  pub takes_in : (id other : ℕ) (v u : View) → Joins (InOrder z) id v other u v Spent
  takes_in id other v u s h at apart there = record {
    plan = h.plan;
    keeper = h.keeper;
    seat_of = h.seat_of;
    plan_ok = h.plan_ok;
    seats_ok = seats_stay (SeatOk z.frames z.cpus s.words h.plan h.keeper h.seat_of) (set s.views id v) other Spent tt
        (λ j w _ e. seats_stay (SeatOk z.frames z.cpus s.words h.plan h.keeper h.seat_of) s.views id v
        (h.seats_ok id v at) (λ i y _ e'. h.seats_ok i y e') j w e);
  }

  door_word : (door f : ℕ) → f < z.frames → get_or (first_words z.frames z.cpus door) (door_at f) 0
      ≡ get_or (replicate z.frames door) f 0
  door_word door f inside =
      let row : List ℕ = replicate z.frames door in
      let acks : List ℕ = replicate z.cpus 0 in
      let l : length row ≡ z.frames = length-replicate z.frames door in
      let one : door_at f ≡ suc f = omega arith in
      cc (get_or_append_left row acks 0 f (omega arith))

  ack_word : (door c : ℕ) → c < z.cpus → get_or (first_words z.frames z.cpus door) (ack_at z.frames c) 0 ≡ 0
  ack_word door c inside =
      let row : List ℕ = replicate z.frames door in
      let acks : List ℕ = replicate z.cpus 0 in
      let l : length row ≡ z.frames = length-replicate z.frames door in
      let one : ack_at z.frames c ≡ suc (length row + c) = omega arith in
      ap (λ i. get_or (0 ∷ (row ++ acks)) i 0) one ∙ get_or-append-add row acks c 0
      ∙ get_or-replicate z.cpus c 0 0 inside

  -- the rule holds at the start
  pub opens : 1 ≤ z.door → Kept z (first_words z.frames z.cpus z.door)
      (Keeping (first_watch z.frames z.cpus z.door) ∷ [])
  opens least = record {
    plan = first_watch z.frames z.cpus z.door;
    keeper = 0;
    seat_of = λ c. 0;
    plan_ok = record {
      room = (let row : List ℕ = replicate z.frames z.door in let acks : List ℕ = replicate z.cpus 0 in
          let a : length row ≡ z.frames = length-replicate z.frames z.door in let b : length acks ≡ z.cpus =
          length-replicate z.cpus 0 in
          let c = length-append row acks in omega arith);
      doors_row = length-replicate z.frames z.door;
      since_row = length-replicate z.frames 0;
      noted_row = length-replicate z.cpus 0;
      made = omega arith;
      request = refl;
      doors = λ f inside. door_word z.door f inside;
      least = λ f inside. rw (get_or-replicate z.frames f z.door 0 inside) least;
      noted = λ c inside. subst (λ k. k ≤ get_or (first_words z.frames z.cpus z.door) (ack_at z.frames c) 0)
          (sym (get_or-replicate z.cpus c 0 0 inside)) (omega arith);
      unmade = λ c above inside. ack_word z.door c inside;
    };
    seats_ok = one;
  }
    where
      one : (j : ℕ) (v : View) → get_elem? (Keeping (first_watch z.frames z.cpus z.door) ∷ []) j ≡ some v → SeatOk
          z.frames z.cpus (first_words z.frames z.cpus z.door) (first_watch z.frames z.cpus z.door) 0 (λ c. 0) j v
      one zero v e = subst (SeatOk z.frames z.cpus (first_words z.frames z.cpus z.door)
          (first_watch z.frames z.cpus z.door) 0 (λ c. 0) 0) (some-injective _ _ e) (refl, refl)
      one (suc j) v e = absurd (some-ne-none v (sym e))

  pub opens_at : (words : List ℕ) → words ≡ first_words z.frames z.cpus z.door → 1 ≤ z.door
      → Kept z words (Keeping (first_watch z.frames z.cpus z.door) ∷ [])
  opens_at words is least = subst (λ ws. Kept z ws (Keeping (first_watch z.frames z.cpus z.door) ∷ [])) (sym is)
      (opens least)

-- what the keeper's seat knows is the plan
known : (z : Size) (words : List ℕ) (views : List View) (seat : ℕ) (w : Watch) → (h : Kept z words views)
    → get_elem? views seat ≡ some (Keeping w) → w ≡ h.plan
known z words views seat w h at = (h.seats_ok seat (Keeping w) at).1

none_if : (o : Option ℕ) → ((b : ℕ) → o ≡ Some b → ⊥) → o ≡ None
none_if None never = refl
none_if (Some b) never = absurd (never b refl)

pub noted_is_clear : NotedIsClear
noted_is_clear w stamp noted f odd since z words views seat h at id p there =
    let is = known z words views seat w h at in
    let k : PlanOk z.frames z.cpus words w = rw is h.plan_ok in
    let ok : PassOk z.frames z.cpus words w p = rw is (h.seats_ok id (Walking p) there).1 in
    let m = ok.made in let n = k.made in let r = k.noted_row in
    none_if (get_or p.held f None) (λ b e. entry_gone z.frames z.cpus words w p f b stamp k ok
    (noted p.cpu (omega arith)) odd since e)

pub never_bound : NeverBoundHasNoHolder
never_bound w f one z words views seat h at id p there =
    let is = known z words views seat w h at in
    let ok : PassOk z.frames z.cpus words w p = rw is (h.seats_ok id (Walking p) there).1 in
    none_if (get_or p.held f None) (λ b e. entry_never z.frames z.cpus words w p f b ok one e)

pub may_bind_is_free : MayBindHasNoHolder
may_bind_is_free w cleared f noted may = ⊎_elim (λ one. never_bound w f one)
    (λ (t : IsShut w f × (get_or w.since f 0 < cleared)). noted_is_clear w cleared noted f t.0 t.1) may

-- at the end the words are those that the keeper knows
elem_get_or : (l : List ℕ) (i : ℕ) {a : ℕ} → get_elem? l i ≡ some a → get_or l i 0 ≡ a
elem_get_or [] i {a} e = absurd (some-ne-none a (sym e))
elem_get_or (x ∷ xs) zero {a} e = some-injective x a e
elem_get_or (x ∷ xs) (suc i) {a} e = elem_get_or xs i e

ended_plan : {z : Size} {id : ℕ} {m : Me (Unit {0}) View} {words : List ℕ} (slots : List (Unit {0})) → m ≡ (
  Keeping
      (watch_of m.0),
  [],
) → Final (Seen (InOrder z) id m.0) words slots → PlanOk z.frames z.cpus words (watch_of m.0)
ended_plan {z} {id} {m} slots is end =
    let s = end.0 in
    let h : Kept z s.words s.views = end.1.0 in
    let at : get_elem? s.views id ≡ some (Keeping (watch_of m.0)) = end.1.1 ∙ ap (λ x. some x.0) is in
    rw (← end.2, known z s.words s.views id (watch_of m.0) h at) h.plan_ok

pub ended_request : {z : Size} {id : ℕ} {m : Me (Unit {0}) View} {words : List ℕ} (slots : List (Unit {0})) {found : ℕ}
    → m ≡ (Keeping (watch_of m.0), []) → Final (Seen (InOrder z) id m.0) words slots → get_elem? words 0 ≡ some found
    → found ≡ (watch_of m.0).request
ended_request {z} {id} {m} {words} slots {found} is end there = let k =
    ended_plan {z = z} {id = id} {m = m} {words = words} slots is end in cc (elem_get_or words 0 {a = found} there)

pub ended_doors : {z : Size} {id : ℕ} {m : Me (Unit {0}) View} {words doors : List ℕ} (slots : List (Unit {0})) → m
    ≡ (Keeping (watch_of m.0), [])
    → Final (Seen (InOrder z) id m.0) words slots → length doors ≡ length (watch_of m.0).doors
    → ((f : ℕ) → f < length doors → get_elem? words (f + 1) ≡ some (get_or doors f 0)) → doors ≡ (watch_of m.0).doors
ended_doors {z} {id} {m} {words} {doors} slots is end same read =
    let k = ended_plan {z = z} {id = id} {m = m} {words = words} slots is end in
    ext_get_or 0 doors (watch_of m.0).doors same (λ f inside.
    let r = k.doors_row in let at : door_at f ≡ f + 1 = omega arith in
    sym (elem_get_or words (f + 1) {a = get_or doors f 0} (read f inside)) ∙ sym (ap (λ i. get_or words i 0) at)
    ∙ k.doors f (omega arith))
