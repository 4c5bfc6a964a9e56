-- The steps that leave turns, tickets and pages alone: they keep the rule as they keep that of the doors.
pub use Rattle.live_pages.proofs.Replay.{Acknowledges, Allows, BookOk, Closes, Fills, Forgets, Free, Hand, HandOk, Has, Held, Holder, Keeping, Kept, Known, List, Looks, Option, Out, PassOk, Passing, PlanOk, Raises, Seat, SeatOk, Size, SlotsOk, Spent, State, TurnsOk, View, Walk, Walker, WalkerOk, Watch, [], ack_at, acknowledged, acknowledged_ok, after, after_else, after_frame, after_here, after_next, ap, arith, bindings_stay, current, door_at, filled, filled_ok, filled_row, forgotten, forgotten_ok, get_or, get_or-set_other, get_or-set_same, hand_of, having_noted, keeps, left_next, left_stays, left_touched, legal_next, length, length-set, mine, mine_else, mine_here, own_below, pass_raised, pass_shut, pass_stays, plan_acknowledged, plan_noted, plan_raised, plan_shut, raised, refl, regiven, regiven_binding, regiven_here, rules, seats_stay, set, set-get_or, set_else, shut, step, suc, sym, ticket_at, tickets_fit, turn_at, walking, watching, zero, ℕ, ◌%◌, ◌+◌, ◌/◌, ◌<◌, ◌∙◌, ◌∷◌, ◌≡◌, ◌≢◌, ◌≤◌}
use mathlib.Core.Logic.{dite}
use mathlib.Core.Option as M
use native.Mathlib.Decide.{ℕ_discrete}
use lib.ListN.{get_elem?}

abbrev pub Board : Type 0
Board = State (Option Held) View

abbrev pub InOrder : Size → Board → Type 0
InOrder z s = Kept z s.words s.homes s.views

-- ---- what stands behind a table

abbrev pub BookStands : Size → List ℕ → Known → Type 0
BookStands z words n = BookOk z.frames z.cpus words n.plan n.given n.log

abbrev pub HandStands : Size → List ℕ → Known → ℕ → Hand → Type 0
HandStands z words n seat hand = HandOk z.frames z.cpus words n.plan.watch n.holder n.given n.log seat hand

abbrev pub WalkerStands : Size → List ℕ → Known → ℕ → Walker → Type 0
WalkerStands z words n seat q = WalkerOk z.frames z.cpus words n.plan n.holder n.given n.log seat q

abbrev pub Stands : Size → List ℕ → Known → ℕ → View → Type 0
Stands z words n seat v = SeatOk z.frames z.cpus words n.plan n.keeper n.seat_of n.holder n.given n.log seat v

-- the rule, by what is known
pub record KeptBy (z : Size) (words : List ℕ) (homes : List (M.Option (Option Held))) (views : List View) (n : Known)
    : Type 0 where
  pub book_ok : BookStands z words n
  pub slots_ok : SlotsOk z.frames z.cpus words homes n.plan.watch n.given n.log
  pub turns_ok : TurnsOk z.frames z.cpus words views n.holder
  pub seats_ok : (seat : ℕ) (v : View) → get_elem? views seat ≡ M.some v → Stands z words n seat v

pub kept : {z : Size} {words : List ℕ} {homes : List (M.Option (Option Held))} {views : List View} {n : Known}
    → KeptBy z words homes views n → Kept z words homes views
kept {n = n} k = record {
  known = n;
  book_ok = k.book_ok;
  slots_ok = k.slots_ok;
  turns_ok = k.turns_ok;
  seats_ok = k.seats_ok;
}

module _ {z : Size} {words : List ℕ} {homes : List (M.Option (Option Held))} {views : List View}
    (h : Kept z words homes views) where
  pub as_known : KeptBy z words homes views h.known
  as_known = assumption

  -- the plan is what the keeper knows
  pub as_keeper : (id : ℕ) {k : Holder} → get_elem? views id ≡ M.some (Keeping k)
      → KeptBy z words homes views (record h.known { plan = k })
  as_keeper id {k} at = rw (h.seats_ok id (Keeping k) at).1 as_known

-- ---- what a step leaves as it was

pub set_at : {V : Type 0} (l : List V) (i : ℕ) (a b : V) → get_elem? l i ≡ M.some a → get_elem? (set l i b) i ≡ M.some b
set_at [] i a b e = absurd (M.some-ne-none a (sym e))
set_at (x ∷ xs) zero a b e = refl
set_at (x ∷ xs) (suc i) a b e = set_at xs i a b e

-- a seat has the turn of a frame
abbrev pub HasTurn : List View → ℕ → ℕ → Type 0
HasTurn views seat f = (v : View) × (page : List ℕ) × (get_elem? views seat ≡ M.some v) × (hand_of v ≡ Has f page)

-- it has it still where one view is another, which has that turn if the one before had it
pub turn_stays : (views : List View) (id seat f : ℕ) (v v' : View) → get_elem? views id ≡ M.some v
    → ((page : List ℕ) → hand_of v ≡ Has f page → (page' : List ℕ) × (hand_of v' ≡ Has f page'))
    → HasTurn views seat f → HasTurn (set views id v') seat f
turn_stays views id seat f v v' at still (u, page, there, has) = dite (ℕ_discrete seat id) (λ (here : seat ≡ id).
    let is : u ≡ v = M.some-injective _ _ (sym there ∙ ap (get_elem? views) here ∙ at) in
    let mine = still page (cc) in
    (v', mine.0, rw here (set_at views id v v' at), mine.1))
    (λ (other : seat ≢ id). (u, page, set_else views id seat v' other ∙ there, has))

module _ (z : Size) (words words' : List ℕ) (n n' : Known) (seat : ℕ) (turns : (f : ℕ) (page : List ℕ)
    → HandStands z words n seat (Has f page) → HandStands z words' n' seat (Has f page)) where
  pub hand_stays : (hand : Hand) → HandStands z words n seat hand → HandStands z words' n' seat hand
  hand_stays Free ok = tt
  hand_stays (Has f page) ok = turns f page ok

  -- A seat stays in order with its turn, if it is the keeper's only with the plan, and if it is a pass's with its
  -- processor's seat, entries, touches and part.
  pub seat_stays : (v : View) → ((q : Walker) → n.seat_of q.walk.cpu ≡ seat → WalkerStands z words n seat q
      → (n'.seat_of q.walk.cpu ≡ seat) × PassOk z.frames z.cpus words' n'.plan.watch q.walk
      × (q.made ≡ mine q.walk.cpu n'.log) × (get_or n'.plan.parts q.walk.cpu Out ≡ Out)) → (n.keeper ≡ seat
      → (n'.keeper ≡ seat) × (n.plan ≡ n'.plan)) → Stands z words n seat v → Stands z words' n' seat v
  seat_stays (Passing q) pass plans (here, ok) =
      let now = pass q here ok in (now.0, assumption (hand_stays q.hand ok.hand_ok))
  seat_stays (Keeping u) pass plans (here, is, ok) = ((plans here).0, is ∙ (plans here).1, hand_stays u.hand ok)
  seat_stays (Spent u) pass plans ok = tt

-- ---- steps on the words of doors, stamps and acknowledgements

-- the words of turns and tickets are the same, and so are the current bindings and how many passes were made
pub record Quiet (z : Size) (words words' : List ℕ) (plan w : Watch) : Type 0 where
  pub count : length words' ≡ length words
  pub above : (i : ℕ) → 1 + z.frames + z.cpus ≤ i → get_or words' i 0 ≡ get_or words i 0
  pub same : (f : ℕ) → current w f ≡ current plan f
  pub made : w.made ≡ plan.made

pub quiet_set : {z : Size} {words : List ℕ} {plan w : Watch} (i n : ℕ) → i < 1 + z.frames + z.cpus
    → ((f : ℕ) → current w f ≡ current plan f) → w.made ≡ plan.made → Quiet z words (set words i n) plan w
quiet_set {words = words} i n low same made = record {
  count = length-set words i n;
  above = λ j up. get_or-set_other words i j n 0 (λ e. omega arith);
  same = same;
  made = made;
}

abbrev pub with_watch : Known → Watch → Known
with_watch n w = record n { plan = record n.plan { watch = w } }

module _ {z : Size} {words words' : List ℕ} {homes : List (M.Option (Option Held))} {views : List View} {n : Known}
    {w : Watch} (h : KeptBy z words homes views n) (quiet : Quiet z words words' n.plan.watch w) where
  turn_same : (f : ℕ) → get_or words' (turn_at z.frames z.cpus f) 0 ≡ get_or words (turn_at z.frames z.cpus f) 0
  turn_same f = quiet.above (turn_at z.frames z.cpus f) (omega arith)

  pub turn_quiet : (seat f : ℕ) (page : List ℕ) → HandStands z words n seat (Has f page)
      → HandStands z words' (with_watch n w) seat (Has f page)
  turn_quiet seat f page ok = (ok.0, ok.1, (λ e. ok.2 (sym (turn_same f) ∙ e)), cc (quiet.same f))

  -- a seat has another view, which is in order, with the same turn
  pub quiet_kept : (id : ℕ) (v v' : View) → get_elem? views id ≡ M.some v → hand_of v' ≡ hand_of v
      → PlanOk z.frames z.cpus words' w → Stands z words' (with_watch n w) id v' → ((seat : ℕ) (q : Walker) → seat ≢ id
      → n.seat_of q.walk.cpu ≡ seat → PassOk z.frames z.cpus words n.plan.watch q.walk → PassOk z.frames z.cpus words'
      w q.walk) → ((seat : ℕ) → seat ≢ id → n.keeper ≡ seat → n.plan.watch ≡ w) → Kept z words' homes (set views id v')
  quiet_kept id v v' at hand plan own passes plans = record {
    known = with_watch n w;
    book_ok =
        let b = h.book_ok in
        record {
          plan_ok = plan;
          room = (omega arith);
          parts = b.parts;
          ticket = quiet.above (ticket_at z.frames z.cpus) (omega arith) ∙ b.ticket;
          legal = b.legal;
          bindings = bindings_stay z.cpus n.plan.watch w n.log (λ f. omega (arith, quiet.same f)) b.bindings;
          few = b.few;
          left = left_stays n.given n.plan.watch w n.log n.plan.ended (λ f. omega (arith, quiet.same f)) b.left;
          zeros = b.zeros;
          given_is = b.given_is;
          in_turn = b.in_turn;
          last = λ f. quiet.same f ∙ b.last f;
          unmade = λ c above. b.unmade c (rw quiet.made at above);
          taken_in = b.taken_in;
        };
    slots_ok = λ f inside free.
        let old = h.slots_ok f inside (sym (turn_same f) ∙ free) in
        (old.0, old.1, cc (quiet.same f));
    turns_ok = λ f inside busy. turn_stays views id (n.holder f) f v v' at (λ page has. (page, hand ∙ has))
        (h.turns_ok f inside (λ e. busy (turn_same f ∙ e)));
    seats_ok = seats_stay (Stands z words' (with_watch n w)) views id v' own (λ seat u other there.
        seat_stays z words words' n (with_watch n w) seat (turn_quiet seat) u
        (λ q here ok. (here, passes seat q other here ok.pass_ok, ok.made, ok.out))
        (λ is. (is, ap (λ x. record n.plan { watch = x }) (plans seat other is))) (h.seats_ok seat u there));
  }

module _ (z : Size) where
  -- a pass without a turn has read or stored a word
  pub pass_stepped : {words words' : List ℕ} {homes : List (M.Option (Option Held))} {views : List View} (id : ℕ)
      {w : Walker} (change : Walk → Walk) (h : Kept z words homes views) → get_elem? views id ≡ M.some (Passing w)
      → w.hand ≡ Free → (change w.walk).cpu ≡ w.walk.cpu → Quiet z words words' h.known.plan.watch h.known.plan.watch
      → PlanOk z.frames z.cpus words' h.known.plan.watch → PassOk z.frames z.cpus words' h.known.plan.watch
      (change w.walk) → ((q : Walk) → q.cpu ≢ w.walk.cpu → PassOk z.frames z.cpus words h.known.plan.watch q → PassOk
      z.frames z.cpus words' h.known.plan.watch q) → Kept z words' homes (set views id (Passing (walking change w)))
  pass_stepped id {w} change h at free cpu quiet plan own others =
      let mine = h.seats_ok id (Passing w) at in
      quiet_kept (as_known h) quiet id (Passing w) (Passing (walking change w)) at refl plan (
        rw cpu mine.0,
        record {
          all = mine.1.all;
          pass_ok = own;
          made = rw cpu mine.1.made;
          hand_ok = rw free tt;
          holds = rw free tt;
          out = rw cpu mine.1.out;
        },
      ) (λ seat q other here. others q.walk (λ e. other (cc))) (λ seat other is. refl)

  -- the keeper has read or stored a word, and no frame's current binding is another
  pub keeper_stepped : {words words' : List ℕ} {homes : List (M.Option (Option Held))} {views : List View}
      (id : ℕ) {k : Holder} (change : Watch → Watch) → Kept z words homes views
      → get_elem? views id ≡ M.some (Keeping k) → Quiet z words words' k.watch (change k.watch)
      → (PlanOk z.frames z.cpus words k.watch → PlanOk z.frames z.cpus words' (change k.watch))
      → (PlanOk z.frames z.cpus words k.watch → (q : Walk) → PassOk z.frames z.cpus words k.watch q → PassOk
      z.frames z.cpus words' (change k.watch) q) → Kept z words' homes (set views id (Keeping (watching change k)))
  keeper_stepped {words} {words'} id {k} change h at quiet plan pass =
      let n = record h.known { plan = k } in
      let by = as_keeper h id at in
      let mine = by.seats_ok id (Keeping k) at in
      quiet_kept by quiet id (Keeping k) (Keeping (watching change k)) at refl (plan by.book_ok.plan_ok) (
        mine.0,
        refl,
        hand_stays z words words' n (with_watch n (change k.watch)) id (turn_quiet by quiet id) k.hand mine.2,
      ) (λ seat q other here. pass by.book_ok.plan_ok q.walk) (λ seat other is. absurd (other (cc)))

  module _ (slots id : ℕ) {m : Seat} where
    pub fills : (f : ℕ) {w : Walker} → m ≡ (Passing w, []) → w.hand ≡ Free → f < z.frames
        → Allows (InOrder z) slots id m (door_at f) (λ n. n) (Fills (step slots (door_at f) 0 0 M.none) m)
    fills f {w} is free inside = rw is (λ s h homes at fits.
        let n : ℕ = get_or s.words (door_at f) 0 in
        let k = h.book_ok.plan_ok in
        let own = h.seats_ok id (Passing w) at in (
          Passing (walking (filled f n) w),
          keeps,
          tt,
          rw (set-get_or s.words (door_at f) 0) (pass_stepped id (filled f n) h at free (filled_row f n w.walk).1
              (record { count = refl; above = λ i up. refl; same = λ g. refl; made = refl }) k
              (filled_ok _ _ _ _ w.walk f n inside refl k own.1.pass_ok) (λ q other ok. ok)),
          λ g e. (
            (omega (arith, k.doors f inside, k.least f inside)),
            (let same : f ≡ g = omega arith in rw same),
          ),
        ))

    pub forgets : {w : Walker} → m ≡ (Passing w, []) → w.hand ≡ Free
        → Allows (InOrder z) slots id m 0 (λ n. n) (Forgets (step slots 0 0 0 M.none) m)
    forgets {w} is free = rw is (λ s h homes at fits.
        let n : ℕ = get_or s.words 0 0 in
        let own = h.seats_ok id (Passing w) at in (
          Passing (walking (forgotten n) w),
          keeps,
          tt,
          rw (set-get_or s.words 0 0) (pass_stepped id (forgotten n) h at free refl
              (record { count = refl; above = λ i up. refl; same = λ g. refl; made = refl }) h.book_ok.plan_ok
              (forgotten_ok _ _ _ _ w.walk n refl h.book_ok.plan_ok own.1.pass_ok) (λ q other ok. ok)),
          λ e. refl,
        ))

    pub acknowledges : (i n : ℕ) {w : Walker} → m ≡ (Passing w, []) → w.hand ≡ Free → w.walk.cpu < z.cpus
        → i ≡ ack_at z.frames w.walk.cpu → n ≡ w.walk.stamp
        → Allows (InOrder z) slots id m i (λ _. n) (λ _. Acknowledges (step slots i n 0 M.none) m n)
    acknowledges i n {w} is free inside word stamp = rw (is, word, stamp) (λ s h homes at fits.
        let k = h.book_ok.plan_ok in
        let own = (h.seats_ok id (Passing w) at).1.pass_ok in (
          Passing (walking acknowledged w),
          keeps,
          tt,
          pass_stepped id acknowledged h at free refl (quiet_set
              (ack_at z.frames w.walk.cpu) _ (omega arith) (λ f. refl) refl) (plan_acknowledged _ _ _ _ w.walk k own)
              (acknowledged_ok _ _ _ _ w.walk k own) (λ q other. pass_stays z.frames z.cpus s.words h.known.plan.watch q
              (ack_at z.frames w.walk.cpu) w.walk.stamp (λ e. other (omega arith))),
          refl,
        ))

    pub closes : (f n : ℕ) {k : Holder} → m ≡ (Keeping k, []) → f < z.frames → get_or k.watch.doors f 0 % 2 ≡ 0
        → f < length k.watch.doors → n ≡ get_or k.watch.doors f 0 + 1
        → Allows (InOrder z) slots id m (door_at f) (λ _. n) (λ _. Closes (step slots (door_at f) n 0 M.none) m n)
    closes f n {k} is inside even row word = rw (is, word) (λ s h homes at fits. (
      Keeping (watching (shut f) k),
      keeps,
      tt,
      keeper_stepped id (shut f) h at (quiet_set (door_at f) _ (omega arith) same refl)
          (plan_shut _ _ _ _ f inside) (λ p q. pass_shut _ _ _ _ f q inside even p),
      λ g e. (let here : f ≡ g = omega arith in rw here),
    ))
      where
        half : (x y : ℕ) → y ≡ x + 1 → x % 2 ≡ 0 → y / 2 ≡ x / 2
        half x y e even = omega arith

        same : (g : ℕ) → current (shut f k.watch) g ≡ current k.watch g
        same g = dite (ℕ_discrete g f) (λ (here : g ≡ f). rw here
            (half _ _ (get_or-set_same k.watch.doors f (get_or k.watch.doors f 0 + 1) 0 row) even))
            (λ (other : g ≢ f). cc (get_or-set_other k.watch.doors f g (get_or k.watch.doors f 0 + 1) 0 other))

    pub raises : (n : ℕ) {k : Holder} → m ≡ (Keeping k, []) → n ≡ k.watch.request + 1
        → Allows (InOrder z) slots id m 0 (λ _. n) (λ _. Raises (step slots 0 n 0 M.none) m n)
    raises n {k} is word = rw (is, word) (λ s h homes at fits. (
      Keeping (watching raised k),
      keeps,
      tt,
      keeper_stepped id raised h at (quiet_set 0 _ (omega arith) (λ f. refl) refl) (plan_raised _ _ _ k.watch)
          (λ p. pass_raised z.frames z.cpus s.words k.watch),
      refl,
    ))

    pub looks : (i c : ℕ) {k : Holder} → m ≡ (Keeping k, []) → i ≡ ack_at z.frames c → c < z.cpus
        → length k.watch.doors ≡ z.frames → Allows (InOrder z) slots id m i (λ n. n) (Looks (step slots i 0 0 M.none) m)
    looks i c {k} is word inside row = rw (is, word) (λ s h homes here fits.
        let at : ℕ = ack_at z.frames c in
        let n : ℕ = get_or s.words at 0 in (
          Keeping (watching (having_noted at c n) k),
          keeps,
          tt,
          rw (set-get_or s.words at 0) (keeper_stepped id (having_noted at c n) h here
              (record { count = refl; above = λ j up. refl; same = λ f. refl; made = refl })
              (plan_noted _ _ _ k.watch at c n inside refl) (λ p q ok. ok)),
          λ d e. (let same : c ≡ d = omega arith in
              rw (← same) ((as_keeper h id here).book_ok.plan_ok.noted c inside, refl)),
        ))
