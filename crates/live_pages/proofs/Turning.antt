-- The steps that take a turn, touch the page in hand, and give the turn back.
use Rattle.live_pages.proofs.Prelude.{Act, Allows, Free, Gives, Hand, Has, HasNoted, Held, Holder, IsShut, KeeperGives, KeeperTakes, Keeping, Kept, Known, List, MayBind, Me, None, Option, PassOk, Passing, PlanOk, Seat, Size, Some, Spent, State, Takes, Valid, View, Walk, Walker, Watch, [], ack_at, after, ap, arith, carried_after, current, door_at, entry_gone, entry_never, eqb, exchanged, get_or, get_or-set_other, get_or-set_same, gives, hand_of, having_read, homes_after, keeps, length, length-set, mine, pass_stays, refl, seats_stay, set, set-get_or, set_else, set_here, step, sym, taken, takes, ticket_at, turn_at, turn_of, valued, valued_else, valued_here, walking, ℕ, ⊎_elim, ◌+◌, ◌<◌, ◌∙◌, ◌∷◌, ◌≡◌, ◌≢◌, ◌≤◌}
pub use Rattle.live_pages.proofs.Quiet.{HandStands, HasTurn, InOrder, KeptBy, Stands, after_else, after_frame, after_here, after_next, as_keeper, as_known, bindings_stay, fills, hand_stays, left_next, left_stays, left_touched, legal_next, looks, mine_else, mine_here, own_below, pass_stepped, regiven, regiven_binding, regiven_here, seat_stays, set_at, tickets_fit, turn_stays}
use mathlib.Core.Logic.{dite}
use mathlib.Core.Option as M
use native.Mathlib.Decide.{ℕ_discrete}
use prog.Atomic.{either}
use lib.ListN.{get_elem?}

abbrev frame_in : Hand → ℕ
frame_in Free = 0
frame_in (Has f page) = f

pub has_frame : {f g : ℕ} {p q : List ℕ} → Has f p ≡ Has g q → f ≡ g
has_frame e = ap frame_in e

module _ {frames cpus : ℕ} {words : List ℕ} {plan : Watch} (i n : ℕ) (above : 1 + frames + cpus ≤ i)
    (k : PlanOk frames cpus words plan) where
  -- a word of turns or tickets is none of the doors' words
  pub plan_above : PlanOk frames cpus (set words i n) plan
  plan_above = record {
    room = (omega (arith, length-set words i n));
    doors_row = k.doors_row;
    since_row = k.since_row;
    noted_row = k.noted_row;
    made = k.made;
    request = get_or-set_other words i 0 n 0 (λ e. omega arith) ∙ k.request;
    doors = λ f inside. get_or-set_other words i (door_at f) n 0 (λ e. omega arith) ∙ k.doors f inside;
    least = k.least;
    noted = λ c inside. rw (get_or-set_other words i (ack_at frames c) n 0 (λ e. omega arith)) (k.noted c inside);
    unmade = λ c over inside. get_or-set_other words i (ack_at frames c) n 0 (λ e. omega arith)
        ∙ k.unmade c over inside;
  }

  pub pass_above : (q : Walk) → PassOk frames cpus words plan q → PassOk frames cpus (set words i n) plan q
  pass_above q ok = pass_stays frames cpus words plan q i n (λ e. omega arith) ok

abbrev pub with_hand : Hand → Holder → Holder
with_hand hand k = record k { hand = hand }

-- who has the turns, and what the keeper has in hand
abbrev with_turns : Known → Hand → (ℕ → ℕ) → Known
with_turns n hand holder = record n { plan = with_hand hand n.plan; holder = holder }

abbrev tail_of : List (ℕ × Option Held) → List (ℕ × Option Held)
tail_of [] = []
tail_of (y ∷ ys) = ys

-- with one word stored: the tuple that a step owes
abbrev Owed : Size → State (Option Held) View → ℕ → ℕ → ℕ → (ℕ → Me (Option Held) View → Type 0) → Type 0
Owed z s id i x then = (v : View) × (a : Act (Option Held)) × Valid s.homes [] a × Kept z
    (set s.words i x) (homes_after s.homes [] a) (set s.views id v) × then (get_or s.words i 0) (v, carried_after [] a)

module _ {z : Size} {words : List ℕ} {homes : List (M.Option (Option Held))} {views : List View} {n : Known}
    (h : KeptBy z words homes views n) (f x : ℕ) (inside : f < z.frames) where
  -- the word of one turn is stored
  turn_else : (g : ℕ) → g ≢ f → get_or (set words (turn_at z.frames z.cpus f) x) (turn_at z.frames z.cpus g) 0
      ≡ get_or words (turn_at z.frames z.cpus g) 0
  turn_else g other = get_or-set_other words (turn_at z.frames z.cpus f) (turn_at z.frames z.cpus g) x 0
      (λ e. other (omega arith))

  turn_here : get_or (set words (turn_at z.frames z.cpus f) x) (turn_at z.frames z.cpus f) 0 ≡ x
  turn_here = get_or-set_same words (turn_at z.frames z.cpus f) x 0 (omega arith)

  -- A seat has another view by it, and other holders those of other frames' turns alone. What lies in the slot is the
  -- binding's page where the turn is free, and the turn is the holder's where it is not.
  turned : (id : ℕ) (v v' : View) (hand : Hand) (holder : ℕ → ℕ) (home : M.Option (Option Held)) → get_elem? views id
      ≡ M.some v → ((g : ℕ) → g ≢ f → holder g ≡ n.holder g) → ((g : ℕ) (page : List ℕ) → g ≢ f → hand_of v ≡ Has g page
      → ⊥) → (x ≡ 0 → (hd : Held) × (get_elem? (set homes f home) f ≡ M.some (M.some (Some hd))) × (hd.page
      ≡ after n.given f (current n.plan.watch f) n.log)) → (x ≢ 0 → HasTurn (set views id v') (holder f) f) → Stands z
      (set words (turn_at z.frames z.cpus f) x) (with_turns n hand holder) id v' → ((seat : ℕ) (page : List ℕ)
      → seat ≢ id → HandStands z words n seat (Has f page) → ⊥) → ((seat : ℕ) → seat ≢ id → n.keeper ≡ seat → n.plan
      ≡ with_hand hand n.plan) → Kept z (set words (turn_at z.frames z.cpus f) x) (set homes f home) (set views id v')
  turned id v v' hand holder home at same apart slot busy own others plans =
      let words' : List ℕ = set words (turn_at z.frames z.cpus f) x in
      let n' : Known = with_turns n hand holder in
      let b = h.book_ok in record {
        known = n';
        book_ok = record {
          plan_ok = plan_above (turn_at z.frames z.cpus f) x (omega arith) b.plan_ok;
          room = (omega (arith, length-set words (turn_at z.frames z.cpus f) x));
          parts = b.parts;
          ticket = get_or-set_other words (turn_at z.frames z.cpus f) (ticket_at z.frames z.cpus) x 0
              (λ e. omega arith) ∙ b.ticket;
          legal = b.legal;
          bindings = b.bindings;
          few = b.few;
          left = b.left;
          zeros = b.zeros;
          given_is = b.given_is;
          in_turn = b.in_turn;
          last = b.last;
          unmade = b.unmade;
          taken_in = b.taken_in;
        };
        slots_ok = λ g within free. dite (ℕ_discrete g f) (λ (here : g ≡ f). rw here (slot (sym turn_here
            ∙ (rw here at free)))) (λ (other : g ≢ f). let old = h.slots_ok g within (sym (turn_else g other) ∙ free) in
            (old.0, set_else homes f g home other ∙ old.1, old.2));
        turns_ok = λ g within taken. dite (ℕ_discrete g f)
            (λ (here : g ≡ f). rw here (busy (λ e. taken (rw here (turn_here ∙ e)))))
            (λ (other : g ≢ f). rw (same g other) (turn_stays views id (n.holder g) g v v' at
            (λ page has. absurd (apart g page other has)) (h.turns_ok g within (λ e. taken (turn_else g other ∙ e)))));
        seats_ok = seats_stay (Stands z words' n') views id v' own (λ seat u away there. seat_stays
            z words words' n n' seat (λ g page ok. let other : g ≢ f = λ e. others seat page away (rw e at ok) in
            (ok.0, same g other ∙ ok.1, (λ e. ok.2 (sym (turn_else g other) ∙ e)), ok.3)) u (λ q here ok. (
              here,
              pass_above (turn_at z.frames z.cpus f) x (omega arith) b.plan_ok q.walk ok.pass_ok,
              ok.made,
              ok.out,
            )) (λ is. (is, plans seat away is)) (h.seats_ok seat u there));
      }

  -- the turn was free, and is a seat's now, with the page of the slot
  taken_kept : (id : ℕ) (hd : Held) (v v' : View) (hand : Hand) → x ≡ 1 → get_elem? views id ≡ M.some v
      → hand_of v ≡ Free → hand_of v' ≡ Has f hd.page → get_or words (turn_at z.frames z.cpus f) 0 ≡ 0
      → Stands z (set words (turn_at z.frames z.cpus f) x) (with_turns n hand (valued f id n.holder)) id v'
      → ((seat : ℕ) → seat ≢ id → n.keeper ≡ seat → n.plan ≡ with_hand hand n.plan)
      → Kept z (set words (turn_at z.frames z.cpus f) x) (set homes f M.none) (set views id v')
  taken_kept id hd v v' hand one at free has hit own plans =
      turned id v v' hand (valued f id n.holder) M.none at (λ g. valued_else f g id n.holder) (λ g page other e. cc)
      (λ e. absurd (omega arith)) (λ e. (v', hd.page, rw (valued_here f id n.holder) (set_at views id v v' at), has))
      own (λ seat page away ok. ok.2 hit) plans

  -- the turn of a seat is given back, and the page with it
  given_back_kept : (id : ℕ) (hd : Held) (v v' : View) (hand : Hand) → x ≡ 0 → get_elem? views id ≡ M.some v
      → hand_of v ≡ Has f hd.page → f < length homes → HandStands z words n id (Has f hd.page)
      → Stands z (set words (turn_at z.frames z.cpus f) x) (with_turns n hand n.holder) id v'
      → ((seat : ℕ) → seat ≢ id → n.keeper ≡ seat → n.plan ≡ with_hand hand n.plan)
      → Kept z (set words (turn_at z.frames z.cpus f) x) (set homes f (M.some (Some hd))) (set views id v')
  given_back_kept id hd v v' hand none at has slot mine own plans =
      turned id v v' hand n.holder (M.some (Some hd)) at (λ g other. refl)
      (λ g page other e. other (has_frame (sym e ∙ has))) (λ e. (hd, set_here homes f (M.some (Some hd)) slot, mine.3))
      (λ busy. absurd (busy none)) own (λ seat page away ok. away (cc)) plans

-- a pass that holds an entry of a frame keeps it from being bound
pub holder_stands : {frames cpus : ℕ} {words : List ℕ} {plan : Watch} (q : Walk) (f : ℕ) {cleared b : ℕ}
    → PlanOk frames cpus words plan → PassOk frames cpus words plan q → HasNoted plan cleared → MayBind plan cleared f
    → get_or q.held f None ≡ Some b → ⊥
holder_stands {frames} {cpus} {words} {plan} q f {cleared} {b} k ok noted may e =
    let inside : q.cpu < length plan.noted = (omega arith) in
    ⊎_elim (λ one. entry_never frames cpus words plan q f b ok one e)
    (λ (t : IsShut plan f × (get_or plan.since f 0 < cleared)). entry_gone frames cpus words plan q f b cleared k
    ok (noted q.cpu inside) t.0 t.1 e) may

-- so its turn is free, where the keeper has none
turn_is_free : {z : Size} {words : List ℕ} {homes : List (M.Option (Option Held))} {views : List View}
    (id f cleared : ℕ) {k : Holder} → (h : Kept z words homes views)
    → get_elem? views id ≡ M.some (Keeping k) → k.hand ≡ Free → HasNoted k.watch cleared
    → MayBind k.watch cleared f → f < z.frames → get_or words (turn_at z.frames z.cpus f) 0 ≢ 0 → ⊥
turn_is_free {views = views} id f cleared {k} h at free noted may inside busy = of_view (h.turns_ok f inside busy)
  where
    of_view : HasTurn views (h.known.holder f) f → ⊥
    of_view (Passing q, page, there, has) =
        let ok = (as_keeper h id at).seats_ok (h.known.holder f) (Passing q) there in
        let e = rw has at ok.1.holds in
        holder_stands q.walk f (as_keeper h id at).book_ok.plan_ok ok.1.pass_ok noted may e.1
    of_view (Keeping u, page, there, has) =
        let ok = (as_keeper h id at).seats_ok (h.known.holder f) (Keeping u) there in
        let same = ap (λ (p : Holder). p.hand) ok.1 in cc
    of_view (Spent u, page, there, has) = cc

module _ (z : Size) (slots id : ℕ) {m : Seat} where
  pub takes_turn : (i f b : ℕ) {w : Walker} → m ≡ (Passing w, []) → w.hand ≡ Free → f < z.frames
      → get_or w.walk.held f None ≡ Some b → i ≡ turn_at z.frames z.cpus f
      → Allows (InOrder z) slots id m i (λ n. either (eqb n 0) 1 n) (Takes (step slots i 0 1 M.none) m)
  takes_turn i f b {w} is free inside holds word = rw (is, word) (λ s h homes at fits.
      let mine = h.seats_ok id (Passing w) at in
      let turn : ℕ = turn_at z.frames z.cpus f in
      let n : ℕ = get_or s.words turn 0 in
      let k = h.book_ok.plan_ok in
      let frame : (g : ℕ) → turn ≡ turn_at (length w.walk.held) w.cpus g → f ≡ g = λ g e. (omega arith) in
      exchanged n 0 1 (λ x. Owed z s id turn x (Takes (step slots turn 0 1 M.none) (Passing w, []))) (λ (hit : n ≡ 0).
      let slot = h.slots_ok f inside hit in (
        Passing (taken f slot.0.page w),
        takes f (Some slot.0),
        slot.1,
        taken_kept (as_known h) f 1 inside id slot.0 (Passing w) (Passing (taken f slot.0.page w))
            h.known.plan.hand refl at free refl hit (
              mine.0,
              record {
                all = mine.1.all;
                pass_ok = pass_above turn 1 (omega arith) k (having_read (turn_of w f) 0 w.walk) mine.1.pass_ok;
                made = mine.1.made;
                hand_ok = (
                  inside,
                  valued_here f id h.known.holder,
                  (λ e. omega (arith, turn_here (as_known h) f 1 inside)),
                  slot.2,
                );
                holds = (b, holds);
                out = mine.1.out;
              },
            ) (λ seat other is. refl),
        λ g e. ((λ zeroed. (slot.0, rw (← frame g e) refl)), λ busy. absurd (busy hit)),
      )) (λ (miss : n ≢ 0). (
        Passing (walking (having_read turn n) w),
        keeps,
        tt,
        rw (set-get_or s.words turn 0) (pass_stepped z id (having_read turn n) h at free refl (record
            { count = refl; above = λ j up. refl; same = λ g. refl; made = refl }) k mine.1.pass_ok (λ q other ok. ok)),
        λ g e. ((λ zeroed. absurd (miss zeroed)), λ busy. refl),
      )))

  pub keeper_takes : (i f cleared : ℕ) {k : Holder} → m ≡ (Keeping k, []) → k.hand ≡ Free → HasNoted k.watch cleared
      → MayBind k.watch cleared f → f < z.frames → i ≡ turn_at z.frames z.cpus f
      → Allows (InOrder z) slots id m i (λ n. either (eqb n 0) 1 n) (KeeperTakes (step slots i 0 1 M.none) m)
  keeper_takes i f cleared {k} is free noted may inside word = rw (is, word) (λ s h homes at fits.
      let by = as_keeper h id at in
      let mine = by.seats_ok id (Keeping k) at in
      let turn : ℕ = turn_at z.frames z.cpus f in
      let n : ℕ = get_or s.words turn 0 in
      let frame : (g : ℕ) → turn ≡ turn_at (length k.watch.doors) (length k.parts) g → f ≡ g = λ g e. (omega arith) in
      exchanged n 0 1 (λ x. Owed z s id turn x (KeeperTakes (step slots turn 0 1 M.none) (Keeping k, [])))
      (λ (hit : n ≡ 0).
      let slot = by.slots_ok f inside hit in
      let hand : Hand = Has f slot.0.page in (
        Keeping (with_hand hand k),
        takes f (Some slot.0),
        slot.1,
        taken_kept by f 1 inside id slot.0 (Keeping k) (Keeping (with_hand hand k)) hand refl at free refl hit (
          mine.0,
          refl,
          (inside, valued_here f id h.known.holder, (λ e. omega (arith, turn_here by f 1 inside)), slot.2),
        ) (λ seat other is. absurd (other (cc))),
        λ g e. (hit, (slot.0, rw (← frame g e) refl)),
      )) (λ (miss : n ≢ 0). absurd (turn_is_free id f cleared h at free noted may inside miss)))

module _ (z : Size) (slots id : ℕ) {m : Seat} (all : slots ≡ z.frames) where
  pub gives_turn : (i f : ℕ) {w : Walker} {hd : Held} → m ≡ (Passing w, (f, Some hd) ∷ []) → w.hand ≡ Has f hd.page → i
      ≡ turn_at z.frames z.cpus f → Allows (InOrder z) slots id m i (λ _. 0) (λ _. Gives (step slots i 0 0 M.none) m 0)
  gives_turn i f {w} {hd} is has word = rw (is, word) (λ s h homes at fits.
      let mine = h.seats_ok id (Passing w) at in
      let hand = rw has at mine.1.hand_ok in (
        Passing (record w { hand = Free }),
        gives,
        tt,
        given_back_kept (as_known h) f 0 hand.0 id hd (Passing w) (Passing (record w { hand = Free }))
            h.known.plan.hand refl at has (omega arith) hand (
              mine.0,
              assumption (pass_above (turn_at z.frames z.cpus f) 0 (omega arith) h.book_ok.plan_ok w.walk
                  mine.1.pass_ok),
            ) (λ seat other is. refl),
        λ x rest e i. (Passing (record w { hand = Free }), tail_of (e i)),
      ))

  pub keeper_gives : (i f : ℕ) {k : Holder} {hd : Held} → m ≡ (Keeping k, (f, Some hd) ∷ []) → k.hand ≡ Has f hd.page
      → i ≡ turn_at z.frames z.cpus f
      → Allows (InOrder z) slots id m i (λ _. 0) (λ _. KeeperGives (step slots i 0 0 M.none) m 0)
  keeper_gives i f {k} {hd} is has word = rw (is, word) (λ s h homes at fits.
      let by = as_keeper h id at in
      let mine = by.seats_ok id (Keeping k) at in
      let hand = rw has at mine.2 in (
        Keeping (with_hand Free k),
        gives,
        tt,
        given_back_kept by f 0 hand.0 id hd (Keeping k) (Keeping (with_hand Free k)) Free refl at has
            (omega arith) hand (mine.0, refl, tt) (λ seat other is. absurd (other (cc))),
        λ x rest e i. (Keeping (with_hand Free k), tail_of (e i)),
      ))
