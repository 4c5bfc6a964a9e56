-- The steps that change a page: a touch draws its ticket, and a frame is bound anew.
pub use Rattle.live_pages.proofs.Prelude.{All-append, Allows, AreBelow, Binds, BookOk, Bound, Draws, Given, Has, HasNoted, Held, Holder, Keeping, Known, List, MOST_CPUS, Made, MayBind, None, Option, Out, PassOk, Passing, PlanOk, Seat, Size, Some, View, Walk, Walker, Watch, [], admitted, after, answer, ap, arith, binding_at, binding_in, bound_anew, cond, current, door_at, ended_of, eq-eqb, eqb, get_or, get_or-set_other, get_or-set_same, having_made, inl, inr, keeps, length, length-set, mine, ne_eqb, page_of, pass_stored, plan_stored, refl, rules, same_Some, seats_stay, set, step, suc, sym, ticket_at, touched, turn_at, walker_of, ℕ, ⊎_elim, ◌%◌, ◌&&◌, ◌*◌, ◌+◌, ◌/◌, ◌<◌, ◌^◌, ◌∙◌, ◌∷◌, ◌≡◌, ◌≢◌, ◌≤◌}
pub use Rattle.live_pages.proofs.Turning.{HasTurn, InOrder, KeptBy, Stands, after_else, after_frame, after_here, after_next, as_keeper, as_known, bindings_stay, gives_turn, hand_stays, has_frame, holder_stands, left_next, left_stays, left_touched, legal_next, mine_else, mine_here, own_below, pass_above, plan_above, regiven, regiven_binding, regiven_here, seat_stays, tickets_fit, turn_stays}
use mathlib.Core.Logic.{dite}
use mathlib.Core.Option as M
use native.Mathlib.Decide.{ℕ_discrete}

-- the touch of the pass in hand goes after all others
book_touched : {z : Size} {words : List ℕ} {homes : List (M.Option (Option Held))} {views : List View} {n : Known}
    → KeptBy z words homes views n → (e : Made) → z.cpus ≤ MOST_CPUS → e.ticket ≡ get_or words (ticket_at z.frames
    z.cpus) 0 → e.cpu < n.plan.watch.made → e.binding ≡ current n.plan.watch e.frame → e.word ≡ answer e.touch (after
    n.given e.frame e.binding n.log) → length (mine e.cpu n.log) < 2 ^ 32 → get_or n.plan.parts e.cpu Out ≡ Out → BookOk
    z.frames z.cpus (set words (ticket_at z.frames z.cpus) ((e.ticket + 1) % 2 ^ 64)) n.plan n.given (e ∷ n.log)
book_touched {z} {words} {n = n} h e low ticket cpu binding word few out =
    let b = h.book_ok in
    let at : ℕ = ticket_at z.frames z.cpus in
    let m : ℕ = (e.ticket + 1) % 2 ^ 64 in
    let count : e.ticket ≡ length n.log = ticket ∙ b.ticket in
    let fit = tickets_fit z.cpus n.plan.watch n.log low b.bindings b.few in
    let wrap : m ≡ suc (length n.log) = omega arith in record {
      plan_ok = plan_above at m (omega arith) b.plan_ok;
      room = (omega (arith, length-set words at m));
      parts = b.parts;
      ticket = get_or-set_same words at m 0 b.room ∙ wrap;
      legal = (b.legal, word, count);
      bindings = (b.bindings, (omega arith), (omega arith));
      few = λ c. dite (ℕ_discrete e.cpu c) (λ (same : e.cpu ≡ c). rw (mine_here c e n.log same)
          (let own : length (mine c n.log) < 2 ^ 32 = rw (← same) few in omega arith))
          (λ (other : e.cpu ≢ c). rw (mine_else c e n.log other) (b.few c));
      left = left_touched n.given n.plan.watch n.log n.plan.ended e binding b.left;
      zeros = b.zeros;
      given_is = b.given_is;
      in_turn = b.in_turn;
      last = b.last;
      unmade = λ c above. (mine_else c e n.log (λ is. omega arith) ∙ (b.unmade c above).0, (b.unmade c above).1);
      taken_in = λ c made part. dite (ℕ_discrete e.cpu c) (λ (same : e.cpu ≡ c). absurd (cc))
          (λ (other : e.cpu ≢ c). b.taken_in c made part ∙ sym (mine_else c e n.log other));
    }

-- the slot that lies in hand
abbrev first_of : List (ℕ × Option Held) → ℕ
first_of [] = 0
first_of (x ∷ xs) = x.0

abbrev held_in : Held → Option Held → Held
held_in hd None = hd
held_in hd (Some y) = y

abbrev held_of : Held → List (ℕ × Option Held) → Held
held_of hd [] = hd
held_of hd (x ∷ xs) = held_in hd x.1

in_hand_is : {f g : ℕ} {hd k : Held} {rest : List (ℕ × Option Held)} → (f, Some hd) ∷ [] ≡ (g, Some k) ∷ rest
    → (f ≡ g) × (hd ≡ k)
in_hand_is {hd = hd} is = (ap first_of is, ap (held_of hd) is)

-- the binding that a pass's entry names is the frame's at that moment
pub entry_is_current : {frames : ℕ} (cpus : ℕ) {words : List ℕ} (plan : Watch) (p : Walk) (f : ℕ) {b : ℕ}
    → PassOk frames cpus words plan p → get_or p.held f None ≡ Some b → binding_at p f ≡ current plan f
entry_is_current cpus plan p f {b} ok e = ap binding_in e ∙ ⊎_elim (λ (t : get_or plan.doors f 0 ≡ 2 * b). omega arith)
    (λ (t : (get_or plan.doors f 0 ≡ 2 * b + 1) × (p.stamp ≤ get_or plan.since f 0)). omega arith) (ok.entries f b e)

pub draws : (z : Size) (slots id : ℕ) {m : Seat} (i f : ℕ) {w : Walker} {hd : Held} (page : List ℕ)
    → m ≡ (Passing w, (f, Some hd) ∷ []) → z.cpus ≤ MOST_CPUS → w.hand ≡ Has f page → hd.page ≡ touched hd.touch page
    → hd.word ≡ answer hd.touch page → length w.made < 2 ^ 32 → i ≡ ticket_at z.frames z.cpus
    → Allows (InOrder z) slots id m i (λ n. (n + 1) % 2 ^ 64) (Draws (step slots i 1 0 M.none) m)
draws z slots id i f {w} {hd} page is low has after_touch word few place = rw (is, place) (λ s h homes at fits.
    let own = h.seats_ok id (Passing w) at in
    let n = h.known in
    let plan = h.book_ok.plan_ok in
    let at_ticket : ℕ = ticket_at z.frames z.cpus in
    let ticket : ℕ = get_or s.words at_ticket 0 in
    let w' : Walker = having_made ticket f hd.touch hd.word hd.page w in
    let e : Made = record {
      ticket = ticket;
      cpu = w.walk.cpu;
      frame = f;
      binding = binding_at w.walk f;
      touch = hd.touch;
      word = hd.word;
    } in
    let hand = rw has at own.1.hand_ok in
    let entry = rw has at own.1.holds in
    let binding : binding_at w.walk f ≡ current n.plan.watch f =
    entry_is_current z.cpus n.plan.watch w.walk f own.1.pass_ok entry.1 in
    let next : ℕ = (ticket + 1) % 2 ^ 64 in
    let words' : List ℕ = set s.words at_ticket next in
    let n' : Known = record n { log = e ∷ n.log } in
    let stays : (g : ℕ) → g < z.frames → get_or words' (turn_at z.frames z.cpus g) 0
    ≡ get_or s.words (turn_at z.frames z.cpus g) 0 =
    λ g within. get_or-set_other s.words at_ticket (turn_at z.frames z.cpus g) next 0 (λ is. omega arith) in (
      Passing w',
      keeps,
      tt,
      record {
        known = n';
        book_ok = book_touched (as_known h) e low refl own.1.pass_ok.made binding
            (rw binding (cc)) (rw (← own.1.made) few) own.1.out;
        slots_ok = λ g within free.
            let old = h.slots_ok g within (sym (stays g within) ∙ free) in
            let other : f ≢ g = λ is. hand.2 (rw is (sym (stays g within) ∙ free)) in
            (old.0, old.1, old.2 ∙ sym (after_frame n.given g (current n.plan.watch g) e n.log other));
        turns_ok = λ g within busy. turn_stays s.views id (n.holder g) g (Passing w) (Passing w') at (λ p here.
            (hd.page, cc (has_frame (sym has ∙ here)))) (h.turns_ok g within (λ is. busy (stays g within ∙ is)));
        seats_ok = seats_stay (Stands z words' n') s.views id (Passing w') (
          own.0,
          record {
            all = own.1.all;
            pass_ok = pass_above at_ticket next (omega arith) plan w.walk own.1.pass_ok;
            made = cc (mine_here w.walk.cpu e n.log refl);
            hand_ok = (
              hand.0,
              hand.1,
              (λ is. hand.2 (sym (stays f hand.0) ∙ is)),
              after_touch ∙ ap (touched hd.touch) hand.3
                  ∙ sym (after_here n.given f (current n.plan.watch f) e n.log refl binding),
            );
            holds = entry;
            out = own.1.out;
          },
        ) (λ j v away there. seat_stays z s.words words' n n' j (λ g p ok.
            let other : f ≢ g = λ is. away (sym ok.1 ∙ ap n.holder (sym is) ∙ hand.1) in (
              ok.0,
              ok.1,
              (λ is. ok.2 (sym (stays g ok.0) ∙ is)),
              ok.3 ∙ sym (after_frame n.given g (current n.plan.watch g) e n.log other),
            )) v (λ q here ok. (
              here,
              pass_above at_ticket next (omega arith) plan q.walk ok.pass_ok,
              ok.made ∙ sym (mine_else q.walk.cpu e n.log (λ is. away (sym here ∙ ap n.seat_of (sym is) ∙ own.0))),
              ok.out,
            )) (λ is. (is, refl)) (h.seats_ok j v there));
      },
      λ g k rest is. (
        own_below n.given n.log w.made ticket w.walk.cpu h.book_ok.legal own.1.made h.book_ok.ticket,
        (let same = in_hand_is is in rw (← same.0, ← same.1) refl),
      ),
    ))

module _ {frames cpus : ℕ} {words : List ℕ} {w : Watch} (f : ℕ) (inside : f < frames)
    (k : PlanOk frames cpus words w) where
  -- the frame's next binding is current, and no other frame's
  current_next : current (admitted f w) f ≡ current w f + 1
  current_next =
      let door = get_or-set_same w.doors f (2 * (current w f + 1)) 0 (omega arith) in
      omega arith

  current_else : (g : ℕ) → g ≢ f → current (admitted f w) g ≡ current w g
  current_else g other = cc (get_or-set_other w.doors f g (2 * (current w f + 1)) 0 other)

  current_up : (g : ℕ) → current w g ≤ current (admitted f w) g
  current_up g = dite (ℕ_discrete g f) (λ (same : g ≡ f). rw same (let e = current_next in omega arith))
      (λ (other : g ≢ f). omega (arith, current_else g other))

  last_next : (b : Bound) (bs : List Bound) → b.frame ≡ f → ((g : ℕ) → current w g ≡ ended_of g bs) → (g : ℕ)
      → current (admitted f w) g ≡ ended_of g (b ∷ bs)
  last_next b bs here last g = dite (ℕ_discrete g f)
      (λ (same : g ≡ f). rw (eq-eqb b.frame g (cc)) (cc (same, current_next, last g)))
      (λ (other : g ≢ f). rw (ne_eqb b.frame g (λ e. other (sym e ∙ here))) (current_else g other ∙ last g))

pub binds : (z : Size) (slots id : ℕ) {m : Seat} (f x cleared : ℕ) {k : Holder} {hd : Held} (page : List ℕ)
    → m ≡ (Keeping k, (f, Some hd) ∷ []) → k.hand ≡ Has f page → HasNoted k.watch cleared → MayBind k.watch cleared f
    → x ≡ 2 * (current k.watch f + 1)
    → Allows (InOrder z) slots id m (door_at f) (λ _. x) (λ _. Binds (step slots (door_at f) x 0 M.none) m x)
binds z slots id f x cleared {k} {hd} page is has noted may word = rw (is, word) (λ s h homes at fits.
    let n : Known = record h.known { plan = k } in
    let by = as_keeper h id at in
    let book = by.book_ok in
    let plan = book.plan_ok in
    let mine = by.seats_ok id (Keeping k) at in
    let hand = rw has at mine.2 in
    let inside = hand.0 in
    let next : ℕ = current k.watch f + 1 in
    let now : Watch = admitted f k.watch in
    let words' : List ℕ = set s.words (door_at f) (2 * next) in
    let k' : Holder = bound_anew f hd.page k in
    let given' : Given = regiven f next hd.page n.given in
    let n' : Known = record n { plan = k'; given = given' } in
    let stays : (i : ℕ) → 1 + z.frames + z.cpus ≤ i → get_or words' i 0 ≡ get_or s.words i 0 =
    λ i above. get_or-set_other s.words (door_at f) i (2 * next) 0 (λ e. omega arith) in
    let turn : (g : ℕ) → get_or words' (turn_at z.frames z.cpus g) 0 ≡ get_or s.words (turn_at z.frames z.cpus g) 0 =
    λ g. stays (turn_at z.frames z.cpus g) (omega arith) in
    let moved : (g : ℕ) → g ≢ f → after n.given g (current k.watch g) n.log ≡ after given' g (current now g) n.log =
    λ g other. rw (current_else f inside plan g other)
    (sym (after_else f next hd.page n.given g (current k.watch g) n.log (inl other))) in (
      Keeping k',
      keeps,
      tt,
      record {
        known = n';
        book_ok = record {
          plan_ok = plan_stored _ _ _ k.watch f (2 * next) k.watch.since inside (omega arith) plan.since_row plan;
          room = (let l = length-set s.words (door_at f) (2 * next) in let r = book.room in omega arith);
          parts = book.parts;
          ticket = stays (ticket_at z.frames z.cpus) (omega arith) ∙ book.ticket;
          legal = legal_next z.cpus k.watch f hd.page n.given n.log book.bindings book.legal;
          bindings = bindings_stay z.cpus k.watch now n.log (current_up f inside plan) book.bindings;
          few = book.few;
          left = (
            left_stays given' k.watch now n.log k.ended (current_up f inside plan)
                (left_next k.watch f hd.page n.given n.log k.ended book.left),
            (let e = current_next f inside plan in omega arith),
            ap page_of has ∙ hand.3
                ∙ sym (after_else f next hd.page n.given f (current k.watch f) n.log (inr (λ e. omega arith))),
            sym (regiven_here f next hd.page n.given),
          );
          zeros = λ g. regiven_binding f next hd.page n.given g 0 (λ e. omega arith) ∙ book.zeros g;
          given_is = λ g b. ap (cond (eqb g f && eqb b next) hd.page) (book.given_is g b);
          in_turn = (book.in_turn, book.last f);
          last = last_next f inside plan record
              { frame = f; binding = current k.watch f; left = page_of k.hand; next = hd.page } k.ended refl book.last;
          unmade = book.unmade;
          taken_in = book.taken_in;
        };
        slots_ok = λ g within free.
            let was = sym (turn g) ∙ free in
            let old = by.slots_ok g within was in
            let other : g ≢ f = λ e. hand.2 (rw (← e) was) in
            (old.0, old.1, old.2 ∙ moved g other);
        turns_ok = λ g within busy. turn_stays s.views id (n.holder g) g (Keeping k) (Keeping k') at
            (λ p here. (hd.page, ap (λ j. Has j hd.page) (has_frame (sym has ∙ here))))
            (by.turns_ok g within (λ e. busy (turn g ∙ e)));
        seats_ok = seats_stay (Stands z words' n') s.views id (Keeping k') (
          mine.0,
          refl,
          (
            inside,
            hand.1,
            (λ e. hand.2 (sym (turn f) ∙ e)),
            rw (current_next f inside plan) (sym (after_next z.cpus k.watch f hd.page n.given n.log book.bindings)),
          ),
        ) (λ j v away there. seat_stays z s.words words' n n' j (λ g p ok.
            let other : g ≢ f = λ e. away (sym ok.1 ∙ ap n.holder e ∙ hand.1) in
            (ok.0, ok.1, (λ e. ok.2 (sym (turn g) ∙ e)), ok.3 ∙ moved g other)) v (λ q here ok. (
              here,
              pass_stored _ _ _ k.watch f (2 * next) k.watch.since q.walk (λ b e. absurd
                  (holder_stands q.walk f plan ok.pass_ok noted may e)) (λ g other. refl) inside plan ok.pass_ok,
              ok.made,
              ok.out,
            )) (λ is. absurd (away (sym is ∙ mine.0))) (by.seats_ok j v there));
      },
      λ g y rest is. (let same = in_hand_is is in rw (← same.0, ← same.1) refl),
    ))
