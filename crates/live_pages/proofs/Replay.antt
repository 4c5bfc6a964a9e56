-- Touches replayed: what one more touch, or one more binding, changes.
pub use Rattle.live_pages.proofs.Prelude.{Acknowledges, All, All-append, All-cons, All-nil, All-pop, AllIn, AllInIsLegal, Allows, AreAll, AreBelow, AreOfBindings, AreOfOneThread, BookOk, Bool, Bound, Closes, EndIsLegal, EntryIsCurrent, Fills, Final, Forgets, Free, Given, Hand, HandOk, Has, HasNext, HasNoted, HaveLeft, HavePages, HaveZeroPages, Held, Holder, HoldsEntry, In, IsClearOf, IsCurrent, IsLeftAfterAll, IsLegal, IsOfOneThread, IsPassOf, IsTrue, Joins, KeeperModel, Keeping, Kept, Known, List, Looks, MOST_CPUS, Made, MayBindHasNoHolder, None, Option, Out, PagesModel, Part, PassModel, PassOk, Passing, PlanOk, Raises, Seat, SeatOk, Seen, Size, SlotsOk, Some, Spent, Splits, State, TurnsOk, View, Walk, Walker, WalkerOk, Watch, [], ack_at, acknowledged, acknowledged_ok, after, after_all, all_bindings, and_false, answer, ap, append-nil, append_assoc, arith, at_longer, at_map, binding_at, binding_in, blank_ok, by_ticket, cond, current, door_at, ended_bindings, eq-eqb, eqb, false, filled, filled_ok, filled_row, first_holder, first_watch, forgotten, forgotten_ok, get_or, get_or-append-add, get_or-replicate, get_or-set_other, get_or-set_same, get_or_append_left, get_or_push, hand_of, having_noted, holder_of, in_order, inl, inr, is_of, keeper_with_pass, keeps, last_bindings, length, length-append, length-replicate, length-reverse, length-set, length_push, map, may_bind_by, mine, mine_if, mul-le-mul_right, ne_eqb, opening_words, option_to_list, page_given, pages_after, pass_admits, pass_of_keeper, pass_raised, pass_shut, pass_stays, plan_acknowledged, plan_admits, plan_noted, plan_raised, plan_shut, raised, refl, replicate, replicate-append-replicate, reverse, reverse-append, rules, seats_stay, set, set-get_or, set_again, set_else, shown, shut, slots_items, step, suc, suc-mul, sym, taken_in, taking_all_in, taking_in, ticket_at, touched, touched_if, touches_in, touches_in_first, touching, true, turn_at, valued, valued_else, valued_here, walking, watching, with_ticket, zero, ℕ, ⊎_elim, ◌%◌, ◌&&◌, ◌*◌, ◌++◌, ◌+◌, ◌/◌, ◌<◌, ◌^◌, ◌∙◌, ◌∷◌, ◌≡◌, ◌≢◌, ◌≤◌, ◌⊎◌}
use mathlib.Core.Logic.{dite}
use native.Mathlib.Decide.{ℕ_discrete}

-- a touch of this binding
pub after_here : (given : Given) (f b : ℕ) (e : Made) (es : List Made) → e.frame ≡ f → e.binding ≡ b
    → after given f b (e ∷ es) ≡ touched e.touch (after given f b es)
after_here given f b e es frame binding = rw (eq-eqb e.frame f frame, eq-eqb e.binding b binding) refl

-- a touch of another frame
pub after_frame : (given : Given) (f b : ℕ) (e : Made) (es : List Made) → e.frame ≢ f
    → after given f b (e ∷ es) ≡ after given f b es
after_frame given f b e es frame = rw (ne_eqb e.frame f frame) refl

-- a touch of another binding
pub after_binding : (given : Given) (f b : ℕ) (e : Made) (es : List Made) → e.binding ≢ b
    → after given f b (e ∷ es) ≡ after given f b es
after_binding given f b e es binding = rw (ne_eqb e.binding b binding, and_false (eqb e.frame f)) refl

-- only what the binding itself was given counts
pub after_given : (given given' : Given) (f b : ℕ) (es : List Made) → given' f b ≡ given f b
    → after given' f b es ≡ after given f b es
after_given given given' f b [] same = same
after_given given given' f b (e ∷ es) same = cc (after_given given given' f b es same)

-- frame f's binding b is given this page
abbrev pub regiven : ℕ → ℕ → List ℕ → Given → Given
regiven f b page given g c = cond (eqb g f && eqb c b) page (given g c)

pub regiven_here : (f b : ℕ) (page : List ℕ) (given : Given) → regiven f b page given f b ≡ page
regiven_here f b page given = rw (eq-eqb f f refl, eq-eqb b b refl) refl

pub regiven_frame : (f b : ℕ) (page : List ℕ) (given : Given) (g c : ℕ) → g ≢ f → regiven f b page given g c ≡ given g c
regiven_frame f b page given g c other = rw (ne_eqb g f other) refl

pub regiven_binding : (f b : ℕ) (page : List ℕ) (given : Given) (g c : ℕ) → c ≢ b
    → regiven f b page given g c ≡ given g c
regiven_binding f b page given g c other = rw (ne_eqb c b other, and_false (eqb g f)) refl

-- another page for a binding that no touch is of changes no other page, and no touch
pub after_else : (f b : ℕ) (page : List ℕ) (given : Given) (g c : ℕ) (es : List Made) → (g ≢ f) ⊎ (c ≢ b)
    → after (regiven f b page given) g c es ≡ after given g c es
after_else f b page given g c es other = after_given given (regiven f b page given) g c es
    (⊎_elim (regiven_frame f b page given g c) (regiven_binding f b page given g c) other)

-- no touch is yet of the binding after the current one
pub after_next : (cpus : ℕ) (plan : Watch) (f : ℕ) (page : List ℕ) (given : Given) (es : List Made)
    → AreOfBindings cpus plan es → after (regiven f (current plan f + 1) page given) f (current plan f + 1) es ≡ page
after_next cpus plan f page given [] ok = regiven_here f (current plan f + 1) page given
after_next cpus plan f page given (e ∷ es) ok = dite (ℕ_discrete e.frame f)
    (λ (same : e.frame ≡ f). let low = rw same at ok.2 in
    after_binding (regiven f (current plan f + 1) page given) f (current plan f + 1) e es (λ is. omega arith))
    (after_frame (regiven f (current plan f + 1) page given) f (current plan f + 1) e es)
    ∙ after_next cpus plan f page given es ok.0

-- a binding that was had is not the next one of frame f
not_next : (plan : Watch) (f g b : ℕ) → b ≤ current plan g → (g ≢ f) ⊎ (b ≢ current plan f + 1)
not_next plan f g b low = dite (ℕ_discrete g f)
    (λ (same : g ≡ f). inr (λ is. let up = rw same at low in omega arith)) (λ (other : g ≢ f). inl other)

pub legal_next : (cpus : ℕ) (plan : Watch) (f : ℕ) (page : List ℕ) (given : Given) (es : List Made)
    → AreOfBindings cpus plan es → IsLegal given es → IsLegal (regiven f (current plan f + 1) page given) es
legal_next cpus plan f page given [] ok legal = tt
legal_next cpus plan f page given (e ∷ es) ok legal = (
  legal_next cpus plan f page given es ok.0 legal.0,
  cc (after_else f (current plan f + 1) page given e.frame e.binding es (not_next plan f e.frame e.binding ok.2)),
  legal.2,
)

pub left_next : (plan : Watch) (f : ℕ) (page : List ℕ) (given : Given) (log : List Made) (bs : List Bound)
    → HaveLeft given plan log bs → HaveLeft (regiven f (current plan f + 1) page given) plan log bs
left_next plan f page given log [] ok = tt
left_next plan f page given log (b ∷ bs) ok = (
  left_next plan f page given log bs ok.0,
  ok.1,
  ok.2 ∙ sym (after_else f (current plan f + 1) page given b.frame b.binding log
      (not_next plan f b.frame b.binding (omega arith))),
  ok.3 ∙ sym (after_else f (current plan f + 1) page given b.frame (b.binding + 1) []
      (not_next plan f b.frame (b.binding + 1) (omega arith))),
)

-- where no frame's current binding is lower, touches and ended bindings stay in order
pub bindings_stay : (cpus : ℕ) (plan plan' : Watch) (es : List Made) → ((f : ℕ) → current plan f ≤ current plan' f)
    → AreOfBindings cpus plan es → AreOfBindings cpus plan' es
bindings_stay cpus plan plan' [] up ok = tt
bindings_stay cpus plan plan' (e ∷ es) up ok =
    let more = up e.frame in let low = ok.2 in (bindings_stay cpus plan plan' es up ok.0, ok.1, omega arith)

pub left_stays : (given : Given) (plan plan' : Watch) (log : List Made) (bs : List Bound)
    → ((f : ℕ) → current plan f ≤ current plan' f) → HaveLeft given plan log bs → HaveLeft given plan' log bs
left_stays given plan plan' log [] up ok = tt
left_stays given plan plan' log (b ∷ bs) up ok =
    let more = up b.frame in let low = ok.1 in (left_stays given plan plan' log bs up ok.0, omega arith, ok.2, ok.3)

-- one more touch of a current binding leaves the bindings that have ended
pub left_touched : (given : Given) (plan : Watch) (log : List Made) (bs : List Bound) (e : Made)
    → e.binding ≡ current plan e.frame → HaveLeft given plan log bs → HaveLeft given plan (e ∷ log) bs
left_touched given plan log [] e is ok = tt
left_touched given plan log (b ∷ bs) e is ok = (
  left_touched given plan log bs e is ok.0,
  ok.1,
  ok.2 ∙ sym (dite (ℕ_discrete e.frame b.frame)
      (λ (same : e.frame ≡ b.frame). after_binding given b.frame b.binding e log
      (λ hit. let low = ok.1 in let now = rw same at is in omega arith)) (after_frame given b.frame b.binding e log)),
  ok.3,
)

-- the touches of one processor, with one more
pub mine_here : (cpu : ℕ) (e : Made) (es : List Made) → e.cpu ≡ cpu → mine cpu (e ∷ es) ≡ e ∷ mine cpu es
mine_here cpu e es same = rw (eq-eqb e.cpu cpu same) refl

pub mine_else : (cpu : ℕ) (e : Made) (es : List Made) → e.cpu ≢ cpu → mine cpu (e ∷ es) ≡ mine cpu es
mine_else cpu e es other = rw (ne_eqb e.cpu cpu other) refl

-- the tickets of the touches are below their count, and so are those of one processor
below_more : (n m : ℕ) (es : List Made) → n ≤ m → AreBelow n es → AreBelow m es
below_more n m [] up ok = tt
below_more n m (e ∷ es) up ok = let low = ok.1 in (below_more n m es up ok.0, omega arith)

pub all_below : (given : Given) (log : List Made) → IsLegal given log → AreBelow (length log) log
all_below given [] legal = tt
all_below given (e ∷ es) legal = let t = legal.2 in
    (below_more (length es) (suc (length es)) es (omega arith) (all_below given es legal.0), omega arith)

below_if : (t : Bool) (n : ℕ) (e : Made) (es : List Made) → AreBelow n es → e.ticket < n → AreBelow n (mine_if t e es)
below_if true n e es ok low = (ok, low)
below_if false n e es ok low = ok

mine_below : (n cpu : ℕ) (es : List Made) → AreBelow n es → AreBelow n (mine cpu es)
mine_below n cpu [] ok = tt
mine_below n cpu (e ∷ es) ok = below_if (eqb e.cpu cpu) n e (mine cpu es) (mine_below n cpu es ok.0) ok.1

pub own_below : (given : Given) (log made : List Made) (n cpu : ℕ) → IsLegal given log → made ≡ mine cpu log
    → n ≡ length log → AreBelow n made
own_below given log made n cpu legal own count =
    rw (count, own) (mine_below (length log) cpu log (all_below given log legal))

-- how many touches are of the first n processors
abbrev pub count_below : ℕ → List Made → ℕ
count_below zero es = 0
count_below (suc n) es = count_below n es + length (mine n es)

count_none : (n : ℕ) → count_below n [] ≡ 0
count_none zero = refl
count_none (suc n) = omega (arith, count_none n)

count_more : (n : ℕ) (e : Made) (es : List Made) → (e.cpu < n → count_below n (e ∷ es) ≡ count_below n es + 1)
    × (n ≤ e.cpu → count_below n (e ∷ es) ≡ count_below n es)
count_more zero e es = ((λ l. absurd (omega arith)), λ l. refl)
count_more (suc n) e es =
    let before = count_more n e es in (
      (λ l. dite (ℕ_discrete e.cpu n) (λ (same : e.cpu ≡ n). rw (before.1 (omega arith), mine_here n e es same)
          (omega arith)) (λ (other : e.cpu ≢ n). rw (before.0 (omega arith), mine_else n e es other) (omega arith))),
      λ l. rw (before.1 (omega arith), mine_else n e es (λ same. omega arith)) refl,
    )

pub count_all : (cpus : ℕ) (plan : Watch) (es : List Made) → AreOfBindings cpus plan es
    → count_below cpus es ≡ length es
count_all cpus plan [] ok = count_none cpus
count_all cpus plan (e ∷ es) ok = rw ((count_more cpus e es).0 ok.1, count_all cpus plan es ok.0) (omega arith)

count_few : (n m : ℕ) (es : List Made) → ((cpu : ℕ) → length (mine cpu es) ≤ m) → count_below n es ≤ n * m
count_few zero m es few = omega arith
count_few (suc n) m es few = omega (arith, count_few n m es few, few n, suc-mul n m)

-- so the tickets do not wrap
pub tickets_fit : (cpus : ℕ) (plan : Watch) (es : List Made) → cpus ≤ MOST_CPUS → AreOfBindings cpus plan es
    → ((cpu : ℕ) → length (mine cpu es) ≤ 2 ^ 32) → length es ≤ MOST_CPUS * 2 ^ 32
tickets_fit cpus plan es low ok few =
    let a : count_below cpus es ≤ cpus * 2 ^ 32 = count_few cpus (2 ^ 32) es few in
    let b = count_all cpus plan es ok in
    let c : cpus * 2 ^ 32 ≤ MOST_CPUS * 2 ^ 32 = mul-le-mul_right (2 ^ 32) low in
    rw (← b) (omega arith)
