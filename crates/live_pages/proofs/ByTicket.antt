-- By their tickets the touches of the processors give the one list of all touches.
pub use Rattle.live_pages.proofs.Replay.{All, All-append, All-cons, All-nil, All-pop, AllIn, AllInIsLegal, AreAll, AreBelow, AreOfBindings, AreOfOneThread, BookOk, Bool, Bound, EndIsLegal, EntryIsCurrent, Final, Free, Given, HasNext, HasNoted, HaveLeft, HavePages, HaveZeroPages, Held, Holder, HoldsEntry, In, IsClearOf, IsCurrent, IsLeftAfterAll, IsLegal, IsOfOneThread, IsPassOf, IsTrue, Joins, KeeperModel, Keeping, Kept, Known, List, Made, MayBindHasNoHolder, None, Option, Out, PagesModel, Part, PassModel, Passing, Seat, SeatOk, Seen, Size, Some, Spent, Splits, View, Walk, Walker, Watch, [], ack_at, after, after_all, all_below, all_bindings, answer, ap, append-nil, append_assoc, arith, at_longer, at_map, binding_at, binding_in, bindings_stay, blank_ok, by_ticket, count_all, count_below, current, door_at, ended_bindings, eq-eqb, eqb, false, filled, first_holder, first_watch, get_or, get_or-append-add, get_or-replicate, get_or-set_other, get_or-set_same, get_or_append_left, get_or_push, holder_of, in_order, inl, inr, is_of, keeper_with_pass, last_bindings, left_stays, length, length-append, length-replicate, length-reverse, length-set, length_push, map, may_bind_by, mine, mine_else, mine_here, mine_if, ne_eqb, opening_words, option_to_list, page_given, pages_after, pass_admits, pass_of_keeper, plan_admits, refl, replicate, replicate-append-replicate, reverse, reverse-append, rules, seats_stay, set, set_again, set_else, shown, slots_items, suc, sym, taken_in, taking_all_in, taking_in, ticket_at, touched_if, touches_in, touches_in_first, touching, true, turn_at, valued, valued_else, valued_here, watching, with_ticket, zero, ℕ, ⊎_elim, ◌++◌, ◌+◌, ◌<◌, ◌∙◌, ◌∷◌, ◌≡◌, ◌≢◌, ◌≤◌, ◌⊎◌}
use mathlib.Core.Logic.{dite}
use native.Mathlib.Decide.{ℕ_discrete}

reverse_more : (e : Made) (es : List Made) → reverse (e ∷ es) ≡ reverse es ++ e ∷ []
reverse_more e es = reverse-append (e ∷ []) es

-- one touch after all others
after_all_more : (es : List Made) (e : Made) (pages : Given) (f b : ℕ) → after_all (es ++ e ∷ []) pages f b
    ≡ touched_if (is_of f b e) e.touch (after_all es pages f b)
after_all_more [] e pages f b = refl
after_all_more (x ∷ xs) e pages f b = after_all_more xs e (touching x pages) f b

pub replayed : (given : Given) (log : List Made) (f b : ℕ) → after_all (reverse log) given f b ≡ after given f b log
replayed given [] f b = refl
replayed given (e ∷ es) f b =
    rw (reverse_more e es, after_all_more (reverse es) e given f b, replayed given es f b) refl

one_thread_more : (n : ℕ) (pages : Given) (es : List Made) (e : Made) → AreOfOneThread n pages es → e.ticket ≡ n
    + length es → e.word ≡ answer e.touch (after_all es pages e.frame e.binding) → AreOfOneThread n pages (es ++ e ∷ [])
one_thread_more n pages [] e ok ticket word = ((omega arith), word, tt)
one_thread_more n pages (x ∷ xs) e ok ticket word =
    (ok.0, ok.1, one_thread_more (n + 1) (touching x pages) xs e ok.2 (omega arith) word)

pub of_one_thread : (given : Given) (log : List Made) → IsLegal given log → AreOfOneThread 0 given (reverse log)
of_one_thread given [] legal = tt
of_one_thread given (e ∷ es) legal = rw (reverse_more e es) (one_thread_more 0 given (reverse es) e (of_one_thread
    given es legal.0) (omega (arith, length-reverse es)) (rw (replayed given es e.frame e.binding) legal.1))

bindings_more : (cpus : ℕ) (plan : Watch) (es : List Made) (e : Made) → AreOfBindings cpus plan es → e.cpu < cpus
    → e.binding ≤ current plan e.frame → AreOfBindings cpus plan (es ++ e ∷ [])
bindings_more cpus plan [] e ok cpu binding = (tt, cpu, binding)
bindings_more cpus plan (x ∷ xs) e ok cpu binding = (bindings_more cpus plan xs e ok.0 cpu binding, ok.1, ok.2)

pub bindings_in_order : (cpus : ℕ) (plan : Watch) (log : List Made) → AreOfBindings cpus plan log
    → AreOfBindings cpus plan (reverse log)
bindings_in_order cpus plan [] ok = tt
bindings_in_order cpus plan (e ∷ es) ok =
    rw (reverse_more e es) (bindings_more cpus plan (reverse es) e (bindings_in_order cpus plan es ok.0) ok.1 ok.2)

if_append : (t : Bool) (e : Made) (xs ys : List Made) → mine_if t e (xs ++ ys) ≡ mine_if t e xs ++ ys
if_append true e xs ys = refl
if_append false e xs ys = refl

mine_append : (cpu : ℕ) (xs ys : List Made) → mine cpu (xs ++ ys) ≡ mine cpu xs ++ mine cpu ys
mine_append cpu [] ys = refl
mine_append cpu (e ∷ es) ys = rw (mine_append cpu es ys) (if_append (eqb e.cpu cpu) e (mine cpu es) (mine cpu ys))

ticket_append : (ticket : ℕ) (xs ys : List Made)
    → with_ticket ticket (xs ++ ys) ≡ with_ticket ticket xs ++ with_ticket ticket ys
ticket_append ticket [] ys = refl
ticket_append ticket (e ∷ es) ys = rw (ticket_append ticket es ys)
    (if_append (eqb e.ticket ticket) e (with_ticket ticket es) (with_ticket ticket ys))

if_reverse : (t : Bool) (e : Made) (es : List Made) → reverse (mine_if t e es) ≡ reverse es ++ mine_if t e []
if_reverse true e es = reverse_more e es
if_reverse false e es = sym (append-nil (reverse es))

pub mine_in_order : (cpu : ℕ) (log : List Made) → reverse (mine cpu log) ≡ mine cpu (reverse log)
mine_in_order cpu [] = refl
mine_in_order cpu (e ∷ es) = rw (reverse_more e es, mine_append cpu (reverse es) (e ∷ []), ← mine_in_order cpu es)
    (if_reverse (eqb e.cpu cpu) e (mine cpu es))

-- the touches of a processor that drew a ticket, found either way
ticket_mine : (ticket cpu : ℕ) (es : List Made) → with_ticket ticket (mine cpu es) ≡ mine cpu (with_ticket ticket es)
ticket_mine ticket cpu [] = refl
ticket_mine ticket cpu (e ∷ es) =
    let ih = ticket_mine ticket cpu es in
    dite (ℕ_discrete e.cpu cpu) (λ (own : e.cpu ≡ cpu). rw (eq-eqb e.cpu cpu own) (dite (ℕ_discrete e.ticket ticket)
    (λ (here : e.ticket ≡ ticket). rw (eq-eqb e.ticket ticket here, eq-eqb e.cpu cpu own, ih) refl)
    (λ (else : e.ticket ≢ ticket). rw (ne_eqb e.ticket ticket else) ih))) (λ (other : e.cpu ≢ cpu). rw
    (ne_eqb e.cpu cpu other) (dite (ℕ_discrete e.ticket ticket)
    (λ (here : e.ticket ≡ ticket). rw (eq-eqb e.ticket ticket here, ne_eqb e.cpu cpu other) ih)
    (λ (else : e.ticket ≢ ticket). rw (ne_eqb e.ticket ticket else) ih)))

-- the touches of the first processors, processor by processor
abbrev gathered : ℕ → List Made → List Made
gathered zero es = []
gathered (suc n) es = gathered n es ++ mine n es

gathered_ticket : (ticket n : ℕ) (es : List Made)
    → with_ticket ticket (gathered n es) ≡ gathered n (with_ticket ticket es)
gathered_ticket ticket zero es = refl
gathered_ticket ticket (suc n) es =
    rw (ticket_append ticket (gathered n es) (mine n es), gathered_ticket ticket n es, ticket_mine ticket n es) refl

gathered_none : (n : ℕ) → gathered n [] ≡ []
gathered_none zero = refl
gathered_none (suc n) = append-nil (gathered n []) ∙ gathered_none n

gathered_one : (n : ℕ) (e : Made) → (e.cpu < n → gathered n (e ∷ []) ≡ e ∷ []) × (n ≤ e.cpu → gathered n (e ∷ []) ≡ [])
gathered_one zero e = ((λ l. absurd (omega arith)), λ l. refl)
gathered_one (suc n) e =
    let before = gathered_one n e in (
      (λ l. dite (ℕ_discrete e.cpu n) (λ (same : e.cpu ≡ n). rw (before.1 (omega arith), mine_here n e [] same) refl)
          (λ (other : e.cpu ≢ n). rw (before.0 (omega arith), mine_else n e [] other) refl)),
      λ l. rw (before.1 (omega arith), mine_else n e [] (λ same. omega arith)) refl,
    )

ticket_here : (ticket : ℕ) (e : Made) (es : List Made) → e.ticket ≡ ticket
    → with_ticket ticket (e ∷ es) ≡ e ∷ with_ticket ticket es
ticket_here ticket e es same = rw (eq-eqb e.ticket ticket same) refl

ticket_else : (ticket : ℕ) (e : Made) (es : List Made) → e.ticket ≢ ticket
    → with_ticket ticket (e ∷ es) ≡ with_ticket ticket es
ticket_else ticket e es other = rw (ne_eqb e.ticket ticket other) refl

ticket_above : (n ticket : ℕ) (es : List Made) → AreBelow n es → n ≤ ticket → with_ticket ticket es ≡ []
ticket_above n ticket [] ok up = refl
ticket_above n ticket (e ∷ es) ok up = ticket_else ticket e es (λ is. omega arith) ∙ ticket_above n ticket es ok.0 up

-- a ticket was drawn by one touch at most, which is by a processor that there is
gathered_once : (ticket cpus : ℕ) (plan : Watch) (given : Given) (log : List Made) → IsLegal given log
    → AreOfBindings cpus plan log → gathered cpus (with_ticket ticket log) ≡ with_ticket ticket log
gathered_once ticket cpus plan given [] legal ok = gathered_none cpus
gathered_once ticket cpus plan given (e ∷ es) legal ok = dite (ℕ_discrete e.ticket ticket)
    (λ (same : e.ticket ≡ ticket).
    rw (ticket_here ticket e es same, ticket_above (length es) ticket es (all_below given es legal.0) (omega arith))
    ((gathered_one cpus e).0 ok.1)) (λ (other : e.ticket ≢ ticket).
    rw (ticket_else ticket e es other) (gathered_once ticket cpus plan given es legal.0 ok.0))

by_same : (n : ℕ) (xs ys : List Made) → ((ticket : ℕ) → ticket < n → with_ticket ticket xs ≡ with_ticket ticket ys)
    → by_ticket n xs ≡ by_ticket n ys
by_same zero xs ys same = refl
by_same (suc n) xs ys same = rw (by_same n xs ys (λ ticket below. same ticket (omega arith)), same n (omega arith)) refl

by_ticket_is : (given : Given) (log : List Made) → IsLegal given log → by_ticket (length log) log ≡ reverse log
by_ticket_is given [] legal = refl
by_ticket_is given (e ∷ es) legal =
    let before = by_same (length es) (e ∷ es) es (λ ticket below. ticket_else ticket e es
    (λ is. omega arith)) ∙ by_ticket_is given es legal.0 in
    let last = ticket_above (length es) (length es) es (all_below given es legal.0) (omega arith) in
    rw (before, ticket_here (length es) e es legal.2, last) (sym (reverse_more e es))

count_gathered : (n : ℕ) (es : List Made) → length (gathered n es) ≡ count_below n es
count_gathered zero es = refl
count_gathered (suc n) es = rw (length-append, count_gathered n es) refl

first_gathered : (n : ℕ) (parts : List Part) (log : List Made) → ((cpu : ℕ)
    → cpu < n → touches_in (get_or parts cpu Out) ≡ mine cpu log) → touches_in_first n parts ≡ gathered n log
first_gathered zero parts log own = refl
first_gathered (suc n) parts log own =
    rw (first_gathered n parts log (λ cpu below. own cpu (omega arith)), own n (omega arith)) refl

-- the touches in order of ticket are the list of all touches, the first one first
pub in_order_is : (cpus : ℕ) (k : Holder) (given : Given) (log : List Made) → length k.parts ≡ cpus → IsLegal given log
    → AreOfBindings cpus k.watch log
    → ((cpu : ℕ) → cpu < cpus → touches_in (get_or k.parts cpu Out) ≡ mine cpu log) → in_order k ≡ reverse log
in_order_is cpus k given log row legal ok own =
    rw (row, first_gathered cpus k.parts log own, count_gathered cpus log ∙ count_all cpus k.watch log ok)
    (by_same (length log) (gathered cpus log) log (λ ticket below. gathered_ticket ticket cpus log
    ∙ gathered_once ticket cpus k.watch given log legal ok) ∙ by_ticket_is given log legal)

-- the bindings that have ended
have_next : (k : Holder) (log : List Made) (bs : List Bound) → HaveLeft (page_given k.ended) k.watch log bs
    → All (HasNext k) bs
have_next k log [] ok = All-nil (HasNext k)
have_next k log (b ∷ bs) ok = All-cons (HasNext k) b bs (ok.1, ok.3) (have_next k log bs ok.0)

ended_are_left : (k : Holder) (log : List Made) → ((f b : ℕ) → pages_after k f b ≡ after (page_given k.ended) f b log)
    → (bs : List Bound)
    → HaveLeft (page_given k.ended) k.watch log bs → All (IsLeftAfterAll k) (ended_bindings (page_given k.ended) bs)
ended_are_left k log same [] ok = All-nil (IsLeftAfterAll k)
ended_are_left k log same (b ∷ bs) ok =
    All-append (IsLeftAfterAll k) (ended_bindings (page_given k.ended) bs) _ (ended_are_left k log same bs ok.0)
    (All-cons (IsLeftAfterAll k) _ [] (ok.2 ∙ sym (same b.frame b.binding)) (All-nil (IsLeftAfterAll k)))

-- the bindings whose pages are left
pub last_are_left : (n : ℕ) (pages : List (List ℕ)) (k : Holder) → ((f : ℕ) → f < n
    → get_or pages f [] ≡ pages_after k f (current k.watch f)) → All (IsLeftAfterAll k) (last_bindings n pages k)
last_are_left zero pages k is = All-nil (IsLeftAfterAll k)
last_are_left (suc n) pages k is =
    All-append (IsLeftAfterAll k) (last_bindings n pages k) _ (last_are_left n pages k (λ f below. is f (omega arith)))
    (All-cons (IsLeftAfterAll k) _ [] (is n (omega arith)) (All-nil (IsLeftAfterAll k)))

module _ (frames cpus : ℕ) (words : List ℕ) (k : Holder) (log : List Made)
    (book : BookOk frames cpus words k (page_given k.ended) log) (all : AllIn cpus k)
  where
    part_is : (cpu : ℕ) → cpu < cpus → touches_in (get_or k.parts cpu Out) ≡ mine cpu log
    part_is cpu inside = let there = all cpu inside in cc (book.taken_in cpu there.0 there.1)

    in_order_now : in_order k ≡ reverse log
    in_order_now = in_order_is cpus k (page_given k.ended) log book.parts book.legal book.bindings part_is

    pub pages_are : (f b : ℕ) → pages_after k f b ≡ after (page_given k.ended) f b log
    pages_are f b = rw in_order_now (replayed (page_given k.ended) log f b)

    pub all_of_one_thread : IsOfOneThread cpus k
    all_of_one_thread = record {
      words = rw in_order_now (of_one_thread (page_given k.ended) log book.legal);
      own = λ cpu inside. rw (part_is cpu inside, in_order_now) (mine_in_order cpu log);
      bindings = rw in_order_now (bindings_in_order cpus k.watch log book.bindings);
      given = have_next k log k.ended book.left;
      zeros = book.zeros;
      in_turn = book.in_turn;
      last = book.last;
    }

    pub all_ended_left : All (IsLeftAfterAll k) (ended_bindings (page_given k.ended) k.ended)
    all_ended_left = ended_are_left k log pages_are k.ended book.left
