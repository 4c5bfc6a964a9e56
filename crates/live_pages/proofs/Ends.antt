-- The start, the making of passes, and the end.
pub use Rattle.live_pages.proofs.ByTicket.{All, All-pop, AllIn, AllInIsLegal, AreAll, BookOk, Bool, EndIsLegal, EntryIsCurrent, Final, Free, Given, HasNoted, HavePages, HaveZeroPages, Held, Holder, HoldsEntry, In, IsClearOf, IsCurrent, IsLeftAfterAll, IsPassOf, IsTrue, Joins, KeeperModel, Keeping, Kept, Known, List, Made, MayBindHasNoHolder, None, Option, Out, PagesModel, Part, PassModel, Passing, Seat, SeatOk, Seen, Size, Some, Spent, Splits, View, Walk, Walker, [], ack_at, after, all_bindings, all_ended_left, all_of_one_thread, ap, append_assoc, arith, at_longer, at_map, binding_at, binding_in, bindings_stay, blank_ok, current, door_at, ended_bindings, false, filled, first_holder, first_watch, get_or, get_or-append-add, get_or-replicate, get_or-set_other, get_or-set_same, get_or_append_left, get_or_push, holder_of, inl, inr, keeper_with_pass, last_are_left, last_bindings, left_stays, length, length-append, length-replicate, length-set, length_push, map, may_bind_by, mine, opening_words, option_to_list, page_given, pages_are, pass_admits, pass_of_keeper, plan_admits, refl, replicate, replicate-append-replicate, rules, seats_stay, set, set_again, set_else, shown, slots_items, suc, sym, taken_in, taking_all_in, taking_in, ticket_at, turn_at, valued, valued_else, valued_here, watching, zero, ℕ, ⊎_elim, ◌++◌, ◌+◌, ◌<◌, ◌∙◌, ◌∷◌, ◌≡◌, ◌≢◌, ◌≤◌, ◌⊎◌}
pub use Rattle.live_pages.proofs.Changing.{All-append, HasTurn, InOrder, Stands, as_keeper, binds, entry_is_current, hand_stays, holder_stands, seat_stays, turn_stays}
use mathlib.Core.Logic.{dite}
use mathlib.Core.Option as M
use native.Mathlib.Decide.{ℕ_discrete}
use lib.ListN.{get_elem?}

-- where the last of a longer list stands
snoc_place : {V : Type 0} (l : List V) (a b : V) (j : ℕ) → get_elem? (l ++ a ∷ []) j ≡ M.some b
    → (get_elem? l j ≡ M.some b) ⊎ ((j ≡ length l) × (a ≡ b))
snoc_place [] a b zero e = inr (refl, M.some-injective a b e)
snoc_place [] a b (suc j) e = absurd (M.some-ne-none b (sym e))
snoc_place (x ∷ xs) a b zero e = inl e
snoc_place (x ∷ xs) a b (suc j) e = ⊎_elim (λ t. inl t) (λ (t : (j ≡ length xs) × (a ≡ b)). inr (ap suc t.0, t.1))
    (snoc_place xs a b j e)

-- one seat more
turn_longer : (views : List View) (v : View) (seat f : ℕ) → HasTurn views seat f → HasTurn (views ++ v ∷ []) seat f
turn_longer views v seat f (u, page, there, has) = (u, page, at_longer views (v ∷ []) seat u there, has)

seats_longer : (K : ℕ → View → Type 0) (views : List View) (w : View) → K (length views) w → ((j : ℕ) (v : View)
    → get_elem? views j ≡ M.some v → K j v) → (j : ℕ) (v : View) → get_elem? (views ++ w ∷ []) j ≡ M.some v → K j v
seats_longer K views w mine others j v e = ⊎_elim (λ (old : get_elem? views j ≡ M.some v). others j v old)
    (λ (new : (j ≡ length views) × (w ≡ v)). rw (new.0, ← new.1) mine) (snoc_place views w v j e)

none_ended : (frames cpus f : ℕ) → current (first_watch frames cpus 1) f ≡ 0
none_ended zero cpus f = refl
none_ended (suc frames) cpus zero = refl
none_ended (suc frames) cpus (suc f) = none_ended frames cpus f

-- the keeper makes the pass of the next processor
pub admits : (z : Size) (id : ℕ) {m : Seat} {k : Holder} → m ≡ (Keeping k, []) → k.watch.made < z.cpus
    → length k.watch.doors ≡ z.frames → length k.parts ≡ z.cpus
    → Splits (InOrder z) id m.0 (keeper_with_pass m.0) (pass_of_keeper m.0)
admits z id {m} {k} is room row count = rw is (λ s h at.
    let n : Known = record h.known { plan = k } in
    let by = as_keeper h id at in
    let book = by.book_ok in
    let own = by.seats_ok id (Keeping k) at in
    let k' : Holder = watching (λ w. record w { made = w.made + 1 }) k in
    let longer : List View = set s.views id (Keeping k') in
    let n' : Known = record n { plan = k'; seat_of = valued k.watch.made (length longer) n.seat_of } in
    record {
      known = n';
      book_ok = record {
        plan_ok = plan_admits z.frames z.cpus s.words k.watch room book.plan_ok;
        room = book.room;
        parts = book.parts;
        ticket = book.ticket;
        legal = book.legal;
        bindings = bindings_stay z.cpus k.watch k'.watch n.log (λ f. omega arith) book.bindings;
        few = book.few;
        left = left_stays n.given k.watch k'.watch n.log k.ended (λ f. omega arith) book.left;
        zeros = book.zeros;
        given_is = book.given_is;
        in_turn = book.in_turn;
        last = book.last;
        unmade = λ c above. book.unmade c (omega arith);
        taken_in = book.taken_in;
      };
      slots_ok = by.slots_ok;
      turns_ok = λ f inside busy. turn_longer longer (pass_of_keeper (Keeping k)) (n.holder f) f (turn_stays s.views id
          (n.holder f) f (Keeping k) (Keeping k') at (λ page has. (page, has)) (by.turns_ok f inside busy));
      seats_ok = seats_longer (Stands z s.words n') longer (pass_of_keeper (Keeping k)) (
        valued_here k.watch.made (length longer) n.seat_of,
        record {
          all = count;
          pass_ok = rw row (blank_ok z.frames z.cpus s.words k.watch room book.plan_ok);
          made = sym (book.unmade k.watch.made (omega arith)).0;
          hand_ok = tt;
          holds = tt;
          out = (book.unmade k.watch.made (omega arith)).1;
        },
      ) (seats_stay (Stands z s.words n') s.views id (Keeping k')
          (own.0, refl, hand_stays z s.words s.words n n' id (λ f page ok. ok) k.hand own.2)
          (λ i u other there. seat_stays z s.words s.words n n' i (λ f page ok. ok) u (λ q here ok. (
            valued_else k.watch.made q.walk.cpu (length longer) n.seat_of (λ e. omega arith) ∙ here,
            pass_admits z.frames z.cpus s.words k.watch q.walk ok.pass_ok,
            ok.made,
            ok.out,
          )) (λ is. absurd (other (cc))) (by.seats_ok i u there)));
    })

list_of : Part → List Made
list_of Out = []
list_of (In l) = l

-- the keeper takes a pass in, with its touches
pub takes_in : (z : Size) (id other : ℕ) {m w : Seat} {k : Holder} {q : Walker} → m ≡ (Keeping k, []) → w
    ≡ (Passing q, []) → q.hand ≡ Free → Joins (InOrder z) id m.0 other w.0 (taken_in m.0 w.0) (Spent (first_holder 0 0))
unfolding list_of
takes_in z id other {m} {w} {k} {q} is his_is free = rw (is, his_is) (λ s h at apart there.
    let n : Known = record h.known { plan = k } in
    let by = as_keeper h id at in
    let book = by.book_ok in
    let own = by.seats_ok id (Keeping k) at in
    let k' : Holder = record k { parts = set k.parts q.walk.cpu (In q.made) } in
    let n' : Known = record n { plan = k' } in
    let his = by.seats_ok other (Passing q) (sym (set_else s.views id other (Keeping k') apart) ∙ there) in
    let inside : q.walk.cpu < length k.parts = (omega arith) in
    record {
      known = n';
      book_ok = record {
        plan_ok = book.plan_ok;
        room = book.room;
        parts = length-set k.parts q.walk.cpu (In q.made) ∙ book.parts;
        ticket = book.ticket;
        legal = book.legal;
        bindings = book.bindings;
        few = book.few;
        left = book.left;
        zeros = book.zeros;
        given_is = book.given_is;
        in_turn = book.in_turn;
        last = book.last;
        unmade = λ c above. (
          (book.unmade c above).0,
          get_or-set_other k.parts q.walk.cpu c (In q.made) Out (λ e. omega arith) ∙ (book.unmade c above).1,
        );
        taken_in = λ c list part. dite (ℕ_discrete c q.walk.cpu) (λ (same : c ≡ q.walk.cpu). rw same (sym (ap list_of
            (sym (get_or-set_same k.parts q.walk.cpu (In q.made) Out inside) ∙ (rw same at part))) ∙ his.1.made))
            (λ (else : c ≢ q.walk.cpu). book.taken_in c list
            (sym (get_or-set_other k.parts q.walk.cpu c (In q.made) Out else) ∙ part));
      };
      slots_ok = by.slots_ok;
      turns_ok = λ f within busy. turn_stays (set s.views id (Keeping k')) other
          (n.holder f) f (Passing q) (Spent (first_holder 0 0)) there (λ page has. absurd (cc)) (turn_stays s.views id
          (n.holder f) f (Keeping k) (Keeping k') at (λ page has. (page, has)) (by.turns_ok f within busy));
      seats_ok = seats_stay (Stands z s.words n') (set s.views id (Keeping k')) other (Spent (first_holder 0 0)) tt
          (λ j v not_other e. seats_stay (λ i u. i ≢ other → Stands z s.words n' i u) s.views id (Keeping k')
          (λ away. (own.0, refl, own.2))
          (λ i u not_id there away. seat_stays z s.words s.words n n' i (λ f page ok. ok) u (λ p here ok. (
            here,
            ok.pass_ok,
            ok.made,
            get_or-set_other k.parts q.walk.cpu p.walk.cpu (In q.made) Out (λ e. away (cc)) ∙ ok.out,
          )) (λ is. absurd (not_id (cc))) (by.seats_ok i u there)) j v e not_other);
    })

-- the keeper leaves a seat that shows what it knows
pub shows : (z : Size) (id : ℕ) {m : Seat} {k : Holder} → m ≡ (Keeping k, [])
    → Splits (InOrder z) id m.0 m.0 (shown m.0)
shows z id {m} {k} is = rw is (λ s h at. rw (set_again s.views id (Keeping k) at) record {
  known = h.known;
  book_ok = h.book_ok;
  slots_ok = h.slots_ok;
  turns_ok = λ f inside busy. turn_longer s.views (Spent k) (h.known.holder f) f (h.turns_ok f inside busy);
  seats_ok = seats_longer (Stands z s.words h.known) s.views (Spent k) tt h.seats_ok;
})

-- the words at the start, where `n` of them are 0 after those of the doors
module _ (frames n : ℕ) where
  abbrev first_row : List ℕ
  first_row = 0 ∷ (replicate frames 1 ++ replicate n 0)

  row_length : length first_row ≡ 1 + frames + n
  row_length = simp (length-append, length-replicate) (omega arith)

  door_word : (f : ℕ) → f < frames → get_or first_row (door_at f) 0 ≡ get_or (replicate frames 1) f 0
  door_word f inside =
      let l = length-replicate {A = ℕ} frames 1 in
      let one : door_at f ≡ suc f = omega arith in
      rw one (get_or_append_left (replicate frames 1) (replicate n 0) 0 f (omega arith))

  word_behind : (i j : ℕ) → j < n → i ≡ 1 + frames + j → get_or first_row i 0 ≡ 0
  word_behind i j inside is =
      let l = length-replicate {A = ℕ} frames 1 in
      let at : i ≡ suc (length (replicate {A = ℕ} frames 1) + j) = omega arith in
      rw at (get_or-append-add (replicate frames 1) (replicate n 0) j 0 ∙ get_or-replicate n j 0 0 inside)

words_are : (frames cpus : ℕ) → opening_words frames cpus ≡ first_row frames (cpus + (frames + 1))
words_are frames cpus = ap (λ (l : List ℕ). 0 ∷ l) (append_assoc (replicate frames 1) (replicate cpus 0) (replicate
    (frames + 1) 0) ∙ ap (λ (l : List ℕ). replicate frames 1 ++ l) (replicate-append-replicate cpus (frames + 1) 0))

-- the rule holds at the start, with a page of zeros in each slot
pub opens : (z : Size) (words : List ℕ) (slots : List (Option Held)) → words ≡ opening_words z.frames z.cpus
    → length slots ≡ z.frames → HaveZeroPages slots
    → Kept z words (map M.some slots) (Keeping (first_holder z.frames z.cpus) ∷ [])
opens z words slots is count zeros =
    let high : ℕ = z.cpus + (z.frames + 1) in
    let row = row_length z.frames high in
    rw (is, words_are z.frames z.cpus) record {
      known = record {
        plan = first_holder z.frames z.cpus;
        keeper = 0;
        seat_of = λ c. 0;
        holder = λ f. 0;
        given = λ f b. replicate 1024 0;
        log = [];
      };
      book_ok = record {
        plan_ok = record {
          room = omega arith;
          doors_row = length-replicate z.frames 1;
          since_row = length-replicate z.frames 0;
          noted_row = length-replicate z.cpus 0;
          made = omega arith;
          request = refl;
          doors = door_word z.frames high;
          least = λ f inside. rw (get_or-replicate {A = ℕ} z.frames f 1 0 inside) (omega arith);
          noted = λ c inside. rw (get_or-replicate {A = ℕ} z.cpus c 0 0 inside) (omega arith);
          unmade = λ c above inside. word_behind z.frames high (ack_at z.frames c) c (omega arith) (omega arith);
        };
        room = omega arith;
        parts = length-replicate z.cpus Out;
        ticket = word_behind z.frames high (ticket_at z.frames z.cpus) (z.cpus + z.frames) (omega arith) (omega arith);
        legal = tt;
        bindings = tt;
        few = λ c. omega arith;
        left = tt;
        zeros = λ f. refl;
        given_is = λ f b. refl;
        in_turn = tt;
        last = none_ended z.frames z.cpus;
        unmade = λ c above. (refl, all_out z.cpus c);
        taken_in = λ c list part. let out = all_out z.cpus c in absurd (cc);
      };
      slots_ok = λ f inside free. let zero_page = zeros f (omega arith) in
          (zero_page.0, at_map M.some slots f (Some zero_page.0) zero_page.1, zero_page.2);
      turns_ok = λ f inside busy. absurd (busy (word_behind z.frames high (turn_at z.frames z.cpus f) (z.cpus + f)
          (omega arith) (omega arith)));
      seats_ok = one (first_row z.frames high);
    }
  where
    all_out : (n c : ℕ) → get_or (replicate n Out) c Out ≡ Out
    all_out zero c = refl
    all_out (suc n) zero = refl
    all_out (suc n) (suc c) = all_out n c

    one : (ws : List ℕ) (j : ℕ) (v : View) → get_elem? (Keeping (first_holder z.frames z.cpus) ∷ []) j ≡ M.some v
        → SeatOk z.frames z.cpus ws (first_holder z.frames z.cpus) 0 (λ c. 0) (λ f. 0) (λ f b. replicate 1024 0) [] j v
    one ws zero v e = rw (← M.some-injective _ _ e) (refl, refl, tt)
    one ws (suc j) v e = absurd (M.some-ne-none v (sym e))

pub all_in_is_legal : AllInIsLegal
all_in_is_legal z words homes views seat k h at free all =
    let by = as_keeper h seat at in
    let given : h.known.given ≡ page_given k.ended = λ i f b. by.book_ok.given_is f b i in
    let book : BookOk z.frames z.cpus words k (page_given k.ended) h.known.log = rw (← given) by.book_ok in (
      all_of_one_thread z.frames z.cpus words k h.known.log book all,
      all_ended_left z.frames z.cpus words k h.known.log book all,
      λ f inside. dite (ℕ_discrete (get_or words (turn_at z.frames z.cpus f) 0) 0)
          (λ (hit : get_or words (turn_at z.frames z.cpus f) 0 ≡ 0).
          let slot = by.slots_ok f inside hit in (
            slot.0,
            slot.1,
            cc (pages_are z.frames z.cpus words k h.known.log book all f (current k.watch f)),
          ))
          (λ (busy : get_or words (turn_at z.frames z.cpus f) 0 ≢ 0). absurd (of_view f (by.turns_ok f inside busy))),
    )
  where
    -- once every pass was taken in no turn is taken
    of_view : (f : ℕ) → HasTurn views (h.known.holder f) f → ⊥
    of_view f (Passing q, page, there, has) =
        let by = as_keeper h seat at in
        let ok = by.seats_ok (h.known.holder f) (Passing q) there in
        let m = ok.1.pass_ok.made in
        let n = by.book_ok.plan_ok.made in
        let part = all q.walk.cpu (omega arith) in
        let given = part.1 in
        let out = ok.1.out in cc
    of_view f (Keeping u, page, there, has) =
        let same = ((as_keeper h seat at).seats_ok (h.known.holder f) (Keeping u) there).1 in
        let hand = ap (λ (p : Holder). p.hand) same in cc
    of_view f (Spent u, page, there, has) = cc

pub entry_names_current : EntryIsCurrent
entry_names_current p f b named z words homes views seat w h at same inside =
    let own = h.seats_ok seat (Passing w) at in
    let holds : get_or w.walk.held f None ≡ Some b = rw same named in
    rw (h.book_ok.plan_ok.doors f inside) (cc (entry_is_current z.cpus h.known.plan.watch w.walk f own.1.pass_ok holds))

-- the binding of an entry that a pass holds
pub held_is_current : (p : Walk) (f : ℕ) → HoldsEntry p f → IsCurrent p f (binding_at p f)
held_is_current p f holds = rw holds.1 (entry_names_current p f holds.0 holds.1)

pub may_bind_is_free : MayBindHasNoHolder
may_bind_is_free k cleared f noted may z words homes views seat h at seat' w there =
    let by = as_keeper h seat at in
    let his = by.seats_ok seat' (Passing w) there in
    none_if (get_or w.walk.held f None) (λ b. holder_stands w.walk f by.book_ok.plan_ok his.1.pass_ok noted may)
  where
    none_if : (o : Option ℕ) → ((b : ℕ) → o ≡ Some b → ⊥) → o ≡ None
    none_if None never = refl
    none_if (Some b) never = absurd (never b refl)

pub noted_is_clear : (k : Holder) (stamp : ℕ) → HasNoted k.watch stamp → IsClearOf k stamp
noted_is_clear k stamp noted f odd since = may_bind_is_free k stamp f noted (inr (odd, since))
