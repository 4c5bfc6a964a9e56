-- What the tables ask of a processor that acts by itself follows from the promise and the rule.
use Rattle.machine.proofs.Prelude.{◌≡◌, ◌<◌, ◌≤◌, ◌+◌, ◌-◌, ◌^◌, ◌/◌, ℕ, Bool, true, false, ◌||◌, ◌&&◌, cond, eqb, length, map, List, ◌∷◌, Option, Some, None, refl, sym, ap, subst, ◌∙◌, inl, inr, arith, find, length-le_from_distinct_below, eqb_tells, HeldPage, HeldSeg, is_number, is_page, page_of, seg_of, Command, is_end, place_fits, place_within, custody_after, Custody, Seat, has, range, released_by, Action, no_call, AreDistinct, AreHeldPages, held_page, Reference, cpu_at, next_command, processor_at, run_at, shown, speaks, led_to, seen, sdws_at, leb_tells, length-map, get_or_past, none_some, State, Asks, action_can, CanDo, CanFill, Parts, IsSound, MayAnswer, and_both, distinct_of, none_listed, or_parts, range_length, any_turned, or_zero, some_same, and_parts, eqb-true, eqb_self, to_hold, [], Sdw as sdw, Action as act}
use Rattle.machine.proofs.CountedLaws.{counted_after}
use Rattle.machine.proofs.Does.{Does, keeps_of}

-- ---- ready processes

-- a list of distinct_of numbers below a number is no longer than that
short : (n : ℕ) (xs : List ℕ) → AreDistinct xs → ((q : ℕ) → has xs q ≡ true → q < n) → length xs ≤ n
short n xs once below = length-le_from_distinct_below xs n (distinct_of xs once) (λ q h. below q (any_turned xs q h))

module _ {D : Type 0} {t : Parts D} (sound : IsSound t) (c : ℕ) {k : ℕ}
    (its : (cpu_at t.state.processors c).process ≡ Some k) where
  abbrev s : State
  s = t.state

  -- The ready list has room for the process of a processor.
  pub ready_room : length s.ready < t.room
  ready_room =
      let scheduled = sound.keeps.machine.scheduled in
      let planned = (scheduled.running c k its).planned in
      let long : length (k ∷ s.ready) ≤ length s.plan.processes = short (length s.plan.processes) (k ∷ s.ready)
      (scheduled.apart c k its, scheduled.once) (λ q h. both q planned h) in
      let room = sound.room in
      omega (arith, long, room)
    where
      both : (q : ℕ) → k < length s.plan.processes → has (k ∷ s.ready) q ≡ true → q < length s.plan.processes
      both q planned h = elim (eqb_tells k q) [
        | inl e ↦ rw (← e.1) planned
        | inr n ↦ (sound.keeps.machine.scheduled.waiting q
            (subst (λ (b : Bool). (b || has s.ready q) ≡ true) n.0 h)).planned
      ]

  planned : k < length s.plan.processes
  planned = (sound.keeps.machine.scheduled.running c k its).planned

  -- The process of a processor is one of those that run, and has numbers.
  pub run_there : k < length s.runs
  run_there = omega (arith, sound.keeps.machine.keeps.sizes.processes, planned)

  pub process_known : k < length s.store.links.known
  process_known = grind (arith, length-map, planned)

-- ---- what is taken in

-- what isn't held by its number isn't found
seg_new : (es : List HeldSeg) (n : ℕ) → has (map (λ e. e.number) es) n ≡ false → find (is_number n) es ≡ None
seg_new [] n h = refl
seg_new (e ∷ es) n h = let both = or_parts (eqb e.number n) (has (map (λ x. x.number) es) n) h in
    let rest = seg_new es n both.1 in rw both.0 rest

-- what the rules found can be done
can : {D : Type 0} {t : Parts D} {c : ℕ} {a : Action} → Does t c a → Asks t.state c (no_call t.state) a
    → CanDo t.state c (no_call t.state) a
can {D} {t} {c} d asks = rw d.may.doing at (action_can t.state c (no_call t.state) (keeps_of d) d.may.there
    (rw d.may.doing asks))

module _ {D : Type 0} {t : Parts D} {c n : ℕ} (d : Does t c (act.FillSeg n)) where
  abbrev u : State
  u = t.state

  can_fill : CanFill u c n
  can_fill = can d tt

  -- A descriptor that is taken in isn't held.
  pub seg_not_held : seg_of (cpu_at u.processors c).assoc n ≡ None
  seg_not_held = seg_new (cpu_at u.processors c).assoc.segs n (rw (← can_fill.number) can_fill.can.new)

  -- A descriptor that is taken in is one of a process's 256.
  pub number_there : {k : ℕ} → (cpu_at u.processors c).process ≡ Some k → n < 256
  number_there {k} its = elim (leb_tells 256 n) [
    | inl past ↦
        (let same : can_fill.process ≡ k = ap or_zero (sym can_fill.can.process ∙ its) in
        let long : length (sdws_at u.store.links.descriptors k) ≡ 256 =
        (keeps_of d).store.kept.linked.lists.words k (process_known d.sound c its) in
        let far : length (sdws_at u.store.links.descriptors k) ≤ n = omega (arith, long, past.1) in
        let none : (seen u).linked k n ≡ None = ap (led_to u.store.ast.entries)
        (get_or_past (sdws_at u.store.links.descriptors k) n sdw.Fault far) in
        let some : (seen u).linked k n ≡ Some (to_hold u c n).uid = subst (λ (j : ℕ). (seen u).linked j n
        ≡ Some (to_hold u c n).uid) same (subst (λ (m : ℕ). (seen u).linked can_fill.process m
        ≡ Some (to_hold u c n).uid) can_fill.number can_fill.can.linked) in
        absurd (none_some (sym none ∙ some)))
    | inr less ↦ (let far = less.1 in omega (arith, far))
  ]

-- a page whose frame isn't held isn't found
page_new : (bound : ℕ → Option (ℕ × ℕ)) (es : List HeldPage) (u p f : ℕ) → AreHeldPages bound es
    → ((g : ℕ) → bound g ≡ Some (u, p) → g ≡ f) → has (map (λ e. e.frame) es) f ≡ false → find (is_page u p) es ≡ None
page_new bound [] u p f held once h = refl
page_new bound (e ∷ es) u p f held once h =
    let both = or_parts (eqb e.frame f) (has (map (λ x. x.frame) es) f) h in
    by (is_page u p e) refl both.0 (page_new bound es u p f held.1 once both.1)
  where
    by : (b : Bool) → is_page u p e ≡ b → eqb e.frame f ≡ false → find (is_page u p) es ≡ None
        → cond b (Some e) (find (is_page u p) es) ≡ None
    by true i off rest =
        let its = and_both e.uid e.page u p i in
        let there : bound e.frame ≡ Some (u, p) = held.0 ∙ λ j. Some (its.0 j, its.1 j) in
        cc (sym (ap (λ (x : ℕ). eqb x f) (once e.frame there) ∙ eqb_self f) ∙ off)
    by false i off rest = rest

-- A page that is taken in isn't held.
pub page_not_held : {D : Type 0} {t : Parts D} {c f : ℕ} {r : Reference} → Does t c (act.FillPage f r)
    → page_of (cpu_at t.state.processors c).assoc (held_page (cpu_at t.state.processors c) f r).uid (r.offset / 1024)
    ≡ None
page_not_held {D} {t} {c} {f} {r} d = page_new (seen t.state).bound (cpu_at t.state.processors c).assoc.pages e.uid
    (r.offset / 1024) f ((keeps_of d).book.holding_right c).pages
    (λ g bound. some_same g f (cc ((keeps_of d).book.tied.named g e.uid (r.offset / 1024) bound, may.0.word))) may.0.new
  where
    e : HeldPage
    e = held_page (cpu_at t.state.processors c) f r

    may : CanDo t.state c (no_call t.state) (act.FillPage f r)
    may = can d tt

-- ---- answers

module _ {D : Type 0} {t : Parts D} (sound : IsSound t) (c : ℕ) {k : ℕ}
    (its : (cpu_at t.state.processors c).process ≡ Some k) where
  abbrev w : State
  w = t.state

  abbrev n : ℕ
  n = length w.plan.processes

  -- Where the initializer ends no other process is ready, so the ready list has room for all that it releases, and for
  -- the process of the processor.
  pub leaving_room : (cmd : Option Command) → length w.ready + (length (released_by w.plan k cmd) + 1) ≤ t.room
  leaving_room None = omega (arith, ready_room sound c its)
  leaving_room (Some cmd) = freed (is_end cmd && (w.plan.initializer && eqb k 0)) refl
    where
      small : length w.ready < t.room
      small = ready_room sound c its

      alone : w.plan.initializer ≡ true → k ≡ 0 → w.ready ≡ []
      alone first zeroth = none_listed w.ready (λ q h. (let may = sound.keeps.machine.scheduled.waiting q h in
          let mine = sound.keeps.machine.scheduled.running c k its in
          elim may.turn [
            | inl never ↦ (let wrong : true ≡ false = sym first ∙ never in cc)
            | inr rest ↦ elim rest [
              | inl same ↦
                  (let apart = sound.keeps.machine.scheduled.apart c k its in
                  let here : has w.ready k ≡ true = subst (λ (j : ℕ). has w.ready j ≡ true) (same ∙ sym zeroth) h in
                  let wrong : true ≡ false = sym here ∙ apart in cc)
              | inr ended ↦
                  (let going : (run_at w.runs 0).ended ≡ false =
                  subst (λ (j : ℕ). (run_at w.runs j).ended ≡ false) zeroth mine.going in
                  let wrong : true ≡ false = sym ended ∙ going in cc)
            ]
          ]))

      freed : (b : Bool) → (is_end cmd && (w.plan.initializer && eqb k 0)) ≡ b
          → length w.ready + (length (cond b (range 1 (n - 1)) []) + 1) ≤ t.room
      freed true h =
          let parts = and_parts (is_end cmd) (w.plan.initializer && eqb k 0) h in
          let more = and_parts w.plan.initializer (eqb k 0) parts.1 in
          let none : length w.ready ≡ 0 = ap (λ (xs : List ℕ). length xs) (alone more.0 (eqb-true k 0 more.1)) in
          let long = range_length 1 (n - 1) in
          let room = sound.room in
          omega (arith, none, long, room, small)
      freed false h = omega (arith, small)

  -- So there is room for those that it releases.
  pub released_room : (cmd : Option Command) → length w.ready + length (released_by w.plan k cmd) ≤ t.room
  released_room cmd = omega (arith, leaving_room cmd)

  -- A processor has answered fewer commands since it loaded its process than the book has entries.
  pub count_room : (processor_at w.processors c).count < length w.entries
  count_room =
      let held = sound.keeps.machine.keeps.book.held in
      let seat : Seat = (custody_after w.plan w.entries).seat c in
      let same : (shown (seen w)).seat c ≡ seat = ap (λ (x : Custody). x.seat c) held in
      let process : seat.process ≡ Some k = ap (λ (x : Seat). x.process) (sym same) ∙ its in
      let less = counted_after w.plan w.entries c k process in
      let count : (processor_at w.processors c).count ≡ seat.count = ap (λ (x : Seat). x.count) same in
      omega arith

  -- A process's next command is one of at most 100,000.
  pub place_room : c < length w.processors → (run_at w.runs k).place + 1 < 2 ^ 32
  place_room there =
      let mine = speaks w c k sound.keeps.machine there its in
      place_fits w.plan k (run_at w.runs k).place sound.keeps.machine.script
      (place_within w.plan k (run_at w.runs k).place mine.0 mine.1.next)

  -- It may be answered, if its processor has not answered too many.
  pub may_answer : c < length w.processors → (processor_at w.processors c).count + 1 < 2 ^ 64 → MayAnswer t c k
  may_answer there count = assumption (run_there sound c its, place_room there, released_room (next_command w k))
