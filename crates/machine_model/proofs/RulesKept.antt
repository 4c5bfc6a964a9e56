-- Each step of each processor keeps the machine's promise: along the rules in their order, what an action asks follows
-- from the promise, but for what the store says and for what the flat store answers.
use Rattle.machine_model.proofs.StepBasics.{◌≡◌, ◌≢◌, ◌<◌, ℕ, ◌/◌, ◌*◌, Bool, true, false, not, ◌&&◌, ◌||◌, ◌==◌, cond, eqb, is_some, List, [], ◌∷◌, length, position, Option, Some, None, inl, inr, refl, sym, ap, subst, ◌∙◌, nat_le, option_map, eqb_tells, leb_tells, HeldPage, HeldSeg, What, frame_of, seg_of, reference_of, Command, Reference, Ptw, Sdw, uid_at, by_descriptor, by_page, by_seg, by_word, Move, Transfer, leads, sdws_at, word_of, table_of, next_out, new_word, permits, word_reply, HasHadItsTurn, Phase, action_of, by_move, clear_or, come_to, finish_of, go_on_with, has_had_its_turn, is_empty, load_or_idle, look_of, once_cleared, own_or_run, refer_or_take, run_process, take_or_wait, transfer_or, Outcome, names, led_to, seen, IsAtWork, Keeps, cpu_at, descriptor_of, is_due, next_command, or_zero, process_at, processor_at, shown, Processor, Owner, State, held_page, cond_both, not-true, not-false, and_parts, held_page_of as page_of, Reply as reply, Ptw as ptw, Sdw as sdw, Move as move, Phase as phase, Action, Action as act, some_same, eqb-true, action_by, number_new, page_new, IsNoOwner, look_is, CanFillPage, Asks, finish_can, look_can, move_can, CanDo, CanLeave, IsMine, to_hold}

-- an action can be done whose conditions hold
abbrev Can : State → ℕ → Outcome → Action → Type 0
Can s c o a = Asks s c o a → CanDo s c o a

-- a choice of two moves
pick_move : (s : State) (c : ℕ) (o : Outcome) (r : Reference) (b : Bool) (x y : Move)
    → (Asks s c o (by_move s.owner r x) → CanDo s c o (by_move s.owner r x))
    → (Asks s c o (by_move s.owner r y) → CanDo s c o (by_move s.owner r y))
    → Asks s c o (by_move s.owner r (cond b x y)) → CanDo s c o (by_move s.owner r (cond b x y))
pick_move s c o r true x y f g = f
pick_move s c o r false x y f g = g

pub some_again : {x : Option ℕ} {u : ℕ} → x ≡ Some u → x ≡ Some (or_zero x)
some_again h = cc

page_none : (x : Option HeldPage) → option_map (λ e. e.frame) x ≡ None → x ≡ None
page_none None h = refl
page_none (Some e) h = cc

-- ---- a processor that runs its process by itself

module _ {s : State} (c : ℕ) (o : Outcome) (k : Keeps s) (there : c < length s.processors) (other : IsNoOwner s c)
    (works : IsAtWork (processor_at s.processors c)) {n : ℕ} (its : (processor_at s.processors c).cpu.process ≡ Some n)
  where
    take_can : (x : Option Owner) → s.owner ≡ x → Asks s c o (take_or_wait x) → CanDo s c o (take_or_wait x)
    take_can None e asks = (e, works)
    take_can (Some q) e asks = tt

    module _ (r : Reference) where
      -- a descriptor that is taken in
      fill_can : seg_of (cpu_at s.processors c).assoc r.number ≡ None → (y : Sdw)
          → descriptor_of s.store.links n r.number ≡ y
          → Asks s c o (by_move s.owner r (by_descriptor y)) → CanDo s c o (by_move s.owner r (by_descriptor y))
      fill_can none sdw.Fault e asks = take_can s.owner refl asks
      fill_can none (sdw.Present aste m pages) e asks = record {
        process = n;
        number = cc;
        can = rw hold (assumption (
          ap (led_to s.store.ast.entries) e ∙ some_again known.1,
          number_new (cpu_at s.processors c).assoc.segs r.number none,
        ));
        other = other;
      }
        where
          its_descriptor : descriptor_of s.store.links (process_at s c) r.number ≡ sdw.Present aste m pages
          its_descriptor = cc

          hold : to_hold s c r.number ≡ record {
            number = r.number;
            uid = or_zero (uid_at s.store.ast.entries aste);
            mode = m;
            pages = pages;
          }
          hold = cc

          known : (u : ℕ) × (uid_at s.store.ast.entries aste ≡ Some u)
          known = let at = k.store.kept.linked.known n r.number aste (ap leads e) in (at.uid, at.active)

      -- a page table word that is taken in
      word_can : (h : HeldSeg) → seg_of (cpu_at s.processors c).assoc r.number ≡ Some h
          → frame_of (cpu_at s.processors c).assoc h.uid (r.offset / 1024) ≡ None → (w : Ptw)
          → word_of s.store.ast h.uid (r.offset / 1024) ≡ w
          → Asks s c o (by_move s.owner r (by_word w r.kind)) → CanDo s c o (by_move s.owner r (by_word w r.kind))
      word_can h seg none ptw.Null e = pick_move s c o r (new_word 0 r.kind == 0)
          (move.Plain (word_reply 0 r.kind)) move.Fault (λ a. a) (take_can s.owner refl)
      word_can h seg none (ptw.Here f) e = λ asks. (
        subst (CanFillPage (seen s) c) (sym hold) (record {
          inside = rw (← k.sizes.processors) there;
          online = works.online;
          word = e;
          new = page_new (seen s).bound (cpu_at s.processors c).assoc.pages f h.uid (r.offset / 1024)
              (k.book.holding_right c).pages (k.book.tied.back f h.uid (r.offset / 1024) (ap names e))
              (page_none (page_of (cpu_at s.processors c).assoc h.uid (r.offset / 1024)) none);
        }),
        other,
      )
        where
          hold : held_page (cpu_at s.processors c) f r ≡ record { uid = h.uid; page = r.offset / 1024; frame = f }
          hold = cc
      word_can h seg none _ e = take_can s.owner refl

      page_can_move : (h : HeldSeg) → seg_of (cpu_at s.processors c).assoc r.number ≡ Some h → (x : Option ℕ)
          → frame_of (cpu_at s.processors c).assoc h.uid (r.offset / 1024) ≡ x
          → Asks s c o (by_move s.owner r (by_page x (word_of s.store.ast h.uid (r.offset / 1024)) r.kind))
          → CanDo s c o (by_move s.owner r (by_page x (word_of s.store.ast h.uid (r.offset / 1024)) r.kind))
      page_can_move h seg (Some f) e = λ asks. asks
      page_can_move h seg None e = word_can h seg e (word_of s.store.ast h.uid (r.offset / 1024)) refl

      seg_can : (x : Option HeldSeg) → seg_of (cpu_at s.processors c).assoc r.number ≡ x
          → Asks s c o (by_move s.owner r (by_seg (cpu_at s.processors c).assoc (sdws_at s.store.links.descriptors n)
          (λ u q. word_of s.store.ast u q) r x))
          → CanDo s c o (by_move s.owner r (by_seg (cpu_at s.processors c).assoc (sdws_at s.store.links.descriptors n)
          (λ u q. word_of s.store.ast u q) r x))
      seg_can None e = fill_can e (descriptor_of s.store.links n r.number) refl
      seg_can (Some h) e = pick_move s c o r (not (permits h.mode r.kind)) (move.Plain reply.NoAccess) _ (λ a. a)
          (pick_move s c o r (nat_le (1024 * h.pages) r.offset) (move.Plain reply.Length) _ (λ a. a)
          (page_can_move h e (frame_of (cpu_at s.processors c).assoc h.uid (r.offset / 1024)) refl))

    refer_can : (x : Option Reference) → Asks s c o (refer_or_take s (cpu_at s.processors c) n x)
        → CanDo s c o (refer_or_take s (cpu_at s.processors c) n x)
    refer_can None = take_can s.owner refl
    refer_can (Some r) = seg_can r (seg_of (cpu_at s.processors c).assoc r.number) refl

    command_can : (x : Option Command) → Asks s c o (come_to s (cpu_at s.processors c) n x)
        → CanDo s c o (come_to s (cpu_at s.processors c) n x)
    command_can None = take_can s.owner refl
    command_can (Some cmd) = refer_can (reference_of cmd)

-- ---- the rules in their order

module _ (s : State) (c : ℕ) (o : Outcome) (k : Keeps s) (there : c < length s.processors) where
  abbrev p : Processor
  p = processor_at s.processors c

  load_can : p.cpu.online ≡ true → p.cpu.process ≡ None → (x : List ℕ) → s.ready ≡ x → Asks s c o (load_or_idle s x)
      → CanDo s c o (load_or_idle s x)
  load_can on none [] e asks = tt
  load_can on none (n ∷ ns) e asks = (on, none, rw e refl)

  turn_of : (nat_le 16 p.count || p.tried) ≡ true → HasHadItsTurn ((shown (seen s)).seat c)
  turn_of h = elim (leb_tells 16 p.count) [ inl e ↦ inl e.1 | inr m ↦ inr (cc) ]

  not_empty : (xs : List ℕ) → not (is_empty xs) ≡ true → xs ≢ []
  not_empty [] h e = cc
  not_empty (x ∷ xs) h e = let no = e in cc

  leave_can : IsNoOwner s c → {n : ℕ} → p.cpu.process ≡ Some n → (has_had_its_turn p && not (is_empty s.ready)) ≡ true
      → CanLeave s c
  leave_can other {n} its h = let parts = and_parts (has_had_its_turn p) (not (is_empty s.ready)) h in record {
    process = n;
    its = its;
    other = other;
    may = rw its (inr (not_empty s.ready parts.1, turn_of parts.0));
  }

  run_can : IsNoOwner s c → p.cpu.online ≡ true → p.cpu.due ≡ None → p.cpu.transfer ≡ None → (x : Option ℕ)
      → p.cpu.process ≡ x → Asks s c o (run_process s p x) → CanDo s c o (run_process s p x)
  run_can other on due idle None e = load_can on e s.ready refl
  run_can other on due idle (Some n) e =
      cond_both (has_had_its_turn p && not (is_empty s.ready)) act.Leave _ (Can s c o) (λ h asks. leave_can other e h)
      (λ h. command_can c o k there other (assumption (ap is_some e)) e (next_command s n))

  phase_can : (m : IsMine s c) (x : Phase) → m.owner.phase ≡ x → Asks s c o (go_on_with s (process_at s c) m.owner x)
      → CanDo s c o (go_on_with s (process_at s c) m.owner x)
  phase_can m phase.Looking e asks = look_can c o k there (look_of s (process_at s c) (next_command s (process_at s c)))
      (look_is s (process_at s c) (next_command s (process_at s c))) (record { owner = m; looks = e }) asks
  phase_can m (phase.Taken a w) e asks = record { owner = m; aim = a; taken = e }
  phase_can m (phase.Waiting a w) e asks = cleared_can (position is_due s.processors) refl asks
    where
      cleared_can : (x : Option ℕ) → position is_due s.processors ≡ x
          → Asks s c o (once_cleared x (finish_of a m.owner.frames))
          → CanDo s c o (once_cleared x (finish_of a m.owner.frames))
      cleared_can None h asks = finish_can c o k there a w m.owner.frames
          (record { owner = m; waits = e; cleared = h }) refl asks
      cleared_can (Some d) h asks = tt
  phase_can m (phase.Moving x) e asks = move_can c o k there x (next_out (table_of s.store.ast x.uid) x.next)
      (record { owner = m; moves = e }) asks

  owner_can : p.cpu.online ≡ true → p.cpu.due ≡ None → p.cpu.transfer ≡ None → (x : Option Owner) → s.owner ≡ x
      → Asks s c o (own_or_run s c p x) → CanDo s c o (own_or_run s c p x)
  owner_can on due idle None e = run_can (λ q h. cc) on due idle p.cpu.process refl
  owner_can on due idle (Some q) e = cond_both (q.cpu == c) _ _ (Can s c o)
      (λ same. phase_can (record { owner = q; mine = e; same = eqb-true q.cpu c same }) q.phase refl)
      (λ differ. run_can (λ x h y. eqb_isnt q.cpu c differ
      (ap (λ (z : Owner). z.cpu) (some_same q x (sym e ∙ h)) ∙ y)) on due idle p.cpu.process refl)
    where
      eqb_isnt : (a b : ℕ) → eqb a b ≡ false → a ≢ b
      eqb_isnt a b h = elim (eqb_tells a b) [ inl y ↦ absurd (let no = sym y.0 ∙ h in cc) | inr m ↦ m.1 ]

  transfer_can : p.cpu.online ≡ true → p.cpu.due ≡ None → (x : Option Transfer) → p.cpu.transfer ≡ x
      → Asks s c o (transfer_or s c p x) → CanDo s c o (transfer_or s c p x)
  transfer_can on due (Some t) e asks = assumption
  transfer_can on due None e asks = owner_can on due e s.owner refl asks

  clear_can : p.cpu.online ≡ true → (x : Option What) → p.cpu.due ≡ x → Asks s c o (clear_or s c p x)
      → CanDo s c o (clear_or s c p x)
  clear_can on (Some w) e asks = e
  clear_can on None e asks = transfer_can on e p.cpu.transfer refl asks

  -- what the action of a step asks
  pub action_can : Asks s c o (action_of s c) → CanDo s c o (action_of s c)
  action_can = action_by (Can s c o) s c (λ asks. tt) (λ asks. tt) (λ off asks. not-true p.cpu.online off)
      (λ on. clear_can (not-false p.cpu.online on) p.cpu.due refl)
