-- What the rules found where they choose an action of the supervisor's owner, or the end of a transfer.
use Rattle.machine.proofs.Prelude.{◌≡◌, ◌<◌, ℕ, ◌*◌, length, Bool, true, false, not, ◌&&◌, cond, eqb, List, ◌∷◌, position, Option, Some, None, refl, sym, ap, subst, ◌∙◌, ◌/◌, nat_le, find, option_map, cond_both, HeldPage, HeldSeg, frame_of, is_page, seg_of, Sdw, Ptw, word_reply, new_word, permits, sdws_at, table_of, word_of, next_out, by_descriptor, by_held, by_page, by_seg, by_word, reference_of, Command, Reference, What, Transfer, Aim, Phase, Processor, action_of, by_move, clear_or, come_to, copy_or_commit, finish_of, go_on_with, has_had_its_turn, is_empty, load_or_idle, look_of, move_of, once_cleared, own_or_run, refer_or_take, run_process, take_or_wait, transfer_or, no_call, IsMachine, AreHeldPages, seen, descriptor_of, is_due, next_command, process_at, processor_at, Owner, State, action_by, LookFinds, look_finds, HasWaited, IsLooking, look_idle, process_here, speaks, IsMine, Looks, and_both, eqb-true, [], Reply as reply, Sdw as sdw, Ptw as ptw, Aim as aim, Phase as phase, Action, Action as act}
use Rattle.processor.specs.declared.Move.{Move as move}

-- the owner looks, and the look comes to this action
abbrev pub Looked : State → ℕ → Action → Type 0
Looked s c a = Looks s c (λ x. LookFinds s (process_at s c) x a)

-- the owner's job to this end has waited, and has these frames left
pub record Waited (s : State) (c : ℕ) (a : Aim) (IsLeft : List ℕ → Type 0) : Type 0 where
  pub what : What
  pub waited : HasWaited s c a what
  pub left : IsLeft waited.owner.owner.frames

-- what the owner of the supervisor found, a processor with a transfer, and one that refers to a page that it holds
abbrev pub Found : State → ℕ → Action → Type 0
Found s c (act.Through f r) = (u : ℕ) × ((seen s).bound f ≡ Some (u, r.offset / 1024))
Found s c (act.EndTransfer t) = (processor_at s.processors c).cpu.transfer ≡ Some t
Found s c (act.Activate u place) = Looked s c (act.Activate u place)
Found s c (act.Connect n u) = Looked s c (act.Connect n u)
Found s c (act.Create f u p r) = Looked s c (act.Create f u p r)
Found s c (act.Start f u p) = Looked s c (act.Start f u p)
Found s c (act.Evict f) = Looked s c (act.Evict f)
Found s c (act.Empty u) = Looked s c (act.Empty u)
Found s c (act.EmptyVictim pool chain u) = Looked s c (act.EmptyVictim pool chain u)
Found s c (act.TakeAway fs pairs w) = Looked s c (act.TakeAway fs pairs w)
Found s c (act.FinishEviction f) = Waited s c aim.Evicting (λ fs. (rest : List ℕ) × (fs ≡ f ∷ rest))
Found s c (act.FinishPage f) = (u : ℕ) × Waited s c (aim.Deactivating u) (λ fs. (rest : List ℕ) × (fs ≡ f ∷ rest))
Found s c (act.Deactivate u) = Waited s c (aim.Deactivating u) (λ fs. fs ≡ [])
Found s c act.TakeSupervisor = s.owner ≡ None
Found s c act.GiveUp = IsMine s c
Found s c _ = Unit {0}

-- the frame of a page that is held has the page
page_held : (bound : ℕ → Option (ℕ × ℕ)) (es : List HeldPage) (u q f : ℕ)
    → option_map (λ e. e.frame) (find (is_page u q) es) ≡ Some f → AreHeldPages bound es → bound f ≡ Some (u, q)
page_held bound [] u q f h all = cc
page_held bound (e ∷ es) u q f h all = by (is_page u q e) refl h (λ i. page_held bound es u q f i all.1)
  where
    by : (b : Bool) → is_page u q e ≡ b → option_map (λ x. x.frame) (cond b (Some e) (find (is_page u q) es)) ≡ Some f
        → (option_map (λ x. x.frame) (find (is_page u q) es) ≡ Some f → bound f ≡ Some (u, q)) → bound f ≡ Some (u, q)
    by true i same rest = let frame : e.frame ≡ f = cc in let both = and_both e.uid e.page u q i in
        ap bound (sym frame) ∙ (all.0 ∙ λ j. Some (both.0 j, both.1 j))
    by false i same rest = rest same

module _ (s : State) (c : ℕ) (m : IsMachine s) (there : c < length s.processors) where
  abbrev p : Processor
  p = processor_at s.processors c

  abbrev k : ℕ
  k = process_at s c

  take_found : (x : Option Owner) → s.owner ≡ x → Found s c (take_or_wait x)
  take_found None e = e
  take_found (Some q) e = tt

  module _ (r : Reference) where
    descriptor_found : (x : Sdw) → Found s c (by_move s.owner r (by_descriptor x))
    descriptor_found sdw.Fault = take_found s.owner refl
    descriptor_found (sdw.Present aste mode pages) = tt

    word_found : (w : Ptw) → Found s c (by_move s.owner r (by_word w r.kind))
    word_found ptw.Null = by (eqb (new_word 0 r.kind) 0)
      where
        by : (b : Bool) → Found s c (by_move s.owner r (cond b (move.Plain (word_reply 0 r.kind)) move.Fault))
        by true = tt
        by false = take_found s.owner refl
    word_found (ptw.Here f) = tt
    word_found _ = take_found s.owner refl

    page_found : (h : HeldSeg) (x : Option ℕ) → frame_of p.cpu.assoc h.uid (r.offset / 1024) ≡ x
        → Found s c (by_move s.owner r (by_page x (word_of s.store.ast h.uid (r.offset / 1024)) r.kind))
    page_found h (Some f) e = (
      h.uid,
      page_held (seen s).bound p.cpu.assoc.pages h.uid (r.offset / 1024) f e (m.keeps.book.holding_right c).pages,
    )
    page_found h None e = word_found (word_of s.store.ast h.uid (r.offset / 1024))

    held_found : (h : HeldSeg)
        → Found s c (by_move s.owner r (by_held p.cpu.assoc (λ u q. word_of s.store.ast u q) r h))
    held_found h = permit (permits h.mode r.kind)
      where
        within : (b : Bool) → Found s c (by_move s.owner r (cond b (move.Plain reply.Length)
            (by_page (frame_of p.cpu.assoc h.uid (r.offset / 1024)) (word_of s.store.ast h.uid (r.offset / 1024))
            r.kind)))
        within true = tt
        within false = page_found h (frame_of p.cpu.assoc h.uid (r.offset / 1024)) refl

        permit : (b : Bool) → Found s c (by_move s.owner r (cond (not b) (move.Plain reply.NoAccess)
            (cond (nat_le (1024 * h.pages) r.offset) (move.Plain reply.Length)
            (by_page (frame_of p.cpu.assoc h.uid (r.offset / 1024)) (word_of s.store.ast h.uid (r.offset / 1024))
            r.kind))))
        permit false = tt
        permit true = within (nat_le (1024 * h.pages) r.offset)

    move_found : (n : ℕ) → Found s c (by_move s.owner r (move_of s p.cpu n r))
    move_found n = by (seg_of p.cpu.assoc r.number)
      where
        by : (x : Option HeldSeg) → Found s c (by_move s.owner r (by_seg p.cpu.assoc
            (sdws_at s.store.links.descriptors n) (λ u q. word_of s.store.ast u q) r x))
        by None = descriptor_found (descriptor_of s.store.links n r.number)
        by (Some h) = held_found h

  run_found : (x : Option ℕ) → Found s c (run_process s p x)
  run_found None = by s.ready
    where
      by : (xs : List ℕ) → Found s c (load_or_idle s xs)
      by [] = tt
      by (n ∷ ns) = tt
  run_found (Some n) = cond_both (has_had_its_turn p && not (is_empty s.ready)) act.Leave
      (come_to s p.cpu n (next_command s n)) (Found s c) (λ h. tt) (λ h. come (next_command s n))
    where
      refer : (x : Option Reference) → Found s c (refer_or_take s p.cpu n x)
      refer None = take_found s.owner refl
      refer (Some r) = move_found r n

      come : (x : Option Command) → Found s c (come_to s p.cpu n x)
      come None = take_found s.owner refl
      come (Some cmd) = refer (reference_of cmd)

  -- ---- the owner looks

  module _ (l : IsLooking s c) (cmd : Command) (next : next_command s k ≡ Some cmd) where
    abbrev looks : {Finds : Command → Type 0} → Finds cmd → Looks s c Finds
    looks h = record {
      looking = l;
      idle = look_idle s c (no_call s) m.keeps there l;
      command = cmd;
      next = next;
      finds = h;
    }

    look_found : (a : Action) → LookFinds s k cmd a → Found s c a
    look_found (act.Activate u place) h = looks h
    look_found (act.Connect n u) h = looks h
    look_found (act.Create f u q r) h = looks h
    look_found (act.Start f u q) h = looks h
    look_found (act.Evict f) h = looks h
    look_found (act.Empty u) h = looks h
    look_found (act.EmptyVictim pool chain u) h = looks h
    look_found (act.TakeAway fs pairs w) h = looks h
    look_found act.GiveUp h = l.owner
    look_found (act.Through f r) h = absurd h
    look_found (act.EndTransfer t) h = absurd h
    look_found (act.FinishEviction f) h = absurd h
    look_found (act.FinishPage f) h = absurd h
    look_found (act.Deactivate u) h = absurd h
    look_found act.TakeSupervisor h = absurd h
    look_found a h = tt

  -- ---- what was taken goes

  finish_found : (a : Aim) (w : What) (h : HasWaited s c a w) (fs : List ℕ) → h.owner.owner.frames ≡ fs
      → Found s c (finish_of a fs)
  finish_found aim.Evicting w h [] e = h.owner
  finish_found aim.Evicting w h (f ∷ fs) e = record { what = w; waited = h; left = (fs, e) }
  finish_found (aim.Deactivating u) w h [] e = record { what = w; waited = h; left = e }
  finish_found (aim.Deactivating u) w h (f ∷ fs) e = (u, record { what = w; waited = h; left = (fs, e) })
  finish_found aim.Committing w h fs e = tt

  phase_found : (q : IsMine s c) → p.cpu.process ≡ Some k → (x : Phase) → q.owner.phase ≡ x
      → Found s c (go_on_with s k q.owner x)
  phase_found q its phase.Looking e = let one = speaks s c k m there its in
      subst (λ (y : Option Command). Found s c (look_of s k y)) (sym one.1.next)
      (look_found (record { owner = q; looks = e }) one.0 one.1.next (look_of s k (Some one.0)) (look_finds s k one.0))
  phase_found q its (phase.Taken a w) e = tt
  phase_found q its (phase.Waiting a w) e = by (position is_due s.processors) refl
    where
      by : (x : Option ℕ) → position is_due s.processors ≡ x → Found s c (once_cleared x (finish_of a q.owner.frames))
      by None i = finish_found a w (record { owner = q; waits = e; cleared = i }) q.owner.frames refl
      by (Some d) i = tt
  phase_found q its (phase.Moving x) e = by (next_out (table_of s.store.ast x.uid) x.next)
    where
      by : (y : Option ℕ) → Found s c (copy_or_commit x y)
      by None = tt
      by (Some n) = tt

  -- ---- the rules in their order

  owner_found : (x : Option Owner) → s.owner ≡ x → Found s c (own_or_run s c p x)
  owner_found None e = run_found p.cpu.process
  owner_found (Some q) e = cond_both (eqb q.cpu c) (go_on_with s k q q.phase) (run_process s p p.cpu.process)
      (Found s c) (λ h. mine (eqb-true q.cpu c h)) (λ h. run_found p.cpu.process)
    where
      mine : q.cpu ≡ c → Found s c (go_on_with s k q q.phase)
      mine same = phase_found (record { owner = q; mine = e; same = same })
          (process_here s c (no_call s) m.keeps there (record { owner = q; mine = e; same = same })) q.phase refl

  transfer_found : (x : Option Transfer) → p.cpu.transfer ≡ x → Found s c (transfer_or s c p x)
  transfer_found (Some t) e = e
  transfer_found None e = owner_found s.owner refl

  clear_found : (x : Option What) → Found s c (clear_or s c p x)
  clear_found (Some w) = tt
  clear_found None = transfer_found p.cpu.transfer refl

  -- What the rules found of the action of a step.
  pub step_found : Found s c (action_of s c)
  step_found = action_by (Found s c) s c tt tt (λ off. tt) (λ on. clear_found p.cpu.due)

  -- the same by the action's name
  pub found_of : (a : Action) → action_of s c ≡ a → Found s c a
  found_of a doing = rw (← doing) step_found
