-- The move that segment control has under way is that of the supervisor's owner, after each action.
use Rattle.machine_model.proofs.Laws.{◌≡◌, ℕ, eqb, not, ◌&&◌, List, [], ◌∷◌, position, Option, Some, None, refl, sym, ap, subst, ◌∙◌, cond_both, reference_of, Command, Reference, What, bound_page, frame_in, Move, Transfer, table_of, next_out, Aim, Phase, Processor, action_of, by_move, clear_or, come_to, copy_or_commit, finish_of, go_on_with, has_had_its_turn, is_empty, load_or_idle, look_of, once_cleared, own_or_run, refer_or_take, run_process, take_or_wait, transfer_or, Outcome, after, committed, committed_at, with_effect, cut_all, cut_one, emptied, here_if, leaving_if, owner_signalled, segment_taken, take_all, take_one, took, with_choice, with_hand_moved, with_here, without_first_frame, write_failed, phase_signalled, AsksMover, mover_in, mover_of, copy_failed, page_copied, IsMachine, frames_from, frames_of_owner, is_due, next_command, process_at, processor_at, trailers_in, uid_of_command, Owner, State, Storage, with_store, with_faults, Command as command, What as what, Move as move, Aim as aim, Phase as phase, Action, move_of, Action as act, true, false, ◌==◌, least_free_frame, clock_choice, word_of, is_out, frame_reading, free_place, is_active, Ptw as ptw, is_back, is_emptied, action_by, by_end, effect_rests, first_idle, LookFinds, look_finds}

-- ---- What a look of the owner comes to, and what is true then of the frames and of the active segments.

-- An action that a look may come to. A page is read into the least free frame where it is read into none, and made in
-- it where it has no record; the clock's choice is evicted; a segment that isn't active takes a free place.
abbrev pub IsLook : State → Action → Type 0
IsLook s (act.Waits why) = Unit {0}
IsLook s (act.Answer r) = Unit {0}
IsLook s act.GiveUp = Unit {0}
IsLook s (act.Activate u place) = (is_active s.store.ast u ≡ false) ×
    ((pool : ℕ) × (free_place s.store.ast pool ≡ Some place))
IsLook s (act.Connect n u) = Unit {0}
IsLook s (act.Create f u p r) = (least_free_frame s.store.pages.core ≡ Some f) × (word_of s.store.ast u p ≡ ptw.Null)
IsLook s (act.Start f u p) = (least_free_frame s.store.pages.core ≡ Some f) ×
    (frame_reading s.store.pages.core u (λ q. q == p) ≡ None) × (is_out (word_of s.store.ast u p) ≡ true)
IsLook s (act.Evict f) = clock_choice s.store.pages.core ≡ Some f
IsLook s (act.Empty u) = Unit {0}
IsLook s (act.EmptyVictim pool chain u) = Unit {0}
IsLook s (act.TakeAway fs pairs w) = Unit {0}
IsLook s (act.BeginMove u volume) = Unit {0}
IsLook s act.Commit = Unit {0}
IsLook s _ = ⊥

-- what is found is such an action
finds_look : (s : State) (k : ℕ) (c : Command) (a : Action) → LookFinds s k c a → IsLook s a
finds_look s k c (act.Activate u place) h = (first_idle s.store.ast _ u h.link.first, (_, h.free))
finds_look s k c (act.Create f u p r) h = (h.frame, h.null)
finds_look s k c (act.Start f u p) h = (h.frame, h.unread, h.out)
finds_look s k c (act.Evict f) h = h.choice
finds_look s k c (act.Waits why) h = tt
finds_look s k c (act.Answer r) h = tt
finds_look s k c act.GiveUp h = tt
finds_look s k c (act.Connect n u) h = tt
finds_look s k c (act.Empty u) h = tt
finds_look s k c (act.EmptyVictim pool chain u) h = tt
finds_look s k c (act.TakeAway fs pairs w) h = tt
finds_look s k c (act.BeginMove u volume) h = tt
finds_look s k c act.Commit h = tt
finds_look s k c _ h = absurd h

-- whatever the next command is
pub look_is : (s : State) (k : ℕ) (x : Option Command) → IsLook s (look_of s k x)
look_is s k None = tt
look_is s k (Some c) = finds_look s k c (look_of s k (Some c)) (look_finds s k c)

-- ---- what the rules know

take_asks : (x : Option Owner) → AsksMover (take_or_wait x) (mover_of x)
take_asks None = refl
take_asks (Some o) = tt

move_asks : (x : Option Owner) (r : Reference) (y : Move) → AsksMover (by_move x r y) (mover_of x)
move_asks x r move.Fault = take_asks x
move_asks x r _ = tt

look_asks : (s : State) (a : Action) → IsLook s a → AsksMover a None
look_asks s (act.Waits why) h = tt
look_asks s (act.Answer r) h = refl
look_asks s act.GiveUp h = refl
look_asks s (act.Activate u place) h = refl
look_asks s (act.Connect n u) h = refl
look_asks s (act.Create f u p r) h = refl
look_asks s (act.Start f u p) h = refl
look_asks s (act.Evict f) h = refl
look_asks s (act.Empty u) h = refl
look_asks s (act.EmptyVictim pool chain u) h = refl
look_asks s (act.TakeAway fs pairs w) h = refl
look_asks s (act.BeginMove u volume) h = refl
look_asks s act.Commit h = refl
look_asks s _ h = absurd h

finish_asks : (a : Aim) (fs : List ℕ) → AsksMover (finish_of a fs) None
finish_asks aim.Evicting [] = refl
finish_asks aim.Evicting (f ∷ fs) = refl
finish_asks (aim.Deactivating u) [] = refl
finish_asks (aim.Deactivating u) (f ∷ fs) = refl
finish_asks aim.Committing fs = refl

module _ (s : State) (c : ℕ) where
  abbrev Fits : Action → Type 0
  Fits a = AsksMover a (mover_of s.owner)

  abbrev p : Processor
  p = processor_at s.processors c

  come_asks : (k : ℕ) (x : Option Command) → Fits (come_to s p.cpu k x)
  come_asks k None = take_asks s.owner
  come_asks k (Some cmd) = by (reference_of cmd)
    where
      by : (r : Option Reference) → Fits (refer_or_take s p.cpu k r)
      by None = take_asks s.owner
      by (Some r) = move_asks s.owner r (move_of s p.cpu k r)

  load_asks : (x : List ℕ) → Fits (load_or_idle s x)
  load_asks [] = tt
  load_asks (k ∷ ks) = tt

  run_asks : (x : Option ℕ) → Fits (run_process s p x)
  run_asks None = load_asks s.ready
  run_asks (Some k) = cond_both (has_had_its_turn p && not (is_empty s.ready)) act.Leave _ Fits (λ h. tt)
      (λ h. come_asks k (next_command s k))

  go_asks : (k : ℕ) (o : Owner) (x : Phase) → AsksMover (go_on_with s k o x) (mover_in x)
  go_asks k o phase.Looking = look_asks s (look_of s k (next_command s k)) (look_is s k (next_command s k))
  go_asks k o (phase.Taken a w) = refl
  go_asks k o (phase.Waiting a w) = by (position is_due s.processors)
    where
      by : (x : Option ℕ) → AsksMover (once_cleared x (finish_of a o.frames)) None
      by None = finish_asks a o.frames
      by (Some d) = tt
  go_asks k o (phase.Moving m) = by (next_out (table_of s.store.ast m.uid) m.next)
    where
      by : (x : Option ℕ) → AsksMover (copy_or_commit m x) (Some m)
      by (Some q) = refl
      by None = refl

  own_asks : (x : Option Owner) → s.owner ≡ x → Fits (own_or_run s c p x)
  own_asks None e = run_asks p.cpu.process
  own_asks (Some o) e = cond_both (eqb o.cpu c) _ _ Fits (λ h. rw (ap mover_of e) (go_asks (process_at s c) o o.phase))
      (λ h. run_asks p.cpu.process)

  transfer_asks : (x : Option Transfer) → Fits (transfer_or s c p x)
  transfer_asks (Some t) = tt
  transfer_asks None = own_asks s.owner refl

  clear_asks : (x : Option What) → Fits (clear_or s c p x)
  clear_asks (Some w) = tt
  clear_asks None = transfer_asks p.cpu.transfer

  -- the action of a step is one of the move that the owner makes, or one that no move excludes
  pub action_asks : AsksMover (action_of s c) (mover_of s.owner)
  action_asks = action_by Fits s c tt tt (λ off. tt) (λ on. clear_asks p.cpu.due)

-- An action that a move excludes is done where segment control has none under way, and a step of a move is one of the
-- move that it has.
pub moving_fits : (s : State) (c : ℕ) (a : Action) → IsMachine s → action_of s c ≡ a → AsksMover a s.store.moving
moving_fits s c a m is = rw is at (subst (AsksMover (action_of s c)) (sym m.moving) (action_asks s c))

-- ---- no move is under way

record IsStill (s : State) : Type 0 where
  pub moving : s.store.moving ≡ None
  pub owner : mover_of s.owner ≡ None

still : {s : State} → s.store.moving ≡ None → mover_of s.owner ≡ None → IsStill s
still moving owner = assumption

pub leaving_moving : (st : Storage) (f : ℕ) (x : Option (ℕ × ℕ)) → (leaving_if st f x).moving ≡ st.moving
leaving_moving st f None = refl
leaving_moving st f (Some page) = refl

pub here_moving : (st : Storage) (f : ℕ) → (with_here st f).moving ≡ st.moving
here_moving st f = by (bound_page (frame_in st.pages f))
  where
    by : (x : Option (ℕ × ℕ)) → (here_if st f x).moving ≡ st.moving
    by None = refl
    by (Some page) = refl

taken : (s : State) (c : ℕ) (a : Aim) (w : What) (fs : List ℕ) → IsStill s → IsStill (take_all s c a w fs)
taken s c a w [] h = h
taken s c a w (f ∷ fs) h = taken (take_one s c a w f) c a w fs
    (still (leaving_moving s.store f (bound_page (frame_in s.store.pages f)) ∙ h.moving) refl)

all_cut : (s : State) (c : ℕ) (a : Aim) (w : What) (pairs : List (ℕ × ℕ)) → IsStill s → IsStill (cut_all s c a w pairs)
all_cut s c a w [] h = h
all_cut s c a w (x ∷ xs) h = all_cut (cut_one s c a w x) c a w xs (still h.moving refl)

all_taken : (s : State) (c : ℕ) (a : Aim) (w : What) (fs : List ℕ) (pairs : List (ℕ × ℕ)) → IsStill s
    → IsStill (took s c a w fs pairs)
all_taken s c a w fs pairs h = all_cut (take_all s c a w fs) c a w pairs (taken s c a w fs h)

gone : (s : State) (c u : ℕ) → IsStill s → IsStill (emptied s c u)
gone s c u h = still ((is_emptied s c u).moving ∙ h.moving) refl

segment : {s : State} (c u : ℕ) (fs : List ℕ) (pairs : List (ℕ × ℕ)) → IsStill s
    → IsStill (segment_taken s c u fs pairs)
segment {s} c u [] [] h = gone s c u h
segment {s} c u [] (x ∷ xs) h = all_taken s c (aim.Deactivating u) (what.Seg u) [] (x ∷ xs) h
segment {s} c u (f ∷ fs) pairs h = all_taken s c (aim.Deactivating u) (what.Seg u) (f ∷ fs) pairs h

signalled_mover : (x : Option Owner) → mover_of (owner_signalled x) ≡ mover_of x
signalled_mover None = refl
signalled_mover (Some o) = by o.phase
  where
    by : (x : Phase) → mover_in (phase_signalled x) ≡ mover_in x
    by phase.Looking = refl
    by (phase.Taken a w) = refl
    by (phase.Waiting a w) = refl
    by (phase.Moving m) = refl

fewer_mover : (x : Option Owner) → mover_of (without_first_frame x) ≡ mover_of x
fewer_mover None = refl
fewer_mover (Some o) = refl

-- ---- a write failed

failed : (s : State) (c faults : ℕ) → IsStill s → IsStill (write_failed s c faults)
failed s c faults h = still ((is_back s c faults).moving ∙ h.moving) refl

-- ---- a command takes effect

commits : (s : State) (c : ℕ) (x : Option Command) → IsStill s → IsStill (committed_at s c x)
commits s c None h = h
commits s c (Some cmd) h = by cmd (effect_rests s.store (process_at s c) (uid_of_command s.store (process_at s c) cmd)
    (frames_of_owner s.owner) cmd).moving
  where
    by : (x : Command)
        → (with_effect s.store (process_at s c) (uid_of_command s.store (process_at s c) x) (frames_of_owner s.owner)
        x).moving ≡ s.store.moving → IsStill (committed s c (process_at s c) x)
    by command.End e = still (cc) refl
    by _ e = still (cc) refl

-- ---- each action

-- the tie, as it is kept
abbrev pub IsTied : State → Type 0
IsTied s = s.store.moving ≡ mover_of s.owner

tied : {s : State} → IsStill s → IsTied s
tied h = cc

module _ (s : State) (c : ℕ) (o : Outcome) (h : IsTied s) where
  idle : mover_of s.owner ≡ None → IsStill s
  idle none = still (h ∙ none) none

  pub tie_kept : (a : Action) → AsksMover a (mover_of s.owner) → IsTied (after s c a o)
  unfolding after
  tie_kept (act.EndTransfer t) asks = by_end IsTied o _ _ (λ e. h) (λ e. h)
  tie_kept act.TakeSupervisor asks = h ∙ asks
  tie_kept (act.Answer r) asks = h ∙ asks
  tie_kept act.GiveUp asks = h ∙ asks
  tie_kept (act.Create f u p r) asks = h ∙ asks
  tie_kept (act.Start f u p) asks = h ∙ asks
  tie_kept (act.Evict f) asks =
      tied (taken (with_store s (with_choice s.store f)) c aim.Evicting (what.Page f) (f ∷ []) (still (h ∙ asks) asks))
  tie_kept (act.Empty u) asks = tied (segment c u (frames_from s.store.ast u 0) (trailers_in s.store u) (idle asks))
  tie_kept (act.EmptyVictim pool chain u) asks = tied (segment c u
      (frames_from (with_store s (with_hand_moved s.store pool chain)).store.ast u 0)
      (trailers_in (with_store s (with_hand_moved s.store pool chain)).store u) (still (h ∙ asks) asks))
  tie_kept (act.TakeAway fs pairs w) asks = tied (all_taken s c aim.Committing w fs pairs (idle asks))
  tie_kept (act.BeginMove u volume) asks = refl
  tie_kept (act.CopyPage m p) asks = by_end IsTied o (page_copied (with_faults s o.faults) c m p)
      (copy_failed s c o.faults) (λ e. refl) (λ e. refl)
  tie_kept (act.CommitMove m) asks = refl
  tie_kept (act.Signal w) asks = h ∙ sym (signalled_mover s.owner)
  tie_kept (act.FinishEviction f) asks =
      by_end IsTied o _ _ (λ e. h ∙ asks) (λ e. tied (failed s c o.faults (idle asks)))
  tie_kept (act.FinishPage f) asks =
      by_end IsTied o _ _ (λ e. h ∙ sym (fewer_mover s.owner)) (λ e. tied (failed s c o.faults (idle asks)))
  tie_kept (act.Deactivate u) asks = tied (gone s c u (idle asks))
  tie_kept act.Commit asks = tied (commits s c (next_command s (process_at s c)) (idle asks))
  tie_kept _ asks = h
