-- What a step asks, along the rules in their order, follows from the whole promise and from what the calls of the store
-- say.
use Rattle.machine_model.proofs.StepBasics.{cases_Bool, inl, inr, eqb-true, and_parts, not-true, not-false, Move, [], ◌≡◌, ◌<◌, ℕ, ◌+◌, ◌*◌, true, false, not, ◌&&◌, eqb, List, ◌∷◌, get_or, length, position, Option, Some, None, refl, sym, ap, subst, ◌∙◌, arith, zero, suc, ◌/◌, ◌%◌, nat_le, cond_both, Rose, reference_of, Command, Reference, HeldSeg, What, frame_of, seg_of, Ptw, Sdw, words_in, by_descriptor, by_held, by_page, by_seg, by_word, Transfer, MayMove, word_reply, Mover, IsMovedFor, is_active, sdws_at, word_of, table_of, next_out, MayRelease, new_word, permits, words_zero, Aim, Phase, Processor, action_of, by_move, clear_or, come_to, finish_of, go_on_with, has_had_its_turn, is_empty, load_or_idle, look_of, move_of, once_cleared, own_or_run, refer_or_take, run_process, take_or_wait, transfer_or, copy_or_commit, Outcome, page_at, IsEntitledToAll, seen, are_zeros, left_of, Keeps, IsMachine, IsReading, cpu_at, cut_of_owner, descriptor_of, flat_of, frames_of_owner, is_due, next_command, or_zero, process_at, processor_at, Says, Owner, State, write_failed, StoreSays, aimed_at, going_for, IsTakenBy, TakenIn, FailsBy, FailsIn, IsWorking, MayFailBy, TakesSome, has_head, What as what, Ptw as ptw, Sdw as sdw, Left as left, Move as move, Reply as reply, Aim as aim, Phase as phase, Action, ForTransfer, Action as act, length-map, IsTree, IsLawful, after_entry, moved, store_after-push, entry_total, modified_of, after, copy_failed, move_begun, move_committed, page_copied, without_move, run_at, fault_told, with_faults, with_store, Entry as entry, action_by, LookFinds, look_finds, IsIdle, bound_word, deactivated_says, eviction_failed_says, evicted_says, evicting_says, page_failed_says, page_left_says, read_says, started_says, failed_says, gone_is, none_rest, says_is, fails_more, Speaks, speaks, speaks_of, takes_tree, active_at, taken_bound, bound_stored, length_asks as too_long_asks, no_access_asks, through_asks, zero_asks, Asks, AsksCommit, IsLooking, look_idle, look_still, process_here, HasWaited, IsMoving, IsAnswering, segs_are_gone, commit_asks, look_rests, taken_rests, look_taken, CanFailWrite, IsMine, empties_goes, alike, alike_by, alike_on, fault_alike, refused_alike}
use Rattle.machine_model.proofs.EmptyAsks.{length_asks, victim_asks, may_deactivate}
use Rattle.machine_model.proofs.WantLaws.{may_move, may_rehome}
use Rattle.machine_model.proofs.LookAsks.{activate_asks, answer_asks, connect_asks, create_asks}
use Rattle.machine_model.proofs.ReadKept.{read_fails}
use Rattle.machine_model.proofs.TruncateRests.{commit_rests}
use Rattle.machine_model.proofs.JobAsks.{read_asks, write_asks, copy_asks}
use Rattle.machine_model.proofs.TakeAsks.{take_asks, takes_none}
use Rattle.machine_model.proofs.WorkStep.{moving_fails, moving_rests}
use Rattle.machine_model.proofs.RulesKept.{some_again}

-- ---- What the store says after each step of a move, by what its calls say of it.

module _ {s : State} (c : ℕ) (o : Outcome) (k : Keeps s) where
  pub begun_says : (u volume : ℕ) → Says s c o (act.BeginMove u volume) → StoreSays (move_begun s c u volume)
  unfolding after
  begun_says u volume says = says_is k says refl
      (alike (flat_of s)) k.conserved.total (none_rest s (move_begun s c u volume) refl refl refl)

  pub copied_says : (m : Mover) (p : ℕ) → Says s c o (act.CopyPage m p) → o.failed ≡ false
      → StoreSays (page_copied (with_faults s o.faults) c m p)
  unfolding after
  copied_says m p says h = says_is k says (cc) (alike (flat_of s)) k.conserved.total (none_rest s (page_copied
      (with_faults s o.faults) c m p) refl refl refl)

  pub copy_failed_says : (m : Mover) (p : ℕ) → Says s c o (act.CopyPage m p) → o.failed ≡ true
      → StoreSays (copy_failed s c o.faults)
  unfolding after
  copy_failed_says m p says h = says_is k says (cc) (alike_on (fault_alike s.plan s.entries (Some (process_at s c)))
      (refused_alike s.plan failing.entries (process_at s c) (run_at s.runs (process_at s c)).place c None reply.Device
      refl)) k.conserved.total (none_rest s (copy_failed s c o.faults) refl refl refl)
    where
      failing : State
      failing = fault_told (with_store s (without_move s.store)) (Some (process_at s c)) o.faults

  pub moved_says : (m : Mover) → Says s c o (act.CommitMove m)
      → MayMove s.plan (flat_of s) (process_at s c) m.uid m.to.0 → StoreSays (move_committed s c m)
  unfolding after after_entry IsLawful
  moved_says m says may = says_is k says refl
      (alike_by (alike (moved (flat_of s) m.uid m.to.0)) (store_after-push s.plan s.entries
      (entry.Moved (process_at s c) m.uid m.to.0)))
      (cc (entry_total s.plan (flat_of s) (entry.Moved (process_at s c) m.uid m.to.0)
      (subst IsTree (sym k.faithful.tree.nodes) k.store.accounts.tree) may))
      (none_rest s (move_committed s c m) refl (length-map s.store.pages.core.frames (modified_of m.uid)) refl)

-- ---- a page is read

-- a processor that reads has a process, of whose command a drive's failure may be told
pub record ReadsFor (s : State) (c : ℕ) : Type 0 where
  pub its : (cpu_at s.processors c).process ≡ Some (process_at s c)
  pub may : MayFailBy s.store (process_at s c) (next_command s (process_at s c))

-- each that has a transfer under way does
pub reads_for : (s : State) (c : ℕ) (t : Transfer) → Keeps s → IsReading s
    → (cpu_at s.processors c).transfer ≡ Some t → ReadsFor s c
reads_for s c t keeps reading mine = let r = reading.each c t mine in let same = ap or_zero r.its in record {
  its = cc;
  may = read_fails s c t keeps mine (process_at s c) (next_command s (process_at s c)) (rw same r.wants);
}

pub reads_answering : {s : State} {c : ℕ} → IsMachine s → c < length s.processors → ReadsFor s c → IsAnswering s c
reads_answering {s} {c} m there r = let one = speaks s c (process_at s c) m there r.its in record {
  process = process_at s c;
  its = r.its;
  known = one.1.known;
  more = cc (fails_more s (process_at s c) m.keeps.faithful one.0
      (subst (MayFailBy s.store (process_at s c)) one.1.next r.may));
}

abbrev Follows : State → ℕ → Outcome → Action → Type 0
Follows s c o a = Says s c o a → Asks s c o a

-- a page of zeros that is in a frame may be given up
zeros_at : (ws : List ℕ) (i : ℕ) → are_zeros ws ≡ true → get_or ws i 0 ≡ 0
zeros_at [] i h = refl
zeros_at (w ∷ ws) zero h = eqb-true w 0 (and_parts (eqb w 0) (are_zeros ws) h).0
zeros_at (w ∷ ws) (suc i) h = zeros_at ws i (and_parts (eqb w 0) (are_zeros ws) h).1

pub release_may : {s : State} (f u p : ℕ) → Keeps s → (seen s).bound f ≡ Some (u, p)
    → left_of (words_in s.store.pages f) ≡ left.Released → MayRelease (flat_of s) u p
release_may {s} f u p k bound released = record {
  there = bound_stored k f u p active bound;
  zeros = words_zero (flat_of s).words u p (λ i less. (let page : (1024 * p + i) / 1024 ≡ p = omega arith in
      bound_word s k u active f (1024 * p + i) (cc)
      ∙ zeros_at (words_in s.store.pages f) ((1024 * p + i) % 1024) zeros));
}
  where
    active : is_active s.store.ast u ≡ true
    active = (let at = k.store.kept.paged.bound f u p bound in active_at s.store.ast at.0 u at.1)

    zeros : are_zeros (words_in s.store.pages f) ≡ true
    zeros = elim (cases_Bool (are_zeros (words_in s.store.pages f))) [
      | inl e ↦ e
      | inr e ↦ absurd (let none : left.Kept ≡ left.Released = rw e at released in cc)
    ]

module _ (s : State) (c : ℕ) (o : Outcome) (m : IsMachine s) (there : c < length s.processors)
    (entitled : IsEntitledToAll s) (reading : IsReading s) (working : IsWorking s) where
  abbrev p : Processor
  p = processor_at s.processors c

  abbrev k : ℕ
  k = process_at s c

  -- ---- a processor that runs its process by itself

  take_follows : (x : Option Owner) → Follows s c o (take_or_wait x)
  take_follows None says = tt
  take_follows (Some q) says = tt

  module _ (cmd : Command) (sp : Speaks s c k cmd) (r : Reference) (is : reference_of cmd ≡ Some r) where
    descriptor_follows : (y : Sdw) → Follows s c o (by_move s.owner r (by_descriptor y))
    descriptor_follows sdw.Fault = take_follows s.owner
    descriptor_follows (sdw.Present aste mode pages) = λ says. tt

    held_follows : (h : HeldSeg) → seg_of p.cpu.assoc r.number ≡ Some h
        → Follows s c o (by_move s.owner r (by_held p.cpu.assoc (λ u q. word_of s.store.ast u q) r h))
    held_follows h held = cond_both (not (permits h.mode r.kind)) (move.Plain reply.NoAccess) _ Goes
        (λ off says. no_access_asks s c m.keeps entitled cmd sp r is h held (not-true (permits h.mode r.kind) off))
        (λ on. cond_both (nat_le (1024 * h.pages) r.offset) (move.Plain reply.Length) _ Goes
        (λ long says. too_long_asks s c m.keeps entitled cmd sp r is h held (not-false (permits h.mode r.kind) on) long)
        (λ short. page_follows (not-false (permits h.mode r.kind) on) short
        (frame_of p.cpu.assoc h.uid (r.offset / 1024)) refl))
      where
        Goes : Move → Type 0
        Goes x = Follows s c o (by_move s.owner r x)

        word_follows : permits h.mode r.kind ≡ true → nat_le (1024 * h.pages) r.offset ≡ false → (w : Ptw)
            → word_of s.store.ast h.uid (r.offset / 1024) ≡ w → Goes (by_word w r.kind)
        word_follows on short ptw.Null e = cond_both (eqb (new_word 0 r.kind) 0) (move.Plain (word_reply 0 r.kind))
            move.Fault Goes (λ i says. zero_asks s c m.keeps entitled cmd sp r is h held on short e i)
            (λ i. take_follows s.owner)
        word_follows on short (ptw.Here f) e = λ says. tt
        word_follows on short _ e = take_follows s.owner

        page_follows : permits h.mode r.kind ≡ true → nat_le (1024 * h.pages) r.offset ≡ false → (x : Option ℕ)
            → frame_of p.cpu.assoc h.uid (r.offset / 1024) ≡ x
            → Goes (by_page x (word_of s.store.ast h.uid (r.offset / 1024)) r.kind)
        page_follows on short (Some f) e = λ says.
            through_asks s c m.keeps entitled cmd sp r is h held on short o f e says
        page_follows on short None e = word_follows on short (word_of s.store.ast h.uid (r.offset / 1024)) refl

    refer_follows : Follows s c o (by_move s.owner r (move_of s p.cpu k r))
    refer_follows = by (seg_of p.cpu.assoc r.number) refl
      where
        by : (x : Option HeldSeg) → seg_of p.cpu.assoc r.number ≡ x
            → Follows s c o (by_move s.owner r (by_seg p.cpu.assoc (sdws_at s.store.links.descriptors k)
            (λ u q. word_of s.store.ast u q) r x))
        by None e = descriptor_follows (descriptor_of s.store.links k r.number)
        by (Some h) e = held_follows h e

  come_follows : p.cpu.process ≡ Some k → (x : Option Command) → next_command s k ≡ x
      → Follows s c o (come_to s p.cpu k x)
  come_follows its None e = take_follows s.owner
  come_follows its (Some cmd) e = by (reference_of cmd) refl
    where
      by : (y : Option Reference) → reference_of cmd ≡ y → Follows s c o (refer_or_take s p.cpu k y)
      by None i = take_follows s.owner
      by (Some r) i = refer_follows cmd (speaks_of c m there its e) r i

  run_follows : (x : Option ℕ) → p.cpu.process ≡ x → Follows s c o (run_process s p x)
  run_follows None e = by s.ready
    where
      by : (xs : List ℕ) → Follows s c o (load_or_idle s xs)
      by [] says = tt
      by (n ∷ ns) says = tt
  run_follows (Some n) e = cond_both (has_had_its_turn p && not (is_empty s.ready)) act.Leave
      (come_to s p.cpu n (next_command s n)) (Follows s c o) (λ h says. tt)
      (λ h. (rw (ap or_zero e) at (come_follows (some_again e) (next_command s k) refl)))

  -- ---- the owner looks

  module _ (l : IsLooking s c) (cmd : Command) (sp : Speaks s c k cmd) where
    idle : IsIdle s.owner
    idle = look_idle s c o m.keeps there l

    look_follows : (a : Action) → LookFinds s k cmd a → Follows s c o a
    look_follows (act.Answer r) h says = answer_asks s c o m idle cmd sp h
    look_follows (act.Activate u place) h says = activate_asks s c o m idle cmd sp h says
    look_follows (act.Connect n u) h says = connect_asks s c o m idle cmd sp h says
    look_follows (act.Create f u q r) h says = create_asks s c o m idle cmd sp h says
    look_follows (act.Start f u q) h says = started_says f u q m.keeps says
    look_follows (act.Evict f) h says = evicting_says f m.keeps says idle.cut
    look_follows (act.Empty u) h says = length_asks s c o k u cmd m.keeps idle (look_still s c o m.keeps there l) h says
    look_follows (act.EmptyVictim pool chain u) h says =
        victim_asks m.keeps idle (look_still s c o m.keeps there l) h says
    look_follows (act.TakeAway fs pairs w) h says = take_asks s k m.keeps idle c o cmd w fs pairs h.0 h.1 says
    look_follows act.Commit h says = subst (AsksCommit s c) (sym sp.next) (commit_asks s c o m.keeps cmd sp h.tree says
        (look_rests c m.keeps idle.frames cmd h
        (commit_rests c m.keeps cmd (look_taken c m.keeps idle h
        (takes_none s k m.keeps idle what.All)))))
    look_follows (act.BeginMove u volume) h says = begun_says c o m.keeps u volume says
    look_follows (act.Waits (ForTransfer f)) h says = tt
    look_follows act.GiveUp h says = tt
    look_follows _ h says = absurd h

  -- ---- what was taken goes

  -- the first frame that the owner took has a page
  frame_bound : (f : ℕ) (fs : List ℕ) → frames_of_owner s.owner ≡ f ∷ fs
      → (seen s).bound f ≡ Some ((page_at (seen s) f).0, (page_at (seen s) f).1)
  frame_bound f fs e = taken_bound m.keeps f (rw e (has_head f fs))

  -- a drive's failure may be told of the owner's command
  fails_by : {a : Aim} {w : What} (x : HasWaited s c a w) → FailsBy a s.store k (next_command s k)
  fails_by x = rw x.owner.same at (subst (λ (y : Phase). FailsIn y s.store (process_at s x.owner.owner.cpu)
      (next_command s (process_at s x.owner.owner.cpu))) x.waits (working.fails x.owner.owner x.owner.mine))

  -- what the owner took for its command is just what it takes
  taken_by : (w : What) (x : HasWaited s c aim.Committing w) → IsTakenBy s k (next_command s k)
  taken_by w x = rw x.owner.same at (subst (λ (y : Phase). TakenIn y s (process_at s x.owner.owner.cpu)
      (next_command s (process_at s x.owner.owner.cpu))) x.waits (working.taken x.owner.owner x.owner.mine))

  write_follows : (x : Option Command) → next_command s k ≡ x → p.cpu.process ≡ Some k → MayFailBy s.store k x
      → o.failed ≡ true → Rose s.faults o.faults → StoreSays (write_failed s c o.faults)
      → CanFailWrite s c o × IsAnswering s c
  write_follows None e its may h rose says = absurd may
  write_follows (Some cmd) e its may h rose says = let sp = speaks_of c m there its e in
      write_asks o m.keeps sp may rose says

  -- what goes of the segment of a deactivation is all of it
  aim_of : {a : Aim} {w : What} → HasWaited s c a w → going_for s.owner ≡ aimed_at a
  aim_of x = cc

  finish_follows : (a : Aim) (w : What) (x : HasWaited s c a w) → p.cpu.process ≡ Some k → (fs : List ℕ)
      → x.owner.owner.frames ≡ fs → Follows s c o (finish_of a fs)
  finish_follows aim.Evicting w x its [] e says = tt
  finish_follows aim.Evicting w x its (f ∷ fs) e says = record {
    well = λ h. (
      says.never_less,
      release_may f (page_at (seen s) f).0 (page_at (seen s) f).1 m.keeps (frame_bound f fs (cc)),
      evicted_says s c o f m.keeps says h,
    );
    ill = λ h. (write_follows (next_command s k) refl its (fails_by x) h (says.counted h)
        (eviction_failed_says c o f m.keeps h says)).0;
  }
  finish_follows (aim.Deactivating u) w x its [] e says = let leaf = working.leaf u (aim_of x) in assumption (
    may_deactivate s u m.keeps working.whole (aim_of x) (cc)
        (segs_are_gone s (cut_of_owner s.owner) m.keeps.book (empties_goes s c o m.keeps there u x e))
        leaf.active (λ v active h. leaf.inferiors v active (cc ((gone_is s (cut_of_owner s.owner)).flat))),
    deactivated_says u m.keeps says,
  )
  finish_follows (aim.Deactivating u) w x its (f ∷ fs) e says = record {
    well = λ h. (
      says.never_less,
      release_may f (page_at (seen s) f).0 (page_at (seen s) f).1 m.keeps (frame_bound f fs (cc)),
      page_left_says s c o f m.keeps says h,
    );
    ill = λ h. (write_follows (next_command s k) refl its (fails_by x) h (says.counted h)
        (page_failed_says c o f m.keeps h says)).0;
  }
  finish_follows aim.Committing w x its fs e says = let one = speaks s c k m there its in
      let some : TakesSome (Some one.0) = subst TakesSome one.1.next (fails_by x) in
      subst (AsksCommit s c) (sym one.1.next) (commit_asks s c o m.keeps one.0 one.1 (takes_tree one.0 some) says
      (taken_rests s c one.0 some (commit_rests c m.keeps one.0 (subst (IsTakenBy s k) one.1.next (taken_by w x)))))

  -- a segment moves
  move_follows : (x : Mover) → IsMoving s c x → p.cpu.process ≡ Some k → (next : Option ℕ)
      → Follows s c o (copy_or_commit x next)
  move_follows x moving its (Some n) says = record {
    well = λ h. (says.never_less, copied_says c o m.keeps x n says h);
    ill = λ h. (let one = speaks s c k m there its in copy_asks o m.keeps one.1
        (subst (MayFailBy s.store k) one.1.next (moving_fails c o m working moving)) (says.counted h)
        (copy_failed_says c o m.keeps x n says h));
  }
  move_follows x moving its None says = record {
    may = moves;
    rehomes = may_rehome s rests;
    says = moved_says c o m.keeps x says moves;
  }
    where
      rests : IsMovedFor s.store k x (next_command s k)
      rests = moving_rests c o m working moving

      moves : MayMove s.plan (flat_of s) k x.uid x.to.0
      moves = let one = speaks s c k m there its in may_move m.keeps one.1 rests

  phase_follows : (q : IsMine s c) → p.cpu.process ≡ Some k → (x : Phase) → q.owner.phase ≡ x
      → Follows s c o (go_on_with s k q.owner x)
  phase_follows q its phase.Looking e = let one = speaks s c k m there its in
      subst (λ (y : Option Command). Follows s c o (look_of s k y)) (sym one.1.next)
      (look_follows (record { owner = q; looks = e }) one.0 one.1 (look_of s k (Some one.0)) (look_finds s k one.0))
  phase_follows q its (phase.Taken a w) e = λ says. tt
  phase_follows q its (phase.Waiting a w) e = by (position is_due s.processors) refl
    where
      by : (x : Option ℕ) → position is_due s.processors ≡ x
          → Follows s c o (once_cleared x (finish_of a q.owner.frames))
      by None h = finish_follows a w (record { owner = q; waits = e; cleared = h }) its q.owner.frames refl
      by (Some d) h = λ says. tt
  phase_follows q its (phase.Moving x) e =
      move_follows x (record { owner = q; moves = e }) its (next_out (table_of s.store.ast x.uid) x.next)

  -- ---- the rules in their order

  owner_follows : (x : Option Owner) → s.owner ≡ x → Follows s c o (own_or_run s c p x)
  owner_follows None e = run_follows p.cpu.process refl
  owner_follows (Some q) e = cond_both (eqb q.cpu c) (go_on_with s k q q.phase) (run_process s p p.cpu.process)
      (Follows s c o) (λ h. mine (eqb-true q.cpu c h)) (λ h. run_follows p.cpu.process refl)
    where
      mine : q.cpu ≡ c → Follows s c o (go_on_with s k q q.phase)
      mine is = phase_follows (record { owner = q; mine = e; same = is })
          (process_here s c o m.keeps there (record { owner = q; mine = e; same = is })) q.phase refl

  transfer_follows : (x : Option Transfer) → p.cpu.transfer ≡ x → Follows s c o (transfer_or s c p x)
  transfer_follows (Some t) e = λ says. record {
    well = λ h. (says.never_less, read_says t m.keeps says h);
    ill = λ h. (let r = reads_for s c t m.keeps reading e in let one = speaks s c k m there r.its in
        (read_asks s c o t one.0 m.keeps one.1 (subst (MayFailBy s.store k) one.1.next r.may) (says.counted h)
        (failed_says t m.keeps says h)).0);
  }
  transfer_follows None e = owner_follows s.owner refl

  clear_follows : (x : Option What) → Follows s c o (clear_or s c p x)
  clear_follows (Some w) = λ says. tt
  clear_follows None = transfer_follows p.cpu.transfer refl

  -- What a step asks follows.
  pub step_asks : Follows s c o (action_of s c)
  step_asks = action_by (Follows s c o) s c (λ says. tt) (λ says. tt) (λ off says. tt) (λ on. clear_follows p.cpu.due)
