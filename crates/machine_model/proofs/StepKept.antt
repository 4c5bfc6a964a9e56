-- Each action of a processor keeps the machine's promise.
use Rattle.machine_model.proofs.Kept.{[], ◌≡◌, ◌<◌, ◌≤◌, ℕ, ◌-◌, Bool, true, false, map, List, ◌∷◌, ◌++◌, length, ◌⊎◌, inl, inr, Option, Some, None, refl, sym, ap, subst, ◌∙◌, Rose, HeldSeg, What, Command, Reference, Reply, words_in, entry_at, uid_at, first_off_chain, hand_past, Transfer, place_of, sdws_at, table_of, MayFault, MayRelease, MayMove, word_reply, IsFront, MayActivate, MayDeactivate, MayLeave, MayRehome, Mover, Aim, Outcome, after, by_outcome, page_at, committed, cut_entry, KeepsBook, is_pending, seen, emptied, eviction_begun, eviction_done, left_of, page_done, segment_taken, segs_gone, took, victim_taken, with_hand_moved, write_failed, IsAtWork, Keeps, StoreSays, copy_failed, move_begun, move_committed, page_copied, cpu_at, cut_of_owner, descriptor_of, flat_of, frames_from, frames_of_owner, next_command, process_at, processor_at, trailers_in, reply_of, shown, Owner, State, Storage, activated_at, connected_to, fault_told, frame_lost, held_page, held_seg, looking, old_word, page_created, page_made, pages_after, started, told, transfer_failed, transferred, went_through, with_faults, with_owner, with_pages, with_store, position, is_for, word_of, has, NoneDue, gone_segs, gones, stays, FitsPhase, IsShaped, is_out, says, is_due, no_processor, CutDescriptor, has_head, some_unwrapped, committed_at, deactivation_begun, eqb_self, What as what, Command as command, Reply as reply, Left as left, Aim as aim, Phase as phase, Action, Action as act, by_end, GoesOn, IsDone, IsSteady, CanConnect, CanFinish, IsNoOwner, clear_kept, fill_page_kept, fill_seg_kept, tell_kept_leave_kept as leave_kept, tell_kept_load_kept as load_kept, online_kept, tell_kept_CanTell as CanTell, owner_kept, tell_kept, IsIdle, owned_laws_nobody as nobody, CanFillPage, CanFillSeg, none_some, failed_kept, kept_with, started_kept, transferred_kept, within_some, none_due, choice_bound, free_frame, position_none, unread_page, mover_tied_IsLook as IsLook, looking_idle, moves_idle, word_within, IsOver, activate_kept, connect_kept, created_kept, emptied_kept, looks_idle, through_kept, segs_are_gone, all_back, all_failed_kept, eviction_failed_kept, evict_kept, signal_kept, eviction_kept, page_kept, commit_kept, effected, end_kept, ready_left, CanTook, Owns, took_kept}
use Rattle.machine_model.proofs.DeleteKept.{taken_word, delete_inactive_kept, delete_kept, GoesWhole, TookNothing}
use Rattle.machine_model.proofs.MovingKept.{begun_kept, copied_kept, copy_failed_kept, copy_failing, moved_kept}
use Rattle.machine_model.proofs.TruncateKept.{truncate_kept, leaves, LeavesCut}
use Rattle.machine_model.proofs.TakeLists.{segment_takes}

-- ---- the owner

-- the owner is this processor
pub record IsMine (s : State) (c : ℕ) : Type 0 where
  pub owner : Owner
  pub mine : s.owner ≡ Some owner
  pub same : owner.cpu ≡ c

-- the owner looks
pub record IsLooking (s : State) (c : ℕ) : Type 0 where
  pub owner : IsMine s c
  pub looks : owner.owner.phase ≡ phase.Looking

-- the owner moves a segment
pub record IsMoving (s : State) (c : ℕ) (m : Mover) : Type 0 where
  pub owner : IsMine s c
  pub moves : owner.owner.phase ≡ phase.Moving m

-- the owner waits, and every processor has cleared
pub record HasWaited (s : State) (c : ℕ) (a : Aim) (w : What) : Type 0 where
  pub owner : IsMine s c
  pub waits : owner.owner.phase ≡ phase.Waiting a w
  pub cleared : position is_due s.processors ≡ None

-- ---- what the store, the flat store and custody are to say of an action

-- a drive's failure is told of a transfer
pub record CanLose (s : State) (c : ℕ) (t : Transfer) (faults : ℕ) : Type 0 where
  pub rose : Rose s.faults faults
  pub may : MayFault (flat_of (frame_lost s c t)) (Some (process_at s c))
  pub tell : CanTell (fault_told (frame_lost s c t) (Some (process_at s c)) faults) c
      (process_at (fault_told (frame_lost s c t) (Some (process_at s c)) faults) c) None reply.Device
  pub says : StoreSays (transfer_failed s c t faults)

pub record AsksEnd (s : State) (c : ℕ) (t : Transfer) (o : Outcome) : Type 0 where
  pub well : o.failed ≡ false → (s.faults ≤ o.faults) × StoreSays (transferred (with_faults s o.faults) c t)
  pub ill : o.failed ≡ true → CanLose s c t o.faults

-- a refusal, an answer without a page, or a drive's failure ends a look
pub record CanReply (s : State) (c : ℕ) (r : Reply) : Type 0 where
  pub tell : CanTell s c (process_at s c) None r
  pub says : StoreSays (told s c None r)

pub record CanGoThrough (s : State) (c f : ℕ) (r : Reference) : Type 0 where
  pub tell : CanTell (with_store s (with_pages s.store (pages_after s.store.pages f r))) c (process_at s c) (Some f)
      (word_reply (old_word s.store.pages f r) r.kind)
  pub says : StoreSays (went_through s c f r)

pub record CanActivateAt (s : State) (u place : ℕ) : Type 0 where
  pub may : MayActivate s.plan (flat_of s) (shown (seen s)) u
  pub free : entry_at s.store.ast.entries place ≡ None
  pub within : place < length s.store.ast.entries
  pub says : StoreSays (activated_at s u place)

pub record CanConnectTo (s : State) (c n u : ℕ) : Type 0 where
  pub can : CanConnect (seen s) (process_at s c) n u
  pub outer : process_at s c < length s.store.links.descriptors
  pub inner : n < length (sdws_at s.store.links.descriptors (process_at s c))
  pub active : uid_at s.store.ast.entries (place_of s.store.ast.entries u) ≡ Some u
  pub says : StoreSays (connected_to s c n u)

pub record AsksCreate (s : State) (c f u p : ℕ) (r : Reference) : Type 0 where
  pub active : place_of s.store.ast.entries u < length s.store.ast.entries
  pub inner : p < length (table_of s.store.ast u)
  pub tell : CanTell (page_made s f u p r) c (process_at s c) None (word_reply 0 r.kind)
  pub says : StoreSays (page_created s c f u p r)

pub record AsksTake (s : State) (c : ℕ) (w : What) (fs : List ℕ) (pairs : List (ℕ × ℕ)) : Type 0 where
  pub can : CanTook s aim.Committing w fs pairs
  pub says : StoreSays (took s c aim.Committing w fs pairs)

-- a drive's failure is told of the write of a page
pub record CanFailWrite (s : State) (c : ℕ) (o : Outcome) : Type 0 where
  pub rose : Rose s.faults o.faults
  pub may : MayFault (flat_of s) (Some (process_at s c))
  pub tell : CanTell (with_owner (all_back s c o.faults (frames_of_owner s.owner) (cut_of_owner s.owner)) None) c
      (process_at (all_back s c o.faults (frames_of_owner s.owner) (cut_of_owner s.owner)) c) None reply.Device
  pub says : StoreSays (write_failed s c o.faults)

-- a page leaves its frame: one that is released is all zeros and stored
pub record AsksFinish (s : State) (c f : ℕ) (o : Outcome) (done : State) : Type 0 where
  pub well : o.failed ≡ false → (s.faults ≤ o.faults) × (left_of (words_in s.store.pages f) ≡ left.Released
      → MayRelease (flat_of s) (page_at (seen s) f).0 (page_at (seen s) f).1) × StoreSays done
  pub ill : o.failed ≡ true → CanFailWrite s c o

pub record AsksEmptied (s : State) (c u : ℕ) : Type 0 where
  pub may : MayDeactivate (flat_of (segs_gone s (cut_of_owner s.owner)))
      (shown (seen (segs_gone s (cut_of_owner s.owner)))) u
  pub says : StoreSays (emptied s c u)

-- a page of a segment that moves is copied, or can't be; and the segment has moved
pub record CanFailCopy (s : State) (c : ℕ) (o : Outcome) : Type 0 where
  pub rose : Rose s.faults o.faults
  pub may : MayFault (flat_of s) (Some (process_at s c))
  pub tell : CanTell (copy_failing s c o.faults) c (process_at s c) None reply.Device
  pub says : StoreSays (copy_failed s c o.faults)

pub record AsksCopy (s : State) (c : ℕ) (m : Mover) (p : ℕ) (o : Outcome) : Type 0 where
  pub well : o.failed ≡ false → (s.faults ≤ o.faults) × StoreSays (page_copied (with_faults s o.faults) c m p)
  pub ill : o.failed ≡ true → CanFailCopy s c o

pub record AsksMoved (s : State) (c : ℕ) (m : Mover) : Type 0 where
  pub may : MayMove s.plan (flat_of s) (process_at s c) m.uid m.to.0
  pub rehomes : MayRehome (shown (seen s)) m.uid
  pub says : StoreSays (move_committed s c m)

-- of a segment that is to be inactive: where nothing of it is here or connected it is so at once
abbrev pub AsksSegment : State → ℕ → ℕ → List ℕ → List (ℕ × ℕ) → Type 0
AsksSegment s c u [] [] = AsksEmptied s c u
AsksSegment s c u fs pairs = StoreSays (took s c (aim.Deactivating u) (what.Seg u) fs pairs)

abbrev pub AsksEmpty : State → ℕ → ℕ → Type 0
AsksEmpty s c u = AsksSegment s c u (frames_from s.store.ast u 0) (trailers_in s.store u)

-- the hand of the full pool moves first
pub record AsksVictim (s : State) (c pool : ℕ) (chain : List ℕ) (u : ℕ) : Type 0 where
  pub says : StoreSays (with_store s (with_hand_moved s.store pool chain))
  pub asks : AsksEmpty (with_store s (with_hand_moved s.store pool chain)) c u

-- what the job took for a command: after a truncation its frames and words are those after its entries; of a deletion
-- the node was taken whole, or nothing was, where it isn't active; for any other command no page was taken
abbrev pub IsSettled : State → ℕ → Command → Type 0
IsSettled s c (command.Truncate path words) = LeavesCut s c (process_at s c) path words
IsSettled s c (command.Delete path) = GoesWhole s c (process_at s c) path ⊎ TookNothing s c (process_at s c) path
IsSettled s c _ = frames_of_owner s.owner ≡ []

pub record AsksCommand (s : State) (c : ℕ) (cmd : Command) : Type 0 where
  pub settled : IsSettled s c cmd
  pub tell : CanTell (with_owner (effected s (process_at s c) cmd) None) c (process_at s c) None
      (reply_of s (process_at s c) cmd)
  pub says : StoreSays (committed s c (process_at s c) cmd)

abbrev pub AsksCommit : State → ℕ → Option Command → Type 0
AsksCommit s c None = Unit {0}
AsksCommit s c (Some cmd) = AsksCommand s c cmd

-- What the store says of the machine after an action, and what the flat store and custody say of an answer. A reference
-- by itself, a load, a signal and the like ask nothing.
abbrev pub Asks : State → ℕ → Outcome → Action → Type 0
Asks s c o (act.EndTransfer t) = AsksEnd s c t o
Asks s c o (act.Through f r) = CanGoThrough s c f r
Asks s c o (act.Plain r) = CanReply s c r
Asks s c o (act.Answer r) = CanReply s c r
Asks s c o (act.Activate u place) = CanActivateAt s u place
Asks s c o (act.Connect n u) = CanConnectTo s c n u
Asks s c o (act.Create f u p r) = AsksCreate s c f u p r
Asks s c o (act.Start f u p) = StoreSays (started s c f u p)
Asks s c o (act.Evict f) = StoreSays (eviction_begun s c f)
Asks s c o (act.Empty u) = AsksEmpty s c u
Asks s c o (act.EmptyVictim pool chain u) = AsksVictim s c pool chain u
Asks s c o (act.TakeAway fs pairs w) = AsksTake s c w fs pairs
Asks s c o (act.FinishEviction f) = AsksFinish s c f o (eviction_done (with_faults s o.faults) c f)
Asks s c o (act.FinishPage f) = AsksFinish s c f o (page_done (with_faults s o.faults) f)
Asks s c o (act.BeginMove u volume) = StoreSays (move_begun s c u volume)
Asks s c o (act.CopyPage m p) = AsksCopy s c m p o
Asks s c o (act.CommitMove m) = AsksMoved s c m
Asks s c o (act.Deactivate u) = AsksEmptied s c u
Asks s c o act.Commit = AsksCommit s c (next_command s (process_at s c))
Asks s c o _ = Unit {0}

-- ---- and what the rules find

-- a transfer ends, well or not
pub record CanEndTransfer (s : State) (c : ℕ) (t : Transfer) (o : Outcome) : Type 0 where
  pub mine : (processor_at s.processors c).cpu.transfer ≡ Some t
  pub well : o.failed ≡ false → (s.faults ≤ o.faults) × StoreSays (transferred (with_faults s o.faults) c t)
  pub ill : o.failed ≡ true → CanLose s c t o.faults

-- a processor gives its process up
pub record CanLeave (s : State) (c : ℕ) : Type 0 where
  pub process : ℕ
  pub its : (processor_at s.processors c).cpu.process ≡ Some process
  pub other : IsNoOwner s c
  pub may : MayLeave (flat_of s) (shown (seen s)) c

-- what a processor takes in of a descriptor
abbrev pub to_hold : State → ℕ → ℕ → HeldSeg
to_hold s c n = held_seg s.store n (descriptor_of s.store.links (process_at s c) n)

pub record CanFill (s : State) (c n : ℕ) : Type 0 where
  pub process : ℕ
  pub number : (to_hold s c n).number ≡ n
  pub can : CanFillSeg (seen s) c process (to_hold s c n)
  pub other : IsNoOwner s c

-- the owner looks, and comes to this action
pub record CanOnLook (s : State) (c : ℕ) (a : Action) (A : Type 0) : Type 0 where
  pub looking : IsLooking s c
  pub look : IsLook s a
  pub asks : A

pub record CanTakeAway (s : State) (c : ℕ) (w : What) (fs : List ℕ) (pairs : List (ℕ × ℕ)) : Type 0 where
  pub owner : IsMine s c
  pub can : CanTook s aim.Committing w fs pairs
  pub says : StoreSays (took s c aim.Committing w fs pairs)

pub record CanSignalNow (s : State) (c : ℕ) (w : What) : Type 0 where
  pub owner : IsMine s c
  pub aim : Aim
  pub taken : owner.owner.phase ≡ phase.Taken aim w

-- the owner has waited, with these frames to go
pub record CanFinishOn (s : State) (c : ℕ) (a : Aim) (fs : List ℕ) (A : Type 0) : Type 0 where
  pub what : What
  pub waited : HasWaited s c a what
  pub frames : waited.owner.owner.frames ≡ fs
  pub asks : A

-- what was taken is gone, and the job is over
abbrev pub IsCommitted : State → Type 0
IsCommitted s = KeepsBook (record (seen s) {
  owner = None;
  entries = s.entries ++ map cut_entry (cut_of_owner s.owner);
})

-- what was taken is gone, or the pages are back, and no clear is due
pub record IsReady (s : State) : Type 0 where
  pub none : NoneDue (shown (seen s))
  pub still : is_pending s.owner ≡ false
  pub gone : IsDone (gone_segs (gones (seen s) (frames_of_owner s.owner)) (cut_of_owner s.owner))
  pub left : cut_of_owner s.owner ≡ [] → (test : ℕ → Bool) → IsDone (leaves (seen s) test (frames_of_owner s.owner))
  pub over : frames_of_owner s.owner ≡ [] → IsCommitted s

pub record CanCommit (s : State) (c : ℕ) : Type 0 where
  pub ready : IsReady s
  pub its : (processor_at s.processors c).cpu.process ≡ Some (process_at s c)
  pub asks : AsksCommit s c (next_command s (process_at s c))

abbrev pub CanDo : State → ℕ → Outcome → Action → Type 0
CanDo s c o act.IsStopped = Unit {0}
CanDo s c o act.HasEnded = Unit {0}
CanDo s c o (act.Waits why) = Unit {0}
CanDo s c o act.Online = (processor_at s.processors c).cpu.online ≡ false
CanDo s c o (act.Clear w) = (processor_at s.processors c).cpu.due ≡ Some w
CanDo s c o (act.EndTransfer t) = CanEndTransfer s c t o
CanDo s c o (act.Load n) = ((processor_at s.processors c).cpu.online ≡ true) ×
    ((processor_at s.processors c).cpu.process ≡ None) × IsFront s.ready n
CanDo s c o act.Leave = CanLeave s c
CanDo s c o (act.FillSeg n) = CanFill s c n
CanDo s c o (act.FillPage f r) = CanFillPage (seen s) c (held_page (cpu_at s.processors c) f r) × IsNoOwner s c
CanDo s c o (act.Through f r) = CanGoThrough s c f r
CanDo s c o (act.Plain r) = CanReply s c r
CanDo s c o act.TakeSupervisor = (s.owner ≡ None) × IsAtWork (processor_at s.processors c)
CanDo s c o (act.TakeAway fs pairs w) = CanTakeAway s c w fs pairs
CanDo s c o (act.CopyPage m p) = IsMoving s c m × AsksCopy s c m p o
CanDo s c o (act.CommitMove m) = IsMoving s c m × AsksMoved s c m
CanDo s c o (act.Signal w) = CanSignalNow s c w
CanDo s c o (act.FinishEviction f) = (fs : List ℕ)
    × CanFinishOn s c aim.Evicting (f ∷ fs) (Asks s c o (act.FinishEviction f))
CanDo s c o (act.FinishPage f) = (u : ℕ) × (fs : List ℕ)
    × CanFinishOn s c (aim.Deactivating u) (f ∷ fs) (Asks s c o (act.FinishPage f))
CanDo s c o (act.Deactivate u) = CanFinishOn s c (aim.Deactivating u) [] (AsksEmptied s c u)
CanDo s c o act.Commit = CanCommit s c
CanDo s c o a = CanOnLook s c a (Asks s c o a)

-- ---- each action

-- an owner of another number than this processor's, by what is true of those at work
pub online_other : {s : State} (c : ℕ) → Keeps s → (processor_at s.processors c).cpu.online ≡ false → IsNoOwner s c
online_other c k off o h same = let no : true ≡ false = sym (k.at_work o h).online ∙ (cc) in cc

pub due_other : {s : State} (c : ℕ) {w : What} → Keeps s → (processor_at s.processors c).cpu.due ≡ Some w
    → IsNoOwner s c
due_other {s} c k due o h same = none_some (sym (k.at_work o h).clear
    ∙ (ap (λ (d : ℕ). (processor_at s.processors d).cpu.due) same ∙ due))

pub empty_other : {s : State} (c : ℕ) → Keeps s → (processor_at s.processors c).cpu.process ≡ None → IsNoOwner s c
empty_other c k none o h same = let no : true ≡ false = sym (k.at_work o h).busy ∙ (cc) in cc

-- custody doesn't see the hand of a pool
hand_seen : (s : State) (pool : ℕ) (chain : List ℕ) → seen (with_store s (with_hand_moved s.store pool chain)) ≡ seen s
hand_seen s pool chain = by (first_off_chain s.store.ast pool chain)
  where
    by : (x : Option ℕ) → seen (with_store s (record s.store { ast = hand_past s.store.ast pool x })) ≡ seen s
    by None = refl
    by (Some place) = refl

pub hand_kept : {s : State} (pool : ℕ) (chain : List ℕ) → Keeps s
    → StoreSays (with_store s (with_hand_moved s.store pool chain))
    → Keeps (with_store s (with_hand_moved s.store pool chain))
hand_kept {s} pool chain k says = kept_with (with_store s (with_hand_moved s.store pool chain))
    (subst KeepsBook (sym (hand_seen s pool chain)) k.book) says
    k.few_faults k.sizes.processors k.sizes.processes k.at_work

-- a job that has taken nothing is over
pub nothing_over : {s : State} → Keeps s → IsIdle s.owner → is_pending s.owner ≡ false
    → IsOver (segs_gone s (cut_of_owner s.owner))
nothing_over {s} k idle still = rw idle.cut (record {
  book = k.book;
  frames = idle.frames;
  cut = idle.cut;
  none = none_due (shown (seen s)) s.owner k.book.going_owned idle.waits;
  still = still;
})

module _ (s : State) (c : ℕ) (o : Outcome) (k : Keeps s) (there : c < length s.processors) where
  works_here : IsMine s c → IsAtWork (processor_at s.processors c)
  works_here m = subst (λ (d : ℕ). IsAtWork (processor_at s.processors d)) m.same (k.at_work m.owner m.mine)

  owns_here : IsMine s c → Owns s c
  owns_here m q h = ap (λ (x : Owner). x.cpu) (let is : q ≡ m.owner = cc (m.mine, h) in is) ∙ m.same

  pub process_here : IsMine s c → (processor_at s.processors c).cpu.process ≡ Some (process_at s c)
  process_here m = some_unwrapped (processor_at s.processors c).cpu.process (works_here m).busy

  -- ---- the owner looks

  pub look_idle : IsLooking s c → IsIdle s.owner
  look_idle l = subst IsIdle (sym l.owner.mine) (looking_idle (shown (seen s)) l.owner.owner
      (rw (← l.owner.mine) k.book.going_owned) l.looks)

  pub look_still : IsLooking s c → is_pending s.owner ≡ false
  look_still l = cc

  placed_active : (u : ℕ) → place_of s.store.ast.entries u < length s.store.ast.entries → (seen s).active u ≡ true
  unfolding place_of
  placed_active u h = within_some (is_for u) s.store.ast.entries h

  -- a page that isn't `Null` is of a segment that is active
  out_active : (u p : ℕ) → is_out (word_of s.store.ast u p) ≡ true → (seen s).active u ≡ true
  out_active u p h = placed_active u (rw (← k.store.kept.places) (word_within s.store.ast u p
      (λ e. (let no : false ≡ true = sym (ap is_out e) ∙ h in cc))).0)

  create_done : (f u p : ℕ) (r : Reference) → CanDo s c o (act.Create f u p r) → Keeps (page_created s c f u p r)
  create_done f u p r can = let free = free_frame s.store.pages.core f can.look.0 in
      created_kept f u p r k (record {
        inside = rw (← k.sizes.frames) free.0;
        unbound = free.1;
        unread = free.2;
        null = can.look.1;
        active = placed_active u can.asks.active;
      }) free.0 can.asks.active can.asks.inner (look_idle can.looking) (look_still can.looking) can.asks.tell
      can.asks.says

  start_done : (f u p : ℕ) → CanDo s c o (act.Start f u p) → Keeps (started s c f u p)
  start_done f u p can = let free = free_frame s.store.pages.core f can.look.0 in
      started_kept c f u p k there free.0 (record {
        inside = rw (← k.sizes.frames) free.0;
        unbound = free.1;
        unread = free.2;
        idle = (works_here can.looking.owner).idle;
        out = can.look.2;
        alone = unread_page s.store.pages.core u p can.look.1;
        active = out_active u p can.look.2;
      }) (look_idle can.looking) (look_still can.looking) can.asks

  segment_done : (u : ℕ) (fs : List ℕ) (pairs : List (ℕ × ℕ)) → IsLooking s c
      → CanTook s (aim.Deactivating u) (what.Seg u) fs pairs → AsksSegment s c u fs pairs
      → Keeps (segment_taken s c u fs pairs)
  segment_done u [] [] l can asks = emptied_kept k l.owner.mine l.owner.same
      (nothing_over k (look_idle l) (look_still l)) asks.may asks.says
  segment_done u fs pairs l can asks = took_kept c k can (owns_here l.owner) (works_here l.owner) asks

  empty_done : (u : ℕ) → IsLooking s c → AsksEmpty s c u → Keeps (deactivation_begun s c u)
  empty_done u l asks = segment_done u (frames_from s.store.ast u 0) (trailers_in s.store u) l
      (segment_takes (aim.Deactivating u) (what.Seg u) u 0 k (look_idle l) (eqb_self u) (λ gs cs. refl)) asks

  -- ---- a segment moves

  pub move_idle : {m : Mover} → IsMoving s c m → IsIdle s.owner
  move_idle {m} x = subst IsIdle (sym x.owner.mine) (moves_idle (shown (seen s)) x.owner.owner m
      (rw (← x.owner.mine) k.book.going_owned) x.moves)

  move_still : {m : Mover} → IsMoving s c m → is_pending s.owner ≡ false
  move_still x = cc

  -- ---- what was taken goes

  none_due_now : position is_due s.processors ≡ None → NoneDue (shown (seen s))
  none_due_now h d = by (processor_at s.processors d).cpu.due refl
    where
      by : (x : Option What) → (processor_at s.processors d).cpu.due ≡ x → x ≡ None
      by None e = refl
      by (Some w) e = cc (due, position_none is_due s.processors no_processor d h refl)
        where
          due : is_due (processor_at s.processors d) ≡ true
          due = rw ((k.book.holding_right d).warned w e, e) refl

  module _ (a : Aim) (w : What) (x : HasWaited s c a w) where
    pub wait_shape : FitsPhase (phase.Waiting a w) x.owner.owner.frames x.owner.owner.cut
    wait_shape = rw x.waits at (subst IsShaped x.owner.mine k.book.going_owned.shaped)

    pub wait_still : is_pending s.owner ≡ false
    wait_still = cc

    -- a deactivation, or a command, may have taken anything
    pub wait_goes : ((gs : List ℕ) (ds : List CutDescriptor) → FitsPhase (phase.Waiting a w) gs ds)
        → GoesOn (seen s) (frames_of_owner s.owner) (cut_of_owner s.owner)
    wait_goes steady = record {
      frames = refl;
      cut = refl;
      none = none_due_now x.cleared;
      still = wait_still;
      quiet = cc;
      steady = subst IsSteady (sym x.owner.mine) (λ gs ds. rw x.waits (steady gs ds));
    }

  pub empties_goes : (u : ℕ) {w : What} {fs : List ℕ} (x : HasWaited s c (aim.Deactivating u) w)
      → x.owner.owner.frames ≡ fs → GoesOn (seen s) fs (cut_of_owner s.owner)
  empties_goes u {w} x frames = subst (λ (gs : List ℕ). GoesOn (seen s) gs (cut_of_owner s.owner)) (cc)
      (wait_goes (aim.Deactivating u) w x (λ gs ds. wait_shape (aim.Deactivating u) w x))

  evict_done : (f : ℕ) → CanDo s c o (act.FinishEviction f)
      → Keeps (by_outcome o (eviction_done (with_faults s o.faults) c f) (write_failed s c o.faults))
  evict_done f can = by_end Keeps o _ _ (λ e. (let w = can.1.asks.well e in eviction_kept o.faults k x.owner.mine
      x.owner.same w.0 finish w.1 w.2))
      (λ e. (let i = can.1.asks.ill e in eviction_failed_kept s c o.faults (frames_of_owner s.owner)
      (cut_of_owner s.owner) k i.rose i.may frames cut frames cut finish
      (subst (λ (y : State). CanTell (with_owner y None) c (process_at y c) None reply.Device)
      (λ j. all_back s c o.faults (frames j) (cut j)) i.tell) i.says))
    where
      x : HasWaited s c aim.Evicting can.1.what
      x = can.1.waited

      page : ℕ × ℕ
      page = page_at (seen s) f

      shape : (g : ℕ) × (x.owner.owner.frames ≡ g ∷ []) × (can.1.what ≡ what.Page g) × (x.owner.owner.cut ≡ [])
      shape = wait_shape aim.Evicting can.1.what x

      frames : frames_of_owner s.owner ≡ f ∷ []
      frames = ap frames_of_owner x.owner.mine ∙ (let both : f ∷ can.0 ≡ shape.0 ∷ [] = sym can.1.frames ∙ shape.1 in
          let same : f ≡ shape.0 = cc in shape.1 ∙ ap (λ (n : ℕ). n ∷ []) (sym same))

      cut : cut_of_owner s.owner ≡ []
      cut = cc (x.owner.mine, shape.3)

      finish : CanFinish (seen s) f page.0 page.1 (Some (looking c))
      finish = record {
        leaving = taken_word k f (ap (λ (gs : List ℕ). has gs f) frames ∙ has_head f []);
        none = none_due_now x.cleared;
        still = wait_still aim.Evicting can.1.what x;
        after = refl;
        first = record { rest = []; first = frames; left = refl; same = sym cut; says = refl; shaped = (refl, refl) };
      }

  page_leaves : (f : ℕ) → CanDo s c o (act.FinishPage f)
      → Keeps (by_outcome o (page_done (with_faults s o.faults) f) (write_failed s c o.faults))
  page_leaves f can = let on = empties_goes can.0 can.2.waited can.2.frames in by_end Keeps o _ _
      (λ e. (let w = can.2.asks.well e in page_kept s f o.faults can.1 (cut_of_owner s.owner)
      can.2.waited.owner.owner k can.2.waited.owner.mine w.0 on w.1 w.2))
      (λ e. (let i = can.2.asks.ill e in all_failed_kept s c o.faults (frames_of_owner s.owner)
      (cut_of_owner s.owner) k i.rose i.may refl refl (rw on.frames on) i.tell i.says))

  -- ---- a command takes effect

  commit_done : IsReady s → (processor_at s.processors c).cpu.process ≡ Some (process_at s c) → (x : Option Command)
      → next_command s (process_at s c) ≡ x → AsksCommit s c x → Keeps (committed_at s c x)
  commit_done ready its None next asks = k
  commit_done ready its (Some command.End) next asks =
      end_kept s c (process_at s c) k asks.settled (ready.over asks.settled) its next asks.tell asks.says
  commit_done ready its (Some (command.Truncate path words)) next asks = truncate_kept s c (process_at s c) path words k
      asks.settled (ready.left asks.settled.cut (stays s.store words)) asks.tell asks.says
  commit_done ready its (Some (command.Delete path)) next asks = elim asks.settled [
    | inl whole ↦ delete_kept s c (process_at s c) path k whole ready.gone asks.tell asks.says
    | inr nothing ↦ delete_inactive_kept s c (process_at s c) path k nothing (assumption) asks.tell asks.says
  ]
  commit_done ready its (Some cmd) next asks = commit_kept s c (process_at s c) cmd k tt asks.settled
      (ready.over asks.settled) (λ x. refl) refl asks.tell asks.says

  -- ---- the whole

  keeps_by : ((pool : ℕ) (chain : List ℕ) (u : ℕ) → CanDo s c o (act.EmptyVictim pool chain u)
      → Keeps (victim_taken s c pool chain u)) → (a : Action) → CanDo s c o a → Keeps (after s c a o)
  unfolding after
  keeps_by victim act.Online can = online_kept s c (s.spare - 1) k there (online_other c k can) can
  keeps_by victim (act.Clear w) can = clear_kept s c (s.spare - 1) k there (due_other c k can) can
  keeps_by victim (act.EndTransfer t) can = by_end Keeps o _ _
      (λ e. (let w = can.well e in transferred_kept s c t k can.mine o.faults w.0 w.1))
      (λ e. (let i = can.ill e in failed_kept s c t k can.mine o.faults i.rose i.may i.tell i.says))
  keeps_by victim (act.Load n) can = load_kept s c (s.spare - 1) k there (empty_other c k can.1) n can.0 can.1 can.2
  keeps_by victim act.Leave can = rw (ready_left s c k.book can.its) (leave_kept s c (s.spare - 1) k there
      can.other can.may)
  keeps_by victim (act.FillSeg n) can = rw can.number at (fill_seg_kept s c (s.spare - 1) k there can.other can.can)
  keeps_by victim (act.FillPage f r) can = fill_page_kept s c (s.spare - 1) k there can.1 can.0
  keeps_by victim (act.Through f r) can = through_kept f r k can.tell can.says
  keeps_by victim (act.Plain r) can = tell_kept k can.tell can.says
  keeps_by victim act.TakeSupervisor can =
      owner_kept k (subst IsIdle (sym can.0) nobody) (looks_idle c) (ap is_pending can.0)
      (λ q h. (rw (ap (λ (x : Owner). x.cpu) (let is : looking c ≡ q = cc in is)) at can.1))
  keeps_by victim (act.Answer r) can = owner_kept (tell_kept k can.asks.tell can.asks.says)
      (look_idle can.looking) nobody (look_still can.looking) (λ q h. cc)
  keeps_by victim act.GiveUp can = owner_kept k (look_idle can.looking) nobody (look_still can.looking) (λ q h. cc)
  keeps_by victim (act.Activate u place) can =
      activate_kept place k can.asks.may can.asks.free can.asks.within can.asks.says
  keeps_by victim (act.Connect n u) can =
      connect_kept c k can.asks.can can.asks.outer can.asks.inner can.asks.active can.asks.says
  keeps_by victim (act.Create f u p r) can = create_done f u p r can
  keeps_by victim (act.Start f u p) can = start_done f u p can
  keeps_by victim (act.Evict f) can = let bound = choice_bound s.store.pages.core f can.look in
      let l = can.looking in evict_kept f bound.0.0 bound.0.1 k l.owner.mine l.owner.same
      (look_idle l) bound.1 can.asks
  keeps_by victim (act.Empty u) can = empty_done u can.looking can.asks
  keeps_by victim (act.EmptyVictim pool chain u) can = victim pool chain u can
  keeps_by victim (act.TakeAway fs pairs w) can =
      took_kept c k can.can (owns_here can.owner) (works_here can.owner) can.says
  keeps_by victim (act.BeginMove u volume) can = begun_kept s c k (look_idle can.looking) (look_still can.looking)
      (works_here can.looking.owner) u volume can.asks
  keeps_by victim (act.CopyPage m p) can = by_end Keeps o _ _
      (λ e. (let w = can.1.well e in copied_kept s c k (move_idle can.0) (move_still can.0)
      (works_here can.0.owner) m p o.faults w.0 w.1))
      (λ e. (let i = can.1.ill e in copy_failed_kept o.faults k (move_idle can.0) (move_still can.0) i.rose
      i.may i.tell i.says))
  keeps_by victim (act.CommitMove m) can = moved_kept s c m k (move_idle can.0) (move_still can.0)
      (works_here can.0.owner) can.1.may can.1.rehomes can.1.says
  keeps_by victim (act.Signal w) can = signal_kept can.aim w k can.owner.mine can.owner.same can.taken
  keeps_by victim (act.FinishEviction f) can = evict_done f can
  keeps_by victim (act.FinishPage f) can = page_leaves f can
  keeps_by victim (act.Deactivate u) can = let m = can.waited.owner in emptied_kept k m.mine m.same
      (segs_are_gone s (cut_of_owner s.owner) k.book (empties_goes u can.waited can.frames)) can.asks.may can.asks.says
  keeps_by victim act.Commit can = commit_done can.ready can.its (next_command s (process_at s c)) refl can.asks
  keeps_by victim _ can = k

-- What an action asks is all that it wants to keep the promise.
pub after_keeps : {s : State} (c : ℕ) (o : Outcome) (a : Action) → Keeps s → c < length s.processors → CanDo s c o a
    → Keeps (after s c a o)
after_keeps {s} c o a k there can = keeps_by s c o k there (λ pool chain u h. empty_done (with_store s
    (with_hand_moved s.store pool chain)) c o (hand_kept pool chain k h.asks.says) there u
    (still_looks h.looking) h.asks.asks) a can
  where
    still_looks : {st : Storage} → IsLooking s c → IsLooking (with_store s st) c
    still_looks l = record {
      owner = record { owner = l.owner.owner; mine = l.owner.mine; same = l.owner.same };
      looks = l.looks;
    }
