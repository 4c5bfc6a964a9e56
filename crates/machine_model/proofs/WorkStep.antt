-- After each action the owner's job rests on what it rested on, or has another.
use Rattle.machine_model.proofs.StepBasics.{◌≡◌, ◌≢◌, ℕ, Bool, true, false, not, ◌&&◌, cond, eqb, is_some, List, [], ◌∷◌, ◌++◌, set, Option, Some, None, ◌⊎◌, inl, inr, refl, sym, ap, subst, ◌∙◌, get_or-set_other, get_or-set_same, length-append, ◌≤◌, ◌+◌, arith, length, Mover, frame_at, Bound, Free, CutDescriptor, IsMovedFor, MovesIn, tables_of, move_begun, mover_to, moving, page_copied, with_copy, with_move, frames_of_owner, ◌%◌, Reference, referred, word_put, HasNoInferior, uid_at, alters, new_word, leaving_if, phase_signalled, with_choice, with_left, old_word, command_at, Command, What, Entry, Reply, Node, node_in, Transfer, Left, words_in, Segment, AccountMaps, Plain, is_for, IsUnread, list_any, first_off_chain, hand_past, is_stored, word_reply, is_stored-without, is_filed, superior_in, Phase, Processor, Run, any_page, Outcome, after, committed_at, holding, seen, deactivation_begun, emptied, entries_left, eviction_begun, left_of, owner_signalled, page_done, page_in, segment_taken, signalled, took, victim_taken, with_hand_moved, without_first_frame, Keeps, IsMachine, cpu_at, cut_of_owner, flat_of, frame_reading, frames_from, is_active, next_command, no_processor, no_run, or_zero, process_at, run_at, trailers_in, without_left, Owner, State, Storage, fault_told, frame_lost, looking, pages_after, told, with_faults, with_pages, with_store, TakenWhole, goes_in, going_for, GoesJust, IsTakenBy, TakenIn, AreNumbered, OwnsFew, FailsIn, IsLeaf, IsWorking, MayFailBy, TakesSome, append_assoc, some_same, What as what, Entry as entry, Reply as reply, Left as left, Ptw as ptw, FrameUse as frame, Aim as aim, Phase as phase, Action, Action as act, eqb_self, Aim, and-false, by_end, LeadsToSegment, length_stands, leaf_inferiors, victim_leaf, within_by, FindsActive, FindsFull, FindsVictim, active_at, IsNoOwner, HasTakenFrames, LooksLike, took_like, took_owner, stands_on, IsIdle, left_flat, cut_less, none_some, started_spares, whole_idle, hand_kept, IsMine, about_fails, length_fails, page_fails, AllSpare, IsLess, fails_in_less, fails_less, whole_on, frame_less, moved_on, moves_in_on, past_moved, referred_less, same_less, unread_less, LeavesMove, NoneOut, word_out, AllStay, LeavesTaken, just_on, started_free, taken_in, frames_from_few, trailers_few, IsLooking, IsMoving, told_seats, segment_takes, begun_whole, ArePairs}
use Rattle.machine_model.proofs.EmptyAsks.{hand_says, segment_inferiors, unread_any}
use Rattle.machine_model.proofs.NumberLaws.{cut_signalled, less_few, signalled_few, took_few, took_numbered}

-- ---- the owner makes nothing inactive

pub none_work : (now : State) → now.owner ≡ None → IsWorking now
none_work now none = record {
  whole = whole_idle now (ap going_for none);
  leaf = λ u h. cc;
  fails = λ o h. cc;
  numbered = rw none tt;
  taken = λ o h. cc;
  moves = λ o h. cc;
  few = subst OwnsFew (sym none) (omega arith);
}

-- what a job at a phase rests on, of the command of a process
record RestsOn (x : Phase) (s : State) (j : ℕ) : Type 0 where
  fails : FailsIn x s.store j (next_command s j)
  taken : TakenIn x s j (next_command s j)
  moves : MovesIn x s.store j (next_command s j)

was_resting : {s : State} {q : Owner} → IsWorking s → s.owner ≡ Some q → RestsOn q.phase s (process_at s q.cpu)
was_resting {s} {q} w mine = record { fails = w.fails q mine; taken = w.taken q mine; moves = w.moves q mine }

owner_work : (now : State) (q : Owner) → now.owner ≡ Some q → TakenWhole now
    → ((u : ℕ) → going_for now.owner ≡ Some u → IsLeaf now.store u)
    → AreNumbered now.store.links.known (cut_of_owner now.owner) → OwnsFew now.owner
    → RestsOn q.phase now (process_at now q.cpu) → IsWorking now
owner_work now q mine whole leaf numbered few rests = record {
  whole = whole;
  few = few;
  numbered = numbered;
  leaf = leaf;
  fails = λ o h. (its o h).fails;
  taken = λ o h. (its o h).taken;
  moves = λ o h. (its o h).moves;
}
  where
    its : (o : Owner) → now.owner ≡ Some o → RestsOn o.phase now (process_at now o.cpu)
    its o h = rw (← (some_same q o (sym mine ∙ h))) rests

-- an owner that makes no segment inactive
idle_work : {now : State} (q : Owner) → now.owner ≡ Some q → goes_in q.phase ≡ None
    → AreNumbered now.store.links.known (cut_of_owner now.owner) → OwnsFew now.owner
    → RestsOn q.phase now (process_at now q.cpu) → IsWorking now
idle_work {now} q mine idle = let none : going_for now.owner ≡ None = ap going_for mine ∙ idle in
    owner_work now q mine (whole_idle now none) (λ u h. absurd (none_some (sym none ∙ h)))

-- an owner that looks
pub looking_work : (now : State) (q : Owner) → now.owner ≡ Some q → q.phase ≡ phase.Looking
    → AreNumbered now.store.links.known (cut_of_owner now.owner) → OwnsFew now.owner → IsWorking now
looking_work now q mine looks numbered few =
    idle_work q mine (ap goes_in looks) numbered few (rw looks (record { fails = tt; taken = tt; moves = tt }))

-- a job rests on what it rested on
rests_still : {s now : State} {x : Phase} {j : ℕ} → IsLess s.store now.store → LeavesTaken s now
    → LeavesMove s.store now.store → next_command now j ≡ next_command s j → RestsOn x s j → RestsOn x now j
rests_still {s} {now} {x} {j} less left leaves next h = record {
  fails = rw next (fails_in_less x j (next_command s j) less h.fails);
  taken = rw next (taken_in x j (next_command s j) left h.fails h.taken);
  moves = rw next (moves_in_on x j (next_command s j) leaves h.moves);
}

-- ---- another processor's action

-- It leaves the owner, the accounts, the records, the VTOCs, the numbers and what is active; the owner's process comes
-- to the same command; its entries bring nothing of a segment that is going, and nothing that is taken for a command;
-- and no page more is being read into a frame.
pub record Leaves (s now : State) : Type 1 where
  pub owner : now.owner ≡ s.owner
  pub plan : now.plan ≡ s.plan
  pub tables : tables_of now.store ≡ tables_of s.store
  pub unread : (u : ℕ) → IsUnread s.store.pages.core u → IsUnread now.store.pages.core u
  pub active : (u : ℕ) → is_active now.store.ast u ≡ is_active s.store.ast u
  pub out : NoneOut s.store.ast now.store.ast
  pub more : List Entry
  pub book : now.entries ≡ s.entries ++ more
  pub spares : (u : ℕ) → going_for s.owner ≡ Some u → AllSpare u more
  pub stays : (Page : ℕ → ℕ → Type 0) (Descriptor : ℕ → ℕ → ℕ → Type 0) → GoesJust (holding s) Page Descriptor
      → AllStay Page more
  pub process : (o : Owner) → s.owner ≡ Some o → process_at now o.cpu ≡ process_at s o.cpu
  pub next : (o : Owner) → s.owner ≡ Some o → next_command now (process_at s o.cpu)
      ≡ next_command s (process_at s o.cpu)

leaf_like : (old now : Storage) (u : ℕ) → now.accounts.nodes ≡ old.accounts.nodes
    → ((v : ℕ) → is_active now.ast v ≡ is_active old.ast v) → IsLeaf old u → IsLeaf now u
leaf_like old now u nodes active h = record {
  active = active u ∙ h.active;
  inferiors = λ v e i. h.inferiors v (sym (active v) ∙ e) (cc);
}

pub leaves_work : {s now : State} → Keeps s → Keeps now → IsWorking s → Leaves s now → IsWorking now
leaves_work {s} {now} k kept w l = record {
  few = subst OwnsFew (sym l.owner) w.few;
  numbered = rw (less.known, l.owner) w.numbered;
  whole = record {
    whole = λ u h. (let goes = ap going_for (sym l.owner) ∙ h in
        whole_on l.more k kept l.plan l.book (w.whole.whole u goes) (l.spares u goes));
  };
  leaf = λ u h. leaf_like s.store now.store u less.nodes l.active (w.leaf u (cc));
  fails = λ o h. (rests o h).fails;
  taken = λ o h. (rests o h).taken;
  moves = λ o h. (rests o h).moves;
}
  where
    less : IsLess s.store now.store
    less = same_less s.store now.store l.tables

    rests : (o : Owner) → now.owner ≡ Some o → RestsOn o.phase now (process_at now o.cpu)
    rests o h = let was = sym l.owner ∙ h in rw (l.process o was) (rests_still less (record {
      nodes = less.nodes;
      known = less.known;
      active = l.active;
      out = l.out;
      just = λ Page Descriptor j. just_on Page Descriptor l.more k kept l.plan l.book j (l.stays Page Descriptor j);
      stands = stands_on s now k kept less.nodes less.known;
    }) (assumption) (l.next o was) (was_resting w was))

module _ (s : State) (c : ℕ) (k : Keeps s) (w : IsWorking s) (other : IsNoOwner s c) where
  -- one processor changes alone
  pub set_process : (p : Processor) {q : Owner} → s.owner ≡ Some q
      → (cpu_at (set s.processors c p) q.cpu).process ≡ (cpu_at s.processors q.cpu).process
  set_process p {q} h = cc (get_or-set_other s.processors c q.cpu p no_processor (other q h))

  -- one that changes nothing but itself, the ready list and the book
  seat_work : (now : State) (p : Processor) (e : Entry) → Keeps now → now ≡ record s {
    ready = now.ready;
    processors = set s.processors c p;
    entries = s.entries ++ e ∷ [];
    spare = now.spare;
  } → ((u : ℕ) → AllSpare u (e ∷ [])) → ((Page : ℕ → ℕ → Type 0) → AllStay Page (e ∷ [])) → IsWorking now
  seat_work now p e kept same spares stays = leaves_work k kept w (record {
    owner = cc;
    plan = cc;
    tables = cc;
    unread = λ u h. rw same h;
    active = λ u. cc;
    out = λ u q e. cc;
    more = e ∷ [];
    book = cc;
    spares = λ u h. spares u;
    stays = λ Page Descriptor j. stays Page;
    process = λ q h. cc (set_process p h);
    next = λ q h. rw (same);
  })

  -- another process than the owner's is answered
  other_process : {q : Owner} → s.owner ≡ Some q → IsMachine s → (cpu_at s.processors c).process ≡ Some (process_at s c)
      → process_at s q.cpu ≢ process_at s c
  other_process {q} h m its same = other q h (m.scheduled.alone q.cpu c (process_at s c)
      (cc (some_of (cpu_at s.processors q.cpu).process (k.at_work q h).busy)) its)
    where
      some_of : (x : Option ℕ) → is_some x ≡ true → x ≡ Some (or_zero x)
      some_of None e = cc
      some_of (Some n) e = refl

  pub other_next : (q : Owner) (run : Run) → s.owner ≡ Some q → IsMachine s
      → (cpu_at s.processors c).process ≡ Some (process_at s c)
      → command_at s.plan (process_at s q.cpu) (run_at (set s.runs (process_at s c) run) (process_at s q.cpu)).place
      ≡ next_command s (process_at s q.cpu)
  other_next q run h m its = cc (get_or-set_other s.runs (process_at s c) (process_at s q.cpu) run no_run
      (other_process h m its))

-- ---- a segment is taken

module _ (s : State) (c : ℕ) (a : Aim) (v : What) (fs : List ℕ) (pairs : List (ℕ × ℕ)) where
  took_process : process_at (took s c a v fs pairs) c ≡ process_at s c
  took_process = ap (λ (ps : List Processor). or_zero (cpu_at ps c).process) (took_like s c a v fs pairs).processors

  took_next : next_command (took s c a v fs pairs) (process_at s c) ≡ next_command s (process_at s c)
  took_next = λ i. command_at ((took_like s c a v fs pairs).plan i) (process_at s c)
      (run_at ((took_like s c a v fs pairs).runs i) (process_at s c)).place

module _ {s : State} (c u : ℕ) (k : Keeps s) (idle : IsIdle s.owner) (none : going_for s.owner ≡ None)
    (active : is_active s.store.ast u ≡ true) (unread : frame_reading s.store.pages.core u any_page ≡ None)
    (inferiors : (v : ℕ) → is_active s.store.ast v ≡ true → superior_in (node_in s.store.accounts.nodes v) ≢ Some u)
    (fails : MayFailBy s.store (process_at s c) (next_command s (process_at s c))) where
  -- where something is taken
  took_work : (fs : List ℕ) (pairs : List (ℕ × ℕ)) → (fs ≢ []) ⊎ (pairs ≢ [])
      → TakenWhole (took s c (aim.Deactivating u) (what.Seg u) fs pairs)
      → AreNumbered s.store.links.known (cut_of_owner (took s c (aim.Deactivating u) (what.Seg u) fs pairs).owner)
      → OwnsFew (took s c (aim.Deactivating u) (what.Seg u) fs pairs).owner
      → IsWorking (took s c (aim.Deactivating u) (what.Seg u) fs pairs)
  took_work fs pairs some whole numbered few = owner_work now _ has.owner whole
      (λ v h. subst (IsLeaf now.store) (some_same u v (cc (has.owner, h)))
      (leaf_like s.store now.store u (cc (like.accounts))
      (λ x. ap (λ (es : List (Option Segment)). list_any (is_for x) es) like.entries)
      (record { active = active; inferiors = inferiors }))) (rw like.known numbered) few (record {
        fails = rw (took_process s c _ _ fs pairs, took_next s c _ _ fs pairs) (fails_less s.store now.store
            (process_at s c) (next_command s (process_at s c)) (record {
              nodes = ap (λ (a : AccountMaps). a.nodes) like.accounts;
              known = like.known;
              filed = λ v q e. (λ i. is_filed (like.accounts i) (ap (λ (x : Plain). x.vtocs) like.pages i) v q) ∙ e;
            }) fails);
        taken = tt;
        moves = tt;
      })
    where
      now : State
      now = took s c (aim.Deactivating u) (what.Seg u) fs pairs

      like : LooksLike s (took s c (aim.Deactivating u) (what.Seg u) fs pairs)
      like = took_like s c (aim.Deactivating u) (what.Seg u) fs pairs

      has : HasTakenFrames (took s c (aim.Deactivating u) (what.Seg u) fs pairs) c (aim.Deactivating u) (what.Seg u) fs
      has = took_owner s c (aim.Deactivating u) (what.Seg u) fs pairs idle.frames some

  by_lists : (fs : List ℕ) (pairs : List (ℕ × ℕ)) → TakenWhole (segment_taken s c u fs pairs)
      → AreNumbered s.store.links.known (cut_of_owner (took s c (aim.Deactivating u) (what.Seg u) fs pairs).owner)
      → OwnsFew (took s c (aim.Deactivating u) (what.Seg u) fs pairs).owner → IsWorking (segment_taken s c u fs pairs)
  by_lists [] [] whole numbered few = looking_work (emptied s c u) (looking c) refl refl tt (omega arith)
  by_lists [] (x ∷ xs) whole numbered few = took_work [] (x ∷ xs) (inr (λ e. (let no_one = e in cc))) whole numbered few
  by_lists (f ∷ fs) pairs whole numbered few =
      took_work (f ∷ fs) pairs (inl (λ e. (let no_one = e in cc))) whole numbered few

  pub begun_work : IsWorking (deactivation_begun s c u)
  begun_work = by_lists (frames_from s.store.ast u 0) (trailers_in s.store u)
      (begun_whole c u k idle none active (unread_any s.store.pages.core u unread)) (took_numbered c
      (aim.Deactivating u) (what.Seg u) (frames_from s.store.ast u 0) (trailers_in s.store u) k (rw idle.cut tt)
      (segment_takes (aim.Deactivating u) (what.Seg u) u 0 k idle (eqb_self u) (λ gs cs. refl)).pairs_are) (took_few s
      c (aim.Deactivating u) (what.Seg u) (frames_from s.store.ast u 0) (trailers_in s.store u) idle
      (omega (arith, frames_from_few s u 0 k, trailers_few s u k)))

-- ---- the owner goes on

-- the owner makes a segment inactive, and every processor has been told
pub record IsEmptying (s : State) (c : ℕ) : Type 0 where
  pub owner : IsMine s c
  pub uid : ℕ
  pub what : What
  pub waits : owner.owner.phase ≡ phase.Waiting (aim.Deactivating uid) what

module _ {s : State} (c : ℕ) (k : Keeps s) (w : IsWorking s) where
  goes_signalled : (o : Option Owner) → going_for (owner_signalled o) ≡ going_for o
  goes_signalled None = refl
  goes_signalled (Some q) = by q.phase
    where
      by : (x : Phase) → goes_in (phase_signalled x) ≡ goes_in x
      by phase.Looking = refl
      by (phase.Taken a v) = refl
      by (phase.Waiting a v) = refl
      by (phase.Moving m) = refl

  rests_signalled : (x : Phase) (now : State) (j : ℕ) → RestsOn x now j → RestsOn (phase_signalled x) now j
  rests_signalled (phase.Taken a v) now j h = record { fails = h.fails; taken = h.taken; moves = tt }
  rests_signalled _ now j h = h

  signal_work : (what : What) → IsMine s c → Keeps (signalled s c what) → IsWorking (signalled s c what)
  signal_work what mine kept = owner_work now _ (ap owner_signalled mine.mine) (record {
    whole = λ u h. whole_on (entry.Signal c what ∷ []) k kept refl refl
        (w.whole.whole u (sym (goes_signalled s.owner) ∙ h)) (tt, tt);
  }) (λ u h. w.leaf u (sym (goes_signalled s.owner) ∙ h)) (rw (cut_signalled s.owner) w.numbered)
      (signalled_few s.owner w.few) (rests_signalled q.phase now (process_at now q.cpu)
      (rw (ap or_zero ((told_seats s c what).process q.cpu)) (rests_still (same_less s.store s.store refl) (record {
        nodes = refl;
        known = refl;
        active = λ u. refl;
        out = λ u q e. e;
        just = λ Page Descriptor j. just_on Page Descriptor (entry.Signal c what ∷ []) k kept refl refl j (tt, tt);
        stands = stands_on s now k kept refl refl;
      }) (record { tables = refl; active = λ u. refl; unread = λ u h. h }) refl (was_resting w mine.mine))))
    where
      q : Owner
      q = mine.owner

      now : State
      now = signalled s c what

  -- a page has left its frame
  goes_less : (o : Option Owner) → going_for (without_first_frame o) ≡ going_for o
  goes_less None = refl
  goes_less (Some q) = refl

  spares_left : (u f : ℕ) (how : Left) (page : ℕ × ℕ) → AllSpare u (entries_left f how page)
  spares_left u f left.Released page = (tt, (tt, tt))
  spares_left u f left.Kept page = (tt, tt)

  nodes_left : (how : Left) (f : ℕ) (page : ℕ × ℕ) → (with_left s.store f how page).accounts.nodes
      ≡ s.store.accounts.nodes
  nodes_left left.Released f page = refl
  nodes_left left.Kept f page = refl

  page_work : (f faults : ℕ) → IsEmptying s c → Keeps (page_done (with_faults s faults) f)
      → IsWorking (page_done (with_faults s faults) f)
  page_work f faults emptying kept = owner_work now _ (ap without_first_frame emptying.owner.mine) (record {
    whole = λ u h. whole_on (entries_left f how (page_in s.store f)) k kept refl refl
        (w.whole.whole u (sym (goes_less s.owner) ∙ h)) (spares_left u f how (page_in s.store f));
  }) (λ u h. leaf_like s.store now.store u (nodes_left how f (page_in s.store f)) (λ v. refl)
      (w.leaf u (sym (goes_less s.owner) ∙ h))) (rw (cut_less s.owner) w.numbered) (less_few s.owner w.few)
      (subst (λ (x : Phase). RestsOn x now (process_at s q.cpu)) (sym emptying.waits) (record {
        fails = fails_less s.store now.store (process_at s q.cpu) (next_command s (process_at s q.cpu)) less
            (subst (λ (x : Phase). FailsIn x s.store (process_at s q.cpu) (next_command s (process_at s q.cpu)))
            emptying.waits (w.fails q emptying.owner.mine));
        taken = tt;
        moves = tt;
      }))
    where
      q : Owner
      q = emptying.owner.owner

      now : State
      now = page_done (with_faults s faults) f

      how : Left
      how = left_of (words_in s.store.pages f)

      stored_less : (x : Left) (page : ℕ × ℕ) (u q : ℕ) → is_stored (flat_of s).stored u q ≡ false
          → is_stored (without_left x page (flat_of s)).stored u q ≡ false
      stored_less left.Released page u q e = cc (
        is_stored-without (flat_of s).stored page.0 (λ i. eqb i page.1) u q,
        and-false (not (eqb u page.0 && eqb q page.1)),
      )
      stored_less left.Kept page u q e = e

      less : IsLess s.store now.store
      less = record {
        nodes = nodes_left how f (page_in s.store f);
        known = refl;
        filed = λ u q e. cc (
          kept.faithful.pages.stored u q,
          left_flat s.plan s.entries f how (page_in s.store f),
          stored_less how (page_in s.store f) u q (k.faithful.pages.stored u q ∙ e),
        );
      }

-- ---- each action

-- a look finds this for the command of its process
pub record Looks (s : State) (c : ℕ) (Finds : Command → Type 0) : Type 0 where
  pub looking : IsLooking s c
  pub idle : IsIdle s.owner
  pub command : Command
  pub next : next_command s (process_at s c) ≡ Some command
  pub finds : Finds command

-- a look finds that a segment moves for the command of its process
pub record BeginsMove (s : State) (c u volume : ℕ) : Type 0 where
  pub looking : IsLooking s c
  pub fails : MayFailBy s.store (process_at s c) (next_command s (process_at s c))
  pub moves : IsMovedFor s.store (process_at s c) (mover_to s.store u volume) (next_command s (process_at s c))

-- what an action asks of the owner's job
abbrev pub MayWork : State → ℕ → Outcome → Action → Type 0
MayWork s c o act.Online = IsNoOwner s c
MayWork s c o (act.Clear w) = IsNoOwner s c
MayWork s c o (act.EndTransfer t) = IsNoOwner s c × ((cpu_at s.processors c).transfer ≡ Some t)
    × (o.failed ≡ true → (cpu_at s.processors c).process ≡ Some (process_at s c))
MayWork s c o (act.Load n) = IsNoOwner s c
MayWork s c o act.Leave = IsNoOwner s c
MayWork s c o (act.FillSeg n) = IsNoOwner s c
MayWork s c o (act.FillPage f r) = IsNoOwner s c
MayWork s c o (act.Through f r) = IsNoOwner s c × ((cpu_at s.processors c).process ≡ Some (process_at s c))
MayWork s c o (act.Plain r) = IsNoOwner s c × ((cpu_at s.processors c).process ≡ Some (process_at s c))
MayWork s c o (act.Activate u place) = IsLooking s c
MayWork s c o (act.Connect n u) = IsLooking s c
MayWork s c o (act.Evict f) = Looks s c (λ x. FindsFull s (process_at s c) x f)
MayWork s c o (act.Empty u) = Looks s c (λ x. FindsActive s (process_at s c) x u)
MayWork s c o (act.EmptyVictim pool chain u) = Looks s c (λ x. FindsVictim s (process_at s c) x pool chain u)
MayWork s c o (act.TakeAway fs pairs w) = IsLooking s c × IsIdle s.owner × ((fs ≢ []) ⊎ (pairs ≢ []))
    × TakesSome (next_command s (process_at s c)) × ArePairs (seen s).linked w pairs
    × IsTakenBy (took s c aim.Committing w fs pairs) (process_at s c) (next_command s (process_at s c))
    × (length fs + length pairs ≤ 288)
MayWork s c o (act.Signal w) = IsMine s c
MayWork s c o (act.FinishPage f) = IsEmptying s c
MayWork s c o (act.BeginMove u volume) = BeginsMove s c u volume
MayWork s c o (act.CopyPage m p) = IsMoving s c m
MayWork s c o _ = Unit {0}

looking_goes : {s : State} {c : ℕ} → IsLooking s c → going_for s.owner ≡ None
looking_goes l = cc

module _ {s : State} (c : ℕ) (o : Outcome) (m : IsMachine s) (w : IsWorking s) where
  abbrev keeps : Keeps s
  keeps = m.keeps

  -- another process's command is answered, through a frame or without one
  other_told : (st : Storage) (f : Option ℕ) (r : Reply) → IsNoOwner s c
      → (cpu_at s.processors c).process ≡ Some (process_at s c) → tables_of st ≡ tables_of s.store
      → ((u : ℕ) → IsUnread s.store.pages.core u → IsUnread st.pages.core u)
      → ((u : ℕ) → is_active st.ast u ≡ is_active s.store.ast u) → NoneOut s.store.ast st.ast
      → Keeps (told (with_store s st) c f r) → IsWorking (told (with_store s st) c f r)
  other_told st f r other its tables unread active out kept =
      leaves_work keeps kept w (record {
        owner = refl;
        plan = refl;
        tables = tables;
        unread = unread;
        active = active;
        out = out;
        more = entry.Do (process_at s c) (run_at s.runs (process_at s c)).place c f r ∷ [];
        book = refl;
        spares = λ u h. (tt, tt);
        stays = λ Page Descriptor j. (tt, tt);
        process = λ q h. ap or_zero (set_process s c keeps w other _ h);
        next = λ q h. other_next s c keeps w other q _ h m its;
      })

  -- a transfer's frame was being read into
  was_started : {t : Transfer} → (cpu_at s.processors c).transfer ≡ Some t
      → (holding s).frame t.frame ≡ frame.Started t.uid t.page
  was_started {t} mine = let reads = keeps.book.under_way.reading c t mine in
      cc (keeps.book.tied.unbound t.frame t.uid t.page reads)

  -- the pages after a reference through a frame, by whether it writes
  abbrev pages_by : ℕ → Reference → Bool → Storage
  pages_by f r writes = with_pages s.store (cond writes (word_put s.store.pages f (r.offset % 1024)
      (new_word (old_word s.store.pages f r) r.kind)) (referred s.store.pages f false))

  pages_tables : (f : ℕ) (r : Reference) (writes : Bool) → tables_of (pages_by f r writes) ≡ tables_of s.store
  pages_tables f r true = refl
  pages_tables f r false = refl

  pages_unread : (f : ℕ) (r : Reference) (writes : Bool) (u : ℕ) → IsUnread s.store.pages.core u
      → IsUnread (pages_by f r writes).pages.core u
  pages_unread f r true u h = unread_less _
      (frame_less s.store.pages.core f _ (referred_less (frame_at s.store.pages.core f) true)) h
  pages_unread f r false u h = unread_less _
      (frame_less s.store.pages.core f _ (referred_less (frame_at s.store.pages.core f) false)) h

  victim_fails : (pool : ℕ) (chain : List ℕ) (u : ℕ) → Looks s c (λ x. FindsVictim s (process_at s c) x pool chain u)
      → IsWorking (victim_taken s c pool chain u)
  victim_fails pool chain u l = begun_work c u (hand_kept pool chain keeps (hand_says pool chain keeps)) l.idle
      (looking_goes l.looking) (moved (first_off_chain s.store.ast pool chain)) l.finds.unread
      (λ v h i. leaf_inferiors s l.finds.place u keeps at leaf.2 v (was v (first_off_chain s.store.ast pool chain) h)
      (ap (λ (ns : List Node). superior_in (node_in ns v)) keeps.faithful.tree.nodes ∙ i))
      (subst (MayFailBy now.store (process_at s c)) (sym l.next) (fails))
    where
      now : State
      now = with_store s (with_hand_moved s.store pool chain)

      leaf : (x : ℕ) × (uid_at s.store.ast.entries l.finds.place ≡ Some x)
          × HasNoInferior s.store.ast.entries l.finds.place
      leaf = victim_leaf s.store.ast pool chain l.finds.place keeps.store.kept.tree l.finds.victim

      at : uid_at s.store.ast.entries l.finds.place ≡ Some u
      at = leaf.1 ∙ ap (λ (x : ℕ). Some x) (sym (l.finds.uid ∙ ap or_zero leaf.1))

      moved : (x : Option ℕ) → is_active (hand_past s.store.ast pool x) u ≡ true
      moved None = active_at s.store.ast l.finds.place u at
      moved (Some place) = active_at s.store.ast l.finds.place u at

      was : (v : ℕ) (x : Option ℕ) → is_active (hand_past s.store.ast pool x) v ≡ true → is_active s.store.ast v ≡ true
      was v None h = h
      was v (Some place) h = h

      fails : MayFailBy s.store (process_at s c) (Some l.command)
      fails = about_fails (process_at s c) l.command keeps l.finds.link.case

  -- the process that a failure of a transfer is told of
  abbrev told_process : Transfer → ℕ
  told_process t = process_at (fault_told (frame_lost s c t) (Some (process_at s c)) o.faults) c

  told_is : (t : Transfer) → (o.failed ≡ true → (cpu_at s.processors c).process ≡ Some (process_at s c))
      → o.failed ≡ true → told_process t ≡ process_at s c
  told_is t its failed = ap or_zero (ap (λ (x : Processor). x.cpu.process)
      (get_or-set_same s.processors c _ no_processor (within_by s.processors c no_processor (λ e. none_some
      (sym (ap (λ (x : Processor). x.cpu.process) e) ∙ its failed)))))

  leaving_filed : (st : Storage) (f : ℕ) (x : Option (ℕ × ℕ)) (u q : ℕ)
      → is_filed (leaving_if st f x).accounts (leaving_if st f x).pages.vtocs u q ≡ is_filed st.accounts
      st.pages.vtocs u q
  leaving_filed st f None u q = refl
  leaving_filed st f (Some page) u q = refl

  leaving_nodes : (st : Storage) (f : ℕ) (x : Option (ℕ × ℕ)) → ((leaving_if st f x).accounts.nodes ≡ st.accounts.nodes)
      × ((leaving_if st f x).links.known ≡ st.links.known)
  leaving_nodes st f None = (refl, refl)
  leaving_nodes st f (Some page) = (refl, refl)

  one_few : (f : ℕ) → length (frames_of_owner s.owner) + length (cut_of_owner s.owner) ≤ 0
      → length (frames_of_owner s.owner ++ f ∷ []) + length (cut_of_owner s.owner) ≤ 288
  one_few f none = omega (arith, length-append (frames_of_owner s.owner) (f ∷ []))

  taking_less : (f : ℕ) → IsLess s.store (eviction_begun s c f).store
  taking_less f = record {
    nodes = (leaving_nodes (with_choice s.store f) f _).0;
    known = (leaving_nodes (with_choice s.store f) f _).1;
    filed = λ u q e. leaving_filed (with_choice s.store f) f _ u q ∙ e;
  }

  length_inferiors : (u : ℕ) (l : Looks s c (λ x. FindsActive s (process_at s c) x u)) (v : ℕ)
      → superior_in (node_in (flat_of s).nodes v) ≢ Some u
  length_inferiors u l v = segment_inferiors s u leads.node keeps (cc (same, leads.there)) leads.segment v
    where
      leads : LeadsToSegment s l.finds.path
      leads = length_stands s (process_at s c) keeps l.finds.path l.finds.pages (rw (← l.finds.is) l.finds.stands)

      same : leads.node.uid ≡ u
      same = cc (leads.uid, l.finds.is, l.finds.uid)

  -- a move goes on, and its owner has taken nothing
  move_work : (now : State) {m : Mover} → now.owner ≡ Some (moving c m)
      → MayFailBy now.store (process_at now c) (next_command now (process_at now c))
      → IsMovedFor now.store (process_at now c) m (next_command now (process_at now c)) → IsWorking now
  move_work now {m} mine fails moves = idle_work (moving c m) mine refl (rw mine tt)
      (subst OwnsFew (sym mine) (omega arith)) (record { fails = fails; taken = tt; moves = moves })

  -- what the owner rests on that moves a segment
  pub moving_fails : {m : Mover} → IsMoving s c m → MayFailBy s.store (process_at s c) (next_command s (process_at s c))
  moving_fails x = rw x.owner.same at (subst (λ (y : Phase). FailsIn y s.store (process_at s x.owner.owner.cpu)
      (next_command s (process_at s x.owner.owner.cpu))) x.moves (w.fails x.owner.owner x.owner.mine))

  pub moving_rests : {m : Mover} → IsMoving s c m
      → IsMovedFor s.store (process_at s c) m (next_command s (process_at s c))
  moving_rests x = rw x.owner.same at (subst (λ (y : Phase). MovesIn y s.store (process_at s x.owner.owner.cpu)
      (next_command s (process_at s x.owner.owner.cpu))) x.moves (w.moves x.owner.owner x.owner.mine))

  commits : (x : Option Command) → IsWorking (committed_at s c x)
  commits None = w
  commits (Some cmd) = none_work _ refl

  -- what an action asks of the job is all that it wants
  pub work_kept : (a : Action) → MayWork s c o a → Keeps (after s c a o) → IsWorking (after s c a o)
  unfolding after
  work_kept act.IsStopped may kept = w
  work_kept act.HasEnded may kept = w
  work_kept (act.Waits why) may kept = w
  work_kept act.Online may kept =
      seat_work s c keeps w may _ _ (entry.Online c) kept refl (λ u. (tt, tt)) (λ Page. (tt, tt))
  work_kept (act.Clear v) may kept =
      seat_work s c keeps w may _ _ (entry.Clear c v) kept refl (λ u. (tt, tt)) (λ Page. (tt, tt))
  work_kept (act.EndTransfer t) may kept = by_end (λ x. Keeps x → IsWorking x) o _ _
      (λ e kept_well. leaves_work keeps kept_well w (record {
        owner = refl;
        plan = refl;
        tables = refl;
        unread = λ u h. unread_less _ (frame_less s.store.pages.core t.frame
            (Bound t.uid t.page false false) (λ page e. cc)) h;
        active = λ u. refl;
        out = word_out s.store.ast t.uid t.page (ptw.Here t.frame) refl;
        more = entry.Here t.frame t.uid t.page ∷ [];
        book = refl;
        spares = λ u h. (started_spares t.frame t.uid t.page (w.whole.whole u h) (was_started may.1), tt);
        stays = λ Page Descriptor j. (started_free Page Descriptor t.frame t.uid t.page j (was_started may.1), tt);
        process = λ q h. ap or_zero (set_process s c keeps w may.0 _ h);
        next = λ q h. refl;
      })) (λ failed kept_ill. leaves_work keeps kept_ill w (record {
        owner = refl;
        plan = refl;
        tables = refl;
        unread = λ u h. unread_less _ (frame_less s.store.pages.core t.frame Free (λ page e. cc)) h;
        active = λ u. refl;
        out = λ u q e. e;
        more = entry.Lose t.frame ∷ entry.Fault (Some (process_at s c))
            ∷ entry.Do (told_process t) (run_at s.runs (told_process t)).place c None reply.Device ∷ [];
        book = append_assoc (s.entries ++ entry.Lose t.frame ∷ []) (entry.Fault (Some (process_at s c)) ∷ [])
            (entry.Do (told_process t) (run_at s.runs (told_process t)).place c None reply.Device ∷ [])
            ∙ append_assoc s.entries (entry.Lose t.frame ∷ []) (entry.Fault (Some (process_at s c))
            ∷ entry.Do (told_process t) (run_at s.runs (told_process t)).place c None reply.Device ∷ []);
        spares = λ u h. (tt, (tt, (tt, tt)));
        stays = λ Page Descriptor j. (tt, (tt, (tt, tt)));
        process = λ q h. ap or_zero (ap (λ (x : Processor). x.cpu.process)
            (get_or-set_other (frame_lost s c t).processors c q.cpu _ no_processor (may.0 q h))
            ∙ set_process s c keeps w may.0 _ h);
        next = λ q h. rw (told_is t may.2 failed, other_next s c keeps w may.0 q _ h m (may.2 failed));
      })) kept
  work_kept (act.Load n) may kept =
      seat_work s c keeps w may _ _ (entry.Load c n) kept refl (λ u. (tt, tt)) (λ Page. (tt, tt))
  work_kept act.Leave may kept =
      seat_work s c keeps w may _ _ (entry.Leave c) kept refl (λ u. (tt, tt)) (λ Page. (tt, tt))
  work_kept (act.FillSeg n) may kept =
      seat_work s c keeps w may _ _ (entry.FillSeg c n) kept refl (λ u. (tt, tt)) (λ Page. (tt, tt))
  work_kept (act.FillPage f r) may kept =
      seat_work s c keeps w may _ _ (entry.FillPage c f) kept refl (λ u. (tt, tt)) (λ Page. (tt, tt))
  work_kept (act.Through f r) may kept = other_told (with_pages s.store (pages_after s.store.pages f r)) (Some f)
      (word_reply (old_word s.store.pages f r) r.kind) may.0 may.1 (pages_tables f r (alters r.kind))
      (pages_unread f r (alters r.kind)) (λ u. refl) (λ u q e. e) kept
  work_kept (act.Plain r) may kept = other_told s.store None r may.0 may.1 refl (λ u h. h) (λ u. refl) (λ u q e. e) kept
  work_kept act.TakeSupervisor may kept = looking_work _ (looking c) refl refl tt (omega arith)
  work_kept (act.Activate u place) may kept = looking_work _ may.owner.owner may.owner.mine may.looks w.numbered w.few
  work_kept (act.Connect n u) may kept = looking_work _ may.owner.owner may.owner.mine may.looks w.numbered w.few
  work_kept (act.Evict f) may kept = idle_work _ refl refl
      (rw (taking_less f).known w.numbered) (let a = ap (λ (fs : List ℕ). length fs) may.idle.frames in
      let b = ap (λ (ds : List CutDescriptor). length ds) may.idle.cut in one_few f (omega arith)) (record {
        fails = rw may.next (fails_less s.store (eviction_begun s c f).store (process_at s c) (Some may.command)
            (taking_less f) (page_fails (process_at s c) may.command keeps may.finds.uid may.finds.page
            may.finds.case));
        taken = tt;
        moves = tt;
      })
  work_kept (act.Empty u) may kept = begun_work c u keeps may.idle (looking_goes may.looking) may.finds.active
      may.finds.unread (λ v h i. length_inferiors u may v (cc))
      (rw may.next (length_fails (process_at s c) may.command keeps may.finds))
  work_kept (act.EmptyVictim pool chain u) may kept = victim_fails pool chain u may
  work_kept (act.TakeAway fs pairs v) may kept = idle_work _
      (took_owner s c aim.Committing v fs pairs may.1.frames may.2).owner refl
      (rw (took_like s c aim.Committing v fs pairs).known (took_numbered c aim.Committing v fs pairs keeps w.numbered
      may.4)) (took_few s c aim.Committing v fs pairs may.1 may.6) (record {
        fails = rw (took_process s c aim.Committing v fs pairs, took_next s c aim.Committing v fs pairs) may.3;
        taken = rw (took_process s c aim.Committing v fs pairs, took_next s c aim.Committing v fs pairs) may.5;
        moves = tt;
      })
  work_kept (act.BeginMove u volume) may kept = move_work (move_begun s c u volume) refl
      (fails_less s.store (with_move s.store (mover_to s.store u volume)) (process_at s c)
      (next_command s (process_at s c)) (same_less s.store (with_move s.store (mover_to s.store u volume)) refl)
      may.fails) (moved_on (with_move s.store (mover_to s.store u volume)) (assumption) may.moves)
  work_kept (act.CopyPage m page) may kept = by_end (λ x. Keeps x → IsWorking x) o _ _ (λ e h. move_work
      (page_copied (with_faults s o.faults) c m page) refl (fails_less s.store (with_copy s.store m page)
      (process_at s c) (next_command s (process_at s c)) (same_less s.store (with_copy s.store m page) refl)
      (moving_fails may)) (past_moved page (moving_rests may))) (λ e h. none_work _ refl) kept
  work_kept (act.CommitMove m) may kept = looking_work _ (looking c) refl refl tt (omega arith)
  work_kept (act.Signal v) may kept = signal_work c keeps w v may kept
  work_kept (act.FinishEviction f) may kept = by_end (λ x. Keeps x → IsWorking x) o _ _
      (λ e h. looking_work _ (looking c) refl refl tt (omega arith)) (λ e h. none_work _ refl) kept
  work_kept (act.FinishPage f) may kept = by_end (λ x. Keeps x → IsWorking x) o _ _
      (λ e h. page_work c keeps w f o.faults may h) (λ e h. none_work _ refl) kept
  work_kept (act.Deactivate u) may kept = looking_work _ (looking c) refl refl tt (omega arith)
  work_kept act.Commit may kept = commits (next_command s (process_at s c))
  work_kept _ may kept = none_work _ refl
