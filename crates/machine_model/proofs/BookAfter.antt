-- A step appends 320 entries to the book at the most, in room that was there.
use Rattle.machine_model.proofs.StepBasics.{cond_both, not, ◌⊎◌, inl, inr, list_all, ◌≡◌, ◌≤◌, ◌<◌, ℕ, ◌+◌, ◌-◌, Bool, true, false, cond, List, [], ◌∷◌, ◌++◌, length, map, Option, Some, None, refl, ap, arith, length-append, length-map, Command, What, Entry, Reply, Transfer, Left, words_in, first_off_chain, hand_past, Aim, CutDescriptor, action_of, Outcome, after, committed, committed_at, cut_entry, frame_entry, gone_entries, inactive_entries, left_after, cut_all, cut_one, deactivation_begun, emptied, entries_left, eviction_done, left_of, page_back, page_done, page_in, pages_back, seg_back, seg_gone, segment_taken, segs_back, segs_gone, take_all, take_one, took, victim_taken, write_failed, Keeps, is_fault, copy_failed, page_copied, without_move, KeepsAll, flat_of, run_at, cut_of_owner, frames_from, frames_of_owner, is_active, next_command, process_at, trailers_in, reply_of, uid_of_command, State, Storage, calls_drive, fault_told, frame_lost, page_made, told, transfer_failed, old_word, transferred, with_faults, with_store, OwnsFew, append-nil, append_assoc, suc, Command as command, What as what, Entry as entry, Reply as reply, Left as left, Aim as aim, list_all-append, Action, Action as act, frames_from_few, trailers_few, is_device, tree_plain, word_plain, effected, gone_pass}
use Rattle.machine_model.proofs.PlainAction.{IsPlainly, plain_action}
use Rattle.machine_model.proofs.StepGoes.{few_taken}
use Rattle.machine_model.proofs.StepKnows.{Knows, step_knows}

-- ---- what entries tell

-- neither a drive's failure, nor that a process was told of one
abbrev pub is_quiet : Entry → Bool
is_quiet (entry.Fault process) = false
is_quiet (entry.Do process place cpu frame r) = not (is_device r)
is_quiet _ = true

abbrev pub AreQuiet : List Entry → Type 0
AreQuiet es = list_all is_quiet es ≡ true

-- one failure of a drive is told of process k, and last the process of it
pub record TellsFailure (k : ℕ) (more : List Entry) : Type 0 where
  pub before : List Entry
  pub between : List Entry
  pub last : Entry
  pub is : more ≡ before ++ entry.Fault (Some k) ∷ (between ++ last ∷ [])
  pub quiet_before : AreQuiet before
  pub quiet_between : AreQuiet between
  pub last_is : is_fault last ≡ false

-- entries more, n at the most, in room that was there
pub record HasBooked (s now : State) (n : ℕ) : Type 0 where
  pub more : List Entry
  pub entries : now.entries ≡ s.entries ++ more
  pub spare : now.spare ≡ s.spare - length more
  pub few : length more ≤ n

-- none of them tells a failure
record IsQuietly (s now : State) (n : ℕ) : Type 0 where
  booked : HasBooked s now n
  quiet : AreQuiet booked.more

-- it is so of machines with the same books and room
quietly_as : {s now old new : State} {n : ℕ} → IsQuietly old new n → old.entries ≡ s.entries → old.spare ≡ s.spare
    → now.entries ≡ new.entries → now.spare ≡ new.spare → IsQuietly s now n
quietly_as h was_entries was_spare entries spare = record {
  booked = record { more = h.booked.more; entries = cc; spare = cc; few = h.booked.few };
  quiet = h.quiet;
}

-- none does, or just one, of the process of processor c: where a call of a drive failed, if there is one
pub record IsBooked (s now : State) (c n : ℕ) (calls failed : Bool) : Type 0 where
  pub booked : HasBooked s now n
  pub tale : (AreQuiet booked.more × (calls ≡ true → failed ≡ false))
      ⊎ ((failed ≡ true) × TellsFailure (process_at s c) booked.more)

booked_none : (s now : State) → now.entries ≡ s.entries → now.spare ≡ s.spare → IsQuietly s now 0
booked_none s now entries spare = record {
  booked = record { more = []; entries = cc (append-nil s.entries); spare = omega arith; few = omega arith };
  quiet = refl;
}

booked_on : {s mid now : State} {m n : ℕ} → IsQuietly s mid m → IsQuietly mid now n → IsQuietly s now (m + n)
booked_on {s} a b = record {
  booked = record {
    more = a.booked.more ++ b.booked.more;
    entries = cc (append_assoc s.entries a.booked.more b.booked.more);
    spare = omega (arith, length-append a.booked.more b.booked.more);
    few = omega (arith, length-append a.booked.more b.booked.more);
  };
  quiet = cc (list_all-append is_quiet a.booked.more b.booked.more, a.quiet, b.quiet);
}

booked_less : {s now : State} {m n : ℕ} → IsQuietly s now m → m ≤ n → IsQuietly s now n
booked_less a le = record {
  booked = record { more = a.booked.more; entries = a.booked.entries; spare = a.booked.spare; few = omega arith };
  quiet = a.quiet;
}

-- some entries
one_booked : {s now : State} (es : List Entry) → now.entries ≡ s.entries ++ es → now.spare ≡ s.spare - length es
    → AreQuiet es → IsQuietly s now (length es)
one_booked es entries spare quiet =
    record { booked = record { more = es; entries = entries; spare = spare; few = omega arith }; quiet = quiet }

-- one quiet entry, and then more
then_booked : {s mid now : State} {n : ℕ} (e : Entry) → mid.entries ≡ s.entries ++ e ∷ [] → mid.spare ≡ s.spare - 1
    → AreQuiet (e ∷ []) → IsQuietly mid now n → IsQuietly s now (suc n)
then_booked e entries spare quiet rest =
    booked_less (booked_on (one_booked (e ∷ []) entries spare quiet) rest) (omega arith)

-- entries that tell no failure, a failure that processor c's process is told of, others that tell none, and its reply
one_failure : {s mid failing back now : State} {c m n : ℕ} {f : Bool} → IsQuietly s mid m
    → failing.entries ≡ mid.entries ++ entry.Fault (Some (process_at s c)) ∷ [] → failing.spare ≡ mid.spare - 1
    → IsQuietly failing back n → (e : Entry) → is_fault e ≡ false → now.entries ≡ back.entries ++ e ∷ []
    → now.spare ≡ back.spare - 1 → m + n + 2 ≤ 320 → f ≡ true → IsBooked s now c 320 true f
one_failure {s} {c = c} a fault_entries fault_spare b e is last_entries last_spare few did = record {
  booked = record {
    more = more;
    entries = rw (last_entries, b.booked.entries, fault_entries, a.booked.entries) (simp append_assoc);
    spare = omega (arith, long, longer, fault_spare, last_spare, a.booked.spare, b.booked.spare);
    few = let x = a.booked.few in let y = b.booked.few in omega (arith, long, longer, x, y, few);
  };
  tale = inr (
    did,
    record {
      before = a.booked.more;
      between = b.booked.more;
      last = e;
      is = refl;
      quiet_before = a.quiet;
      quiet_between = b.quiet;
      last_is = is;
    },
  );
}
  where
    more : List Entry
    more = a.booked.more ++ entry.Fault (Some (process_at s c)) ∷ (b.booked.more ++ e ∷ [])

    long : length more ≡ length a.booked.more + suc (length (b.booked.more ++ e ∷ []))
    long = length-append a.booked.more (entry.Fault (Some (process_at s c)) ∷ (b.booked.more ++ e ∷ []))

    longer : length (b.booked.more ++ e ∷ []) ≡ length b.booked.more + 1
    longer = length-append b.booked.more (e ∷ [])

-- ---- what a job takes, lets go, and gives back

all_taken : (s : State) (c : ℕ) (a : Aim) (w : What) (fs : List ℕ) → IsQuietly s (take_all s c a w fs) (length fs)
all_taken s c a w [] = booked_none s s refl refl
all_taken s c a w (f ∷ fs) = then_booked (entry.Take f) refl refl refl (all_taken (take_one s c a w f) c a w fs)

all_cut : (s : State) (c : ℕ) (a : Aim) (w : What) (xs : List (ℕ × ℕ)) → IsQuietly s (cut_all s c a w xs) (length xs)
all_cut s c a w [] = booked_none s s refl refl
all_cut s c a w (x ∷ xs) = then_booked (entry.Cut x.0 x.1) refl refl refl (all_cut (cut_one s c a w x) c a w xs)

took_booked : (s : State) (c : ℕ) (a : Aim) (w : What) (fs : List ℕ) (xs : List (ℕ × ℕ))
    → IsQuietly s (took s c a w fs xs) (length fs + length xs)
took_booked s c a w fs xs = booked_on (all_taken s c a w fs) (all_cut (take_all s c a w fs) c a w xs)

all_gone : (s : State) (ds : List CutDescriptor) → IsQuietly s (segs_gone s ds) (length ds)
all_gone s [] = booked_none s s refl refl
all_gone s (d ∷ ds) = then_booked (entry.GoneSeg d.process d.number) refl refl refl (all_gone (seg_gone s d) ds)

emptied_booked : (s : State) (c u : ℕ) → IsQuietly s (emptied s c u) (length (cut_of_owner s.owner) + 1)
emptied_booked s c u =
    booked_on (all_gone s (cut_of_owner s.owner)) (one_booked (entry.Deactivate u ∷ []) refl refl refl)

segment_booked : (s : State) (c u : ℕ) (fs : List ℕ) (xs : List (ℕ × ℕ)) → OwnsFew s.owner
    → length fs + length xs ≤ 288 → IsQuietly s (segment_taken s c u fs xs) 320
segment_booked s c u [] [] owns few = booked_less (emptied_booked s c u) (omega arith)
segment_booked s c u fs xs owns few =
    booked_less (took_booked s c (aim.Deactivating u) (what.Seg u) fs xs) (omega arith)

all_back : (s : State) (fs : List ℕ) → IsQuietly s (pages_back s fs) (length fs)
all_back s [] = booked_none s s refl refl
all_back s (f ∷ fs) = then_booked (entry.BackPage f) refl refl refl (all_back (page_back s f) fs)

all_linked : (s : State) (ds : List CutDescriptor) → IsQuietly s (segs_back s ds) (length ds)
all_linked s [] = booked_none s s refl refl
all_linked s (d ∷ ds) = then_booked (entry.BackSeg d.process d.number) refl refl refl (all_linked (seg_back s d) ds)

failed_booked : (s : State) (c faults : ℕ) → OwnsFew s.owner → (failed : Bool) → failed ≡ true
    → IsBooked s (write_failed s c faults) c 320 true failed
failed_booked s c faults few failed did = let told_of = fault_told s (Some (process_at s c)) faults in
    one_failure (booked_none s s refl refl) refl refl (booked_on (all_back told_of (frames_of_owner s.owner))
    (all_linked (pages_back told_of (frames_of_owner s.owner)) (cut_of_owner s.owner)))
    (entry.Do _ _ c None reply.Device) refl refl refl (omega arith) did

gone_booked : {s now : State} (f : ℕ) (how : Left) (page : ℕ × ℕ) → now.entries ≡ s.entries ++ entries_left f how page
    → now.spare ≡ s.spare - length (entries_left f how page) → IsQuietly s now 320
gone_booked f left.Released page entries spare =
    booked_less (one_booked (entry.GonePage f ∷ entry.Release page.0 page.1 ∷ []) entries spare refl) (omega arith)
gone_booked f left.Kept page entries spare =
    booked_less (one_booked (entry.GonePage f ∷ []) entries spare refl) (omega arith)

-- ---- a command

inactive_long : (st : Storage) (u : ℕ) (c : Command) → length (inactive_entries st u c) ≤ 1
inactive_long st u (command.Delete path) = cond_both (is_active st.ast u) (entry.Deactivate u ∷ []) []
    (λ es. length es ≤ 1) (λ h. omega arith) (λ h. omega arith)
inactive_long st u _ = omega arith

gone_long : (s : State) (u : ℕ) (c : Command) → OwnsFew s.owner → length (gone_entries s u c) ≤ 289
gone_long s u c few = omega (
  arith,
  length-map (frames_of_owner s.owner) (frame_entry s.store c),
  length-map (cut_of_owner s.owner) cut_entry,
  inactive_long s.store u c,
  length-append (map (frame_entry s.store c) (frames_of_owner s.owner))
      (map cut_entry (cut_of_owner s.owner) ++ inactive_entries s.store u c),
  length-append (map cut_entry (cut_of_owner s.owner)) (inactive_entries s.store u c),
)

-- a process that is answered
told_quiet : (k place c : ℕ) (f : Option ℕ) (r : Reply) → is_device r ≡ false → AreQuiet (entry.Do k place c f r ∷ [])
told_quiet k place c f r h = cc

reply_plain : (s : State) (k : ℕ) (c : Command) → is_device (reply_of s k c) ≡ false
unfolding reply_of
reply_plain s k c = tree_plain s.plan (flat_of s) k c

-- a process that leaves
left_booked : {s : State} {n : ℕ} (x : State) (c : ℕ) (cmd : Command) → IsQuietly s x n
    → IsQuietly s (left_after x c cmd) (n + 1)
left_booked x c command.End h = booked_on h (one_booked (entry.Leave c ∷ []) refl refl refl)
left_booked x c _ h = booked_less h (omega arith)

commit_booked : (s : State) (c k : ℕ) (cmd : Command) → OwnsFew s.owner → IsQuietly s (committed s c k cmd) 320
commit_booked s c k cmd few = booked_less (quietly_as done refl refl refl refl) (omega (arith, gone_long s u cmd few))
  where
    u : ℕ
    u = uid_of_command s.store k cmd

    now : State
    now = effected s k cmd

    gone : IsQuietly s now (length (gone_entries s u cmd))
    gone = one_booked (gone_entries s u cmd) refl refl
        (gone_pass is_quiet (λ f. refl) (λ f. refl) (λ j n. refl) (λ v. refl) s u cmd)

    answered : IsQuietly now (told now c None (reply_of s k cmd)) 1
    answered = one_booked (entry.Do (process_at now c) _ c None _ ∷ []) refl refl (told_quiet (process_at now c)
        (run_at now.runs (process_at now c)).place c None (reply_of s k cmd) (reply_plain s k cmd))

    done : IsQuietly s (left_after (told now c None (reply_of s k cmd)) c cmd) ((length (gone_entries s u cmd) + 1) + 1)
    done = left_booked (told now c None (reply_of s k cmd)) c cmd (booked_on gone answered)

committed_booked : (s : State) (c : ℕ) (x : Option Command) → OwnsFew s.owner → IsQuietly s (committed_at s c x) 320
committed_booked s c None few = booked_less (booked_none s s refl refl) (omega arith)
committed_booked s c (Some cmd) few = commit_booked s c (process_at s c) cmd few

-- ---- each action

module _ {s : State} (c : ℕ) (o : Outcome) (keeps : Keeps s) (few : OwnsFew s.owner) where
  none : {now : State} → now.entries ≡ s.entries → now.spare ≡ s.spare → IsQuietly s now 320
  none {now} entries spare = booked_less (booked_none s now entries spare) (omega arith)

  one : {now : State} (e : Entry) → is_quiet e ≡ true → now.entries ≡ s.entries ++ e ∷ [] → now.spare ≡ s.spare - 1
      → IsQuietly s now 320
  one e quiet entries spare = booked_less (one_booked (e ∷ []) entries spare (cc quiet)) (omega arith)

  plainly : {now : State} → IsQuietly s now 320 → IsBooked s now c 320 false o.failed
  plainly h = record { booked = h.booked; tale = inl (h.quiet, λ calls. cc calls) }

  by_end : (well ill : State) → IsQuietly s well 320 → ((f : Bool) → f ≡ true → IsBooked s ill c 320 true f)
      → IsBooked s (cond o.failed ill well) c 320 true o.failed
  by_end well ill a b = by o.failed
    where
      by : (f : Bool) → IsBooked s (cond f ill well) c 320 true f
      by true = b true refl
      by false = record { booked = a.booked; tale = inl (a.quiet, λ calls. refl) }

  few_of : (u : ℕ) → length (frames_from s.store.ast u 0) + length (trailers_in s.store u) ≤ 288
  few_of u = omega (arith, frames_from_few s u 0 keeps, trailers_few s u keeps)

  victim_booked : (pool : ℕ) (chain : List ℕ) (u : ℕ) → IsQuietly s (victim_taken s c pool chain u) 320
  victim_booked pool chain u = by (first_off_chain s.store.ast pool chain)
    where
      by : (x : Option ℕ) → IsQuietly s (deactivation_begun (with_store s (record s.store {
        ast = hand_past s.store.ast pool x;
      })) c u) 320
      by None = segment_booked s c u (frames_from s.store.ast u 0) (trailers_in s.store u) few (few_of u)
      by (Some place) = quietly_as (segment_booked (with_store s (record s.store {
        ast = hand_past s.store.ast pool (Some place);
      })) c u (frames_from s.store.ast u 0) (trailers_in s.store u) few (few_of u)) refl refl refl refl

  lose_booked : (t : Transfer) (f : Bool) → f ≡ true → IsBooked s (transfer_failed s c t o.faults) c 320 true f
  lose_booked t f did = let failing = fault_told (frame_lost s c t) (Some (process_at s c)) o.faults in
      one_failure (one_booked {now = frame_lost s c t} (entry.Lose t.frame ∷ []) refl refl refl) refl
      refl (booked_none failing failing refl refl) (entry.Do _ _ c None reply.Device) refl refl refl (omega arith) did

  copy_booked : (f : Bool) → f ≡ true → IsBooked s (copy_failed s c o.faults) c 320 true f
  copy_booked f did = one_failure (booked_none s s refl refl) refl refl (booked_none failing failing refl refl)
      (entry.Do _ _ c None reply.Device) refl refl refl (omega arith) did
    where
      failing : State
      failing = fault_told (with_store s (without_move s.store)) (Some (process_at s c)) o.faults

  end_booked : (a : Action) → Knows s c a → IsPlainly a → IsBooked s (after s c a o) c 320 (calls_drive a) o.failed
  unfolding after
  end_booked (act.EndTransfer t) k plain = by_end (transferred (with_faults s o.faults) c t)
      (transfer_failed s c t o.faults) (one (entry.Here t.frame t.uid t.page) refl refl refl) (lose_booked t)
  end_booked (act.FinishEviction f) k plain = by_end (eviction_done (with_faults s o.faults) c f)
      (write_failed s c o.faults) (gone_booked f (left_of (words_in s.store.pages f)) (page_in s.store f) refl refl)
      (failed_booked s c o.faults few)
  end_booked (act.FinishPage f) k plain = by_end (page_done (with_faults s o.faults) f)
      (write_failed s c o.faults) (gone_booked f (left_of (words_in s.store.pages f)) (page_in s.store f) refl refl)
      (failed_booked s c o.faults few)
  end_booked (act.CopyPage m page) k plain = by_end (page_copied (with_faults s o.faults) c m page)
      (copy_failed s c o.faults) (none refl refl) copy_booked
  end_booked act.Online k plain = plainly (one (entry.Online c) refl refl refl)
  end_booked (act.Clear w) k plain = plainly (one (entry.Clear c w) refl refl refl)
  end_booked (act.Load n) k plain = plainly (one (entry.Load c n) refl refl refl)
  end_booked act.Leave k plain = plainly (one (entry.Leave c) refl refl refl)
  end_booked (act.FillSeg n) k plain = plainly (one (entry.FillSeg c n) refl refl refl)
  end_booked (act.FillPage f r) k plain = plainly (one (entry.FillPage c f) refl refl refl)
  end_booked (act.Through f r) k plain = plainly (one (entry.Do (process_at s c) _ c (Some f) _)
      (ap not (word_plain (old_word s.store.pages f r) r.kind)) refl refl)
  end_booked (act.Plain r) k plain = plainly (one (entry.Do (process_at s c) _ c None r) (ap not plain) refl refl)
  end_booked (act.Answer r) k plain = plainly (one (entry.Do (process_at s c) _ c None r) (ap not plain) refl refl)
  end_booked (act.Activate u place) k plain = plainly (one (entry.Activate u) refl refl refl)
  end_booked (act.Connect n u) k plain = plainly (one (entry.Connect (process_at s c) n u) refl refl refl)
  end_booked (act.Create f u q r) k plain = plainly (booked_less
      (then_booked {mid = page_made s f u q r} (entry.Here f u q) refl refl refl
      (one_booked (entry.Do (process_at s c) _ c None _ ∷ []) refl refl
      (told_quiet 0 0 c None _ (word_plain 0 r.kind)))) (omega arith))
  end_booked (act.Start f u q) k plain = plainly (one (entry.Start f u q) refl refl refl)
  end_booked (act.Evict f) k plain = plainly (one (entry.Take f) refl refl refl)
  end_booked (act.Empty u) k plain = plainly (segment_booked s c u (frames_from s.store.ast u 0)
      (trailers_in s.store u) few (few_of u))
  end_booked (act.EmptyVictim pool chain u) k plain = plainly (victim_booked pool chain u)
  end_booked (act.TakeAway fs pairs w) k plain = plainly (booked_less (took_booked s c aim.Committing w fs pairs)
      (omega (arith, few_taken keeps k.4.finds)))
  end_booked (act.CommitMove m) k plain = plainly (one (entry.Moved (process_at s c) m.uid m.to.0) refl refl refl)
  end_booked (act.Signal w) k plain = plainly (one (entry.Signal c w) refl refl refl)
  end_booked (act.Deactivate u) k plain = plainly (booked_less (emptied_booked s c u) (omega arith))
  end_booked act.Commit k plain = plainly (committed_booked s c (next_command s (process_at s c)) few)
  end_booked _ k plain = plainly (none refl refl)

-- A step appends 320 entries at the most, and there is room for so many less; and what it tells of the drives.
pub told_after : (s : State) (c : ℕ) (o : Outcome) → KeepsAll s → c < length s.processors
    → IsBooked s (after s c (action_of s c) o) c 320 (calls_drive (action_of s c)) o.failed
told_after s c o all there = end_booked c o all.machine.keeps all.working.few (action_of s c)
    (step_knows s c o all.machine there all.working) (plain_action s c)

pub entries_after : (s : State) (c : ℕ) (o : Outcome) → KeepsAll s → c < length s.processors
    → HasBooked s (after s c (action_of s c) o) 320
entries_after s c o all there = (told_after s c o all there).booked
