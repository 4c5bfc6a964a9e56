-- What the step asks of a command that takes effect: what the store says after it, and that it may be answered.
use Rattle.machine_model.proofs.Kept.{cond_both, [], ◌≡◌, ℕ, true, false, length, map, List, ◌∷◌, ◌++◌, Option, Some, None, inl, refl, sym, ap, subst, ◌∙◌, length-set, list_all, reference_of, Command, Entry, IsTree, Ptw, effect_of, reply_to_command, takes_effect, store_after, Store, MayTakeEffect, CutDescriptor, Outcome, after, committed, cut_entry, gone_entries, left_after, with_deleted, with_effect, with_truncated, without_page, seen, Keeps, StoreSays, flat_of, frames_of_owner, is_active, process_at, run_at, reply_of, uid_of_command, Says, with_command, shown, State, Storage, told, with_owner, tree_free, effect_total, refusal_of, TakesSome, Command as command, Entry as entry, Frame as frame, Ptw as ptw, shown_answered as answered, Action as act, effected, IsAlike, all_still, alike_by, done_alike, is_still, one_still, refused_alike, none_rest, quotas, says_is, Speaks, can_tell, speaks_like, length_stands, FindsTaken, tell_kept_CanTell as CanTell, effect_has, truncated_has}
use Rattle.machine_model.proofs.StepKept.{AsksCommit, IsSettled}
use Rattle.machine_model.proofs.DeleteKept.{freed_length, gone_pass}

-- ---- a command leaves as many frames

abbrev count : Storage → ℕ
count st = length st.pages.core.frames

page_cut : (st : Storage) (u p : ℕ) (w : Ptw) → count (without_page st u p w) ≡ count st
page_cut st u p (ptw.Leaving f) = length-set st.pages.core.frames f frame.Free
page_cut st u p _ = refl

truncated : (st : Storage) (u words : ℕ) → count (with_truncated st u words) ≡ count st
truncated st u words = truncated_has (λ t. count t ≡ count st) (record {
  without = λ t u p w h. page_cut t u p w ∙ h;
  shortened = λ t f at h. length-set t.pages.core.frames f _ ∙ h;
  here = λ t f u p h. h;
}) st u words refl

deleted : (st : Storage) (u : ℕ) (frames : List ℕ) → count (with_deleted st u frames) ≡ count st
deleted st u frames = cond_both (is_active st.ast u) _ _ (λ x. count x ≡ count st)
    (λ h. freed_length st.pages frames) (λ h. freed_length st.pages frames)

effect_frames : (st : Storage) (k u : ℕ) (frames : List ℕ) (c : Command)
    → count (with_effect st k u frames c) ≡ count st
effect_frames st k u frames c = effect_has (λ t. count t ≡ count st) st k u frames c (λ accounts links. refl)
    (λ n. refl) (λ words. truncated st u words) (deleted st u frames)

-- ---- the book after it

pub cuts_still : (ds : List CutDescriptor) → list_all is_still (map cut_entry ds) ≡ true
cuts_still [] = refl
cuts_still (d ∷ ds) = cuts_still ds

-- a process that leaves changes nothing of it either
left_like : (A : Store) (x : State) (c : ℕ) (cmd : Command) → IsAlike A (flat_of x)
    → IsAlike A (flat_of (with_owner (left_after x c cmd) None))
left_like A x c command.End h = alike_by h (one_still x.plan x.entries (entry.Leave c) refl)
left_like A x c _ h = h

record LeavesStore (x y : State) : Type 0 where
  pub plan : y.plan ≡ x.plan
  pub store : y.store ≡ x.store

left_store : (x : State) (c : ℕ) (cmd : Command) → LeavesStore x (with_owner (left_after x c cmd) None)
left_store x c command.End = assumption
left_store x c _ = assumption

-- what was taken for a command is out of use
abbrev pub IsOut : State → ℕ → Command → Type 0
IsOut s c cmd = MayTakeEffect (flat_of s) (shown (seen (with_owner (effected s (process_at s c) cmd) None)))
    (process_at s c) cmd

-- what is left of its premises
pub record Rests (s : State) (c : ℕ) (cmd : Command) : Type 0 where
  pub settled : IsSettled s c cmd
  pub out : IsOut s c cmd

-- they are left where the command takes something
abbrev pub RestsCommit : State → ℕ → Option Command → Type 0
RestsCommit s c (Some (command.Acl path row m)) = Rests s c (command.Acl path row m)
RestsCommit s c (Some (command.Terminate n)) = Rests s c (command.Terminate n)
RestsCommit s c (Some command.End) = Rests s c command.End
RestsCommit s c (Some (command.Truncate path words)) = Rests s c (command.Truncate path words)
RestsCommit s c (Some (command.Delete path)) = Rests s c (command.Delete path)
RestsCommit s c _ = Unit {0}

module _ (s : State) (c : ℕ) (o : Outcome) (keeps : Keeps s) (cmd : Command) (sp : Speaks s c (process_at s c) cmd)
    (tree : reference_of cmd ≡ None) where
  abbrev k : ℕ
  k = process_at s c

  abbrev gone : List Entry
  gone = gone_entries s (uid_of_command s.store k cmd) cmd

  still : store_after s.plan (s.entries ++ gone) ≡ flat_of s
  still = all_still s.plan s.entries gone (gone_pass is_still (λ f. refl) (λ f. refl) (λ j n. refl) (λ u. refl) s
      (uid_of_command s.store k cmd) cmd)

  is_reply : reply_of s k cmd ≡ reply_to_command s.plan (flat_of s) k cmd
  unfolding reply_of
  is_reply = cc

  abbrev answer : Entry
  answer = entry.Do k (run_at s.runs k).place c None (reply_of s k cmd)

  told_like : IsAlike (answered (reply_of s k cmd) (flat_of s) (effect_of s.plan (flat_of s) k cmd))
      (store_after s.plan ((s.entries ++ gone) ++ answer ∷ []))
  told_like = cond_both (takes_effect (reply_of s k cmd)) (effect_of s.plan (flat_of s) k cmd) (flat_of s)
      (λ t. IsAlike t (store_after s.plan ((s.entries ++ gone) ++ answer ∷ [])))
      (λ e. (rw (← still) (done_alike s.plan (s.entries ++ gone) k (run_at s.runs k).place c None (reply_of s k cmd)
      sp.next e)))
      (λ e. rw (← still) (refused_alike s.plan (s.entries ++ gone) k (run_at s.runs k).place c None (reply_of s k cmd)
      e))

  total : quotas (answered (reply_of s k cmd) (flat_of s) (effect_of s.plan (flat_of s) k cmd)) ≡ s.plan.quota
  unfolding reply_of
  total = cond_both (takes_effect (reply_of s k cmd)) (effect_of s.plan (flat_of s) k cmd) (flat_of s)
      (λ t. quotas t ≡ s.plan.quota) (λ e. cc (effect_total s.plan (flat_of s) k cmd
      (subst IsTree (sym keeps.faithful.tree.nodes) keeps.store.accounts.tree) e)) (λ e. keeps.conserved.total)

  -- What the store says of a machine after a command took effect.
  commit_says : Says s c o act.Commit → StoreSays (committed s c k cmd)
  unfolding after
  commit_says says = let stays_same = left_store (told (effected s k cmd) c None (reply_of s k cmd)) c cmd in
      says_is keeps says (cc)
      (subst (λ (x : Option Command). IsAlike (with_command s k x (flat_of s)) (flat_of (committed s c k cmd)))
      (sym sp.next) (left_like _ (told (effected s k cmd) c None (reply_of s k cmd)) c cmd told_like))
      (ap (λ (x : Option Command). quotas (with_command s k x (flat_of s))) sp.next ∙ total)
      (none_rest s (committed s c k cmd) stays_same.plan
      (ap count stays_same.store ∙ effect_frames s.store k (uid_of_command s.store k cmd) (frames_of_owner s.owner) cmd)
      refl)

  -- the machine that is to be told
  abbrev b : State
  b = with_owner (effected s k cmd) None

  speaks_still : Speaks b c k cmd
  speaks_still = speaks_like refl refl refl (λ j. rw still (sp.runs j)) sp

  -- It may be answered, where what it takes away is out of use.
  commit_tell : IsOut s c cmd → CanTell b c k None (reply_of s k cmd)
  commit_tell out = can_tell None (reply_of s k cmd) speaks_still (inl (record {
    own = cc (is_reply, still);
    free = tree_free s.plan (flat_of b) k cmd tree;
  })) (rw tree (record { without = refl; out = λ e. rw still out }))

  -- What the step asks of it follows.
  pub commit_asks : Says s c o act.Commit → Rests s c cmd → AsksCommit s c (Some cmd)
  commit_asks says rests = assumption (commit_tell rests.out, commit_says says)

-- ---- what the command rests on

-- a path that leads to a segment that isn't active
length_out : {s : State} (c : ℕ) (path : List (List ℕ)) (pages : ℕ) → Keeps s
    → refusal_of s (process_at s c) (command.Length path pages) ≡ None
    → is_active s.store.ast (uid_of_command s.store (process_at s c) (command.Length path pages)) ≡ false
    → IsOut s c (command.Length path pages)
length_out {s} c path pages keeps stands off = let leads = length_stands s (process_at s c) keeps path pages stands in
    rw leads.found (ap (is_active s.store.ast) (sym leads.uid) ∙ off)

pub look_rests : {s : State} (c : ℕ) → Keeps s → frames_of_owner s.owner ≡ [] → (cmd : Command)
    → FindsTaken s (process_at s c) cmd [] [] → RestsCommit s c (Some cmd) → Rests s c cmd
look_rests c keeps none (command.Acl path row m) h rests = rests
look_rests c keeps none (command.Terminate n) h rests = rests
look_rests c keeps none command.End h rests = rests
look_rests c keeps none (command.Truncate path words) h rests = rests
look_rests c keeps none (command.Delete path) h rests = rests
look_rests {s} c keeps none (command.Length path pages) h rests =
    assumption (length_out c path pages keeps h.stands (h.inactive path pages refl))
look_rests c keeps none _ h rests = assumption

pub taken_rests : (s : State) (c : ℕ) (cmd : Command) → TakesSome (Some cmd) → RestsCommit s c (Some cmd)
    → Rests s c cmd
taken_rests s c (command.Acl path row m) h rests = rests
taken_rests s c (command.Terminate n) h rests = rests
taken_rests s c command.End h rests = rests
taken_rests s c (command.Truncate path words) h rests = rests
taken_rests s c (command.Delete path) h rests = rests
taken_rests s c _ h rests = absurd h
