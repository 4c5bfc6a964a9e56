-- The next command of a process takes effect in the store of the tables.
use Rattle.machine_tables.proofs.Prelude.{◌≡◌, ℕ, List, map, Option, Some, sym, subst, ◌∙◌, Command, Reply, Store, IsReady, Shows, Stored, IsFaithful, flat_of, frames_of_owner, next_command, reply_of, with_command, State, HasEffect, IsCommitted, effect_for, reply_for, left_entry, next_frame_entry, Parts, shown, IsApplicable, IsCommittedBut, IsReadyFor, OwnsFor, Command as command, arith}
use Rattle.machine_tables.proofs.RefusalLaws.{shows_of}

pub same_some : {X : Type 0} {x y : X} → Some x ≡ Some y → x ≡ y
same_some e = cc

pub ready_of : {D : Type 0} (drive : D → List (List ℕ)) (t : Stored D) (k : ℕ) (c : Command)
    → IsReadyFor (shown drive t) k c → IsReady t k c
ready_of drive t k (command.Terminate number) h = h
ready_of drive t k (command.Acl path row m) h = h
ready_of drive t k (command.Length path pages) h = h
ready_of drive t k (command.Truncate path words) h = λ n at. (let taken = h n at in record {
  active = taken.active;
  past = assumption;
  cut = taken.cut;
})
ready_of drive t k (command.Delete path) h = λ n at. (let ready = h n at in record {
  cut = ready.cut;
  taken = assumption;
})
ready_of drive t k command.End h = h
ready_of drive t k c h = tt

-- the command that a process comes to is the one that may take effect
pub applies : {D : Type 0} (p : Parts D) (k : ℕ) {x y : Command} → IsApplicable p k x
    → next_command p.state k ≡ Some y → IsApplicable p k y
applies p k may next = rw (← (same_some (sym may.next ∙ next))) may

module _ {D : Type 0} (drive : D → List (List ℕ)) (tables : Parts D) (t u : Stored D) (k : ℕ) (x : Command)
    (r : Reply) (kept : Option ℕ) (inner : shown drive t ≡ tables.state.store) (may : IsApplicable tables k x)
    (committed : (fs : List ℕ) → OwnsFor (shown drive t) fs x → IsCommittedBut drive t u k fs x r kept) where
  abbrev s : State
  s = tables.state

  abbrev frames : List ℕ
  frames = frames_of_owner s.owner

  next : next_command s k ≡ Some x
  next = may.next

  faithful : IsFaithful s.plan (flat_of s) s.store
  faithful = may.faithful

  whole : IsCommittedBut drive t u k frames x r kept
  whole = committed frames (rw inner may.owns)

  commits : IsCommitted drive t u k frames x r
  commits = whole.committed

  shows : (flat : Store) → IsFaithful s.plan flat s.store → Shows drive s.plan flat t
  shows flat h = shows_of drive s.plan flat t (rw inner h)

  reply_is : r ≡ reply_of s k x
  unfolding reply_of
  reply_is = commits.does.answer s.plan (flat_of s) (shows (flat_of s) faithful)

  pub applied_reply : r ≡ reply_for s k (next_command s k)
  applied_reply = cc (reply_is, next)

  pub applied_left : map (left_entry kept) frames ≡ map (next_frame_entry s.store (next_command s k)) frames
  applied_left = cc (whole.left s.plan (flat_of s) (subst (IsFaithful s.plan (flat_of s)) (sym inner) faithful)
      (subst (HasEffect x) (sym reply_is) may.takes))

  pub applied_store : shown drive u ≡ effect_for (shown drive t) k frames (next_command s k)
  applied_store = cc (commits.exact s.plan (flat_of s) (subst (IsFaithful s.plan (flat_of s)) (sym inner) faithful)
      (subst (HasEffect x) (sym reply_is) may.takes))

  pub applied_drives : u.segs.pages.volumes.drives ≡ t.segs.pages.volumes.drives
  applied_drives = commits.drives

  pub applied_shown : (flat : Store) → IsFaithful s.plan flat s.store
      → IsFaithful s.plan (with_command s k (next_command s k) flat) (shown drive u)
  applied_shown flat h = grind (arith, reply_is, shows)
