-- A tree command takes effect: the steps of the whole come to the model's.
use Rattle.machine_tables.proofs.Prelude.{◌≡◌, ℕ, Bool, true, false, if◌then◌else◌, [], ◌∷◌, map, Option, Some, None, refl, ap, ◌∙◌, Command, Reply, committed_at, frame_entry, gone_entries, inactive_entries, left_after, with_effect, cpu_at, frames_of_owner, is_active, next_command, or_zero, process_at, reply_of, uid_of_command, Owner, State, Storage, booked, left_at, told_by, with_owner, with_store, effect_for, reply_for, ends_in, goes_inactive, inactive_entry, left_entries, left_entry, next_frame_entry, Parts, with_state, Command as command, Entry_Entry as entry, arith}

-- ---- entries

inactive_named : (st : Storage) (k : ℕ) (x : Command)
    → inactive_entry (goes_inactive st k (Some x)) ≡ inactive_entries st (uid_of_command st k x) x
inactive_named st k (command.Delete path) = split (is_active st.ast (uid_of_command st k (command.Delete path)))
  where
    split : (b : Bool) → inactive_entry (if b then Some (uid_of_command st k (command.Delete path)) else None)
        ≡ (if b then entry.Deactivate (uid_of_command st k (command.Delete path)) ∷ [] else [])
    split b = grind arith
inactive_named st k _ = refl

entries_named : (s : State) (k : ℕ) (x : Command) (kept : Option ℕ)
    → map (left_entry kept) (frames_of_owner s.owner) ≡ map (frame_entry s.store x) (frames_of_owner s.owner)
    → left_entries s kept (goes_inactive s.store k (Some x)) ≡ gone_entries s (uid_of_command s.store k x) x
entries_named s k x kept left = cc (left, inactive_named s.store k x)

-- ---- the end of a process

stays_at : (t : State) (c : ℕ) (x : Command) → ends_in (Some x) ≡ false → left_after t c x ≡ t
stays_at t c x h1 = grind arith

leaves_at : (t : State) (c : ℕ) (x : Command) → ends_in (Some x) ≡ true → left_after t c x ≡ left_at t c
leaves_at t c x h1 = grind arith

-- ---- all of it

module _ {D : Type 0} (old applied gone said : Parts D) (c k : ℕ) (kept inactive : Option ℕ) (r : Reply) (x : Command)
    (next : next_command old.state k ≡ Some x) (left : map (left_entry kept) (frames_of_owner old.state.owner)
    ≡ map (next_frame_entry old.state.store (next_command old.state k)) (frames_of_owner old.state.owner))
    (its : (cpu_at old.state.processors c).process ≡ Some k)
    (which : inactive ≡ goes_inactive old.state.store k (next_command old.state k))
    (answer : r ≡ reply_for old.state k (next_command old.state k))
    (does : applied ≡ with_state old (with_store old.state (effect_for old.state.store k
    (frames_of_owner old.state.owner) (next_command old.state k))))
    (goes : gone ≡ with_state applied (with_owner (booked applied.state (left_entries applied.state kept inactive))
    gone.state.owner)) (tells : said ≡ with_state gone (told_by gone.state c k None r)) where
  abbrev pub s : State
  s = old.state

  abbrev uid : ℕ
  uid = uid_of_command s.store k x

  abbrev after : State
  after = with_store s (with_effect s.store k uid (frames_of_owner s.owner) x)

  abbrev full : ℕ → State
  full j = with_owner (told_by (booked after (gone_entries s uid x)) c j None (reply_of s k x)) None

  entries : left_entries s kept inactive ≡ gone_entries s uid x
  entries = cc (entries_named s k x kept (left ∙ ap (λ (o : Option Command). map (next_frame_entry s.store o)
      (frames_of_owner s.owner)) next))

  said_state : with_owner said.state None ≡ full k
  said_state = rw (tells, goes, does, answer, next, entries)

  said_whole : said ≡ with_state old said.state
  said_whole = rw (tells, goes, does)

  process : process_at s c ≡ k
  process = ap or_zero its

  abbrev whole_at : ℕ → State
  whole_at j = with_owner (left_after (told_by (booked (with_store s (with_effect s.store j
      (uid_of_command s.store j x) (frames_of_owner s.owner) x)) (gone_entries s (uid_of_command s.store j x) x)) c j
      None (reply_of s j x)) c x) None

  committed_is : whole_at k ≡ committed_at s c (next_command s k)
  committed_is = cc (process, next)

  final : {v : Parts D} (last : Parts D) (J : Option Owner) → v ≡ last → J ≡ None → last ≡ with_state old last.state
      → with_owner last.state None ≡ whole_at k
      → with_state v (with_owner v.state J) ≡ with_state old (committed_at s c (next_command s k))
  final last J view none keeps state = rw (view, none, keeps) (cc (state, committed_is))

  pub committed_stays : {v : Parts D} (J : Option Owner) (b : Bool) → v ≡ said → J ≡ None
      → b ≡ ends_in (next_command s k) → b ≡ false
      → with_state v (with_owner v.state J) ≡ with_state old (committed_at s c (next_command s k))
  committed_stays J b view none is e = grind (arith, final, said_whole, said_state, stays_at)

  pub committed_leaves : {v left : Parts D} (J : Option Owner) (b : Bool)
      → left ≡ with_state said (left_at said.state c) → v ≡ left → J ≡ None → b ≡ ends_in (next_command s k) → b ≡ true
      → with_state v (with_owner v.state J) ≡ with_state old (committed_at s c (next_command s k))
  committed_leaves {v} {left} J b leaves view none is e = grind (arith, final, leaves_at, said_state, said_whole)
