-- What the call asks that takes what a tree command must have out of use.
use Rattle.machine.proofs.Prelude.{◌≡◌, ◌≢◌, ◌<◌, ◌≤◌, ◌+◌, ℕ, zero, suc, true, false, length, drop, Option, Some, None, ◌⊎◌, refl, ap, subst, arith, Command, descriptors_taken, first_taken, frames_taken, Keeps, cpu_at, cut_of_owner, frames_in, frames_of_owner, is_active, next_command, or_zero, process_at, trailers_in, uid_of_command, State, Storage, command_few, connected_few, frames_from_few, trailers_few, no_table, HasItsSegment, frames_for, of_segment, pairs_for, what_for, taken_for, HasOwner, Parts, is_of_process, IsBusy, IsSound, MayDo, took_for, [], Aim as aim, Action, Action as act}
use Rattle.machine.proofs.AloneLaws.{process_known, run_there}
use Rattle.machine.proofs.Does.{Does, busy, found, keeps_of, knows, still_for}
use Rattle.machine.proofs.Found.{Looked}
use Rattle.machine.proofs.OwnerCalls.{active_there, owned}
use Rattle.machine.proofs.Stays.{ShowsAs}
use Rattle.machine.proofs.TakingStays.{took_as}

-- ---- how much is taken

frames_le : (s : State) (k : ℕ) → Keeps s → (x : Option Command) → length (frames_for s.store k x) ≤ 256
frames_le s k keeps None = omega arith
frames_le s k keeps (Some cmd) = by (first_taken cmd)
  where
    by : (low : Option ℕ) → length (frames_taken s.store (uid_of_command s.store k cmd) low) ≤ 256
    by None = omega arith
    by (Some low) = frames_from_few s (uid_of_command s.store k cmd) low keeps

pairs_of : (s : State) (k u : ℕ) (cmd : Command) → Keeps s → length (descriptors_taken s.store k u cmd) ≤ 256
pairs_of s k u cmd h1 = grind (arith, trailers_few, connected_few)

pairs_le : (s : State) (k : ℕ) → Keeps s → (x : Option Command) → length (pairs_for s.store k x) ≤ 256
pairs_le s k keeps None = omega arith
pairs_le s k keeps (Some cmd) = pairs_of s k (uid_of_command s.store k cmd) cmd keeps

both_le : (s : State) (k : ℕ) → Keeps s → (x : Option Command)
    → length (frames_for s.store k x) + length (pairs_for s.store k x) ≤ 288
both_le s k keeps None = omega arith
both_le s k keeps (Some cmd) = command_few s k (uid_of_command s.store k cmd) cmd keeps

-- ---- a segment that isn't active has nothing in use

no_frames : (s : State) (u : ℕ) → Keeps s → is_active s.store.ast u ≡ false → (x : Option ℕ)
    → frames_taken s.store u x ≡ []
no_frames s u k off None = refl
no_frames s u k off (Some low) = cc (no_table s u k off, none_from low)
  where
    none_from : (n : ℕ) → frames_in (drop n []) ≡ []
    none_from zero = refl
    none_from (suc n) = refl

no_trailers : (st : Storage) (u : ℕ) → is_active st.ast u ≡ false → trailers_in st u ≡ []
no_trailers st u off = rw off

no_pairs : (st : Storage) (k u : ℕ) (cmd : Command) → is_active st.ast u ≡ false → of_segment cmd ≡ true
    → descriptors_taken st k u cmd ≡ []
no_pairs st k u cmd h1 h2 = grind (arith, no_trailers)

-- a processor that comes to this has a process
pub take_busy : (st : Storage) (k : ℕ) (x : Option Command) → is_of_process (taken_for st k x) ≡ true
take_busy st k None = refl
take_busy st k (Some cmd) = refl

-- what the call asks that takes it: the process runs and has numbers, and there is room for all that is taken
pub record IsTakeable (s : State) (k : ℕ) : Type 0 where
  pub still : s.store.moving ≡ None
  pub run : k < length s.runs
  pub knows : k < length s.store.links.known
  pub segment : HasItsSegment s.store k (next_command s k)
  pub owner : HasOwner s.owner
  pub pages : length (frames_of_owner s.owner) + length (frames_for s.store k (next_command s k)) ≤ 256
  pub descriptors : length (cut_of_owner s.owner) + length (pairs_for s.store k (next_command s k)) ≤ 256
  pub room : length (frames_for s.store k (next_command s k)) + length (pairs_for s.store k (next_command s k))
      ≤ s.spare

-- what a command takes, of a segment that is active then
abbrev pub taking : State → ℕ → Option Command → Action
taking s k x = act.TakeAway (frames_for s.store k x) (pairs_for s.store k x) (what_for s.store k x)

pub taking_as : (s : State) (c k : ℕ) (x : Option Command) → ShowsAs s.store (took_for s c k x).store
taking_as s c k x = took_as s c aim.Committing (what_for s.store k x) (frames_for s.store k x) (pairs_for s.store k x)

its_segment : (s : State) (k : ℕ) → Keeps s → (x : Option Command)
    → (frames_for s.store k x ≢ []) ⊎ (pairs_for s.store k x ≢ []) → HasItsSegment s.store k x
its_segment s k h1 x h2 = grind (arith, active_there, no_frames, no_pairs)

-- the command is there
pub takes : {D : Type 0} {t u : Parts D} {c : ℕ} → t ≡ u → IsSound t
    → MayDo u.state c (taken_for u.state.store (process_at u.state c) (next_command u.state (process_at u.state c)))
    → Does t c (taking t.state (process_at t.state c) (next_command t.state (process_at t.state c)))
takes {D} {t} {u} {c} same sound may = by (next_command t.state (process_at t.state c)) refl
    (record { sound = sound; may = rw same may })
  where
    by : (x : Option Command) → next_command t.state (process_at t.state c) ≡ x
        → Does t c (taken_for t.state.store (process_at t.state c) x)
        → Does t c (taking t.state (process_at t.state c) x)
    by None none d = cc ((knows d).speaks.next)
    by (Some cmd) some d = d

module _ {D : Type 0} {t : Parts D} {c : ℕ}
    (d : Does t c (taking t.state (process_at t.state c) (next_command t.state (process_at t.state c)))) where
  abbrev s : State
  s = t.state

  pub takeable : (k : ℕ) → (cpu_at s.processors c).process ≡ Some k → IsTakeable s k
  takeable k its = subst (IsTakeable s) (ap or_zero its) (record {
    still = still_for d;
    run = run_there d.sound c its_own;
    knows = process_known d.sound c its_own;
    segment = its_segment s j (keeps_of d) next (knows d).2;
    owner = owned looked.looking.owner;
    pages = omega (arith, ap length looked.idle.frames, frames_le s j (keeps_of d) next);
    descriptors = omega (arith, ap length looked.idle.cut, pairs_le s j (keeps_of d) next);
    room = omega (arith, both_le s j (keeps_of d) next);
  })
    where
      j : ℕ
      j = process_at s c

      next : Option Command
      next = next_command s j

      its_own : IsBusy s c
      its_own = busy d refl

      looked : Looked s c (taking s j next)
      looked = found d
