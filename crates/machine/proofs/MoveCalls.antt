-- What the calls of a move ask.
use Rattle.machine.proofs.Prelude.{Action, Bool, Command, IsActive, IsUnread, List, MayAnswer, MayCopy, Mover, MovesFor, MovesForNext, None, Option, Parts, Some, State, arith, count_by, count_of, has_segment, home_in, is_roomy, is_some, length, long_segment, ltb, nat_tests, next_command, process_at, slice_get_past, tables_of, true, volumes_of, ℕ, ◌&&◌, ◌-◌, ◌<◌, ◌≡◌, mover_to, Action as act, Vtoc_Entry as Entry}
use Rattle.machine.proofs.Does.{Does, keeps_of, knows, still_for}
use Rattle.machine.proofs.OwnerCalls.{active_there}

-- the segment moves for the next command
moved_for : (s : State) (k : ℕ) (m : Mover) (x : Option Command) → MovesForNext (tables_of s.store) k m x
    → (cmd : Command) × MovesFor (tables_of s.store) k m cmd
moved_for s k m None h = absurd h
moved_for s k m (Some cmd) h = (cmd, h)

-- the segment that has moved is there
pub ended_segment : {D : Type 0} {t : Parts D} {c : ℕ} {m : Mover} → Does t c (act.CommitMove m)
    → has_segment t.state.store.accounts.nodes m.uid ≡ true
ended_segment {D} {t} {c} {m} d =
    let for_it = (moved_for t.state (process_at t.state c) m (next_command t.state (process_at t.state c))
    (knows d).rests.moves).1 in
    long_segment t.state.store.accounts t.state.store.pages.vtocs (keeps_of d).store.counted.counted m.uid
    for_it.reference.offset for_it.lacks.node for_it.lacks.there for_it.lacks.within

pub may_copy : {D : Type 0} {t : Parts D} {c k : ℕ} {a : Action} → Does t c a → MayAnswer t c k → MayCopy t c k
may_copy d may = record {
  processor = d.may.there;
  its = may.process;
  run = may.run;
  place = may.place;
  count = may.count;
  ready = may.ready;
  room = omega arith;
}

some_record : (pages : ℕ) (flags : List Bool) (entries : List (Option Entry)) (b : Bool)
    → b && (ltb pages (length flags - count_by (λ f. f) flags)
    && ltb (count_by is_some entries) (length entries)) ≡ true → 0 < length flags
some_record pages flags entries b h = grind (arith, nat_tests)

-- a segment may move to a volume: it is there, and has room
pub record IsMovable (s : State) (u volume : ℕ) : Type 0 where
  pub still : s.store.moving ≡ None
  pub active : IsActive s.store.ast.entries u
  pub there : volume < length s.store.pages.disks
  pub roomy : is_roomy (volumes_of s.store.pages) (home_in s.store u).volume (count_of s.store.accounts u) volume ≡ true
  pub unread : IsUnread s.store.pages.core u

module _ {D : Type 0} {t : Parts D} {c u volume : ℕ} (d : Does t c (act.BeginMove u volume)) where
  abbrev s : State
  s = t.state

  room : is_roomy (volumes_of s.store.pages) (home_in s.store u).volume (count_of s.store.accounts u) volume ≡ true
  room = (moved_for s (process_at s c) (mover_to s.store u volume) (next_command s (process_at s c))
      (knows d).moves.moves).1.first.room

  volume_there : volume < length s.store.pages.disks
  volume_there = grind (arith, some_record, room, keeps_of, slice_get_past)

  pub movable : IsMovable s u volume
  movable = record {
    still = still_for d;
    active = active_there s.store u (knows d).moves.active;
    there = volume_there;
    roomy = room;
    unread = (knows d).moves.unread;
  }
