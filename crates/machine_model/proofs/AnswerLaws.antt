-- A command is answered, a drive's failure is told, or the owner of the supervisor changes.
use Rattle.machine_model.proofs.Basics.{◌≡◌, ℕ, List, ◌++◌, Option, Some, refl, command_at, Command, Reply, gone_on, IsLawful, IsLawfulDo, MayFault, after_entry, progress_of, MayDo, at_put, custody_next, is_try, released_by, answered, counted, KeepsBook, HoldsRight, IsRun, is_pending, Seen, flat, shown, seat_of, Processor, Run, Owner, Entry as entry, next_of as next_command, changes_failed as failed, book_apart, book_next, right_like, under_way_alike, IsIdle, like_seat, owned_like, owned_idle, by_place, put_map, runs_answered, runs_failed}
use Rattle.machine_model.proofs.OwnerLaws.{owner_next}

-- ---- a command

-- The flat store and custody allow the answer, and the process has come as far as the flat store says.
pub record CanAnswer (v : Seen) (c k place : ℕ) (f : Option ℕ) (r : Reply) (run : Run) : Type 0 where
  pub command : Command
  pub there : command_at v.plan k place ≡ Some command
  pub lawful : IsLawfulDo v.plan (flat v) k place r
  pub allowed : MayDo v.plan (flat v) (shown v) k c f r
  pub come : IsRun (gone_on (progress_of (flat v) k) command r) run

pub answer_keeps : {v : Seen} (c k place : ℕ) (f : Option ℕ) (r : Reply) (run : Run) → KeepsBook v
    → CanAnswer v c k place f r run → KeepsBook (answered v c k place f r run)
unfolding IsLawful after_entry custody_next
answer_keeps {v} c k place f r run keeps can = book_next refl refl keeps (record {
  lawful = can.lawful;
  allowed = can.allowed;
  online = tt;
  next = λ i. record (shown v) { seat = λ d. put_map seat_of v.processors c p d i; ready = ready };
  pending = refl;
  going_owned = owned_like (like_seat (shown v) c (seat_of p) ready refl) keeps.going_owned;
  tied = keeps.tied;
  holding_right = λ d. by_place (λ (x : Processor). HoldsRight v.bound (shown v).descriptor x) v.processors c p d
      (λ i. right_like (v.processors c) p (keeps.holding_right c) refl refl (keeps.holding_right c).warned)
      (λ n. keeps.holding_right d);
  under_way = under_way_alike (at_put v.processors c p)
      (λ d. by_place (λ (x : Processor). x.cpu.transfer ≡ (v.processors d).cpu.transfer) v.processors c p d
      (λ i. cc) (λ n. refl)) keeps.under_way;
  runs = λ j. (rw can.there (runs_answered v.plan (flat v) k can.command r v.runs can.lawful.going can.come
      keeps.runs j));
})
  where
    p : Processor
    p = counted (v.processors c) (is_try (flat v) k (next_command v.plan (flat v) k) r)

    ready : List ℕ
    ready = v.ready ++ released_by v.plan k (next_command v.plan (flat v) k)

-- ---- a failure

pub fault_keeps : (v : Seen) (o : Option ℕ) → KeepsBook v → MayFault (flat v) o → KeepsBook (failed v o)
unfolding IsLawful after_entry custody_next
fault_keeps v o k may = book_apart (entry.Fault o) k may tt tt refl refl (runs_failed (flat v) o v.runs k.runs)

-- ---- the owner

-- the supervisor is taken or given up, where nothing goes
pub owner_keeps : {v : Seen} {owner : Option Owner} → KeepsBook v → IsIdle v.owner → IsIdle owner
    → is_pending v.owner ≡ is_pending owner → KeepsBook (record v { owner = owner })
owner_keeps {v} {owner} k was now pending = owner_next k (cc) pending (owned_idle k.going_owned was now)
