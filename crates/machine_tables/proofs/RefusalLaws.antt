-- What the store refuses is what the model refuses by the flat store after the book.
use Rattle.machine_tables.proofs.Prelude.{◌≡◌, ℕ, cond, List, None, refl, Plan, reference_of, Command, Reference, Reply, reply_to_command, volume_in, is_volume_full, reply_to_reference, room_for, Store, Shows, Stored, refusal, IsFaithful, flat_of, State, shown, arith}
use Rattle.storage_ops.specs.References as stored
use Rattle.machine_model.specs.Refusal as model

-- where a segment moves to before a page more of it is made
pub moves_is : (s : State) (u : ℕ)
    → cond (is_volume_full s.plan (flat_of s) (volume_in (flat_of s).nodes u)) (room_for s.plan (flat_of s) u) None
    ≡ model.move_to s u
unfolding model.move_to
moves_is s u = refl

pub shows_of : {D : Type 0} (drive : D → List (List ℕ)) (p : Plan) (t : Store) (st : Stored D)
    → IsFaithful p t (shown drive st) → Shows drive p t st
shows_of drive p t st h = assumption

same_outside : (x : Reply) → stored.only stored.is_outside x ≡ model.only model.is_outside x
same_outside x = grind arith

same_room : (x : Reply) → stored.only stored.is_of_room x ≡ model.only model.is_of_room x
same_room x = grind arith

pub outside_is : (s : State) (k : ℕ) (r : Reference)
    → stored.outside_refusal s.plan (flat_of s) k r ≡ model.outside_refusal s k r
unfolding stored.outside_refusal model.outside_refusal
outside_is s k r = same_outside (reply_to_reference s.plan (flat_of s) k r)

pub room_is : (s : State) (k : ℕ) (r : Reference)
    → stored.room_refusal s.plan (flat_of s) k r ≡ model.room_refusal s k r
unfolding stored.room_refusal model.room_refusal
room_is s k r = same_room (reply_to_reference s.plan (flat_of s) k r)

pub command_is : (s : State) (k : ℕ) (c : Command) → reference_of c ≡ None
    → refusal (reply_to_command s.plan (flat_of s) k c) ≡ model.refusal_of s k c
unfolding model.refusal_of
command_is s k c tree = cc
