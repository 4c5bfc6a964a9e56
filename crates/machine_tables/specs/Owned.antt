-- The owner of the supervisor, and what its job has taken.
use Rattle.std.specs.Prelude.{◌≢◌, ◌≤◌, ◌+◌, ℕ, length, List, [], ◌∷◌, ◌++◌, Option, Some, None}
use Rattle.assoc_mem.specs.declared.What.{What}
use Rattle.machine_model.specs.declared.Aim.{Aim}
use Rattle.machine_model.specs.declared.Phase.TheVariants.{Taken}
use Rattle.machine_model.specs.declared.CutDescriptor.{CutDescriptor}
use Rattle.machine_model.specs.State.{Owner, State}
use Rattle.machine_model.specs.Reads.{cut_of_owner, frames_of_owner}
use Rattle.machine_tables.specs.declared.owner.Holder.{Holder}

-- the owner, if there is one, with what its job has taken
abbrev pub owner_of : Option Holder → List ℕ → List CutDescriptor → Option Owner
owner_of None frames cut = None
owner_of (Some h) frames cut = Some (record { cpu = h.cpu; phase = h.phase; frames = frames; cut = cut })

-- an owner with what its job has taken
abbrev pub owner_by : Holder → List ℕ → List CutDescriptor → Owner
owner_by h frames cut = record { cpu = h.cpu; phase = h.phase; frames = frames; cut = cut }

abbrev pub HasOwner : Option Owner → Type 0
HasOwner o = o ≢ None

-- the owner once it took a frame more, or cut a descriptor more
abbrev pub took_frame : Option Owner → ℕ → Aim → What → ℕ → Option Owner
took_frame o c a w f =
    Some (record { cpu = c; phase = Taken a w; frames = frames_of_owner o ++ f ∷ []; cut = cut_of_owner o })

abbrev pub took_cut : Option Owner → ℕ → Aim → What → CutDescriptor → Option Owner
took_cut o c a w d =
    Some (record { cpu = c; phase = Taken a w; frames = frames_of_owner o; cut = cut_of_owner o ++ d ∷ [] })

-- the owner can take these frames and cut these descriptors, and the book has room for what is told of it
pub record CanTake (s : State) (frames : List ℕ) (cuts : List (ℕ × ℕ)) : Type 0 where
  pub owner : HasOwner s.owner
  pub pages : length (frames_of_owner s.owner) + length frames ≤ 256
  pub descriptors : length (cut_of_owner s.owner) + length cuts ≤ 256
  pub room : length frames + length cuts ≤ s.spare
