-- The lists of a job: what it took first, and what is left.
use Rattle.machine_tables.proofs.Prelude.{◌≡◌, ◌<◌, ℕ, List, ◌∷◌, length, Option, Some, sym, arith, slice_get, CutDescriptor, cut_of_owner, frames_of_owner, Owner, State, rest_of, without_first_cut, without_first_frame, none_some, HasOwner, Parts}
use Rattle.machine_tables.proofs.PartLaws.{Going}

first_of : {A : Type 0} (xs : List A) (x : A) → slice_get xs 0 ≡ Some x → xs ≡ x ∷ rest_of xs
first_of xs x h1 = grind arith

pub frames_next : (o : Option Owner) (f : ℕ) → slice_get (frames_of_owner o) 0 ≡ Some f
    → frames_of_owner o ≡ f ∷ frames_of_owner (without_first_frame o)
frames_next o f h1 = grind arith

pub cuts_after : (o : Option Owner) (d : CutDescriptor) → slice_get (cut_of_owner o) 0 ≡ Some d
    → cut_of_owner o ≡ d ∷ cut_of_owner (without_first_cut o)
cuts_after o d h1 = grind arith

pub owner_left : (o : Option Owner) → HasOwner o → HasOwner (without_first_frame o)
owner_left o h1 = grind (arith, none_some)

pub owner_less : (o : Option Owner) → HasOwner o → HasOwner (without_first_cut o)
owner_less o h1 = grind (arith, none_some)

-- each step of a loop leaves one less
one_less : {A : Type 0} (items : Option Owner → List A) (o now left : Option Owner) (x : A)
    → items o ≡ x ∷ items left → now ≡ left → length (items now) < length (items o)
one_less items o now left x next is = grind arith

module _ {D : Type 0} {On : State → State → Type 0} {s first : Parts D} (t : Parts D) (going : Going On s first) where
  pub frame_smaller : {f : ℕ} → Some f ≡ slice_get (frames_of_owner s.state.owner) 0
      → t.state.owner ≡ without_first_frame s.state.owner
      → length (frames_of_owner t.state.owner) < length (frames_of_owner s.state.owner)
  frame_smaller {f} h = one_less frames_of_owner s.state.owner _ _ f (frames_next s.state.owner f (sym h))

  pub cut_smaller : {d : CutDescriptor} → Some d ≡ slice_get (cut_of_owner s.state.owner) 0
      → t.state.owner ≡ without_first_cut s.state.owner
      → length (cut_of_owner t.state.owner) < length (cut_of_owner s.state.owner)
  cut_smaller {d} h = one_less cut_of_owner s.state.owner _ _ d (cuts_after s.state.owner d (sym h))
