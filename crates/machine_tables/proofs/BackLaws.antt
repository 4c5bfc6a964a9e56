-- What the owner took comes back, one after the other, or is gone.
use Rattle.machine_tables.proofs.Prelude.{◌≡◌, ◌+◌, ◌-◌, ◌≤◌, ℕ, List, ◌∷◌, length, Option, Some, None, refl, sym, ap, subst, ◌∙◌, arith, slice_get, CutDescriptor, page_back, pages_back, seg_back, seg_gone, segs_back, segs_gone, without_first_cut, without_first_frame, cut_of_owner, frames_of_owner, Owner, State, HasOwner, KeepsSeats, MayComeBack, MayRelink, here_moving, cut_less}
use Rattle.machine_tables.proofs.JobLaws.{cuts_after, frames_next, owner_left, owner_less}

-- what the owner took is gone through, one after the other: what is done to all that is left comes to the same
pub record Empties {A : Type 0} (items : Option Owner → List A) (all : State → List A → State) (now first : State)
    : Type 0 where
  pub same : all now (items now.owner) ≡ all first (items first.owner)
  pub owner : HasOwner now.owner
  pub room : length (items now.owner) ≤ now.spare
  pub spent : now.spare + length (items first.owner) ≡ first.spare + length (items now.owner)

module _ {A : Type 0} (items : Option Owner → List A) (all : State → List A → State) where
  empties_next : (s t first : State) (x : A) (rest : List A) → Empties items all s first → items s.owner ≡ x ∷ rest
      → items t.owner ≡ rest → all t rest ≡ all s (x ∷ rest) → HasOwner t.owner → t.spare ≡ s.spare - 1
      → Empties items all t first
  empties_next s t first x rest on next left step owner spare =
      let count = ap length next in
      let less = ap length left in
      let room = on.room in
      let spent = on.spent in
      record {
        same = cc;
        owner = owner;
        room = omega arith;
        spent = omega arith;
      }

-- ---- pages come back

pub record BacksOn (now first : State) : Type 0 where
  pub each : Empties frames_of_owner pages_back now first
  pub may : MayComeBack now.store (frames_of_owner now.owner)
  pub seats : KeepsSeats first now
  pub cut : cut_of_owner now.owner ≡ cut_of_owner first.owner
  pub still : now.store.moving ≡ None

pub backs_next : (s t first : State) (f : ℕ) → BacksOn s first → Some f ≡ slice_get (frames_of_owner s.owner) 0
    → t ≡ page_back s f → KeepsSeats first t → BacksOn t first
backs_next s t first f on h is seats =
    let next = frames_next s.owner f (sym h) in
    record {
      each = empties_next frames_of_owner pages_back s t first f _ on.each next
          (ap (λ (x : State). frames_of_owner x.owner) is)
          (ap (λ (x : State). pages_back x (frames_of_owner (without_first_frame s.owner))) is)
          (subst (λ (x : State). HasOwner x.owner) (sym is) (owner_left s.owner on.each.owner))
          (ap (λ (x : State). x.spare) is);
      may = subst (λ (x : State). MayComeBack x.store (frames_of_owner x.owner)) (sym is)
          (subst (MayComeBack s.store) next on.may).1;
      seats = seats;
      cut = ap (λ (x : State). cut_of_owner x.owner) is ∙ cut_less s.owner ∙ on.cut;
      still = ap (λ (x : State). x.store.moving) is ∙ here_moving s.store f ∙ on.still;
    }

-- ---- descriptors come back

pub record RelinksOn (now first : State) : Type 0 where
  pub each : Empties cut_of_owner segs_back now first
  pub may : MayRelink now.store (cut_of_owner now.owner)
  pub seats : KeepsSeats first now

-- one descriptor less, whatever becomes of it
cut_next : (step : State → CutDescriptor → State) (all : State → List CutDescriptor → State) (s t first : State)
    (d : CutDescriptor) → ((ds : List CutDescriptor) → all (step s d) ds ≡ all s (d ∷ ds))
    → (step s d).owner ≡ without_first_cut s.owner → (step s d).spare ≡ s.spare - 1
    → Empties cut_of_owner all s first → Some d ≡ slice_get (cut_of_owner s.owner) 0 → t ≡ step s d
    → Empties cut_of_owner all t first
cut_next step all s t first d goes owner spare on h is =
    let now = ap (λ (x : State). x.owner) is ∙ owner in
    empties_next cut_of_owner all s t first d _ on (cuts_after s.owner d (sym h)) (ap cut_of_owner now)
    (cc (goes (cut_of_owner (without_first_cut s.owner)))) (subst HasOwner (sym now) (owner_less s.owner on.owner)) (cc)

pub relinks_next : (s t first : State) (d : CutDescriptor) → RelinksOn s first
    → Some d ≡ slice_get (cut_of_owner s.owner) 0 → t ≡ seg_back s d → KeepsSeats first t → RelinksOn t first
relinks_next s t first d on h is seats = record {
  each = cut_next seg_back segs_back s t first d (λ ds. refl) refl refl on.each h is;
  may = rw is (subst (MayRelink s.store) (cuts_after s.owner d (sym h)) on.may).1;
  seats = seats;
}

-- ---- descriptors are gone

pub record GoesOn (now first : State) : Type 0 where
  pub each : Empties cut_of_owner segs_gone now first
  pub store : now.store ≡ first.store

pub goes_next : (s t first : State) (d : CutDescriptor) → GoesOn s first
    → Some d ≡ slice_get (cut_of_owner s.owner) 0 → t ≡ seg_gone s d → GoesOn t first
goes_next s t first d on h is = grind (arith, cut_next)
