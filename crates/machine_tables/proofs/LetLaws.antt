-- What the owner took is gone, one after the other.
use Rattle.machine_tables.proofs.Prelude.{◌≡◌, ◌+◌, ◌-◌, ◌≤◌, ℕ, length, map, List, [], ◌∷◌, ◌++◌, Option, Some, None, sym, ap, subst, ◌∙◌, arith, append_assoc, append-nil, length-append, slice_get, CutDescriptor, cut_entry, seg_gone, segs_gone, without_first_cut, without_first_frame, cut_of_owner, frames_of_owner, State, booked, with_owner, inactive_entry, left_entries, left_entry, HasOwner, Parts, with_state, cut_less, Entry_Entry as Entry}
use Rattle.machine_tables.proofs.JobLaws.{frames_next, owner_left}

-- ---- entries

pub booked_more : (s : State) (es fs : List Entry) → booked (booked s es) fs ≡ booked s (es ++ fs)
booked_more s es fs =
    let entries = append_assoc s.entries es fs in
    let long : length (es ++ fs) ≡ length es + length fs = length-append es fs in
    let spare : (s.spare - length es) - length fs ≡ s.spare - length (es ++ fs) = omega arith in
    λ i. record s { entries = entries i; spare = spare i }

pub booked_none : (s : State) → booked s [] ≡ s
booked_none s =
    let entries : s.entries ++ [] ≡ s.entries = append-nil s.entries in
    let spare : s.spare - 0 ≡ s.spare = omega arith in
    λ i. record s { entries = entries i; spare = spare i }

-- ---- frames

-- so far as the frames are gone, the rest leads to the same, but for the owner
pub record PagesOn (now first : State) (kept : Option ℕ) : Type 0 where
  pub same : with_owner (booked now (map (left_entry kept) (frames_of_owner now.owner))) None
      ≡ with_owner (booked first (map (left_entry kept) (frames_of_owner first.owner))) None
  pub owner : HasOwner now.owner
  pub room : length (frames_of_owner now.owner) ≤ now.spare
  pub cut : cut_of_owner now.owner ≡ cut_of_owner first.owner
  pub spent : now.spare + length (frames_of_owner first.owner) ≡ first.spare + length (frames_of_owner now.owner)

pub pages_next : (s t first : State) (kept : Option ℕ) (f : ℕ) → PagesOn s first kept
    → Some f ≡ slice_get (frames_of_owner s.owner) 0
    → t ≡ booked (with_owner s (without_first_frame s.owner)) (left_entry kept f ∷ []) → PagesOn t first kept
pages_next s t first kept f on at is = subst (λ (x : State). PagesOn x first kept) (sym is) (
    let rest = frames_of_owner (without_first_frame s.owner) in
    let all : frames_of_owner s.owner ≡ f ∷ rest = frames_next s.owner f (sym at) in
    let count = ap length all in
    let room = on.room in
    let spent = on.spent in
    record {
      same = ap (λ (x : State). with_owner x None)
          (booked_more (with_owner s (without_first_frame s.owner)) (left_entry kept f ∷ [])
          (map (left_entry kept) rest)) ∙ (cc);
      owner = owner_left s.owner on.owner;
      room = omega arith;
      cut = cut_less s.owner ∙ on.cut;
      spent = omega arith;
    })

-- ---- descriptors

segs_booked : (s : State) (ds : List CutDescriptor) → with_owner (segs_gone s ds) None
    ≡ with_owner (booked s (map cut_entry ds)) None
segs_booked s [] = cc (booked_none s)
segs_booked s (d ∷ ds) = segs_booked (seg_gone s d) ds ∙ ap (λ (x : State). with_owner x None)
    (booked_more (with_owner s (without_first_cut s.owner)) (cut_entry d ∷ []) (map cut_entry ds))

-- ---- all that goes

pub all_gone : {D : Type 0} (old mid next new : Parts D) (kept inactive : Option ℕ)
    → mid ≡ with_state old (with_owner (booked old.state (map (left_entry kept) (frames_of_owner old.state.owner)))
    mid.state.owner) → cut_of_owner mid.state.owner ≡ cut_of_owner old.state.owner
    → next ≡ with_state mid (segs_gone mid.state (cut_of_owner mid.state.owner))
    → new ≡ with_state next (booked next.state (inactive_entry inactive))
    → new ≡ with_state old (with_owner (booked old.state (left_entries old.state kept inactive)) new.state.owner)
all_gone {D} old mid next new kept inactive pages cut segs last = grind (arith, segs_booked, booked_more)
