-- What a job cuts is known by its number to its process, and is so still once it is cut.
use Rattle.machine_model.proofs.Kept.{◌≡◌, ◌≤◌, ◌+◌, ℕ, arith, length, List, [], ◌∷◌, ◌++◌, Option, Some, None, refl, sym, ap, subst, ◌∙◌, length-append, What, Sdw, uid_of, kst_at, leads, Aim, CutDescriptor, led_to, seen, cut_all, cut_one, note_of, owner_signalled, take_all, take_one, took, without_first_frame, Keeps, cut_of_owner, descriptor_of, frames_of_owner, Owner, State, AreNumbered, OwnsFew, Sdw as sdw, IsIdle, ArePairs, linked_before, noted, noted_has, pairs_left}
use Rattle.machine_model.proofs.TakeWhole.{take_linked, cut_frames}

-- the number of a descriptor that leads to a segment stands for it
abbrev KnowsLinked : (ℕ → ℕ → Option ℕ) → List (List (Option ℕ)) → Type 0
KnowsLinked linked numbers = (k n u : ℕ) → linked k n ≡ Some u → uid_of (kst_at numbers k) n ≡ Some u

linked_known : {s : State} → Keeps s → KnowsLinked (seen s).linked s.store.links.known
linked_known {s} keeps k n u h = by (descriptor_of s.store.links k n) refl h
  where
    by : (x : Sdw) → descriptor_of s.store.links k n ≡ x → led_to s.store.ast.entries x ≡ Some u
        → uid_of (kst_at s.store.links.known k) n ≡ Some u
    by sdw.Fault e i = cc
    by (sdw.Present aste mode pages) e i = let at = keeps.store.kept.linked.known k n aste (ap leads e) in
        cc

numbered_push : (numbers : List (List (Option ℕ))) (ds : List CutDescriptor) (d : CutDescriptor)
    → AreNumbered numbers ds → uid_of (kst_at numbers d.process) d.number ≡ Some d.uid
    → AreNumbered numbers (ds ++ d ∷ [])
numbered_push numbers [] d are h = (h, tt)
numbered_push numbers (x ∷ xs) d are h = (are.0, numbered_push numbers xs d are.1 h)

cut_numbered : (s : State) (c : ℕ) (a : Aim) (w : What) (xs : List (ℕ × ℕ)) (numbers : List (List (Option ℕ)))
    → ArePairs (seen s).linked w xs → KnowsLinked (seen s).linked numbers
    → AreNumbered numbers (cut_of_owner s.owner) → AreNumbered numbers (cut_of_owner (cut_all s c a w xs).owner)
cut_numbered s c a w [] numbers are knows had = had
cut_numbered s c a w (x ∷ xs) numbers are knows had = cut_numbered (cut_one s c a w x) c a w xs numbers
    (pairs_left s c a w x xs are) (λ k n u h. knows k n u (linked_before s c a w x are.0.1 k n h))
    (numbered_push numbers (cut_of_owner s.owner) (noted s x) had
    (noted_has (λ k n. uid_of (kst_at numbers k) n) s x are.0.1 (knows x.0 x.1 are.0.0 are.0.1)))

pub take_cut : (s : State) (c : ℕ) (a : Aim) (w : What) (fs : List ℕ)
    → cut_of_owner (take_all s c a w fs).owner ≡ cut_of_owner s.owner
take_cut s c a w [] = refl
take_cut s c a w (f ∷ fs) = take_cut (take_one s c a w f) c a w fs

-- What a job takes more is known so too.
pub took_numbered : {s : State} (c : ℕ) (a : Aim) (w : What) (fs : List ℕ) (pairs : List (ℕ × ℕ)) → Keeps s
    → AreNumbered s.store.links.known (cut_of_owner s.owner) → ArePairs (seen s).linked w pairs
    → AreNumbered s.store.links.known (cut_of_owner (took s c a w fs pairs).owner)
took_numbered {s} c a w fs pairs keeps had are = cut_numbered mid c a w pairs s.store.links.known (rw same are)
    (subst (λ (l : ℕ → ℕ → Option ℕ). KnowsLinked l s.store.links.known) (sym same) (linked_known keeps))
    (rw (take_cut s c a w fs) had)
  where
    mid : State
    mid = take_all s c a w fs

    same : (seen mid).linked ≡ (seen s).linked
    same = take_linked s c a w fs

-- a signal, and a page that leaves, leave the descriptors
pub cut_signalled : (o : Option Owner) → cut_of_owner (owner_signalled o) ≡ cut_of_owner o
cut_signalled None = refl
cut_signalled (Some q) = refl

-- ---- how much a job has taken

pub take_long : (s : State) (c : ℕ) (a : Aim) (w : What) (fs : List ℕ)
    → length (frames_of_owner (take_all s c a w fs).owner) ≡ length (frames_of_owner s.owner) + length fs
take_long s c a w [] = omega arith
take_long s c a w (f ∷ fs) = omega (
  arith,
  take_long (take_one s c a w f) c a w fs,
  length-append (frames_of_owner s.owner) (f ∷ []),
)

pub cut_long : (s : State) (c : ℕ) (a : Aim) (w : What) (xs : List (ℕ × ℕ))
    → length (cut_of_owner (cut_all s c a w xs).owner) ≡ length (cut_of_owner s.owner) + length xs
cut_long s c a w [] = omega arith
cut_long s c a w (x ∷ xs) = omega (
  arith,
  cut_long (cut_one s c a w x) c a w xs,
  length-append (cut_of_owner s.owner) (note_of s.store x.0 x.1 (descriptor_of s.store.links x.0 x.1) ∷ []),
)

pub took_few : (s : State) (c : ℕ) (a : Aim) (w : What) (fs : List ℕ) (pairs : List (ℕ × ℕ)) → IsIdle s.owner
    → length fs + length pairs ≤ 288 → OwnsFew (took s c a w fs pairs).owner
took_few s c a w fs pairs idle few = let y = cut_long (take_all s c a w fs) c a w pairs in
    let z = ap (λ (gs : List ℕ). length gs) (cut_frames (take_all s c a w fs) c a w pairs) in
    let v = ap (λ (gs : List ℕ). length gs) idle.frames in
    omega (arith, (take_long s c a w fs), ap (λ (ds : List CutDescriptor). length ds) (take_cut s c a w fs ∙ idle.cut))

pub signalled_few : (o : Option Owner) → OwnsFew o → OwnsFew (owner_signalled o)
signalled_few None h = h
signalled_few (Some q) h = h

pub less_few : (o : Option Owner) → OwnsFew o → OwnsFew (without_first_frame o)
less_few None h = h
less_few (Some q) h = by q.frames h
  where
    by : (fs : List ℕ) → length fs + length q.cut ≤ 288
        → OwnsFew (without_first_frame (Some (record q { frames = fs })))
    by [] e = e
    by (f ∷ fs) e = omega arith
