-- What is counted of a list, as one element after the other changes.
use Rattle.std.proofs.lemmas.Grind.{common_steps}
use Rattle.custody.proofs.Prelude.{nat_tests, ◌≡◌, ◌<◌, ◌≤◌, ◌^◌, ℕ, suc, zero, eqb, List, [], ◌∷◌, Option, Some, None, length, get_or, set, length-set, ◌∙◌, arith, subst, sym, sum_by, sum_by-set, sum_by-cons, FrameUse, DescriptorUse, AreFew, Counted, Keeps, Shifts, key_bit, UseCounted, IsTally, AreFrames, AreDescriptors, KeepUses, ShiftUses, AreFewUses, frame_mark, descriptor_mark, uid_key, going_key, kind_key, page_key, started_key, bit_le}

-- ---- sums

pub sum_part : {X : Type 0} (f : X → ℕ) (xs : List X) (i : ℕ) (d : X) → i < length xs → f (get_or xs i d) ≤ sum_by f xs
sum_part f [] i d l = let z : ⊥ = omega (arith, l) in absurd z
sum_part f (x ∷ xs) zero d l = let c = sum_by-cons f x xs in omega (arith, c)
sum_part f (x ∷ xs) (suc i) d l = let h = sum_part f xs i d (omega (arith, l)) in let c =
    sum_by-cons f x xs in omega (arith, h, c)

sum_small : {X : Type 0} (f : X → ℕ) → ((x : X) → f x ≤ 1) → (xs : List X) → sum_by f xs ≤ length xs
sum_small f one [] = omega arith
sum_small f one (x ∷ xs) = let h = sum_small f one xs in let g = one x in let c =
    sum_by-cons f x xs in omega (arith, h, g, c)

pub bit_small : (k : Option ℕ) (a : ℕ) → key_bit k a ≤ 1
bit_small None a = omega arith
bit_small (Some k) a = bit_le (eqb k a)

-- ---- tallies

pub tally_set : {X : Type 0} (key : X → Option ℕ) (xs : List X) (old new : Counted) (i : ℕ) (x d : X) → i < length xs
    → IsTally key xs old → Shifts old new (key (get_or xs i d)) (key x) → IsTally key (set xs i x) new
tally_set {X} key xs old new i x d l t s = grind (arith, nat_tests, common_steps, sum_by-set, sum_part)

pub tally_kept : {X : Type 0} (key : X → Option ℕ) (xs : List X) (old new : Counted) → IsTally key xs old
    → Keeps old new → IsTally key xs new
tally_kept key xs old new t k = λ a. k a ∙ t a

pub tally_few : {X : Type 0} (key : X → Option ℕ) (xs : List X) (c : Counted) → length xs ≤ 2 ^ 32
    → IsTally key xs c → AreFew c
tally_few {X} key xs c l t = grind (arith, nat_tests, common_steps, sum_small, bit_small)

-- ---- frames and descriptors

-- memory was taken to count a use, and perhaps to count it where its page is being read
pub frames_kept : (uses : List FrameUse) (c e : UseCounted) (p s : Counted) → AreFrames uses c p s → KeepUses c e
    → AreFrames uses e p s
frames_kept uses c e p s t k = grind (arith, nat_tests, common_steps, tally_kept)

pub frames_ready : (uses : List FrameUse) (c e : UseCounted) (p s z : Counted) → AreFrames uses c p s → KeepUses c e
    → Keeps s z → AreFrames uses e p z
frames_ready uses c e p s z t k j =
    grind (arith, nat_tests, common_steps, frames_kept uses c e p s t k, tally_kept started_key uses s z t.started j)

-- memory lacked for its page
pub frames_lacking : (uses : List FrameUse) (c e : UseCounted) (p q s z : Counted) → AreFrames uses c p s
    → KeepUses c e → Keeps s z → q ≡ p → AreFrames uses e q z
frames_lacking uses c e p q s z t k j same = subst (λ (x : Counted). AreFrames uses e x z) (sym same)
    (frames_ready uses c e p s z t k j)

frames_length : (uses : List FrameUse) (c : UseCounted) (p s : Counted) → AreFrames uses c p s → length uses ≤ 2 ^ 32
frames_length uses c p s t = let h = t.few in omega (arith, h)

pub uses_few : (uses : List FrameUse) (c e : UseCounted) (p s : Counted) → AreFrames uses c p s → KeepUses c e
    → AreFewUses e
uses_few uses c e p s t k =
    let l = frames_length uses c p s t in
    let all = frames_kept uses c e p s t k in
    record {
      uids = tally_few (λ x. uid_key (frame_mark x)) uses e.uids l all.uids;
      going = tally_few (λ x. going_key (frame_mark x)) uses e.going l all.going;
      kinds = tally_few (λ x. kind_key (frame_mark x)) uses e.kinds l all.kinds;
    }

pub pages_few : (uses : List FrameUse) (c : UseCounted) (p q s : Counted) → AreFrames uses c p s → Keeps p q → AreFew q
pages_few uses c p q s t k = tally_few page_key uses q (frames_length uses c p s t)
    (tally_kept page_key uses p q t.pages k)

pub started_few : (uses : List FrameUse) (c : UseCounted) (p s z : Counted) → AreFrames uses c p s → Keeps s z
    → AreFew z
started_few uses c p s z t k = tally_few started_key uses z (frames_length uses c p s t)
    (tally_kept started_key uses s z t.started k)

pub frames_put : (uses : List FrameUse) (c d e : UseCounted) (p q r s y z : Counted) (f : ℕ) (x w : FrameUse)
    → f < length uses → AreFrames uses c p s → KeepUses c d → Keeps p q → Keeps s y
    → ShiftUses d e (frame_mark (get_or uses f w)) (frame_mark x) → Shifts q r (page_key (get_or uses f w)) (page_key x)
    → Shifts y z (started_key (get_or uses f w)) (started_key x) → AreFrames (set uses f x) e r z
frames_put uses c d e p q r s y z f x w l t k j more h i g =
    grind (arith, nat_tests, common_steps, frames_kept, length-set, tally_set, tally_kept)

pub descriptors_kept : (uses : List DescriptorUse) (c e : UseCounted) → AreDescriptors uses c → KeepUses c e
    → AreDescriptors uses e
descriptors_kept uses c e t k = grind (arith, nat_tests, common_steps, tally_kept)

pub descriptors_few : (uses : List DescriptorUse) (c : UseCounted) → AreDescriptors uses c → AreFewUses c
descriptors_few uses c t =
    let l : length uses ≤ 2 ^ 32 = let h = t.few in omega (arith, h) in
    record {
      uids = tally_few (λ x. uid_key (descriptor_mark x)) uses c.uids l t.uids;
      going = tally_few (λ x. going_key (descriptor_mark x)) uses c.going l t.going;
      kinds = tally_few (λ x. kind_key (descriptor_mark x)) uses c.kinds l t.kinds;
    }

pub descriptors_put : (uses : List DescriptorUse) (c e : UseCounted) (n : ℕ) (x d : DescriptorUse) → n < length uses
    → AreDescriptors uses c
    → ShiftUses c e (descriptor_mark (get_or uses n d)) (descriptor_mark x) → AreDescriptors (set uses n x) e
descriptors_put uses c e n x d l t s = grind (arith, nat_tests, common_steps, length-set, tally_set)

pub ruleset frames_counted = (frames_kept, frames_ready, frames_lacking, frames_put, uses_few, pages_few, started_few)

pub ruleset descriptors_counted = (descriptors_kept, descriptors_put, descriptors_few)
