-- Custody before the first entry.
use Rattle.std.proofs.lemmas.Grind.{common_steps}
use Rattle.custody.proofs.Prelude.{nat_tests, ◌≡◌, ◌<◌, ◌≤◌, length, ◌+◌, ℕ, suc, zero, List, [], ◌∷◌, ◌++◌, replicate, refl, arith, sum_by, length-replicate, sum_by-cons, Plan, nothing_held, offline, range, ready_at_first, FrameUse, Counted, UseCounted, AreDescriptors, AreFrames, descriptor_at, AreTablesOf, Tables, custody_of, row_at, all_same, range_end}
use Rattle.custody_model.specs.declared.FrameUse.TheVariants as frame
use Rattle.custody_model.specs.declared.DescriptorUse.TheVariants as descriptor

pub none_counted : {X : Type 0} (f : X → ℕ) (d : X) (n : ℕ) → f d ≡ 0 → sum_by f (replicate n d) ≡ 0
none_counted f d zero e = refl
none_counted f d (suc n) e =
    grind (arith, nat_tests, common_steps, sum_by-cons f d (replicate n d), none_counted f d n e)

pub frames_free : (n : ℕ) → n ≤ 1024 → AreFrames (replicate n frame.Free)
    (record { uids = []; going = []; kinds = [] }) [] []
frames_free n few = grind (arith, nat_tests, common_steps, length-replicate, none_counted)

pub descriptors_free : AreDescriptors (replicate 256 descriptor.Free) (record { uids = []; going = []; kinds = [] })
descriptors_free = grind (arith, nat_tests, common_steps, length-replicate 256 descriptor.Free, none_counted)

free_row : (n k i : ℕ) → descriptor_at (row_at (replicate n (replicate 256 descriptor.Free)) k) i ≡ descriptor.Free
free_row zero k i = refl
free_row (suc n) zero i = all_same 256 i descriptor.Free
free_row (suc n) (suc k) i = free_row n k i

pub booted : (p : Plan) (t : Tables) (f d s : ℕ) → t.active ≡ [] → t.frames ≡ replicate f frame.Free
    → t.descriptors ≡ replicate d (replicate 256 descriptor.Free)
    → t.ready ≡ ready_at_first p → t.seats ≡ replicate s offline → custody_of t ≡ nothing_held p
booted p t f d s a fs ds r ss = grind (arith, nat_tests, common_steps, all_same, free_row)

pub frames_made : (n : ℕ) (uses : List FrameUse) (c : UseCounted) (p s : Counted) → uses ≡ replicate n frame.Free
    → c ≡ record { uids = []; going = []; kinds = [] } → p ≡ [] → s ≡ [] → n ≤ 1024 → AreFrames uses c p s
frames_made n uses c p s u e f g few = rw (u, e, f, g) (frames_free n few)

pub range_more : (n : ℕ) (xs ys : List ℕ) → xs ≡ range 0 n → ys ≡ xs ++ n ∷ [] → ys ≡ range 0 (n + 1)
range_more n xs ys e f = grind (arith, nat_tests, common_steps, range_end 0 n)

-- the tables are those of the script
row_size : (d k : ℕ) → k < d → length (row_at (replicate d (replicate 256 descriptor.Free)) k) ≡ 256
row_size zero k l = absurd (omega (arith, l))
row_size (suc d) zero l = length-replicate 256 descriptor.Free
row_size (suc d) (suc k) l = row_size d k (omega (arith, l))

pub booted_sizes : (p : Plan) (t : Tables) (f d s : ℕ) → f ≡ p.frames → d ≡ length p.processes → s ≡ p.processors
    → t.frames ≡ replicate f frame.Free
    → t.descriptors ≡ replicate d (replicate 256 descriptor.Free) → t.seats ≡ replicate s offline → AreTablesOf p t
booted_sizes p t f d s fe de se fs ds ss = grind (arith, nat_tests, common_steps, length-replicate, row_size)
