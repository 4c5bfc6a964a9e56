-- What all drives have counted, by what one of them has.
use Rattle.machine.proofs.Prelude.{◌≡◌, ◌≢◌, ◌≤◌, ℕ, zero, suc, length, List, ◌∷◌, refl, arith, OnErr, Result, Ok, Err, sum_by, sum_by-cons, Rose, faults_at, CallsDrive, CallsDrives, seen_same, ◌+◌, []}

same_sum : {D : Type 0} (faults : D → ℕ) (old new : List D) → length new ≡ length old
    → ((w : ℕ) → faults_at faults new w ≡ faults_at faults old w) → sum_by faults new ≡ sum_by faults old
same_sum faults [] [] long same = refl
same_sum faults [] (y ∷ ys) long same = absurd (omega arith)
same_sum faults (x ∷ xs) [] long same = absurd (omega arith)
same_sum faults (x ∷ xs) (y ∷ ys) long same =
    let head : faults y ≡ faults x = same 0 in
    let rest = same_sum faults xs ys (omega arith) (λ w. same (suc w)) in
    omega (arith, sum_by-cons faults y ys, sum_by-cons faults x xs)

-- the sums of all are those of the others and the count of that drive
pub others_sum : {D : Type 0} (faults : D → ℕ) (old new : List D) (v : ℕ) → length new ≡ length old
    → ((w : ℕ) → w ≢ v → faults_at faults new w ≡ faults_at faults old w)
    → (rest : ℕ) × (sum_by faults old ≡ rest + faults_at faults old v)
    × (sum_by faults new ≡ rest + faults_at faults new v)
others_sum faults [] [] zero long same = (0, refl, refl)
others_sum faults [] [] (suc v) long same = (0, refl, refl)
others_sum faults [] (y ∷ ys) v long same = absurd (omega arith)
others_sum faults (x ∷ xs) [] v long same = absurd (omega arith)
others_sum faults (x ∷ xs) (y ∷ ys) zero long same =
    let rest = same_sum faults xs ys (omega arith) (λ w. same (suc w) (λ e. absurd (omega arith))) in
    let a = sum_by-cons faults x xs in
    let b = sum_by-cons faults y ys in
    (sum_by faults xs, omega arith, omega arith)
others_sum faults (x ∷ xs) (y ∷ ys) (suc v) long same =
    let head : faults y ≡ faults x = same 0 (λ e. absurd (omega arith)) in
    let all = others_sum faults xs ys v (omega arith) (λ w ne. same (suc w) (λ e. ne (omega arith))) in
    let a = sum_by-cons faults x xs in
    let b = sum_by-cons faults y ys in
    let old = all.1 in
    let new = all.2 in
    (faults x + all.0, omega arith, omega arith)

-- the counts before and after a call, as the machine has them
module _ {D Plan T E : Type 0} {plan : D → Plan} {places faults : D → ℕ} {old new : List D} {before now : ℕ} where
  pub call_counts : {v : ℕ} {r : Result T E} → CallsDrive plan places faults old new v r
      → before ≡ sum_by faults old → now ≡ sum_by faults new → (before ≤ now) × OnErr r (Rose before now)
  call_counts {v} {r} call was is = rw (was, is) (call.grows, by r call.rose)
    where
      by : (y : Result T E) → OnErr y (Rose (faults_at faults old v) (faults_at faults new v))
          → OnErr y (Rose (sum_by faults old) (sum_by faults new))
      by (Ok x) rose = tt
      by (Err e) rose = let all = others_sum faults old new v call.count
          (λ w ne. seen_same faults old new w (call.others.same w ne)) in
          omega arith

  -- of a copy, which calls two drives
  pub copy_counts : {v w : ℕ} {r : Result T E} → CallsDrives plan places faults old new v w r
      → before ≡ sum_by faults old → now ≡ sum_by faults new → (before ≤ now) × OnErr r (Rose before now)
  copy_counts call was is = rw (was, is) (call.grows, call.rose)
