-- What one copy does: a read of one drive, and a write of another.
pub use Rattle.seg_mover.proofs.Prelude.{CallsDrives, Err, FailedAt, IsOneMore, KeepsOthers, List, Ok, OnErr, OnOk, Result, Rose, ap, arith, err_from_is_err_and, faults_at, get_or, inl, inr, length, map, seen_same, sum_by, sum_of_map, ℕ, ◌∙◌, ◌≡◌, ◌≤◌, ◌⊎◌}

-- the read failed
pub read_failed : {D Plan T E : Type 0} (plan : D → Plan) (places faults : D → ℕ) {old new : List D} {v : ℕ} (w : ℕ)
    (result : Result T E) (e : E) → result ≡ Err e → map plan new ≡ map plan old → map places new ≡ map places old
    → length new ≡ length old → KeepsOthers old new v → sum_by faults old ≤ sum_by faults new → IsOneMore
    (faults_at faults old v) (faults_at faults new v) → Rose (faults_at faults old v) (faults_at faults new v)
    → Rose (sum_by faults old) (sum_by faults new) → CallsDrives plan places faults old new v w result
read_failed plan places faults {old} {new} w result e is plans stores count others grows once its rose = rw is (record {
  plans = plans;
  stores = stores;
  count = count;
  others = λ u other _. others.same u other;
  grows = grows;
  told = tt;
  failed = inl (record {
    once = once;
    rose = its;
    others = λ u other. seen_same faults old new u (others.same u other);
  });
  rose = rose;
})

-- the page was read, and the write is done or failed
failed_then : {D T E : Type 0} (faults : D → ℕ) (old mid new : List D) (v w : ℕ) (result : Result T E)
    → map faults mid ≡ map faults old → KeepsOthers mid new w → OnErr result (IsOneMore (faults_at faults mid w)
    (faults_at faults new w)) → OnErr result (Rose (faults_at faults mid w) (faults_at faults new w))
    → OnErr result ((FailedAt faults old new v) ⊎ (FailedAt faults old new w))
failed_then faults old mid new v w (Ok x) told others once its = tt
failed_then faults old mid new v w (Err e) told others once its =
    let at : (u : ℕ) → faults_at faults mid u ≡ faults_at faults old u = λ u.
    ap (λ (counts : List ℕ). get_or counts u 0) told in
    inr (record {
      once = rw (at w) at once;
      rose = rw (at w) at its;
      others = λ u other. seen_same faults mid new u (others.same u other) ∙ at u;
    })

told_then : {D T E : Type 0} (faults : D → ℕ) (old mid new : List D) (result : Result T E) → map faults mid
    ≡ map faults old → OnOk result (map faults new ≡ map faults mid) → OnOk result (map faults new ≡ map faults old)
told_then faults old mid new (Ok x) told then = then ∙ told
told_then faults old mid new (Err e) told then = tt

rose_then : {D T E : Type 0} (faults : D → ℕ) (old mid new : List D) (result : Result T E)
    → map faults mid ≡ map faults old → OnErr result (Rose (sum_by faults mid) (sum_by faults new))
    → OnErr result (Rose (sum_by faults old) (sum_by faults new))
rose_then faults old mid new (Ok x) told rose = tt
rose_then faults old mid new (Err e) told rose = rw (sum_of_map faults old mid told) at rose

pub read_then : {D Plan T E : Type 0} (plan : D → Plan) (places faults : D → ℕ) (old mid new : List D) (v w : ℕ)
    (result : Result T E) → map plan mid ≡ map plan old → map places mid ≡ map places old → length mid ≡ length old
    → KeepsOthers old mid v → map faults mid ≡ map faults old → map plan new ≡ map plan mid → map places new
    ≡ map places mid → length new ≡ length mid → KeepsOthers mid new w → sum_by faults mid ≤ sum_by faults new
    → OnOk result (map faults new ≡ map faults mid) → OnErr result (IsOneMore (faults_at faults mid w)
    (faults_at faults new w)) → OnErr result (Rose (faults_at faults mid w) (faults_at faults new w))
    → OnErr result (Rose (sum_by faults mid) (sum_by faults new)) → CallsDrives plan places faults old new v w result
read_then plan places faults old mid new v w result plans stores count others told plans2 stores2 count2 others2 grows
    told2 once its rose = record {
      plans = cc;
      stores = cc;
      count = cc;
      others = λ u notv notw. others2.same u notw ∙ others.same u notv;
      grows = omega (arith, sum_of_map faults old mid told);
      told = told_then faults old mid new result told told2;
      failed = failed_then faults old mid new v w result told others2 once its;
      rose = rose_then faults old mid new result told rose;
    }
