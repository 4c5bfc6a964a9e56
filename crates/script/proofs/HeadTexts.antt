-- The text of what stands before the processes is read back (own).
use Rattle.script.proofs.Prelude.{common_steps, ◌≡◌, ℕ, ◌+◌, ◌<◌, ◌≤◌, Bool, true, false, nat_le, nat_lt, List, [], ◌∷◌, ◌++◌, length, map, flat_map, sum_by, Ok, codes, refl, ap, ◌∙◌, arith, append_assoc, nat_tests, length-append, sum_by-append, sum_by-cons, decimal, list_all, list_any, AllByRecursion, is_name, DraftPlan, blank, reach, ArePools, has_name, have_own_names, have_own_volumes, is_bulk, is_fail, is_from, is_volume, IsPlan, records_of, later_at, line_at, fail_in, new_volume_in, pools_in, four_fields, next_field, no_fields, one_field, print_in, six_fields, three_fields, two_fields, Plan, bulk_text, ended, fail_text, head_text, machine_text, numbers_text, print_text, quota_text, volume_text, Stage, Bulk, Fail, Print, VolumeLine, and_false, and_parts, stage, print, MOST_PROCESSORS}
use Rattle.script.proofs.FieldTexts.{IsField, HasFields, front_field, last_field}
use Rattle.script.proofs.PushLaws.{other_volumes, others_before}
use Rattle.script.proofs.Reaching.{Reaches, reaches_both, reaches_line, reaches_nothing}
use Rattle.script.proofs.ValueTexts.{decimal_field, name_field, number_again}
use Rattle.script.proofs.VolumeTexts.{AreVolumes, call_again, call_field, new_name_again, volume_again, volume_field, write_again, write_field}
use Rattle.script.proofs.SmallLaws.{nil_after, outside}

-- ---- the machine

number_fields : (n : ℕ) (ns : List ℕ) → n ≤ 1000000 → AllByRecursion (λ m. m ≤ 1000000) ns
    → HasFields (decimal n ++ numbers_text ns) (map decimal (n ∷ ns))
number_fields n [] h each = rw (nil_after (decimal n)) (last_field (decimal_field n h))
number_fields n (m ∷ ns) h each = front_field (decimal_field n h) (number_fields m ns each.0 each.1)

-- the draft after the line of the machine
abbrev pub after_machine : ℕ → ℕ → List ℕ → DraftPlan
after_machine processors frames pools = record blank {
  stage = stage.Quota;
  plan = record blank.plan { processors = processors; frames = frames; pools = pools };
}

pub machine_reaches : (processors frames : ℕ) (pools : List ℕ) → 1 ≤ processors → processors ≤ MOST_PROCESSORS
    → 4 ≤ frames → frames ≤ 1024 → ArePools pools → Reaches blank (ended (machine_text processors frames pools))
    (after_machine processors frames pools)
unfolding machine_text line_at later_at pools_in six_fields four_fields three_fields two_fields one_field next_field
    no_fields
machine_reaches processors frames (a ∷ b ∷ c ∷ d ∷ []) p0 p1 f0 f1 h =
    let fields = number_fields processors (frames ∷ a ∷ b ∷ c ∷ d ∷ []) (omega arith)
    (omega arith, (omega arith, (omega arith, (omega arith, (omega arith, tt))))) in
    let many : nat_le (a + b + c + d) 1024 ≡ true = grind (arith, nat_tests) in
    reaches_line {word = codes "machine"} (front_field (record { some = omega arith; bytes = refl }) fields) refl (rw (
      number_again 1 MOST_PROCESSORS processors (omega arith) p0 p1,
      number_again 4 1024 frames (omega arith) f0 f1,
      number_again 12 1024 a (omega arith) (omega arith) (omega arith),
      number_again 1 1024 b (omega arith) (omega arith) (omega arith),
      number_again 1 1024 c (omega arith) (omega arith) (omega arith),
      number_again 1 1024 d (omega arith) (omega arith) (omega arith),
      many,
    ) refl)
machine_reaches processors frames _ p0 p1 f0 f1 h = absurd h

-- ---- the quota

pub quota_reaches : (base : DraftPlan) (quota : ℕ) → quota ≤ 16384
    → Reaches (record base { stage = stage.Quota }) (ended (quota_text quota))
    (record base { stage = stage.FirstVolume; plan = record base.plan { quota = quota } })
unfolding quota_text line_at later_at one_field next_field no_fields
quota_reaches base quota h = reaches_line {word = codes "quota"}
    (front_field (record { some = omega arith; bytes = refl })
    (last_field (decimal_field quota (omega arith)))) refl
    (rw (number_again 0 16384 quota (omega arith) (omega arith) h) refl)

-- ---- the volumes

-- a volume may stand at this stage
abbrev takes_volume : Stage → Bool
takes_volume s = is_from 2 3 (reach s)

-- a draft at a stage, with these volumes
abbrev with_volumes : DraftPlan → Stage → List VolumeLine → DraftPlan
with_volumes base s vs = record base { stage = s; plan = record base.plan { volumes = vs } }

volume_reaches : (base : DraftPlan) (s : Stage) (done : List VolumeLine) (v : VolumeLine) → takes_volume s ≡ true
    → is_volume v ≡ true → list_any (has_name v.name) done ≡ false → length done < 4
    → sum_by records_of done + v.records ≤ 16384
    → Reaches (with_volumes base s done) (ended (volume_text v)) (with_volumes base stage.Volumes (done ++ v ∷ []))
unfolding volume_text line_at new_volume_in three_fields two_fields one_field next_field no_fields is_volume
volume_reaches base s done v takes h new room sum =
    let named : is_name v.name ≡ true = grind (arith, nat_tests) in
    let r : (1 ≤ v.records) × (v.records ≤ 16384) = (grind (arith, nat_tests), grind (arith, nat_tests)) in
    let e : (1 ≤ v.entries) × (v.entries ≤ 4097) = (grind (arith, nat_tests), grind (arith, nat_tests)) in
    let few : nat_le 4 (length done) ≡ false = grind (arith, nat_tests) in
    let fits : nat_lt 16384 (sum_by records_of done + v.records) ≡ false = grind (arith, nat_tests) in
    reaches_line {word = codes "volume"} (front_field (record { some = omega arith; bytes = refl })
    (front_field (name_field v.name named)
    (front_field (decimal_field v.records (omega arith)) (last_field (decimal_field v.entries (omega arith)))))) refl
    (simp (
      and_false,
      outside s 2 3 (omega arith) takes,
      takes,
      new_name_again done v.name named new,
      number_again 1 16384 v.records (omega arith) r.0 r.1,
      number_again 1 4097 v.entries (omega arith) e.0 e.1,
      few,
      fits,
    ))

-- what holds of the volumes that stand and of those that follow
record FitVolumes (done vs : List VolumeLine) : Type 0 where
  each : list_all is_volume vs ≡ true
  own : have_own_names (done ++ vs) ≡ true
  few : length done + length vs ≤ 4
  sum : sum_by records_of done + sum_by records_of vs ≤ 16384

fit_next : (done : List VolumeLine) (v : VolumeLine) (vs : List VolumeLine) → FitVolumes done (v ∷ vs)
    → FitVolumes (done ++ v ∷ []) vs
fit_next done v vs h =
    grind (arith, nat_tests, common_steps, and_parts, append_assoc, length-append, sum_by-append, sum_by-cons)

-- the lines of volumes, each on its own line
abbrev pub volumes_text : List VolumeLine → List ℕ
volumes_text vs = flat_map (λ v. ended (volume_text v)) vs

more_volumes : (base : DraftPlan) (done vs : List VolumeLine) → FitVolumes done vs
    → Reaches (with_volumes base stage.Volumes done) (volumes_text vs) (with_volumes base stage.Volumes (done ++ vs))
more_volumes base done [] h = rw (nil_after done) reaches_nothing
more_volumes base done (v ∷ vs) h = reaches_both
    (volume_reaches base stage.Volumes done v refl (and_parts (is_volume v) (list_all is_volume vs) h.each).0
    (others_before done v vs h.own) (omega (arith, h.few)) (omega (arith, h.sum, sum_by-cons records_of v vs)))
    (rw (append_assoc done (v ∷ []) vs) at (more_volumes base (done ++ v ∷ []) vs (fit_next done v vs h)))

volumes_reach : (base : DraftPlan) (vs : List VolumeLine) → 1 ≤ length vs → FitVolumes [] vs
    → Reaches (with_volumes base stage.FirstVolume []) (volumes_text vs) (with_volumes base stage.Volumes vs)
volumes_reach base [] some h = absurd (omega arith)
volumes_reach base (v ∷ vs) some h = reaches_both
    (volume_reaches base stage.FirstVolume [] v refl (and_parts (is_volume v) (list_all is_volume vs) h.each).0
    (others_before [] v vs h.own) (omega (arith, h.few)) (omega (arith, h.sum, sum_by-cons records_of v vs)))
    (more_volumes base (v ∷ []) vs (fit_next [] v vs h))

-- ---- what is printed

printed : (base : DraftPlan) (word : List ℕ) (p : Print) → IsField word → print_in word ≡ Ok p
    → Reaches (record base { stage = stage.Volumes }) (ended (codes "print" ++ (32 ∷ word)))
    (record base { stage = stage.Bulks; plan = record base.plan { print = p } })
unfolding line_at later_at one_field next_field no_fields
printed base word p f h = reaches_line {word = codes "print"}
    (front_field (record { some = omega arith; bytes = refl }) (last_field f)) refl (rw h refl)

print_reaches : (base : DraftPlan) (p : Print) → Reaches (record base { stage = stage.Volumes }) (ended (print_text p))
    (record base { stage = stage.Bulks; plan = record base.plan { print = p } })
unfolding print_text print_in
print_reaches base print.Short = printed base (codes "short") print.Short
    (record { some = omega arith; bytes = refl }) refl
print_reaches base print.Replies = printed base (codes "replies") print.Replies
    (record { some = omega arith; bytes = refl }) refl
print_reaches base print.All = printed base (codes "all") print.All (record { some = omega arith; bytes = refl }) refl

-- ---- fast stores

record FitBulks (volumes : ℕ) (done bs : List Bulk) : Type 0 where
  each : list_all (is_bulk volumes) bs ≡ true
  own : have_own_volumes (done ++ bs) ≡ true

abbrev pub bulks_text : List VolumeLine → List Bulk → List ℕ
bulks_text vs bs = flat_map (λ b. ended (bulk_text vs b)) bs

-- a draft with these fast stores
abbrev with_bulks : DraftPlan → List Bulk → DraftPlan
with_bulks base bs = record base { stage = stage.Bulks; plan = record base.plan { bulks = bs } }

bulks_reach : (base : DraftPlan) (done bs : List Bulk) → AreVolumes base.plan.volumes
    → FitBulks (length base.plan.volumes) done bs
    → Reaches (with_bulks base done) (bulks_text base.plan.volumes bs) (with_bulks base (done ++ bs))
unfolding bulk_text is_bulk line_at later_at two_fields one_field next_field no_fields
bulks_reach base done [] a h = rw (nil_after done) reaches_nothing
bulks_reach base done (b ∷ bs) a h =
    let v : b.volume < length base.plan.volumes = grind (arith, nat_tests, h.each) in
    let n : (1 ≤ b.places) × (b.places ≤ 1024) = (grind (arith, nat_tests, h.each), grind (arith, nat_tests, h.each)) in
    reaches_both (reaches_line {word = codes "bulk"}
    (front_field (record { some = omega arith; bytes = refl }) (front_field
    (volume_field base.plan.volumes b.volume v a.each) (last_field (decimal_field b.places (omega arith))))) refl (rw (
      volume_again base.plan.volumes b.volume v a.each a.own,
      other_volumes done b bs h.own,
      number_again 1 1024 b.places (omega arith) n.0 n.1,
    ) refl)) (rw (append_assoc done (b ∷ []) bs) at (bulks_reach base (done ++ b ∷ []) bs a (record {
      each = grind (arith, nat_tests, h.each);
      own = ap have_own_volumes (append_assoc done (b ∷ []) bs) ∙ h.own;
    })))

-- ---- calls that fail

-- a call that fails may stand at this stage, or a process may begin
abbrev pub takes_fail : Stage → Bool
takes_fail s = is_from 3 5 (reach s)

-- the stage after calls that fail
abbrev pub stage_after_fails : Stage → List Fail → Stage
stage_after_fails s [] = s
stage_after_fails s (f ∷ fs) = stage.Fails

still_fails : (fs : List Fail) → stage_after_fails stage.Fails fs ≡ stage.Fails
still_fails [] = refl
still_fails (f ∷ fs) = refl

pub takes_after_fails : (fs : List Fail) → takes_fail (stage_after_fails stage.Bulks fs) ≡ true
takes_after_fails [] = refl
takes_after_fails (f ∷ fs) = refl

record FitFails (volumes : ℕ) (done fs : List Fail) : Type 0 where
  each : list_all (is_fail volumes) fs ≡ true
  few : length done + length fs ≤ 100

abbrev pub fails_text : List VolumeLine → List Fail → List ℕ
fails_text vs fs = flat_map (λ f. ended (fail_text vs f)) fs

-- a draft at a stage, with these calls that fail
abbrev with_fails : DraftPlan → Stage → List Fail → DraftPlan
with_fails base s fs = record base { stage = s; plan = record base.plan { fails = fs } }

fails_reach : (base : DraftPlan) (s : Stage) (done fs : List Fail) → takes_fail s ≡ true → AreVolumes base.plan.volumes
    → FitFails (length base.plan.volumes) done fs → Reaches (with_fails base s done) (fails_text base.plan.volumes fs)
    (with_fails base (stage_after_fails s fs) (done ++ fs))
unfolding fail_text is_fail line_at later_at fail_in three_fields two_fields one_field next_field no_fields
fails_reach base s done [] takes a h = rw (nil_after done) reaches_nothing
fails_reach base s done (f ∷ fs) takes a h =
    let vs = base.plan.volumes in
    let v : f.volume < length base.plan.volumes = grind (arith, nat_tests, h.each) in
    let n : (1 ≤ f.number) × (f.number ≤ 1000000) =
    (grind (arith, nat_tests, h.each), grind (arith, nat_tests, h.each)) in
    let few : nat_lt (length done) 100 ≡ true = grind (arith, nat_tests, h.few) in
    let rest = fails_reach base stage.Fails (done ++ f ∷ []) fs refl a
    (record { each = grind (arith, nat_tests, h.each); few = omega (arith, length-append done (f ∷ []), h.few) }) in
    reaches_both (reaches_line {word = codes "fail"}
    (front_field (record { some = omega arith; bytes = refl }) (front_field
    (volume_field vs f.volume v a.each) (front_field (write_field f.write)
    (last_field (call_field f.number f.onward n.1))))) refl (simp (
      and_false,
      outside s 3 5 (omega arith) takes,
      takes,
      volume_again vs f.volume v a.each a.own,
      write_again f.write,
      call_again f.number f.onward n.0 n.1,
      few,
    ))) (rw (append_assoc done (f ∷ []) fs, still_fails fs) at rest)

-- ---- the whole head

-- the draft after the head of a plan: the plan itself, without its processes
abbrev pub after_head : Plan → DraftPlan
after_head p = record blank {
  stage = stage_after_fails stage.Bulks p.fails;
  plan = record p { initializer = false; processes = [] };
}

pub are_volumes : (p : Plan) → IsPlan p → AreVolumes p.volumes
are_volumes p h = record { each = h.volumes; own = h.names }

pub head_reaches : (p : Plan) → IsPlan p → Reaches blank (head_text p) (after_head p)
unfolding head_text
head_reaches p h =
    let d1 = after_machine p.processors p.frames p.pools in
    let d2 = record d1 { stage = stage.FirstVolume; plan = record d1.plan { quota = p.quota } } in
    let d3 = record d2 { stage = stage.Volumes; plan = record d2.plan { volumes = p.volumes } } in
    let d4 = record d3 { stage = stage.Bulks; plan = record d3.plan { print = p.print } } in
    let d5 = record d4 { plan = record d4.plan { bulks = p.bulks } } in
    let a = are_volumes p h in
    reaches_both
    (machine_reaches p.processors p.frames p.pools h.processors.0 h.processors.1 h.frames.0 h.frames.1 h.pools)
    (reaches_both (quota_reaches d1 p.quota h.quota) (reaches_both (volumes_reach d2 p.volumes h.some (record {
      each = h.volumes;
      own = h.names;
      few = omega (arith, h.few);
      sum = omega (arith, h.records);
    })) (reaches_both (print_reaches d3 p.print)
    (reaches_both (bulks_reach d4 [] p.bulks a (record { each = h.bulks; own = h.apart }))
    (fails_reach d5 stage.Bulks [] p.fails refl a (record { each = h.fails; few = omega (arith, h.most) }))))))
