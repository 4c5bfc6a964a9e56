-- How the turns of the loop that makes the machine end join, said of machines.
use Rattle.machine_model.proofs.StepBasics.{◌≡◌, ◌≢◌, ◌≤◌, ◌<◌, ℕ, zero, suc, ◌+◌, Bool, true, false, not, cond, ◌&&◌, ◌||◌, eqb, length, List, [], ◌∷◌, Option, Some, None, is_some, ◌⊎◌, inl, inr, refl, sym, ap, subst, ◌∙◌, arith, list_any, ForClear, ForOwner, ForTransfer, WhileIdle, action_of, has_process, is_empty, is_over, IsEnded, IsIn, Step, AwaitsClear, AwaitsTransfer, CommandDone, CommandStep, Goes, HasTaken, IsReader, JobDone, IsUnderWay, JobFell, OwnerStep, RoundDone, is_at, all_rank, Ended, Keeper, Moved, Stage, Look, Turn, WaitsFor, runner_at, around, outline_of, stage_of, IsKept, KeepsAll, cpu_at, processor_at, HasStepped, IsGoing, IsOwnedBy, Owner, State, turn_of, Processor, and_parts, ◌-◌, nat_lt, set, get_or-set_same, Transfer, Want, Refer, Runner, no_runner, Outline, want_at, with_runner, with_frame, wanted_fits, want_lack, lack, command_rank, command_left, Comes, Clears, Works, Loads, Leaves, Commands, rule_of, ends, comes, clears, reads, loses, works, awaits_clear, awaits_transfer, loads, idles, leaves, fills, replies, faults, enters, waits, HasLost, HasLoaded, HasLeft, IsFilled, IsReplied, with_bound, not_reading, IsReference, IsPast, IsNearer, not_both, Frame as frame, outline_frame_in as frame_in, measures_is_over as turn_is_over, get_or-set_other, is_of, over, dues, readers, job_rank, Reads, Rule, measures_parts_of as parts_of, lack_few, lack_le, wanted_more, here_more, here_now, here_same, readers_set, in_job, step_outlined, at_outline, long_outline, seen_since, owner_none, kept_seen, no_owner, running_is, clear_step, inside, owner_step, step_laws_none_due as none_due, other_than, rule_laws_tells as tells}
use Rattle.machine_model.proofs.ForeseeAll.{foresees}
use Rattle.machine_model.proofs.LoopLaws.{goes_on, goes_self, job_goes, job_over, reader_there, taken_done, waited_fell}
use Rattle.machine_model.proofs.JobLaws.{over_set, offline_set, over_same, all_fewer, all_turn, all_loaded, all_online, all_set, gone_from, same_command, falls_reading, ranked, small_of}

-- ---- What a step of a processor brings that has a process while nobody owns the supervisor, and of one that has none
-- while no processor has.

-- ---- What a step of a processor brings that reads a page in, while the owner waits for that.

-- the rule that applies to a processor that reads, while the owner looks
reads_rule : (s : Outline) (d : ℕ) (r : Transfer) → IsKept s → dues s.runners ≡ 0
    → (runner_at s.runners d).reading ≡ Some r → rule_of s d ≡ Reads
unfolding rule_of
reads_rule s d r k none reading =
    let online = k.tied.runners_online d (k.tied.readers_run d r reading) in
    let due = none_due s.runners d (inside s.runners d online) none in
    rw (online, due, (ap (λ (o : Option Transfer). is_some o) reading)) refl

-- a frame that a page is read into is of no page
not_of : {s : Outline} (d : ℕ) {r : Transfer} → IsKept s → (runner_at s.runners d).reading ≡ Some r → (uid page : ℕ)
    → is_of uid page (frame_in s.frames r.frame) ≡ false
not_of d {r} k reading uid page = cc ((k.tied.read d r reading).0)

-- the measure falls where a transfer ends, and the owner goes on with its look
ended_falls : {s t : Outline} (c d : ℕ) (x : Runner) → IsKept s → IsKept t → IsIn s c Look → t.owner ≡ s.owner
    → (runner_at s.runners c).reading ≡ None → (r : Transfer) → (runner_at s.runners d).reading ≡ Some r
    → t.runners ≡ set s.runners d x → x.reading ≡ None → all_rank t ≤ all_rank s
    → ((w : Want) (q : Option Transfer) → wanted_fits s w q ≡ true → wanted_fits t w q ≡ true)
    → (job_rank t < job_rank s) × IsUnderWay s t c
ended_falls {s} {t} c d x k l look owner idle r reading runners over all fits =
    let within = inside s.runners d (k.tied.runners_online d (k.tied.readers_run d r reading)) in
    let apart : c ≢ d = other_than s c d (λ y. is_some y.reading) (cc) (cc) in
    let same : runner_at t.runners c ≡ runner_at s.runners c =
    ap (λ (xs : List Runner). runner_at xs c) runners ∙ get_or-set_other s.runners d c x no_runner apart in
    let count = readers_set s.runners d x within in
    let was = ap (λ (o : Option Transfer). cond {A = ℕ} (is_some o) 1 0) reading in
    let now = ap (λ (o : Option Transfer). cond {A = ℕ} (is_some o) 1 0) over in
    let list = ap readers runners in
    let looks = owner ∙ look in
    let rank_s = ranked s c Look look in
    let rank_t = ranked t c Look looks in
    let less = falls_reading (parts_of s (runner_at s.runners c) Look)
    (small_of c Look l looks) (omega arith) in (
      omega arith,
      record {
        stage = Look;
        in_job = looks;
        same = same_command _ same refl refl refl all;
        lack = rw same (lack_le s t (want_at s c)
            (runner_at s.runners c).linked (runner_at s.runners c).linked (runner_at s.runners c).reading
            (runner_at s.runners c).reading (λ h. h) (λ h. fits (want_at s c) (runner_at s.runners c).reading h));
      },
    )

bound_falls : {s : Outline} (c d : ℕ) {r : Transfer} (used modified : Bool) → IsKept s
    → IsKept (not_reading (with_bound s r used modified) d) → IsIn s c Look → (runner_at s.runners c).reading ≡ None
    → (runner_at s.runners d).reading ≡ Some r → (job_rank (not_reading (with_bound s r used modified) d) < job_rank s)
    × IsUnderWay s (not_reading (with_bound s r used modified) d) c
bound_falls {s} c d {r} used modified k l look idle reading =
    let within = inside s.runners d (k.tied.runners_online d (k.tied.readers_run d r reading)) in
    let t : Outline = not_reading (with_bound s r used modified) d in
    ended_falls c d (record (runner_at s.runners d) { reading = None })
    k l look refl idle r reading refl refl
    (all_set s (not_reading (with_bound s r used modified) d) d (record (runner_at s.runners d) { reading = None })
    within refl refl refl refl refl) (λ w q h. wanted_more s (not_reading (with_bound s r used modified) d) w q q
    (λ uid page makes there. here_more s.frames r.frame uid page (frame.Bound r.uid r.page used modified)
    (k.tied.read d r reading).1 (not_of d k reading uid page) there) (λ uid page there. inr there)
    (λ uid page out. out) h)

lost_falls : {s : Outline} (c d : ℕ) {r : Transfer} {x : Runner} (left : ℕ) → IsKept s
    → IsKept (record (with_runner (with_frame s r.frame frame.Free) d x) { left = left }) → IsIn s c Look
    → (runner_at s.runners c).reading ≡ None → (runner_at s.runners d).reading ≡ Some r
    → HasLost (runner_at s.runners d) x → left < s.left
    → (job_rank (record (with_runner (with_frame s r.frame frame.Free) d x) { left = left }) < job_rank s) × IsUnderWay
    s (record (with_runner (with_frame s r.frame frame.Free) d x) { left = left }) c
lost_falls {s} c d {r} {x} left k l look idle reading lost fewer =
    let all = all_fewer s l.sizes fewer in
    ended_falls c d x k l look refl
    idle r reading refl lost.reading (omega arith)
    (λ w q h. wanted_more s (record (with_runner (with_frame s r.frame frame.Free) d x) { left = left }) w q q
    (λ uid page makes there. here_same s.frames r.frame uid page frame.Free (k.tied.read d r reading).1
    (not_of d k reading uid page) refl ∙ there) (λ uid page there. inr there) (λ uid page out. out) h)

-- the processor whose transfer is awaited does nothing else
reads_only : {s : Outline} {c f d : ℕ} {r : Rule} → IsKept s → AwaitsTransfer s c f → IsReader s f d → rule_of s d ≡ r
    → Reads ≡ r
reads_only {s = s} {c = c} {d = d} k awaits reader h =
    sym (reads_rule s d _ k (k.job.fits c Look awaits.look) reader.reading) ∙ h

pub read_step : {s : Outline} {c f d : ℕ} {turn : Turn} {t : Outline} → IsKept s → IsKept t → AwaitsTransfer s c f
    → IsReader s f d → Step s d turn t → (job_rank t < job_rank s) × IsUnderWay s t c
read_step {s} {c} k l awaits reader (ends ended) =
    cc ((k.job.at_work c Look awaits.look).running, ended.running c)
read_step k l awaits reader (comes h) = let no = reads_only k awaits reader h in absurd cc
read_step k l awaits reader (clears x h cleared) = let no = reads_only k awaits reader h in absurd cc
read_step {s} {c} {f} {d} k l awaits reader (reads r used modified h is) =
    bound_falls c d used modified k l awaits.look (k.job.at_work c Look awaits.look).idle is
read_step {s} {c} {f} {d} k l awaits reader (loses r x left h is lost fewer) =
    lost_falls c d left k l awaits.look (k.job.at_work c Look awaits.look).idle is lost fewer
read_step k l awaits reader (works _ h step) = let no = reads_only k awaits reader h in absurd cc
read_step k l awaits reader (awaits_clear w e h waiting online due) =
    let no = reads_only k awaits reader h in absurd cc
read_step k l awaits reader (awaits_transfer g uid page h look started) =
    let no = reads_only k awaits reader h in absurd cc
read_step k l awaits reader (loads x h some loaded) = let no = reads_only k awaits reader h in absurd cc
read_step k l awaits reader (idles busy h none) = let no = reads_only k awaits reader h in absurd cc
read_step k l awaits reader (leaves x h left) = let no = reads_only k awaits reader h in absurd cc
read_step k l awaits reader (fills x h filled) = let no = reads_only k awaits reader h in absurd cc
read_step k l awaits reader (replies _ h replied) = let no = reads_only k awaits reader h in absurd cc
read_step k l awaits reader (faults chain uid page makes h none want lacks) =
    let no = reads_only k awaits reader h in absurd cc
read_step k l awaits reader (enters h none want) = let no = reads_only k awaits reader h in absurd cc
read_step k l awaits reader (waits o h some) = let no = reads_only k awaits reader h in absurd cc

-- nothing is due while nobody owns the supervisor, so no processor clears
not_clears : {s : Outline} (c : ℕ) → IsKept s → s.owner ≡ None → rule_of s c ≡ Clears → ⊥
not_clears {s} c k none h =
    let told = tells s c Clears h in
    not_both told.1 (none_due s.runners c (inside s.runners c told.0) (k.job.quiet none))

not_works : (s : Outline) (c : ℕ) → s.owner ≡ None → rule_of s c ≡ Works → ⊥
not_works s c none h = not_both (tells s c Works h).2 (cc)

not_loads : (s : Outline) (c : ℕ) → (runner_at s.runners c).running ≡ true → rule_of s c ≡ Loads → ⊥
not_loads s c running h = not_both running (tells s c Loads h).3

-- ---- the command goes on

nearer_by : (s t : Outline) (c : ℕ) (x : Runner) → c < length s.runners → t.owner ≡ None → t.runners ≡ set s.runners c x
    → t.left ≡ s.left → t.ready ≡ s.ready → x.online ≡ (runner_at s.runners c).online
    → x.running ≡ (runner_at s.runners c).running → x.since ≡ (runner_at s.runners c).since
    → x.tried ≡ (runner_at s.runners c).tried → x.want ≡ want_at s c
    → command_left t x < command_left s (runner_at s.runners c) → IsNearer s t c
unfolding command_rank
nearer_by s t c x within owner runners left ready online running since tried want less =
    let same : runner_at t.runners c ≡ x =
    ap (λ (xs : List Runner). runner_at xs c) runners ∙ get_or-set_same s.runners c x no_runner within in
    assumption (
      ap (λ (y : Runner). y.want) same ∙ want,
      ap (λ (y : Runner). y.since) same ∙ since,
      ap (λ (y : Runner). y.running) same ∙ running,
      all_set s t c x within runners left ready online (over_same (runner_at s.runners c) x running since tried),
      subst (λ (y : Runner). command_left t y < command_left s (runner_at s.runners c)) (sym same) less,
    )

-- a page that the processor read in is in a frame
read_fits : (s t : Outline) (r : Transfer) (used modified : Bool) (w : Want) → r.frame < length s.frames
    → frame_in s.frames r.frame ≡ frame.Started r.uid r.page
    → t.frames ≡ set s.frames r.frame (frame.Bound r.uid r.page used modified) → t.stored ≡ s.stored
    → wanted_fits s w (Some r) ≡ true → wanted_fits t w None ≡ true
read_fits s t r used modified w lt started frames stored h =
    wanted_more s t w (Some r) None (λ uid page makes there. cc (here_more s.frames r.frame uid page
    (frame.Bound r.uid r.page used modified) lt (cc) there))
    (λ uid page read. inl (cc (here_now s.frames r.frame uid page (frame.Bound r.uid r.page used modified) lt
    (cc) read))) (λ uid page out. cc) h

read_nearer : {s : Outline} (c : ℕ) {r : Transfer} (used modified : Bool) → IsKept s → s.owner ≡ None
    → (runner_at s.runners c).reading ≡ Some r → IsNearer s (not_reading (with_bound s r used modified) c) c
read_nearer {s} c {r} used modified k none reading =
    let online = k.tied.runners_online c (k.tied.readers_run c r reading) in
    let tie = k.tied.read c r reading in
    let x : Runner = runner_at s.runners c in
    let lacks = lack_le s (not_reading (with_bound s r used modified) c) x.want x.linked x.linked (Some r) None (λ h. h)
    (read_fits s (not_reading (with_bound s r used modified) c) r used modified x.want tie.1 tie.0 refl refl) in
    let was : lack s x ≡ want_lack s x.want x.linked (Some r) =
    ap (λ (o : Option Transfer). want_lack s x.want x.linked o) reading in
    let bit : cond {A = ℕ} (is_some x.reading) 1 0 ≡ 1 =
    ap (λ (o : Option Transfer). cond {A = ℕ} (is_some o) 1 0) reading in
    nearer_by s (not_reading (with_bound s r used modified) c) c (record (runner_at s.runners c) { reading = None })
    (inside s.runners c online) none refl refl refl refl refl refl refl refl (omega arith)

fill_nearer : (s : Outline) (c : ℕ) {x : Runner} → c < length s.runners → s.owner ≡ None
    → IsFilled (runner_at s.runners c) x → IsNearer s (with_runner s c x) c
fill_nearer s c {x} within none filled =
    let lacks : lack (with_runner s c x) x ≡ lack s (runner_at s.runners c) =
    rw (filled.want, filled.linked, filled.reading) refl in
    let bit : cond {A = ℕ} (is_some x.reading) 1 0 ≡ cond (is_some (runner_at s.runners c).reading) 1 0 =
    ap (λ (o : Option Transfer). cond {A = ℕ} (is_some o) 1 0) filled.reading in
    nearer_by s (with_runner s c x) c x within none refl refl refl filled.online filled.running filled.since
    filled.tried filled.want (omega arith)

-- ---- the command is past

-- a processor that left its process isn't over its turn any more
left_past : (s : Outline) (c : ℕ) (x : Runner) → IsKept (record (with_runner s c x) { ready = s.ready + 1 })
    → c < length s.runners → s.owner ≡ None → turn_is_over (runner_at s.runners c) ≡ true → HasLeft x
    → IsPast s (record (with_runner s c x) { ready = s.ready + 1 }) c
left_past s c x l within none turn left =
    let same : runner_at (set s.runners c x) c ≡ x = get_or-set_same s.runners c x no_runner within in
    let count = over_set s.runners c x within in
    let was : cond {A = ℕ} (turn_is_over (runner_at s.runners c)) 1 0 ≡ 1 = ap (λ (b : Bool). cond {A = ℕ} b 1 0)
    turn in
    let now : cond {A = ℕ} (turn_is_over x) 1 0 ≡ 0 = rw (left.running) refl in
    record {
      owner = none;
      gone = gone_from (runner_at (set s.runners c x) c) (runner_at s.runners c).since (λ h. cc);
      all = all_turn s l.sizes refl (omega arith);
    }

lost_past : {s : Outline} (c : ℕ) {r : Transfer} {x : Runner} (left : ℕ) → IsKept s
    → IsKept (record (with_runner (with_frame s r.frame frame.Free) c x) { left = left }) → s.owner ≡ None
    → (runner_at s.runners c).reading ≡ Some r → HasLost (runner_at s.runners c) x → left < s.left
    → IsPast s (record (with_runner (with_frame s r.frame frame.Free) c x) { left = left }) c
lost_past {s} c {r} {x} left k l none reading lost fewer =
    let online = k.tied.runners_online c (k.tied.readers_run c r reading) in
    let same : runner_at (set s.runners c x) c ≡ x =
    get_or-set_same s.runners c x no_runner (inside s.runners c online) in
    record {
      owner = none;
      gone = gone_from (runner_at (set s.runners c x) c) (runner_at s.runners c).since (λ h. cc);
      all = all_fewer s l.sizes fewer;
    }

replied_past : {s t : Outline} {c : ℕ} → IsKept t → s.owner ≡ None → IsReplied s c t → IsPast s t c
replied_past {s} {t} {c} l none replied = record {
  owner = cc;
  gone = gone_from (runner_at t.runners c) (runner_at s.runners c).since (λ h. replied.since);
  all = all_fewer s l.sizes replied.fewer;
}

is_no_reference : (w : Want) → ((chain : List ℕ) (uid page : ℕ) (makes : Bool) → w ≢ Refer chain uid page makes)
    → IsReference w → ⊥
is_no_reference (Refer chain uid page makes) h is = h chain uid page makes refl
is_no_reference _ h is = is

-- a processor leaves a process that has had its turn
turn_over : (s : Outline) (c : ℕ) → rule_of s c ≡ Leaves → turn_is_over (runner_at s.runners c) ≡ true
turn_over s c h = (and_parts (turn_is_over (runner_at s.runners c)) (nat_lt 0 s.ready) (tells s c Leaves h).4).0

-- ---- a step

pub command_step : {s : Outline} {c : ℕ} {turn : Turn} {t : Outline} → IsKept s → IsKept t → s.owner ≡ None
    → (runner_at s.runners c).running ≡ true → Step s c turn t → CommandStep turn s t c
command_step {s} {c} k l none running (ends ended) = not_both running (ended.running c)
command_step {s} {c} k l none running (comes h) = cc (k.tied.runners_online c running, tells s c Comes h)
command_step {s} {c} k l none running (clears x h cleared) = absurd (not_clears c k none h)
command_step {s} {c} k l none running (reads r used modified h is) =
    inr (inr (read_nearer c used modified k none is))
command_step {s} {c} k l none running (loses r x left h is lost fewer) =
    inr (inl (lost_past c left k l none is lost fewer))
command_step {s} {c} k l none running (works _ h step) = absurd (not_works s c none h)
command_step {s} {c} k l none running (awaits_clear w e h waiting online due) = not_works s c none h
command_step {s} {c} k l none running (awaits_transfer g uid page h look started) = not_works s c none h
command_step {s} {c} k l none running (loads x h some loaded) = absurd (not_loads s c running h)
command_step {s} {c} k l none running (idles busy h zero_ready) = not_loads s c running h
command_step {s} {c} k l none running (leaves x h left) =
    inr (inl (left_past s c x l (inside s.runners c (k.tied.runners_online c running)) none (turn_over s c h) left))
command_step {s} {c} k l none running (fills x h filled) =
    inr (inr (fill_nearer s c (inside s.runners c (k.tied.runners_online c running)) none filled))
command_step {s} {c} {turn} {t} k l none running (replies _ h replied) = inr (inl (replied_past l none replied))
command_step k l none running (faults chain uid page makes h free want lacks) =
    inl (record { now = refl; why = inl lacks })
command_step {s} {c} k l none running (enters h free want) =
    inl (record { now = refl; why = inr (is_no_reference (want_at s c) want) })
command_step k l none running (waits o h some) = let no : None ≡ Some o = sym none ∙ some in absurd cc

-- ---- no processor has a process

loaded_round : (s : Outline) (c : ℕ) {x : Runner} → IsKept (record (with_runner s c x) { ready = s.ready - 1 })
    → c < length s.runners → 0 < s.ready → (runner_at s.runners c).running ≡ false → HasLoaded x
    → all_rank (record (with_runner s c x) { ready = s.ready - 1 }) < all_rank s
loaded_round s c {x} l within some idle loaded =
    let count = over_set s.runners c x within in
    let now : cond {A = ℕ} (turn_is_over x) 1 0 ≡ 0 = rw (loaded.running, loaded.since, loaded.tried) refl in
    all_loaded s l.sizes refl (omega arith) (omega arith)

online_round : (s : Outline) (c : ℕ) → c < length s.runners → (runner_at s.runners c).online ≡ false
    → all_rank (with_runner s c (record (runner_at s.runners c) { online = true })) < all_rank s
online_round s c within off =
    let turns = over_set s.runners c (record (runner_at s.runners c) { online = true }) within in
    let offs = offline_set s.runners c (record (runner_at s.runners c) { online = true }) within in
    let was : cond {A = ℕ} (not (runner_at s.runners c).online) 1 0 ≡ 1 =
    ap (λ (b : Bool). cond {A = ℕ} (not b) 1 0) off in
    all_online s (with_runner s c (record (runner_at s.runners c) { online = true })) refl (omega arith) refl
    (omega arith)

pub idle_step : {s : Outline} {c : ℕ} {turn : Turn} {t : Outline} → IsKept s → IsKept t → c < length s.runners
    → s.owner ≡ None → ((d : ℕ) → (runner_at s.runners d).running ≡ false) → (IsEnded s → ⊥) → Step s c turn t
    → (t.owner ≡ None) × (all_rank t < all_rank s)
idle_step k l within none idle more (ends ended) = absurd (more ended)
idle_step {s} {c} k l within none idle more (comes h) = (none, online_round s c within (tells s c Comes h))
idle_step {s} {c} k l within none idle more (clears x h cleared) = absurd (not_clears c k none h)
idle_step {s} {c} k l within none idle more (reads r used modified h is) = cc (k.tied.readers_run c r is, idle c)
idle_step {s} {c} k l within none idle more (loses r x left h is lost fewer) = cc (k.tied.readers_run c r is, idle c)
idle_step {s} {c} k l within none idle more (works _ h step) = absurd (not_works s c none h)
idle_step {s} {c} k l within none idle more (awaits_clear w e h waiting online due) = absurd (not_works s c none h)
idle_step {s} {c} k l within none idle more (awaits_transfer g uid page h look started) =
    absurd (not_works s c none h)
idle_step {s} {c} k l within none idle more (loads x h some loaded) =
    (none, loaded_round s c l within some (idle c) loaded)
idle_step k l within none idle more (idles busy h zero_ready) = absurd (more (assumption))
idle_step {s} {c} k l within none idle more (leaves x h left) = cc ((tells s c Leaves h).3, idle c)
idle_step {s} {c} k l within none idle more (fills x h filled) = cc ((tells s c Commands h).3, idle c)
idle_step {s} {c} k l within none idle more (replies _ h replied) = cc ((tells s c Commands h).3, idle c)
idle_step {s} {c} k l within none idle more (faults chain uid page makes h free want lacks) =
    cc ((tells s c Commands h).3, idle c)
idle_step {s} {c} k l within none idle more (enters h free want) = cc ((tells s c Commands h).3, idle c)
idle_step {s} {c} k l within none idle more (waits o h some) = cc ((tells s c Commands h).3, idle c)

-- ---- a step

-- the outline of a machine that keeps its promise is kept
pub kept_of : (s : State) → KeepsAll s → IsKept (outline_of s)
kept_of s all = kept_seen all.machine all.reading all.fitting

-- each step is one of the outline
pub machine_step : {s : State} (t : State) (c : ℕ) → IsGoing s → c < length s.processors → HasStepped s t c
    → Step (outline_of s) c (turn_of (action_of s c)) (outline_of t)
machine_step {s} t c going there stepped = rw stepped.done (step_outlined stepped.outcome going.on
    (foresees s c going.keeps.machine going.keeps.entitled going.keeps.reading going.keeps.working going.keeps.fitting
    there))

-- ---- the owner

stage_at : (s : State) (c : ℕ) → IsOwnedBy s c → Stage
stage_at s c mine = stage_of s.store.ast.entries mine.owner.frames mine.owner.phase

is_in : {s : State} {c : ℕ} (mine : IsOwnedBy s c) → IsIn (outline_of s) c (stage_at s c mine)
unfolding stage_at
is_in {s} mine = rw mine.cpu at (in_job s mine.owner mine.mine)

module _ (s t : State) (c : ℕ) (going : IsGoing s) (keeps : KeepsAll t) (there : c < length s.processors)
    (mine : IsOwnedBy s c) (stepped : HasStepped s t c) where
  -- what a turn of the owner brings
  pub owner_turn : OwnerStep (turn_of (action_of s c)) (outline_of s) (outline_of t) c
  owner_turn = owner_step (stage_at s c mine)
      (kept_of s going.keeps) (kept_of t keeps) (is_in mine) (machine_step t c going there stepped)

  -- it moved
  pub moved_turn : turn_of (action_of s c) ≡ Moved → JobFell (outline_of s) (outline_of t) c
  moved_turn h = subst (λ (x : Turn). OwnerStep x (outline_of s) (outline_of t) c) h owner_turn

  -- it waits for a clear, or for a transfer
  pub awaits_clear_turn : (d : ℕ) → turn_of (action_of s c) ≡ WaitsFor (ForClear d) → AwaitsClear (outline_of s) c d
  awaits_clear_turn d h = (subst (λ (x : Turn). OwnerStep x (outline_of s) (outline_of t) c) h owner_turn).1

  pub awaits_transfer_turn : (f : ℕ) → turn_of (action_of s c) ≡ WaitsFor (ForTransfer f)
      → AwaitsTransfer (outline_of s) c f
  awaits_transfer_turn f h = (subst (λ (x : Turn). OwnerStep x (outline_of s) (outline_of t) c) h owner_turn).1

  -- and for nothing else
  pub never_owner : (d : ℕ) → turn_of (action_of s c) ≢ WaitsFor (ForOwner d)
  never_owner d h = subst (λ (x : Turn). OwnerStep x (outline_of s) (outline_of t) c) h owner_turn

  pub never_idle : (n : ℕ) → turn_of (action_of s c) ≢ WaitsFor (WhileIdle n)
  never_idle n h = subst (λ (x : Turn). OwnerStep x (outline_of s) (outline_of t) c) h owner_turn

  pub never_ended : turn_of (action_of s c) ≢ Ended
  never_ended h = subst (λ (x : Turn). OwnerStep x (outline_of s) (outline_of t) c) h owner_turn

-- the processor that is waited for is there
pub late_there : (s : State) {c d : ℕ} → AwaitsClear (outline_of s) c d → d < length s.processors
late_there s {c} {d} awaits = rw (← (long_outline s)) (inside (outline_of s).runners d awaits.online)

-- it cleared
pub cleared_turn : {s t : State} {c d : ℕ} → IsGoing s → AwaitsClear (outline_of s) c d → HasStepped s t d
    → JobFell (outline_of s) (outline_of t) c
cleared_turn {s} {t} {c} {d} going awaits stepped = waited_fell (outline_of s) (outline_of t) c
    (clear_step (kept_of s going.keeps) awaits (machine_step t d going (late_there s awaits) stepped))

-- somebody reads into the frame that is waited for
pub reader_seen : (s : State) (c f : ℕ) → KeepsAll s → AwaitsTransfer (outline_of s) c f
    → (d : ℕ) × IsReader (outline_of s) f d
reader_seen s c f keeps awaits = reader_there (outline_of s) c f (kept_of s keeps) awaits

-- it has ended its transfer
pub read_turn : {s t : State} {c f d : ℕ} → IsGoing s → KeepsAll t → AwaitsTransfer (outline_of s) c f
    → IsReader (outline_of s) f d → HasStepped s t d → JobFell (outline_of s) (outline_of t) c
read_turn {s} {t} {c} {f} {d} going keeps awaits reader stepped = waited_fell (outline_of s) (outline_of t) c
    (read_step (kept_of s going.keeps) (kept_of t keeps)
    awaits reader (machine_step t d going (rw (← (long_outline s)) reader.within) stepped))

-- ---- a job

abbrev cpu_or : Option Keeper → ℕ
cpu_or None = 0
cpu_or (Some x) = x.cpu

pub job_start : (s : State) (c : ℕ) → IsOwnedBy s c → Goes (outline_of s) (outline_of s) c
job_start s c mine = goes_self (outline_of s) c (stage_at s c mine) (is_in mine)

-- while somebody owns the supervisor it is the processor whose job it is
pub job_owner : (a b : State) {c : ℕ} → Goes (outline_of a) (outline_of b) c → {q : Owner} → b.owner ≡ Some q
    → IsOwnedBy b c
job_owner a b {c} goes {q} mine = record {
  owner = q;
  mine = mine;
  cpu = ap cpu_or (sym is ∙
      (job_goes q.cpu (stage_of b.store.ast.entries q.frames q.phase) is goes).in_job);
}
  where
    is : (outline_of b).owner ≡ Some (record { cpu = q.cpu; stage = stage_of b.store.ast.entries q.frames q.phase })
    is = in_job b q mine

-- a job goes on with its next turn
pub job_next : (a : State) {b : State} (d : State) {c : ℕ} → Goes (outline_of a) (outline_of b) c → IsOwnedBy b c
    → JobFell (outline_of b) (outline_of d) c → Goes (outline_of a) (outline_of d) c
job_next a {b} d {c} goes mine fell = goes_on (outline_of a) (outline_of b) (outline_of d) c
    (lack_few (outline_of a) (runner_at (outline_of a).runners c))
    (job_goes c (stage_at b c mine) (is_in mine) goes) fell.goes

-- once nobody owns the supervisor it is done
pub job_end : (a b : State) (c : ℕ) → b.owner ≡ None → Goes (outline_of a) (outline_of b) c
    → JobDone (outline_of a) (outline_of b) c
job_end a b c none goes = job_over (outline_of a) (outline_of b) c (owner_none b none) goes

pub job_freed : (a b : State) (c : ℕ) → JobDone (outline_of a) (outline_of b) c → b.owner ≡ None
job_freed a b c (inl past) = no_owner b past.owner
job_freed a b c (inr mended) = no_owner b mended.owner

-- ---- a command

looking_is : (s t : State) {c : ℕ} → HasTaken (outline_of s) (outline_of t) c
    → (outline_of t).owner ≡ Some (record { cpu = c; stage = Look })
looking_is s t taken = cc

done_free : (s t : State) (c : ℕ) → CommandDone (outline_of s) (outline_of t) c → (outline_of t).owner ≡ None
done_free s t c (inl past) = past.owner
done_free s t c (inr nearer) = nearer.owner

module _ (s t : State) (c : ℕ) (going : IsGoing s) (keeps : KeepsAll t) (there : c < length s.processors)
    (none : s.owner ≡ None) (running : is_some (cpu_at s.processors c).process ≡ true)
    (stepped : HasStepped s t c) where
  -- what a turn of a processor brings that has a process, while nobody owns the supervisor
  pub command_turn : CommandStep (turn_of (action_of s c)) (outline_of s) (outline_of t) c
  command_turn = command_step (kept_of s going.keeps) (kept_of t keeps) (owner_none s none)
      (running_is s going.keeps.machine.keeps c ∙ running) (machine_step t c going there stepped)

  -- it moves
  pub command_moves : turn_of (action_of s c) ≡ Moved
  command_moves = by (turn_of (action_of s c)) refl command_turn
    where
      by : (x : Turn) → turn_of (action_of s c) ≡ x → CommandStep x (outline_of s) (outline_of t) c
          → turn_of (action_of s c) ≡ Moved
      by Moved e h = e
      by _ e h = absurd h

  moved : HasTaken (outline_of s) (outline_of t) c ⊎ CommandDone (outline_of s) (outline_of t) c
  moved = subst (λ (x : Turn). CommandStep x (outline_of s) (outline_of t) c) command_moves command_turn

  -- it took the supervisor, so its job follows
  pub command_took : {q : Owner} → t.owner ≡ Some q → IsOwnedBy t c × HasTaken (outline_of s) (outline_of t) c
  command_took {q} mine = by moved
    where
      is : (outline_of t).owner ≡ Some (record { cpu = q.cpu; stage = stage_of t.store.ast.entries q.frames q.phase })
      is = in_job t q mine

      by : HasTaken (outline_of s) (outline_of t) c ⊎ CommandDone (outline_of s) (outline_of t) c
          → IsOwnedBy t c × HasTaken (outline_of s) (outline_of t) c
      by (inl taken) = (record { owner = q; mine = mine; cpu = ap cpu_or (sym is ∙ looking_is s t taken) }, taken)
      by (inr done) = cc (done_free s t c done, is)

  -- or the turn is done
  pub command_free : t.owner ≡ None → CommandDone (outline_of s) (outline_of t) c
  command_free free = by moved
    where
      by : HasTaken (outline_of s) (outline_of t) c ⊎ CommandDone (outline_of s) (outline_of t) c
          → CommandDone (outline_of s) (outline_of t) c
      by (inl taken) = cc (owner_none t free, looking_is s t taken)
      by (inr done) = done

-- the job that it took the supervisor for is done
pub command_job : (s b t : State) {c : ℕ} → HasTaken (outline_of s) (outline_of b) c
    → JobDone (outline_of b) (outline_of t) c → CommandDone (outline_of s) (outline_of t) c
command_job s b t {c} taken done = taken_done (outline_of t) taken done

pub command_freed : (s t : State) (c : ℕ) → CommandDone (outline_of s) (outline_of t) c → t.owner ≡ None
command_freed s t c done = no_owner t (done_free s t c done)

-- whether a processor is at the same command still
pub at_seen : {s : State} (c since : ℕ) → KeepsAll s → is_at (runner_at (outline_of s).runners c) since ≡
    (is_some (cpu_at s.processors c).process && eqb (processor_at s.processors c).count since)
at_seen {s} c since all = λ i. running_is s all.machine.keeps c i && eqb (since_is i) since
  where
    since_is : (runner_at (outline_of s).runners c).since ≡ (processor_at s.processors c).count
    since_is = cc (at_outline s c, seen_since (around s) (processor_at s.processors c))

-- at its start the loop over a command is on its way
pub way_start : (s : State) (c since : ℕ) → is_at (runner_at (outline_of s).runners c) since ≡ true
    → all_rank (outline_of s) + cond (is_at (runner_at (outline_of s).runners c) since) 0 1 ≤ all_rank (outline_of s)
way_start s c since at = let none = ap (λ (b : Bool). cond {A = ℕ} b 0 1) at in omega arith

-- ---- the end

none_runs : (ps : List Processor) → list_any has_process ps ≡ true
    → ((d : ℕ) → is_some (cpu_at ps d).process ≡ false) → ⊥
none_runs [] h idle = let none = h in cc
none_runs (p ∷ ps) h idle = by (has_process p) (idle zero) h (λ i. none_runs ps i (λ d. idle (suc d)))
  where
    by : (b : Bool) → b ≡ false → (b || list_any has_process ps) ≡ true → (list_any has_process ps ≡ true → ⊥) → ⊥
    by true e i rest = let none = e in cc
    by false e i rest = rest i

-- a machine that isn't over has a process that is ready or running
pub not_ended : (s : State) → KeepsAll s → is_over s ≡ false → IsEnded (outline_of s) → ⊥
unfolding outline_of
not_ended s all more ended = by s.ready refl (list_any has_process s.processors) refl more
  where
    by : (xs : List ℕ) → s.ready ≡ xs → (b : Bool) → list_any has_process s.processors ≡ b
        → (is_empty xs && not b) ≡ false → ⊥
    by [] e true i h = none_runs s.processors i (λ d. sym (running_is s all.machine.keeps d) ∙ ended.running d)
    by [] e false i h = let none = h in cc
    by (k ∷ ks) e b i h = let some = ap (λ (ys : List ℕ). length ys) e in
        let none = ended.ready in let more : 0 < length (k ∷ ks) = omega arith in
        omega arith

-- ---- rounds

-- no processor has a process, and something is left to do
pub idle_round : {s t : State} → IsGoing s → KeepsAll t → s.owner ≡ None
    → ((d : ℕ) → is_some (cpu_at s.processors d).process ≡ false) → is_over s ≡ false → HasStepped s t 0
    → RoundDone (outline_of s) (outline_of t)
idle_round {s} {t} going keeps none idle more stepped = let fell = idle_step (kept_of s going.keeps) (kept_of t keeps)
    (kept_of s going.keeps).sizes.some_runner (owner_none s none)
    (λ d. running_is s going.keeps.machine.keeps d ∙ idle d) (not_ended s going.keeps more)
    (machine_step t 0 going (rw (long_outline s) at (kept_of s going.keeps).sizes.some_runner) stepped) in
    assumption
