-- What each step brings while the loop waits for it: a step of the owner, of a processor that is to clear, of one that
-- reads a page in, and of one that has a process while nobody owns the supervisor.
use Rattle.machine_model.proofs.Prelude.{◌≡◌, ◌≢◌, ◌<◌, ℕ, zero, suc, Bool, true, false, cond, List, [], ◌∷◌, length, Option, is_some, refl, sym, ap, ◌∙◌, le_refl, le_of_eq, arith, get_or-set_other, Transfer, Runner, no_runner, Stage, Waiting, Keeper, Outline, Turn, runner_at, with_runner, rank_of, lack, dues, job_rank, Clears, Works, rule_of, owns, IsIn, Step, ends, comes, clears, reads, loses, works, awaits_clear, awaits_transfer, loads, idles, leaves, fills, replies, faults, enters, waits, IsCleared, IsKept, IsUnderWay, AwaitsClear, OwnerStep, Rule, not_both, measures_parts_of as parts_of, false_from_ne_true, eqb_self}
use Rattle.machine_model.proofs.CountLaws.{readers_set, dues_set}
use Rattle.machine_model.proofs.JobLaws.{falls_due, ranked, job_falls, over_same, goes, all_set}

-- ---- processors

-- a processor that takes part is there
pub inside : (xs : List Runner) (c : ℕ) → (runner_at xs c).online ≡ true → c < length xs
inside [] c h = let no = h in absurd cc
inside (x ∷ xs) zero h = omega arith
inside (x ∷ xs) (suc c) h = omega (arith, (inside xs c h))

-- where nothing is due, it is so at each processor
pub none_due : (xs : List Runner) (d : ℕ) → d < length xs → dues xs ≡ 0 → (runner_at xs d).due ≡ false
none_due xs d lt none = false_from_ne_true (runner_at xs d).due (λ h. (let one : cond {A = ℕ} (runner_at xs d).due 1 0
    ≡ 1 = ap (λ (b : Bool). cond {A = ℕ} b 1 0) h in omega (arith, (dues_set xs d no_runner lt), one, none)))

-- ---- the owner

-- the rule that applies to the owner is its job's
pub works_rule : {s : Outline} (c : ℕ) (stage : Stage) → IsKept s → IsIn s c stage → rule_of s c ≡ Works
unfolding rule_of
works_rule {s} c stage k owner =
    let work = k.job.at_work c stage owner in
    let idle : is_some (runner_at s.runners c).reading ≡ false = ap (λ (o : Option Transfer). is_some o) work.idle in
    let own : owns s.owner c ≡ true = ap (λ (o : Option Keeper). owns o c) owner ∙ eqb_self c in
    rw ((k.tied.runners_online c work.running), work.clear, idle, own) refl

-- it is no other rule
works_only : {s : Outline} {c : ℕ} {stage : Stage} {r : Rule} → IsKept s → IsIn s c stage → rule_of s c ≡ r → Works ≡ r
works_only {s = s} {c = c} {stage = stage} k owner h = sym (works_rule c stage k owner) ∙ h

pub owner_step : {s : Outline} {c : ℕ} (stage : Stage) {turn : Turn} {t : Outline} → IsKept s → IsKept t
    → IsIn s c stage → Step s c turn t → OwnerStep turn s t c
owner_step {s} {c} stage k l owner (ends ended) = not_both (k.job.at_work c stage owner).running (ended.running c)
owner_step stage k l owner (comes h) = let no = works_only k owner h in absurd cc
owner_step stage k l owner (clears x h cleared) = let no = works_only k owner h in absurd cc
owner_step stage k l owner (reads r used modified h is) = let no = works_only k owner h in absurd cc
owner_step stage k l owner (loses r x left h is lost fewer) = let no = works_only k owner h in absurd cc
owner_step {s} {c} stage {turn} {t} k l owner (works _ h step) =
    record { rank = job_falls k l step; goes = goes s c t k l step }
owner_step stage k l owner (awaits_clear w d h waiting online due) =
    (refl, record { work = w; waiting = waiting; online = online; due = due })
owner_step stage k l owner (awaits_transfer f uid page h look started) =
    (refl, record { uid = uid; page = page; look = look; started = started })
owner_step stage k l owner (loads x h some loaded) = let no = works_only k owner h in absurd cc
owner_step stage k l owner (idles busy h none) = let no = works_only k owner h in absurd cc
owner_step stage k l owner (leaves x h left) = let no = works_only k owner h in absurd cc
owner_step stage k l owner (fills x h filled) = let no = works_only k owner h in absurd cc
owner_step stage k l owner (replies _ h replied) = let no = works_only k owner h in absurd cc
owner_step stage k l owner (faults chain uid page makes h none want lacks) =
    let no = works_only k owner h in absurd cc
owner_step stage k l owner (enters h none want) = let no = works_only k owner h in absurd cc
owner_step stage k l owner (waits o h some) = let no = works_only k owner h in absurd cc

-- ---- a processor that is to clear

clears_rule : (s : Outline) (d : ℕ) → (runner_at s.runners d).online ≡ true → (runner_at s.runners d).due ≡ true
    → rule_of s d ≡ Clears
unfolding rule_of
clears_rule s d online due = rw (online, due) refl

clears_only : {s : Outline} {c d : ℕ} {r : Rule} → AwaitsClear s c d → rule_of s d ≡ r → Clears ≡ r
clears_only {s = s} {d = d} awaits h = sym (clears_rule s d awaits.online awaits.due) ∙ h

pub other_than : (s : Outline) (c d : ℕ) (P : Runner → Bool) → P (runner_at s.runners c) ≡ false
    → P (runner_at s.runners d) ≡ true → c ≢ d
other_than s c d P out is same = not_both (ap (λ (i : ℕ). P (runner_at s.runners i)) same ∙ is) out

cleared_falls : {s : Outline} {c d : ℕ} {x : Runner} → IsKept s → AwaitsClear s c d
    → IsCleared (runner_at s.runners d) x
    → (job_rank (with_runner s d x) < job_rank s) × IsUnderWay s (with_runner s d x) c
cleared_falls {s} {c} {d} {x} k awaits cleared =
    let stage = Waiting awaits.work in
    let within = inside s.runners d awaits.online in
    let apart = other_than s c d (λ r. r.due) (k.job.at_work c stage awaits.waiting).clear awaits.due in
    let same = get_or-set_other s.runners d c x no_runner apart in
    let was : cond {A = ℕ} (runner_at s.runners d).due 1 0 ≡ 1 = ap (λ (b : Bool). cond {A = ℕ} b 1 0) awaits.due in
    let now : cond {A = ℕ} x.due 1 0 ≡ 0 = ap (λ (b : Bool). cond {A = ℕ} b 1 0) cleared.due in
    let read = readers_set s.runners d x within in
    let read_same : cond {A = ℕ} (is_some x.reading) 1 0 ≡ cond (is_some (runner_at s.runners d).reading) 1 0 =
    ap (λ (o : Option Transfer). cond {A = ℕ} (is_some o) 1 0) cleared.reading in
    let rank_s = ranked s c stage awaits.waiting in
    let rank_t = ranked (with_runner s d x) c stage awaits.waiting in
    let less : rank_of (parts_of (with_runner s d x) (runner_at (with_runner s d x).runners c) stage)
    < rank_of (parts_of s (runner_at s.runners c) stage) =
    (rw same (falls_due (parts_of s (runner_at s.runners c) stage) (parts_of (with_runner s d x) (runner_at s.runners c)
    stage) (omega (arith, read, read_same)) (le_refl _) (le_refl _) (le_refl _) (le_refl _) (le_refl _) (le_refl _)
    (omega (arith, (dues_set s.runners d x within), was, now)))) in (
      omega (arith, rank_s, rank_t, less),
      record {
        stage = stage;
        in_job = awaits.waiting;
        same = record {
          want = ap (λ (r : Runner). r.want) same;
          since = ap (λ (r : Runner). r.since) same;
          running = ap (λ (r : Runner). r.running) same;
          all = all_set s (with_runner s d x) d x within refl refl refl cleared.online
              (over_same (runner_at s.runners d) x cleared.running cleared.since cleared.tried);
        };
        lack = le_of_eq (ap (λ (r : Runner). lack s r) same);
      },
    )

pub clear_step : {s : Outline} {c d : ℕ} {turn : Turn} {t : Outline} → IsKept s → AwaitsClear s c d → Step s d turn t
    → (job_rank t < job_rank s) × IsUnderWay s t c
clear_step {s} {c} k awaits (ends ended) =
    absurd (not_both (k.job.at_work c (Waiting awaits.work) awaits.waiting).running (ended.running c))
clear_step k awaits (comes h) = let no = clears_only awaits h in absurd cc
clear_step {s} {c} {d} k awaits (clears x h cleared) = cleared_falls k awaits cleared
clear_step k awaits (reads r used modified h is) = let no = clears_only awaits h in absurd cc
clear_step k awaits (loses r x left h is lost fewer) = let no = clears_only awaits h in absurd cc
clear_step k awaits (works _ h step) = let no = clears_only awaits h in absurd cc
clear_step k awaits (awaits_clear w e h waiting online due) = let no = clears_only awaits h in absurd cc
clear_step k awaits (awaits_transfer f uid page h look started) =
    let no = clears_only awaits h in absurd cc
clear_step k awaits (loads x h some loaded) = let no = clears_only awaits h in absurd cc
clear_step k awaits (idles busy h none) = let no = clears_only awaits h in absurd cc
clear_step k awaits (leaves x h left) = let no = clears_only awaits h in absurd cc
clear_step k awaits (fills x h filled) = let no = clears_only awaits h in absurd cc
clear_step k awaits (replies _ h replied) = let no = clears_only awaits h in absurd cc
clear_step k awaits (faults chain uid page makes h none want lacks) =
    let no = clears_only awaits h in absurd cc
clear_step k awaits (enters h none want) = let no = clears_only awaits h in absurd cc
clear_step k awaits (waits o h some) = let no = clears_only awaits h in absurd cc
