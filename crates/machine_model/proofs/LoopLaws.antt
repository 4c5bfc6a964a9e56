-- How the turns of the loop that makes the machine end join: turns of a job, of a command, and rounds.
use Rattle.machine_model.proofs.Prelude.{◌≡◌, ◌≤◌, ◌<◌, ℕ, ◌+◌, Bool, true, false, cond, ◌&&◌, eqb, None, is_some, refl, sym, ap, subst, ◌∙◌, ◌⊎◌, inl, inr, le_refl, le_trans, arith, eqb_tells, none-some, Runner, Stage, Look, Outline, runner_at, want_at, at_stage, missing, all_rank, job_rank, command_rank, IsIn, IsKept, lack_at, is_at, IsReference, IsSameCommand, IsUnderWay, IsPast, Goes, JobFell, JobDone, AwaitsTransfer, IsReader, CommandDone, HasTaken, command_gauge, RoundDone}

-- ---- a job

-- at its start a job is under way
pub goes_self : (s : Outline) (c : ℕ) (stage : Stage) → IsIn s c stage → Goes s s c
goes_self s c stage owner = inl (record {
  stage = stage;
  in_job = owner;
  same = record { want = refl; since = refl; running = refl; all = le_refl _ };
  lack = le_refl _;
})

past_on : {a b d : Outline} {c : ℕ} → IsUnderWay a b c → IsPast b d c → IsPast a d c
past_on under past = record {
  owner = past.owner;
  gone = rw (← under.same.since) past.gone;
  all = omega arith;
}

same_on : {a b d : Outline} {c : ℕ} → IsSameCommand a b c → IsSameCommand b d c → IsSameCommand a d c
same_on one two = assumption (
  two.want ∙ one.want,
  two.since ∙ one.since,
  two.running ∙ one.running,
  le_trans two.all one.all,
)

-- what a job lacks that lacked no more before, or the kind of its command
before_on : {a b : Outline} {c : ℕ} → IsUnderWay a b c → lack_at a c ≤ 1 → (lack_at b c ≡ 1) ⊎ IsReference (want_at b c)
    → (lack_at a c ≡ 1) ⊎ IsReference (want_at a c)
before_on under few (inl h) = let more = under.lack in inl (omega arith)
before_on under few (inr h) = inr (subst IsReference under.same.want h)

-- a job that is under way goes on with its next turn
pub goes_on : (a b d : Outline) (c : ℕ) → lack_at a c ≤ 1 → IsUnderWay a b c → Goes b d c → Goes a d c
goes_on a b d c few under (inl more) = inl (record {
  stage = more.stage;
  in_job = more.in_job;
  same = same_on under.same more.same;
  lack = le_trans more.lack under.lack;
})
goes_on a b d c few under (inr (inl past)) = inr (inl (past_on under past))
goes_on a b d c few under (inr (inr mended)) = inr (inr (assumption (
  same_on under.same mended.same,
  before_on under few mended.before,
)))

-- while somebody owns the supervisor the job is under way; once nobody does it is done
pub job_goes : {a b : Outline} {c : ℕ} (d : ℕ) (stage : Stage) → IsIn b d stage → Goes a b c → IsUnderWay a b c
job_goes d stage owner (inl under) = under
job_goes d stage owner (inr (inl past)) =
    absurd (none-some (record { cpu = d; stage = stage }) (sym past.owner ∙ owner))
job_goes d stage owner (inr (inr mended)) =
    absurd (none-some (record { cpu = d; stage = stage }) (sym mended.owner ∙ owner))

pub job_over : (a b : Outline) (c : ℕ) → b.owner ≡ None → Goes a b c → JobDone a b c
job_over a b c none (inl under) =
    absurd (none-some (record { cpu = c; stage = under.stage }) (sym none ∙ under.in_job))
job_over a b c none (inr done) = done

-- a turn in which another processor cleared, or read a page in
pub waited_fell : (s t : Outline) (c : ℕ) → (job_rank t < job_rank s) × IsUnderWay s t c → JobFell s t c
waited_fell s t c fell = record { rank = fell.0; goes = inl fell.1 }

-- somebody reads into the frame that the owner waits for
pub reader_there : (s : Outline) (c f : ℕ) → IsKept s → AwaitsTransfer s c f → (d : ℕ) × IsReader s f d
reader_there s c f k awaits =
    let there = k.tied.started f awaits.uid awaits.page awaits.started in
    (there.0, record { uid = awaits.uid; page = awaits.page; within = there.1; reading = there.2 })

-- ---- a command

missing_few : (x : Runner) → missing x ≤ 2
missing_few x = by x.has_seg x.has_page
  where
    by : (a b : Bool) → cond {A = ℕ} a (cond b 0 1) 2 ≤ 2
    by true true = omega arith
    by true false = omega arith
    by false b = omega arith

bit_few : (b : Bool) → cond {A = ℕ} b 1 0 ≤ 1
bit_few true = omega arith
bit_few false = omega arith

-- what lacked is there: that outweighs what the processor doesn't hold
lacks_less : (s t : Outline) (c : ℕ) → lack_at s c ≡ 1 → lack_at t c ≡ 0 → command_rank t c < command_rank s c
unfolding command_rank
lacks_less s t c was now =
    omega (arith, missing_few (runner_at t.runners c), bit_few (is_some (runner_at t.runners c).reading))

all_owner : (s : Outline) (c : ℕ) → all_rank (at_stage s c Look) ≡ all_rank s
unfolding all_rank
all_owner s c = refl

lacked : (s b : Outline) (c : ℕ) → HasTaken s b c → (lack_at b c ≡ 1) ⊎ IsReference (want_at b c) → lack_at s c ≡ 1
lacked s b c taken before = by taken.why before
  where
    same : lack_at b c ≡ lack_at s c
    same = cc

    by : (lack_at s c ≡ 1) ⊎ (IsReference (want_at s c) → ⊥) → (lack_at b c ≡ 1) ⊎ IsReference (want_at b c)
        → lack_at s c ≡ 1
    by (inl h) any = h
    by (inr h) (inl i) = cc
    by (inr h) (inr i) = absurd (h (subst (λ (x : Outline). IsReference (want_at x c)) taken.now i))

-- a processor took the supervisor, and the job that it began is done
pub taken_done : {s b : Outline} (t : Outline) {c : ℕ} → HasTaken s b c → JobDone b t c → CommandDone s t c
taken_done {s} t {c} taken (inl past) = inl (record {
  owner = past.owner;
  gone = rw taken.now at past.gone;
  all = omega (arith, ap all_rank taken.now ∙ all_owner s c);
})
taken_done {s} {b} t {c} taken (inr mended) = inr (record {
  owner = mended.owner;
  same = record {
    want = cc;
    since = cc;
    running = cc;
    all = omega (arith, ap all_rank taken.now ∙ all_owner s c);
  };
  rank = lacks_less s t c (lacked s b c taken mended.before) mended.now;
})

-- ---- the loop over a command

is_at_same : (x y : Runner) (since : ℕ) → y.running ≡ x.running → y.since ≡ x.since → is_at y since ≡ is_at x since
is_at_same x y since running count = rw (running, count) refl

at_since : (x : Runner) (since : ℕ) → is_at x since ≡ true → x.since ≡ since
at_since x since h = by x.running h
  where
    by : (b : Bool) → (b && eqb x.since since) ≡ true → x.since ≡ since
    by true e = elim (eqb_tells x.since since) [
      | inl i ↦ i.1
      | inr n ↦
          (let no = sym e ∙ n.0 in absurd cc)
    ]
    by false e = let no = e in absurd cc

-- the measure of the loop falls with each turn
pub way_falls : (s t : Outline) (c since : ℕ) → is_at (runner_at s.runners c) since ≡ true → CommandDone s t c
    → command_gauge t c since < command_gauge s c since
way_falls s t c since is (inl past) =
    let gone : is_at (runner_at t.runners c) since ≡ false =
    rw (← (at_since (runner_at s.runners c) since is)) past.gone in
    let a = ap (λ (b : Bool). cond {A = ℕ} b (command_rank t c + 1) 0) gone in
    let b = ap (λ (b : Bool). cond {A = ℕ} b (command_rank s c + 1) 0) is in
    omega arith
way_falls s t c since is (inr nearer) =
    let still =
    is_at_same (runner_at s.runners c) (runner_at t.runners c) since nearer.same.running nearer.same.since ∙ is in
    let a : command_gauge t c since ≡ command_rank t c + 1 =
    ap (λ (b : Bool). cond {A = ℕ} b (command_rank t c + 1) 0) still in
    omega (arith, ap (λ (b : Bool). cond {A = ℕ} b (command_rank s c + 1) 0) is)

-- the measure of all commands is less once the command is past, and no more before
pub way_next : (s t : Outline) (c since all : ℕ) → is_at (runner_at s.runners c) since ≡ true
    → all_rank s + cond (is_at (runner_at s.runners c) since) 0 1 ≤ all → CommandDone s t c
    → all_rank t + cond (is_at (runner_at t.runners c) since) 0 1 ≤ all
way_next s t c since all is way (inl past) = omega (arith, bit_few_other (is_at (runner_at t.runners c) since))
  where
    bit_few_other : (b : Bool) → cond {A = ℕ} b 0 1 ≤ 1
    bit_few_other true = omega arith
    bit_few_other false = omega arith
way_next s t c since all is way (inr nearer) =
    let le = nearer.same.all in
    let still = ap (λ (b : Bool). cond {A = ℕ} b 0 1)
    (is_at_same (runner_at s.runners c) (runner_at t.runners c) since nearer.same.running nearer.same.since) in
    omega arith

-- the loop over a command is over: a round is done
pub round_done : (s t : Outline) (c since : ℕ) → t.owner ≡ None
    → all_rank t + cond (is_at (runner_at t.runners c) since) 0 1 ≤ all_rank s
    → is_at (runner_at t.runners c) since ≡ false → RoundDone s t
round_done s t c since none way gone = record {
  owner = none;
  all = omega (arith, ap (λ (b : Bool). cond {A = ℕ} b 0 1) gone);
}
