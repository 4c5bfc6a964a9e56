-- Each step of the owner makes the measure of its job fall.
use Rattle.machine_model.proofs.Prelude.{◌≡◌, ◌≤◌, ◌<◌, ℕ, ◌+◌, Bool, true, false, cond, List, [], ◌∷◌, length, Option, None, set, ◌&&◌, refl, le_refl, le_of_eq, arith, get_or-set_same, Frame, Want, Refer, Truncate, Runner, no_runner, Work, EvictFrame, EmptyPlace, CommitCommand, Stage, Look, Taken, Waiting, Copying, Outline, runner_at, want_at, at_stage, IsSmall, idle_links, off_links, readers, has_free, frame_lack, room_lack, work_left, stage_left, rank_of, job_rank, IsIn, JobStep, activates, connects, takes_segment, takes_frame, takes_for_commit, signals, frees_frame, frees_page, empties, empties_at_once, begins_move, copies, commits_move, HasMoved, gives_up, starts, answers, AreAlike, with_link, with_runners, IsKept, FitsStage, FitsWork, Frame as frame, Active as Entry, wanted_chain as chain_of, measures_unlinked as unlinked, measures_parts_of as parts_of, Parts, not, ◌||◌, eqb, Some, sym, ap, subst, ◌∙◌, inl, inr, eqb_tells, Transfer, with_entry, with_frame, is_here, page_fits, reads_page, wanted_fits, wanted_link, want_lack, all_rank, lack, offline, over, CanStart, IsWantedPage, IsAnswered, with_stored, without_owner, now_reading, entry_for, lack_at, is_at, IsReference, IsSameCommand, IsPast, IsMended, Goes, measures_is_over as is_over, eq-eqb, count_by-le-length, HasSizes, or_true}
use Rattle.machine_model.proofs.CountLaws.{activation_falls, emptying_off, emptying_idle, freed_is_free, readers_like, readers_set, dues_few, idle_few, off_few, lack_le, freed_fits, count_set, count_like}

-- ---- The measure of a job falls where one of its parts falls and none before it rises.

pub falls_reading : (p : Parts) {q : Parts} → IsSmall q → q.reading < p.reading → rank_of q < rank_of p
falls_reading p small less = omega arith

pub falls_idle : (p : Parts) {q : Parts} → IsSmall q → q.reading ≤ p.reading → q.idle < p.idle → rank_of q < rank_of p
falls_idle p small reading less = omega arith

pub falls_off : (p : Parts) {q : Parts} → IsSmall q → q.reading ≤ p.reading → q.idle ≤ p.idle → q.off < p.off
    → rank_of q < rank_of p
falls_off p small reading idle less = omega arith

pub falls_link : (p : Parts) {q : Parts} → IsSmall q → q.reading ≤ p.reading → q.idle ≤ p.idle → q.off ≤ p.off
    → q.link < p.link → rank_of q < rank_of p
falls_link p small reading idle off less = omega arith

pub falls_room : (p : Parts) {q : Parts} → IsSmall q → q.reading ≤ p.reading → q.idle ≤ p.idle → q.off ≤ p.off
    → q.link ≤ p.link → q.room < p.room → rank_of q < rank_of p
falls_room p small reading idle off link less = omega arith

pub falls_frame : (p : Parts) {q : Parts} → IsSmall q → q.reading ≤ p.reading → q.idle ≤ p.idle → q.off ≤ p.off
    → q.link ≤ p.link → q.room ≤ p.room → q.frame < p.frame → rank_of q < rank_of p
falls_frame p small reading idle off link room less = omega arith

pub falls_stage : (p : Parts) {q : Parts} → IsSmall q → q.reading ≤ p.reading → q.idle ≤ p.idle → q.off ≤ p.off
    → q.link ≤ p.link → q.room ≤ p.room → q.frame ≤ p.frame → q.stage < p.stage → rank_of q < rank_of p
falls_stage p small reading idle off link room frame less = omega arith

pub falls_due : (p q : Parts) → q.reading ≤ p.reading → q.idle ≤ p.idle → q.off ≤ p.off → q.link ≤ p.link
    → q.room ≤ p.room → q.frame ≤ p.frame → q.stage ≤ p.stage → q.due < p.due → rank_of q < rank_of p
falls_due p q reading idle off link room frame stage less = omega arith

-- the measure of a job by its owner and stage
pub ranked : (s : Outline) (c : ℕ) (stage : Stage) → IsIn s c stage
    → job_rank s ≡ rank_of (parts_of s (runner_at s.runners c) stage) + 1
unfolding job_rank
ranked s c stage h = cc

pub ranked_none : (s : Outline) → s.owner ≡ None → job_rank s ≡ 0
unfolding job_rank
ranked_none s h = cc

link_small : (w : Want) (b : Bool) → unlinked w b < 2
link_small (Refer chain uid page makes) true = omega arith
link_small _ _ = omega arith

bit_small : (b : Bool) → cond {A = ℕ} b 0 1 < 2
bit_small true = omega arith
bit_small false = omega arith

one_small : (b : Bool) → cond {A = ℕ} b 1 0 < 2
one_small true = omega arith
one_small false = omega arith

room_small : (full : ℕ → Bool) (w : Want) → room_lack full w < 2
room_small full (Refer chain uid page makes) = one_small (makes && full uid)
room_small full _ = omega arith

pub frame_small : (stage : Stage) (frames : List Frame) → frame_lack stage frames < 2
frame_small (Taken (EvictFrame f)) frames = omega arith
frame_small (Waiting (EvictFrame f)) frames = omega arith
frame_small _ frames = bit_small (has_free frames)

work_small : (s : Outline) (w : Want) (work : Work) → FitsWork s w work → work_left work ≤ 257
work_small s w (EmptyPlace place rest) fits = omega arith
work_small s w _ fits = omega arith

stage_small : (s : Outline) (w : Want) (stage : Stage) → FitsStage s w stage → stage_left stage < 512
stage_small s w (Taken work) fits = omega (arith, work_small s w work fits)
stage_small s w (Waiting work) fits = omega (arith, work_small s w work fits)
stage_small s w _ fits = omega arith

pub small_of : {t : Outline} (c : ℕ) (stage : Stage) → IsKept t → IsIn t c stage
    → IsSmall (parts_of t (runner_at t.runners c) stage)
small_of {t} c stage kept owner =
    let chain = chain_of (want_at t c) in
    let idle = idle_few t.entries chain in
    let links = kept.sizes.few_links c in
    let off = off_few t.entries chain in
    let entries = kept.sizes.few_entries in
    let due = dues_few t.runners in
    let runners = kept.sizes.few_runners in
    record {
      idle = omega arith;
      off = omega arith;
      link = link_small (want_at t c) (runner_at t.runners c).linked;
      room = room_small t.full (want_at t c);
      frame = frame_small stage t.frames;
      stage = stage_small t (want_at t c) stage (kept.job.fits c stage owner);
      due = omega arith;
    }

-- ---- one step

-- a job that goes on, and one that is over
between : (s t : Outline) (c : ℕ) (a b : Stage) → IsIn s c a → IsIn t c b
    → rank_of (parts_of t (runner_at t.runners c) b) < rank_of (parts_of s (runner_at s.runners c) a)
    → job_rank t < job_rank s
between s t c a b owner now less = omega (arith, ranked s c a owner, ranked t c b now)

pub over_falls : (s t : Outline) (c : ℕ) (a : Stage) → IsIn s c a → t.owner ≡ None → job_rank t < job_rank s
over_falls s t c a owner none = omega (arith, ranked s c a owner, ranked_none t none)

link_like : (x y : Runner) → y.want ≡ x.want → y.linked ≡ x.linked → unlinked y.want y.linked ≤ unlinked x.want x.linked
link_like x y want linked = rw (want, linked) (le_refl _)

link_falls : {w : Want} {b : Bool} (chain : List ℕ) (uid page : ℕ) (makes : Bool) → w ≡ Refer chain uid page makes
    → b ≡ false → unlinked w true < unlinked w b
link_falls chain uid page makes is off = rw (is, off) (omega arith)

room_like : (full : ℕ → Bool) {v w : Want} → v ≡ w → room_lack full v ≤ room_lack full w
room_like full h = rw h (le_refl _)

-- no volume has fewer free records
room_less : (s : Outline) (now : ℕ → Bool) (w : Want) → ((uid : ℕ) → now uid ≡ true → s.full uid ≡ true)
    → room_lack now w ≤ room_lack s.full w
room_less s now (Refer chain uid page makes) less = by makes (now uid) (s.full uid) (less uid)
  where
    by : (m a b : Bool) → (a ≡ true → b ≡ true) → cond {A = ℕ} (m && a) 1 0 ≤ cond {A = ℕ} (m && b) 1 0
    by true true b h = rw (h refl) (le_refl _)
    by true false b h = omega arith
    by false a b h = le_refl _
room_less s now _ less = le_refl _

idle_like : (entries : List (Option Entry)) {v w : Want} → v ≡ w
    → idle_links entries (chain_of v) ≤ idle_links entries (chain_of w)
idle_like entries h = rw h (le_refl _)

off_like : (entries : List (Option Entry)) {v w : Want} → v ≡ w
    → off_links entries (chain_of v) ≤ off_links entries (chain_of w)
off_like entries h = rw h (le_refl _)

pub alike_self : (xs : List Runner) (c : ℕ) → AreAlike xs xs c
alike_self xs c = assumption

-- a job comes to a later stage, and nothing but what others hold changes
stage_falls : (s : Outline) {c : ℕ} {runners : List Runner} (a b : Stage) → IsIn s c a → AreAlike s.runners runners c
    → IsKept (with_runners (at_stage s c b) runners) → frame_lack b s.frames ≤ frame_lack a s.frames
    → stage_left b < stage_left a → job_rank (with_runners (at_stage s c b) runners) < job_rank s
stage_falls s {c} {runners} a b owner alike kept frame less =
    between s (with_runners (at_stage s c b) runners) c a b owner refl
    (falls_stage _ (small_of c b kept refl)
    (le_of_eq (readers_like s.runners runners alike.count alike.reading))
    (idle_like s.entries alike.want) (off_like s.entries alike.want)
    (link_like (runner_at s.runners c) (runner_at runners c) alike.want alike.linked)
    (room_like s.full alike.want) frame less)

full_lacks : (frames : List Frame) → has_free frames ≡ false → 1 ≤ frame_lack Look frames
full_lacks frames full = rw full (omega arith)

freed_lacks : (frames : List Frame) (f : ℕ) → f < length frames → frame_lack Look (set frames f frame.Free) ≡ 0
freed_lacks frames f lt = cc (freed_is_free frames f lt)

connect_falls : {s : Outline} (c : ℕ) (chain : List ℕ) (uid page : ℕ) (makes : Bool) → IsKept s → IsKept (with_link s c)
    → IsIn s c Look → want_at s c ≡ Refer chain uid page makes → (runner_at s.runners c).linked ≡ false
    → job_rank (with_link s c) < job_rank s
connect_falls {s} c chain uid page makes kept now owner want off = between s (with_link s c) c Look Look owner owner
    (rw same less)
  where
    linked : Runner
    linked = record (runner_at s.runners c) { linked = true }

    within : c < length s.runners
    within = (kept.job.at_work c Look owner).within

    same : runner_at (with_link s c).runners c ≡ record (runner_at s.runners c) { linked = true }
    same = get_or-set_same s.runners c (record (runner_at s.runners c) { linked = true }) no_runner within

    small : IsSmall (parts_of (with_link s c) (record (runner_at s.runners c) { linked = true }) Look)
    small = rw same at (small_of c Look now owner)

    reading : readers (with_link s c).runners ≤ readers s.runners
    reading = omega (arith, (readers_set s.runners c (record (runner_at s.runners c) { linked = true }) within))

    less : rank_of (parts_of (with_link s c) (record (runner_at s.runners c) { linked = true }) Look)
        < rank_of (parts_of s (runner_at s.runners c) Look)
    less = falls_link _ small reading (le_refl _) (le_refl _) (link_falls chain uid page makes want off)

-- a segment has moved to a volume where a record is free
room_falls : {s : Outline} {c : ℕ} {full : ℕ → Bool} → HasMoved s c full
    → room_lack full (want_at s c) < room_lack s.full (want_at s c)
room_falls h = rw (h.want, h.lacked, h.has) (omega arith)

-- Each step of the owner makes the measure of its job fall.
pub job_falls : {s : Outline} {c : ℕ} {t : Outline} → IsKept s → IsKept t → JobStep s c t → job_rank t < job_rank s
job_falls {s} {c} k l (activates place uid superior can) = between s _ c Look Look can.look can.look
    (falls_idle _ (small_of c Look l can.look) (le_refl _)
    (activation_falls s.entries place uid superior (chain_of (want_at s c)) can.member can.idle can.free can.within))
job_falls {s} {c} k l (connects chain uid page makes owner want off) =
    connect_falls c chain uid page makes k l owner want off
job_falls {s} k l (takes_segment place frames runners can of few alike) =
    stage_falls s Look (Taken (EmptyPlace place frames)) can.look alike l (le_refl _) (omega arith)
job_falls {s} {c} k l (takes_frame f can) = stage_falls s Look (Taken (EvictFrame f)) can.look (alike_self s.runners c)
    l
    (full_lacks s.frames can.full) (omega arith)
job_falls {s} k l (takes_for_commit runners owner alike) =
    stage_falls s Look (Taken CommitCommand) owner alike l (le_refl _) (omega arith)
job_falls {s} k l (signals (EvictFrame f) runners owner alike) =
    stage_falls s (Taken (EvictFrame f)) (Waiting (EvictFrame f)) owner alike l (le_refl _) (omega arith)
job_falls {s} k l (signals (EmptyPlace place rest) runners owner alike) =
    stage_falls s (Taken (EmptyPlace place rest)) (Waiting (EmptyPlace place rest)) owner alike l (le_refl _)
    (omega arith)
job_falls {s} k l (signals CommitCommand runners owner alike) =
    stage_falls s (Taken CommitCommand) (Waiting CommitCommand) owner alike l (le_refl _) (omega arith)
job_falls {s} {c} k l (frees_frame f stored full owner due may) =
    let lacks = freed_lacks s.frames f ((k.job.fits c (Waiting (EvictFrame f)) owner).0.0) in
    between s _ c (Waiting (EvictFrame f)) Look owner refl
    (falls_frame _ (small_of c Look l refl) (le_refl _) (le_refl _) (le_refl _) (le_refl _)
    (room_less s full (want_at s c) may.room) (omega arith))
job_falls {s} {c} k l (frees_page place f rest stored full owner due may) =
    let lacks = freed_lacks s.frames f ((k.job.fits c (Waiting (EmptyPlace place (f ∷ rest))) owner).0.0.0) in
    between s _ c (Waiting (EmptyPlace place (f ∷ rest))) (Waiting (EmptyPlace place rest)) owner refl
    (falls_stage _ (small_of c (Waiting (EmptyPlace place rest)) l refl) (le_refl _) (le_refl _) (le_refl _)
    (le_refl _) (room_less s full (want_at s c) may.room) (omega arith) (omega arith))
job_falls {s} {c} k l (empties place runners owner due alike none) =
    let fits = k.job.fits c (Waiting (EmptyPlace place [])) owner in
    let chain = chain_of (want_at s c) in
    let idle = emptying_idle s.entries place chain fits.3 fits.2 in
    let off = emptying_off s.entries place chain fits.3 fits.2 in
    let like_idle = idle_like (set s.entries place None) alike.want in
    let like_off = off_like (set s.entries place None) alike.want in
    between s _ c (Waiting (EmptyPlace place [])) Look owner refl
    (falls_off _ (small_of c Look l refl) (le_of_eq (readers_like s.runners runners alike.count alike.reading))
    (omega arith) (omega arith))
job_falls {s} {c} k l (empties_at_once place can) =
    let chain = chain_of (want_at s c) in
    between s _ c Look Look can.look can.look
    (falls_off _ (small_of c Look l can.look) (le_refl _) (emptying_idle s.entries place chain can.off can.within)
    (emptying_off s.entries place chain can.off can.within))
job_falls {s} {c} k l (begins_move left owner few) =
    stage_falls s Look (Copying left) owner (alike_self s.runners c) l (le_refl _) (omega arith)
job_falls {s} {c} k l (copies left fewer owner less) =
    stage_falls s (Copying left) (Copying fewer) owner (alike_self s.runners c) l (le_refl _) (omega arith)
job_falls {s} {c} k l (commits_move left stored full owner has) = between s _ c (Copying left) Look owner refl
    (falls_room
    _ (small_of c Look l refl) (le_refl _) (le_refl _) (le_refl _) (le_refl _) (room_falls has))
job_falls {s} {c} k l (gives_up chain uid page makes owner want fits) = over_falls s _ c Look owner refl
job_falls {s} {c} k l (starts f uid page can) = over_falls s _ c Look can.look refl
job_falls {s} {c} {t} k l (answers stage _ owner due given) = over_falls s t c stage owner given.owner

-- ---- What each step of the owner brings: the job goes on with the same command, the command is past, or what it
-- lacked is there.

-- ---- The measure of all commands, as one processor or all of them change.

pub over_set : (xs : List Runner) (c : ℕ) (x : Runner) → c < length xs
    → over (set xs c x) + cond (is_over (runner_at xs c)) 1 0 ≡ over xs + cond (is_over x) 1 0
unfolding over
over_set xs c x lt = count_set is_over xs c x no_runner lt

pub offline_set : (xs : List Runner) (c : ℕ) (x : Runner) → c < length xs
    → offline (set xs c x) + cond (not (runner_at xs c).online) 1 0 ≡ offline xs + cond (not x.online) 1 0
unfolding offline
offline_set xs c x lt = count_set (λ r. not r.online) xs c x no_runner lt

-- what the measure reads of a processor
pub over_same : (x y : Runner) → y.running ≡ x.running → y.since ≡ x.since → y.tried ≡ x.tried → is_over y ≡ is_over x
over_same x y running since tried = rw (running, since, tried) refl

pub over_like : (xs ys : List Runner) → length ys ≡ length xs
    → ((d : ℕ) → is_over (runner_at ys d) ≡ is_over (runner_at xs d)) → over ys ≡ over xs
unfolding over
over_like xs ys long same = count_like is_over xs ys no_runner long same

pub offline_like : (xs ys : List Runner) → length ys ≡ length xs
    → ((d : ℕ) → (runner_at ys d).online ≡ (runner_at xs d).online) → offline ys ≡ offline xs
unfolding offline
offline_like xs ys long same = count_like (λ r. not r.online) xs ys no_runner long (λ i. ap not (same i))

pub over_few : (xs : List Runner) → over xs ≤ length xs
unfolding over
over_few xs = count_by-le-length is_over xs

pub offline_few : (xs : List Runner) → offline xs ≤ length xs
unfolding offline
offline_few xs = count_by-le-length (λ r. not r.online) xs

-- ---- the measure

pub all_le : (s t : Outline) → t.left ≡ s.left → over t.runners ≤ over s.runners → t.ready ≡ s.ready
    → offline t.runners ≤ offline s.runners → all_rank t ≤ all_rank s
unfolding all_rank
all_le s t left turns ready off = omega arith

-- a command less to come
pub all_fewer : (s : Outline) {t : Outline} → HasSizes t → t.left < s.left → all_rank t < all_rank s
unfolding all_rank
all_fewer s {t} sizes fewer = omega (arith, over_few t.runners, offline_few t.runners)

-- a process has had its turn less
pub all_turn : (s : Outline) {t : Outline} → HasSizes t → t.left ≡ s.left → over t.runners < over s.runners
    → all_rank t < all_rank s
unfolding all_rank
all_turn s {t} sizes left turn = omega (arith, offline_few t.runners)

-- a process less is ready
pub all_loaded : (s : Outline) {t : Outline} → HasSizes t → t.left ≡ s.left → over t.runners ≤ over s.runners
    → t.ready < s.ready → all_rank t < all_rank s
unfolding all_rank
all_loaded s {t} sizes left turns ready = omega (arith, offline_few t.runners)

-- a processor more takes part
pub all_online : (s t : Outline) → t.left ≡ s.left → over t.runners ≤ over s.runners → t.ready ≡ s.ready
    → offline t.runners < offline s.runners → all_rank t < all_rank s
unfolding all_rank
all_online s t left turns ready off = omega arith

-- ---- the same command

pub same_self : (s t : Outline) (c : ℕ) → runner_at t.runners c ≡ runner_at s.runners c → all_rank t ≤ all_rank s
    → IsSameCommand s t c
same_self s t c same all = record {
  want = ap (λ (x : Runner). x.want) same;
  since = ap (λ (x : Runner). x.since) same;
  running = ap (λ (x : Runner). x.running) same;
  all = all;
}

all_alike : (s t : Outline) {c : ℕ} → AreAlike s.runners t.runners c → t.left ≡ s.left → t.ready ≡ s.ready
    → all_rank t ≤ all_rank s
all_alike s t alike left ready = all_le s t left (le_of_eq (over_like s.runners t.runners alike.count (λ d.
    over_same (runner_at s.runners d) (runner_at t.runners d) (alike.running d) (alike.since d) (alike.tried d)))) ready
    (le_of_eq (offline_like s.runners t.runners alike.count alike.online))

same_alike : (s t : Outline) {c : ℕ} → AreAlike s.runners t.runners c → t.left ≡ s.left → t.ready ≡ s.ready
    → IsSameCommand s t c
same_alike s t {c} alike left ready = assumption (alike.since c, alike.running c, all_alike s t alike left ready)

lack_alike : (s t : Outline) {c : ℕ} → AreAlike s.runners t.runners c
    → wanted_fits t (want_at s c) (runner_at s.runners c).reading ≡ wanted_fits s (want_at s c)
    (runner_at s.runners c).reading → lack_at t c ≤ lack_at s c
lack_alike s t {c} alike fits =
    let w : Want = want_at s c in
    let same : lack_at t c ≡ want_lack t w (runner_at s.runners c).linked (runner_at s.runners c).reading =
    rw (alike.want, alike.linked, alike.reading c) refl in
    let le = lack_le s t w (runner_at s.runners c).linked (runner_at s.runners c).linked (runner_at s.runners c).reading
    (runner_at s.runners c).reading (λ h. h) (λ h. fits ∙ h) in
    omega (arith, same, le)

-- the job goes on: nothing but what others hold, and what it took, changes
under_way : (s t : Outline) (c : ℕ) (stage : Stage) → IsIn t c stage → AreAlike s.runners t.runners c → t.left ≡ s.left
    → t.ready ≡ s.ready → wanted_fits t (want_at s c) (runner_at s.runners c).reading ≡ wanted_fits s (want_at s c)
    (runner_at s.runners c).reading → Goes s t c
under_way s t c stage owner alike left ready fits = inl (record {
  stage = stage;
  in_job = owner;
  same = same_alike s t alike left ready;
  lack = lack_alike s t alike fits;
})

-- a frame that was taken is free
freed : (s : Outline) (c f : ℕ) (stored : ℕ → ℕ → Bool) (full : ℕ → Bool) (stage : Stage)
    → (wanted_fits s (want_at s c) (runner_at s.runners c).reading ≡ true
    → wanted_fits (with_stored (with_frame s f frame.Free) stored full) (want_at s c) (runner_at s.runners c).reading
    ≡ true) → Goes s (with_stored (at_stage (with_frame s f frame.Free) c stage) stored full) c
freed s c f stored full stage fits = inl (record {
  stage = stage;
  in_job = refl;
  same = same_alike s (with_stored (at_stage (with_frame s f frame.Free) c stage) stored full)
      (alike_self s.runners c) refl refl;
  lack = lack_le s (with_stored (with_frame s f frame.Free) stored full) (want_at s c) (runner_at s.runners c).linked
      (runner_at s.runners c).linked (runner_at s.runners c).reading (runner_at s.runners c).reading (λ h. h) fits;
})

-- what fits a command that makes a page doesn't ask whether the page is stored
made_fits : {s : Outline} {c : ℕ} (stored : ℕ → ℕ → Bool) {full : ℕ → Bool} → HasMoved s c full
    → wanted_fits (with_stored s stored full) (want_at s c) (runner_at s.runners c).reading ≡ wanted_fits s
    (want_at s c) (runner_at s.runners c).reading
made_fits {s} {c} stored {full} has = by (want_at s c) has.want
  where
    made : (b : Bool) → b && not true ≡ false
    made false = refl
    made true = refl

    by : (w : Want) → w ≡ Refer has.chain has.uid has.page true
        → wanted_fits (with_stored s stored full) w (runner_at s.runners c).reading
        ≡ wanted_fits s w (runner_at s.runners c).reading
    by w is = rw is (ap (λ (b : Bool). is_here s.frames has.uid has.page || (reads_page (runner_at s.runners c).reading
        has.uid has.page || b)) (made (not (stored has.uid has.page)) ∙ sym (made (not (s.stored has.uid has.page)))))

-- ---- one processor changes

-- what the measure of all commands reads of it stands
pub all_set : (s t : Outline) (c : ℕ) (x : Runner) → c < length s.runners → t.runners ≡ set s.runners c x
    → t.left ≡ s.left → t.ready ≡ s.ready → x.online ≡ (runner_at s.runners c).online
    → is_over x ≡ is_over (runner_at s.runners c) → all_rank t ≤ all_rank s
all_set s t c x within is left ready online turn =
    let offs = offline_set s.runners c x within in
    let a : cond {A = ℕ} (is_over x) 1 0 ≡ cond (is_over (runner_at s.runners c)) 1 0 =
    ap (λ (b : Bool). cond {A = ℕ} b 1 0) turn in
    let b : cond {A = ℕ} (not x.online) 1 0 ≡ cond (not (runner_at s.runners c).online) 1 0 =
    ap (λ (b : Bool). cond {A = ℕ} (not b) 1 0) online in
    let i : over t.runners ≡ over (set s.runners c x) = ap over is in
    let j : offline t.runners ≡ offline (set s.runners c x) = ap offline is in
    all_le s t left (omega (arith, (over_set s.runners c x within), a, i)) ready (omega (arith, offs, b, j))

-- the command of a processor is the same, by the runner that it has
pub same_command : {s t : Outline} {c : ℕ} (x : Runner) → runner_at t.runners c ≡ x → x.want ≡ want_at s c
    → x.since ≡ (runner_at s.runners c).since → x.running ≡ (runner_at s.runners c).running → all_rank t ≤ all_rank s
    → IsSameCommand s t c
same_command x is want since running all = record {
  want = ap (λ (y : Runner). y.want) is ∙ want;
  since = ap (λ (y : Runner). y.since) is ∙ since;
  running = ap (λ (y : Runner). y.running) is ∙ running;
  all = all;
}

connects_goes : (s : Outline) (c : ℕ) → c < length s.runners → IsIn s c Look → Goes s (with_link s c) c
connects_goes s c within owner = inl (record {
  stage = Look;
  in_job = owner;
  same = same_command _ same refl refl refl
      (all_set s (with_link s c) c (record (runner_at s.runners c) { linked = true }) within refl refl refl refl refl);
  lack = rw same (lack_le s (with_link s c) (want_at s c) (runner_at s.runners c).linked true
      (runner_at s.runners c).reading (runner_at s.runners c).reading (λ h. refl) (λ h. h));
})
  where
    same : runner_at (with_link s c).runners c ≡ record (runner_at s.runners c) { linked = true }
    same = get_or-set_same s.runners c (record (runner_at s.runners c) { linked = true }) no_runner within

-- a page that is being read in by its processor fits
started_page : (s : Outline) (f uid page u q : ℕ) (makes : Bool) → u ≡ uid → q ≡ page
    → page_fits s (Some (record { frame = f; uid = uid; page = page })) u q makes ≡ true
started_page s f uid page u q makes a b =
    rw (eq-eqb uid u (sym a), eq-eqb page q (sym b)) (or_true (is_here s.frames u q))

started_fits : (s : Outline) (w : Want) (linked : Bool) (f uid page : ℕ) → IsWantedPage w linked uid page
    → (wanted_link w linked && wanted_fits s w (Some (record { frame = f; uid = uid; page = page }))) ≡ true
started_fits s (Refer chain u q makes) linked f uid page h = rw h.0 (started_page s f uid page u q makes h.1 h.2)
started_fits s (Truncate chain u (Some q)) linked f uid page h = started_page s f uid page u q false h.0 h.1
started_fits s _ linked f uid page h = absurd h

abbrev reading : ℕ → ℕ → ℕ → Transfer
reading f uid page = record { frame = f; uid = uid; page = page }

starts_goes : {s : Outline} {c f uid page : ℕ} → c < length s.runners → CanStart s c f uid page
    → IsMended s (without_owner (now_reading s c f uid page)) c
starts_goes {s} {c} {f} {uid} {page} within can = record {
  owner = refl;
  same = record {
    want = ap (λ (x : Runner). x.want) same;
    since = ap (λ (x : Runner). x.since) same;
    running = ap (λ (x : Runner). x.running) same;
    all = all_set s (without_owner (now_reading s c f uid page)) c
        (record (runner_at s.runners c) { reading = Some (reading f uid page) }) within refl refl refl refl refl;
  };
  now = ap (λ (y : Runner). lack (without_owner (now_reading s c f uid page)) y) same ∙ ap
      (λ (b : Bool). cond {A = ℕ} b 0 1) (started_fits (without_owner (now_reading s c f uid page)) (want_at s c)
      (runner_at s.runners c).linked f uid page can.wants);
  before = inl can.lacks;
}
  where
    same : runner_at (now_reading s c f uid page).runners c ≡ record (runner_at s.runners c)
        { reading = Some (reading f uid page) }
    same = get_or-set_same s.runners c (record (runner_at s.runners c) { reading = Some (reading f uid page) })
        no_runner within

-- ---- a command is past

-- more entries since the load, or no process
pub gone_from : (x : Runner) (since : ℕ) → (x.running ≡ true → x.since ≡ since + 1) → is_at x since ≡ false
gone_from x since h = by x.running refl
  where
    by : (b : Bool) → x.running ≡ b → (b && eqb x.since since) ≡ false
    by false e = refl
    by true e = elim (eqb_tells x.since since) [
      | inl i ↦ (let same : x.since ≡ since = i.1 in
          absurd (omega (arith, (h e), same)))
      | inr n ↦ n.0
    ]

answers_goes : {s t : Outline} {c : ℕ} → IsKept t → IsAnswered s c t → IsPast s t c
answers_goes {s} {t} {c} kept given = record {
  owner = given.owner;
  gone = gone_from (runner_at t.runners c) (runner_at s.runners c).since given.over;
  all = all_fewer s kept.sizes given.fewer;
}

-- ---- each step

pub goes : (s : Outline) (c : ℕ) (t : Outline) → IsKept s → IsKept t → JobStep s c t → Goes s t c
goes s c t k l (activates place uid superior can) =
    under_way s (with_entry s place (entry_for uid superior)) c Look can.look (alike_self s.runners c) refl refl refl
goes s c t k l (connects chain uid page makes owner want off) =
    connects_goes s c (k.job.at_work c Look owner).within owner
goes s c t k l (takes_segment place frames runners can of few alike) =
    under_way s (with_runners (at_stage s c (Taken (EmptyPlace place frames))) runners) c
    (Taken (EmptyPlace place frames)) refl alike refl refl refl
goes s c t k l (takes_frame f can) =
    under_way s (at_stage s c (Taken (EvictFrame f))) c (Taken (EvictFrame f)) refl (alike_self s.runners c) refl refl
    refl
goes s c t k l (takes_for_commit runners owner alike) =
    under_way s (with_runners (at_stage s c (Taken CommitCommand)) runners) c (Taken CommitCommand) refl alike refl
    refl refl
goes s c t k l (signals w runners owner alike) =
    under_way s (with_runners (at_stage s c (Waiting w)) runners) c (Waiting w) refl alike refl refl refl
goes s c t k l (frees_frame f stored full owner due may) =
    let taken = (k.job.fits c (Waiting (EvictFrame f)) owner).0 in
    freed s c f stored full Look
    (freed_fits (want_at s c) (runner_at s.runners c).reading taken.0 taken.1 may)
goes s c t k l (frees_page place f rest stored full owner due may) =
    let taken = (k.job.fits c (Waiting (EmptyPlace place (f ∷ rest))) owner).0.0 in
    freed s c f stored full (Waiting (EmptyPlace place rest))
    (freed_fits (want_at s c) (runner_at s.runners c).reading taken.0 taken.1 may)
goes s c t k l (empties place runners owner due alike none) =
    under_way s (with_runners (at_stage (with_entry s place None) c Look) runners) c Look refl alike refl refl refl
goes s c t k l (empties_at_once place can) =
    under_way s (with_entry s place None) c Look can.look (alike_self s.runners c) refl refl refl
goes s c t k l (begins_move left owner few) =
    under_way s (at_stage s c (Copying left)) c (Copying left) refl (alike_self s.runners c) refl refl refl
goes s c t k l (copies left fewer owner less) =
    under_way s (at_stage s c (Copying fewer)) c (Copying fewer) refl (alike_self s.runners c) refl refl refl
goes s c t k l (commits_move left stored full owner has) =
    under_way s (with_stored (at_stage s c Look) stored full) c Look refl (alike_self s.runners c) refl refl
    (made_fits stored has)
goes s c t k l (gives_up chain uid page makes owner want fits) = inr (inr (record {
  owner = refl;
  same = same_self s (without_owner s) c refl (all_le s (without_owner s) refl (le_refl _) refl (le_refl _));
  now = fits;
  before = inr (subst IsReference (sym want) tt);
}))
goes s c t k l (starts f uid page can) = inr (inr (starts_goes (k.job.at_work c Look can.look).within can))
goes s c t k l (answers stage _ owner due given) = inr (inl (answers_goes l given))
