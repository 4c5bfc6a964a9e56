-- The outline of a machine that keeps its promise is kept: its sizes, and whoever is waited for is there.
use Rattle.machine_model.proofs.Kept.{◌≡◌, ◌<◌, ◌≤◌, ℕ, Bool, true, false, eqb, length, List, [], ◌∷◌, sum, Option, Some, None, Result, Ok, Err, is_some, inl, inr, refl, sym, ap, subst, ◌∙◌, arith, cond, not, nat_le, ◌*◌, IsDistinct, AllByRecursion, eqb_tells, length-le_from_distinct_below, permits, reference_of, Command, Reference, Reply, What, Who, access_of, Node, node_in, IsTree, uid_of, kst_at, segment_at, who_at, started_page, Frame, has, Transfer, store_frame, AreDistinct, waits_for, IsIn, IsFitting, seen, Keeps, AtWork, dues, Want, Refer, Other, Runner, Stage, no_runner, runner_at, want_at, around, bare, keeper_of, outline_of, runner_by, stage_of, want_by, want_in, want_known, want_lengthened, want_of, want_of_command, want_truncated, AreTied, EndsChain, FitsStage, HasJob, HasSizes, IsKept, IsMachine, IsReading, cpu_at, next_command, no_processor, processor_at, Owner, State, Processor, any_turned, not_both, page_is, pools_few, Command as command, Frame as frame, wanted_chain as chain_of, frame_outlined, map_list, within_by, count_zero, at_outline, long_outline, seen_due, seen_online, seen_reading, seen_running, none_some, keeper_cpu, keeper_stage, chain_ends, chain_few}

-- ---- sizes

pub distinct_of : (xs : List ℕ) → AreDistinct xs → IsDistinct eqb xs
unfolding IsDistinct
distinct_of [] h = tt
distinct_of (x ∷ xs) h = (apart xs h.0, distinct_of xs h.1)
  where
    apart : (ys : List ℕ) → has ys x ≡ false → AllByRecursion (λ y. eqb x y ≡ false) ys
    apart [] i = tt
    apart (y ∷ ys) i = elim (eqb_tells y x) [
      | inl e ↦ absurd (not_both (cc) i)
      | inr n ↦ (elim (eqb_tells x y) [ inl e ↦ absurd (n.1 (sym e.1)) | inr o ↦ o.0 ], apart ys (cc))
    ]

-- a want of a tree
record IsShort (w : Want) : Type 0 where
  few : length (chain_of w) ≤ 10
  ends : EndsChain w

module _ (nodes : List Node) (t : IsTree nodes) where
  none_short : IsShort Other
  none_short = record { few = omega arith; ends = tt }

  known_short : (who : Who) (r : Reference) (x : Option ℕ) → IsShort (want_known nodes who r x)
  known_short who r None = none_short
  known_short who r (Some u) = by (node_in nodes u)
    where
      by : (y : Option Node) → IsShort (want_in nodes who r y)
      by None = none_short
      by (Some n) = test (not (permits (access_of who n.rows) r.kind)) (nat_le (1024 * n.pages) r.offset)
          (Refer _ n.uid _ _) (assumption (chain_few nodes t n.uid, chain_ends nodes t n.uid))
        where
          test : (a b : Bool) (w : Want) → IsShort w → IsShort (cond a Other (cond b Other w))
          test false false w h = h
          test _ _ w h = none_short

  command_short : (c : Command) → IsShort (want_of_command nodes c)
  command_short (command.Truncate path words) = by (segment_at nodes path)
    where
      by : (x : Result Node Reply) → IsShort (want_truncated nodes words x)
      by (Err e) = none_short
      by (Ok n) = assumption (chain_few nodes t n.uid, chain_ends nodes t n.uid)
  command_short (command.Length path pages) = by (segment_at nodes path)
    where
      by : (x : Result Node Reply) → IsShort (want_lengthened x)
      by (Err e) = none_short
      by (Ok n) = record { few = omega arith; ends = tt }
  command_short _ = none_short

module _ {s : State} (m : IsMachine s) where
  abbrev keeps : Keeps s
  keeps = m.keeps

  want_short : (k : ℕ) (x : Option Command) → IsShort (want_of (around s) k x)
  want_short k None = none_short s.store.accounts.nodes keeps.store.accounts.tree
  want_short k (Some c) = by (reference_of c)
    where
      by : (r : Option Reference) → IsShort (want_by (around s) k c r)
      by None = command_short s.store.accounts.nodes keeps.store.accounts.tree c
      by (Some r) = known_short s.store.accounts.nodes keeps.store.accounts.tree (who_at s.store.whos k) r
          (uid_of (kst_at s.store.links.known k) r.number)

  short_at : (c : ℕ) → IsShort (want_at (outline_of s) c)
  short_at c = subst (λ (x : Runner). IsShort x.want) (sym (at_outline s c)) (by (cpu_at s.processors c).process)
    where
      by : (o : Option ℕ) → IsShort (runner_by (around s) (processor_at s.processors c) o).want
      by None = none_short s.store.accounts.nodes keeps.store.accounts.tree
      by (Some k) = want_short k (next_command s k)

  ready_few : length s.ready ≤ 32
  ready_few = omega (
    arith,
    (length-le_from_distinct_below s.ready (length s.plan.processes)
        (distinct_of s.ready m.scheduled.once) (λ q h. (m.scheduled.waiting q (any_turned s.ready q h)).planned)),
  )

  pub sizes_seen : HasSizes (outline_of s)
  unfolding outline_of
  sizes_seen = record {
    few_runners = omega (arith, long_outline s);
    some_runner = omega (arith, long_outline s);
    few_entries = omega (arith, pools_few s.plan.pools m.script.pools, ap (λ (xs : List ℕ). sum xs) m.pools);
    few_ready = ready_few;
    few_links = λ c. (short_at c).few;
    chains = λ c. (short_at c).ends;
  }

-- ---- processors and frames

started_tells : (x : Frame) (u p : ℕ) → bare x ≡ frame.Started u p → started_page x ≡ Some (u, p)
started_tells (frame.Started v q) u p h = ap started_page h
started_tells _ u p h = cc

page_started : (x : Frame) (u p : ℕ) → started_page x ≡ Some (u, p) → bare x ≡ frame.Started u p
page_started (frame.Started v q) u p h = let both = page_is v q u p h in λ i. frame.Started (both.0 i) (both.1 i)
page_started _ u p h = cc

module _ (s : State) (k : Keeps s) where
  abbrev runner : ℕ → Runner
  runner c = runner_at (outline_of s).runners c

  pub reading_is : (c : ℕ) → (runner c).reading ≡ (cpu_at s.processors c).transfer
  reading_is c = cc (at_outline s c, seen_reading (around s) (processor_at s.processors c))

  pub running_is : (c : ℕ) → (runner c).running ≡ is_some (cpu_at s.processors c).process
  running_is c = cc (at_outline s c, seen_running (around s) (processor_at s.processors c))

  online_is : (c : ℕ) → (runner c).online ≡ (cpu_at s.processors c).online
  online_is c = cc (at_outline s c, seen_online (around s) (processor_at s.processors c))

  due_is : (c : ℕ) → (runner c).due ≡ is_some (cpu_at s.processors c).due
  due_is c = cc (at_outline s c, seen_due (around s) (processor_at s.processors c))

  reads_is : (f : ℕ) → (seen s).reads f ≡ started_page (store_frame s.store.pages f)
  reads_is f = map_list started_page s.store.pages.core.frames f frame.Free

  there_by : (c : ℕ) {t : Transfer} → (cpu_at s.processors c).transfer ≡ Some t → c < length s.processors
  there_by c h = within_by s.processors c no_processor (λ e. none_some
      (sym (ap (λ (p : Processor). p.cpu.transfer) e) ∙ h))

  has_process_by : (o : Option ℕ) → is_some o ≡ true → (j : ℕ) × (o ≡ Some j)
  has_process_by None h = cc
  has_process_by (Some j) h = (j, refl)

  pub tied_seen : IsMachine s → IsReading s → AreTied (outline_of s).runners (outline_of s).frames
  tied_seen m reading = record {
    runners_online = λ c h. (let its = has_process_by (cpu_at s.processors c).process (sym (running_is c) ∙ h) in
        online_is c ∙ m.scheduled.online c its.0 its.1);
    readers_run = λ c r h. rw (running_is c, (reading.each c r (sym (reading_is c) ∙ h)).its);
    started = λ f u p h. (let at = k.book.under_way.reader f u p (reads_is f
        ∙ started_tells (store_frame s.store.pages f) u p (sym (frame_outlined s f) ∙ h)) in (
          at.0,
          rw (long_outline s) (there_by at.0 at.1),
          reading_is at.0 ∙ at.1,
        ));
    read = λ d r h. (let is = frame_outlined s r.frame ∙ page_started (store_frame s.store.pages r.frame) r.uid r.page
        (sym (reads_is r.frame) ∙ (k.book.under_way.reading d r (sym (reading_is d) ∙ h))) in (
          is,
          within_by (outline_of s).frames r.frame frame.Free (λ e. none_some (ap started_page (sym e ∙ is))),
        ));
    one_reader = λ d e r q h i same. k.book.under_way.alone d e r q (sym (reading_is d) ∙ h) (sym (reading_is e) ∙ i)
        same;
  }

  -- while nobody waits for a clear none is due
  pub none_due : waits_for s.owner ≡ None → dues (outline_of s).runners ≡ 0
  unfolding dues
  none_due none = count_zero (λ (x : Runner). x.due) (outline_of s).runners no_runner
      (λ c. due_is c ∙ by c (cpu_at s.processors c).due refl)
    where
      by : (c : ℕ) (x : Option What) → (cpu_at s.processors c).due ≡ x → is_some x ≡ false
      by c None e = refl
      by c (Some w) e = cc (k.book.going_owned.due c w e)

-- ---- the job

module _ (s : State) (c : ℕ) (stage : Stage) where
  -- the owner of an outline is that of the machine
  record IsSeenIn : Type 0 where
    owner : Owner
    mine : s.owner ≡ Some owner
    cpu : owner.cpu ≡ c
    stage_is : stage_of s.store.ast.entries owner.frames owner.phase ≡ stage

  seen_in : IsIn (outline_of s) c stage → IsSeenIn
  unfolding outline_of
  seen_in h = by s.owner refl h
    where
      by : (o : Option Owner) → s.owner ≡ o → keeper_of s.store.ast.entries o ≡ Some
          (record { cpu = c; stage = stage }) → IsSeenIn
      by None e i = cc
      by (Some q) e i = record { owner = q; mine = e; cpu = ap keeper_cpu i; stage_is = ap keeper_stage i }

pub no_owner : (s : State) → (outline_of s).owner ≡ None → s.owner ≡ None
unfolding outline_of
no_owner s h = by s.owner h
  where
    by : (o : Option Owner) → keeper_of s.store.ast.entries o ≡ None → o ≡ None
    by None i = refl
    by (Some q) i = cc

pub job_seen : {s : State} → IsMachine s → IsFitting s → HasJob (outline_of s)
job_seen {s} m fitting = record {
  at_work = λ c stage h. (let is = seen_in s c stage h in
      let work = subst (λ (d : ℕ). AtWork (processor_at s.processors d)) is.cpu (m.keeps.at_work is.owner is.mine) in
      record {
        within = rw (long_outline s) (within_by s.processors c no_processor
            (λ e. (let off = sym (ap (λ (p : Processor). p.cpu.online) e) ∙ work.online in cc)));
        running = running_is s m.keeps c ∙ work.busy;
        clear = cc (due_is s m.keeps c);
        idle = reading_is s m.keeps c ∙ work.idle;
      });
  fits = λ c stage h. (let is = seen_in s c stage h in
      rw is.cpu at (subst (FitsStage (outline_of s) (want_at (outline_of s) is.owner.cpu)) is.stage_is
      (fitting.fits is.owner is.mine)));
  quiet = λ none. none_due s m.keeps (ap waits_for (no_owner s none));
}

-- the whole
pub kept_seen : {s : State} → IsMachine s → IsReading s → IsFitting s → IsKept (outline_of s)
kept_seen {s} m reading fitting = assumption (sizes_seen m, tied_seen s m.keeps m reading, job_seen m fitting)
