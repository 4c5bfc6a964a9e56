-- What a job has taken isn't what its command wants, after each step.
use Rattle.machine_model.proofs.StepBasics.{◌≡◌, ◌<◌, ℕ, Bool, true, false, not, ◌&&◌, cond, eqb, is_some, length, List, [], ◌∷◌, get_or, map, set, Option, Some, None, inl, inr, refl, sym, ap, subst, ◌∙◌, arith, cond_both, eqb_tells, command_at, alters, reference_of, Command, Reference, Reply, What, uid_of, kst_at, who_at, after_reference, Frame, Segment, Move, Transfer, Aim, Phase, Processor, action_of, is_over, Outcome, after, IsEntitledToAll, Commands, IsReplied, rule_of, IsFitting, Keeps, Other, Runner, want_at, around, bare, outline_of, runner_by, stage_of, want_by, want_known, want_of, work_of, FitsStage, FitsWork, IsKept, IsMachine, IsReading, cpu_at, next_command, or_zero, process_at, processor_at, run_at, Owner, State, Storage, pages_after, told, with_pages, with_store, IsWorking, not_both, map_kept, Frame as frame, Move as move, Phase as phase, Action, by_move, clear_or, come_to, go_on_with, has_had_its_turn, is_empty, load_or_idle, move_of, own_or_run, refer_or_take, run_process, take_or_wait, transfer_or, Action as act, Plain, action_by, IsNoOwner, fits_alike, step_keeps, in_job, step_outlined, at_outline, is_owner, long_outline, seen_owns, owner_none, kept_seen, no_owner, outline_seen_none_due as none_due, reading_is, sizes_seen, rule_laws_tells as tells}
use Rattle.machine_model.proofs.WorkStep.{other_next, set_process}
use Rattle.machine_model.proofs.ForeseeAll.{foresees}
use Rattle.machine_model.proofs.WantLaws.{want_here}

-- ---- what stays

abbrev pub entries_of : State → List (Option Segment)
entries_of s = s.store.ast.entries

-- the frames and the active segments of an outline, and what a processor wants, are as before
pub record StaysFor (s now : State) (d : ℕ) : Type 0 where
  pub frames : (outline_of now).frames ≡ (outline_of s).frames
  pub entries : entries_of now ≡ entries_of s
  pub want : want_at (outline_of now) d ≡ want_at (outline_of s) d

outline_entries : (s now : State) → entries_of now ≡ entries_of s → (outline_of now).entries ≡ (outline_of s).entries
unfolding outline_of
outline_entries s now same = same

work_stays : {s now : State} {d : ℕ} (fs : List ℕ) (a : Aim) → StaysFor s now d
    → FitsWork (outline_of s) (want_at (outline_of s) d) (work_of (entries_of s) fs a)
    → FitsWork (outline_of now) (want_at (outline_of now) d) (work_of (entries_of now) fs a)
work_stays {s} {now} {d} fs a stays h = rw (← stays.entries) at (fits_alike (outline_of s) (outline_of now)
    (want_at (outline_of s) d) (want_at (outline_of now) d) (work_of (entries_of s) fs a) stays.want stays.frames
    (outline_entries s now stays.entries) h)

-- an owner whose work stays goes on
pub fits_on : {s now : State} → Keeps now → IsFitting s → now.owner ≡ s.owner
    → ((q : Owner) → s.owner ≡ Some q → StaysFor s now q.cpu) → IsFitting now
fits_on {s} {now} kept fitting owner stays = record { fits = λ q h. by q h q.phase refl }
  where
    by : (q : Owner) → now.owner ≡ Some q → (x : Phase) → q.phase ≡ x
        → FitsStage (outline_of now) (want_at (outline_of now) q.cpu) (stage_of (entries_of now) q.frames q.phase)
    by q h phase.Looking e = rw e (none_due now kept (cc))
    by q h (phase.Taken a w) e = rw e (work_stays q.frames a (stays q (cc))
        (subst (λ (x : Phase). FitsStage (outline_of s) (want_at (outline_of s) q.cpu) (stage_of (entries_of s) q.frames
        x)) e (fitting.fits q (cc))))
    by q h (phase.Waiting a w) e = rw e (work_stays q.frames a (stays q (cc))
        (subst (λ (x : Phase). FitsStage (outline_of s) (want_at (outline_of s) q.cpu) (stage_of (entries_of s) q.frames
        x)) e (fitting.fits q (cc))))
    by q h (phase.Moving m) e = rw e (none_due now kept (cc), omega arith)

pub none_fits : (now : State) → now.owner ≡ None → IsFitting now
none_fits now none = record { fits = λ q h. cc }

-- ---- what a process wants

-- the tree, the principals and the numbers are as before
record SameAround (s now : State) : Type 0 where
  nodes : now.store.accounts.nodes ≡ s.store.accounts.nodes
  whos : now.store.whos ≡ s.store.whos
  known : now.store.links.known ≡ s.store.links.known

module _ (s now : State) (same : SameAround s now) where
  want_same : (k : ℕ) (x : Option Command) → want_of (around now) k x ≡ want_of (around s) k x
  want_same k None = refl
  want_same k (Some c) = by (reference_of c)
    where
      by : (r : Option Reference) → want_by (around now) k c r ≡ want_by (around s) k c r
      by None = cc
      by (Some r) = λ i. want_known (same.nodes i) (who_at (same.whos i) k) r
          (uid_of (kst_at (same.known i) k) r.number)

  -- a processor that stays, and whose process comes to the same command, wants the same
  want_stays : (d : ℕ) → (cpu_at now.processors d).process ≡ (cpu_at s.processors d).process
      → ((k : ℕ) → (cpu_at s.processors d).process ≡ Some k → next_command now k ≡ next_command s k)
      → want_at (outline_of now) d ≡ want_at (outline_of s) d
  want_stays d process next = by (cpu_at s.processors d).process refl
    where
      nothing : (u : State) → (cpu_at u.processors d).process ≡ None → want_at (outline_of u) d ≡ Other
      nothing u none = ap (λ (x : Runner). x.want) (at_outline u d)
          ∙ ap (λ (o : Option ℕ). (runner_by (around u) (processor_at u.processors d) o).want) none

      by : (x : Option ℕ) → (cpu_at s.processors d).process ≡ x → want_at (outline_of now) d ≡ want_at (outline_of s) d
      by None e = nothing now (process ∙ e) ∙ sym (nothing s e)
      by (Some k) e = cc (want_here now d (process ∙ e), want_same k (next_command now k), next k e, want_here s d e)

-- ---- another processor than the owner's

bare_after : (x : Frame) (b : Bool) → bare (after_reference x b) ≡ bare x
bare_after frame.Free b = refl
bare_after _ b = refl

bare_frames : (fs : List Frame) (f : ℕ) (b : Bool) → map bare (set fs f (after_reference (get_or fs f frame.Free) b))
    ≡ map bare fs
bare_frames fs f b =
    map_kept bare fs f frame.Free (after_reference (get_or fs f frame.Free) b) (bare_after (get_or fs f frame.Free) b)

pages_frames : (s : State) (f : ℕ) (r : Reference)
    → map bare (pages_after s.store.pages f r).core.frames ≡ map bare s.store.pages.core.frames
pages_frames s f r = cond_both (alters r.kind) _ _
    (λ (x : Plain). map bare x.core.frames ≡ map bare s.store.pages.core.frames)
    (λ e. bare_frames s.store.pages.core.frames f true) (λ e. bare_frames s.store.pages.core.frames f false)

frames_by : (s now : State) → map bare now.store.pages.core.frames ≡ map bare s.store.pages.core.frames
    → (outline_of now).frames ≡ (outline_of s).frames
unfolding outline_of
frames_by s now same = same

module _ (s : State) (c : ℕ) (o : Outcome) (m : IsMachine s) (working : IsWorking s) (fitting : IsFitting s)
    (other : IsNoOwner s c) where
  -- a processor that changes nothing but itself, the ready list and the book
  seat_fits : {now : State} (p : Processor) → Keeps now → now.owner ≡ s.owner → now.plan ≡ s.plan → now.store ≡ s.store
      → now.runs ≡ s.runs → now.processors ≡ set s.processors c p → IsFitting now
  seat_fits {now} p kept owner plan store runs ps = fits_on kept fitting owner (λ q h. record {
    frames = frames_by s now (cc);
    entries = cc;
    want = want_stays s now (assumption (
      ap (λ (st : Storage). st.accounts.nodes) store,
      ap (λ (st : Storage). st.whos) store,
      ap (λ (st : Storage). st.links.known) store,
    )) q.cpu (cc (set_process s c m.keeps working other p h))
        (λ k e. (λ i. command_at (plan i) k (run_at (runs i) k).place));
  })

  -- one that answers its process's next command
  told_fits : (st : Storage) (f : Option ℕ) (r : Reply) → (cpu_at s.processors c).process ≡ Some (process_at s c)
      → map bare st.pages.core.frames ≡ map bare s.store.pages.core.frames → st.ast ≡ s.store.ast
      → st.accounts.nodes ≡ s.store.accounts.nodes → st.whos ≡ s.store.whos → st.links.known ≡ s.store.links.known
      → Keeps (told (with_store s st) c f r) → IsFitting (told (with_store s st) c f r)
  told_fits st f r its frames ast nodes whos known kept = fits_on kept fitting refl
      (λ q h. record {
        frames = frames_by s (told (with_store s st) c f r) frames;
        entries = cc;
        want = want_stays s (told (with_store s st) c f r) (assumption)
            q.cpu (set_process s c m.keeps working other _ h)
            (λ k e. (rw (← (ap or_zero e)) (other_next s c m.keeps working other q _ h m its)));
      })

  abbrev Fits : Action → Type 0
  Fits a = Keeps (after s c a o) → IsFitting (after s c a o)

  abbrev p : Processor
  p = processor_at s.processors c

  module _ (q : Owner) (mine : s.owner ≡ Some q) (rest : p.cpu.transfer ≡ None) where
    take_fits : (x : Option Owner) → s.owner ≡ x → Fits (take_or_wait x)
    unfolding after
    take_fits None e kept = cc
    take_fits (Some v) e kept = fitting

    move_fits : p.cpu.process ≡ Some (process_at s c) → (r : Reference) (x : Move) → Fits (by_move s.owner r x)
    unfolding after
    move_fits its r (move.Through f) kept =
        told_fits (with_pages s.store (pages_after s.store.pages f r)) (Some f) _ its
        (pages_frames s f r) refl refl refl refl kept
    move_fits its r (move.Plain answer) kept = told_fits s.store None answer its refl refl refl refl refl kept
    move_fits its r move.Fault kept = take_fits s.owner refl kept
    move_fits its r _ kept = seat_fits _ kept refl refl refl refl refl

    come_fits : p.cpu.process ≡ Some (process_at s c) → (x : Option Command) → Fits (come_to s p.cpu (process_at s c) x)
    come_fits its None kept = take_fits s.owner refl kept
    come_fits its (Some cmd) kept = by (reference_of cmd) kept
      where
        by : (y : Option Reference) → Fits (refer_or_take s p.cpu (process_at s c) y)
        by None = take_fits s.owner refl
        by (Some r) = move_fits its r (move_of s p.cpu (process_at s c) r)

    run_fits : (x : Option ℕ) → p.cpu.process ≡ x → Fits (run_process s p x)
    unfolding after
    run_fits None e kept = by s.ready kept
      where
        by : (xs : List ℕ) → Fits (load_or_idle s xs)
        by [] i = fitting
        by (k ∷ ks) i = seat_fits _ i refl refl refl refl refl
    run_fits (Some n) e kept = cond_both (has_had_its_turn p && not (is_empty s.ready)) act.Leave
        (come_to s p.cpu n (next_command s n)) Fits (λ h i. seat_fits _ i refl refl refl refl refl)
        (λ h. rw (← (ap or_zero e)) (come_fits (e ∙ ap (λ (x : Option ℕ). Some (or_zero x)) (sym e))
        (next_command s (process_at s c)))) kept

    own_fits : (x : Option Owner) → s.owner ≡ x → Fits (own_or_run s c p x)
    own_fits None e kept = cc
    own_fits (Some v) e kept = cond_both (eqb v.cpu c) (go_on_with s (or_zero p.cpu.process) v v.phase)
        (run_process s p p.cpu.process) Fits (λ h. absurd (elim (eqb_tells v.cpu c) [
          | inl y ↦ other v e y.1
          | inr n ↦ not_both h n.0
        ])) (λ h. run_fits p.cpu.process refl) kept

    transfer_fits : (x : Option Transfer) → p.cpu.transfer ≡ x → Fits (transfer_or s c p x)
    transfer_fits (Some t) e kept = cc
    transfer_fits None e kept = own_fits s.owner refl kept

    clear_fits : (x : Option What) → Fits (clear_or s c p x)
    unfolding after
    clear_fits (Some w) kept = seat_fits _ kept refl refl refl refl refl
    clear_fits None kept = transfer_fits p.cpu.transfer refl kept

    -- a processor that doesn't own the supervisor, and reads nothing, leaves the job as it was
    pub other_fits : Fits (action_of s c)
    unfolding after
    other_fits = action_by Fits s c (λ kept. fitting) (λ kept. fitting)
        (λ off kept. seat_fits _ kept refl refl refl refl refl) (λ on. clear_fits p.cpu.due)

-- ---- each step

stopped_fits : {s : State} (c : ℕ) (o : Outcome) → IsFitting s → s.stopped ≡ true
    → IsFitting (after s c (action_of s c) o)
unfolding after action_of
stopped_fits {s} c o fitting e = subst (λ (b : Bool). IsFitting (after s c (cond b act.IsStopped (cond (is_over s)
    act.HasEnded (cond (not (processor_at s.processors c).cpu.online) act.Online (clear_or s c
    (processor_at s.processors c) (processor_at s.processors c).cpu.due)))) o)) (sym e) fitting

module _ (s : State) (c : ℕ) (o : Outcome) (m : IsMachine s) (entitled : IsEntitledToAll s) (reading : IsReading s)
    (working : IsWorking s) (fitting : IsFitting s) (there : c < length s.processors) where
  abbrev now : State
  now = after s c (action_of s c) o

  -- a processor to which a command falls owns nothing and reads nothing
  rest_of : rule_of (outline_of s) c ≡ Commands → (cpu_at s.processors c).transfer ≡ None
  rest_of h = by (cpu_at s.processors c).transfer (cc (reading_is s m.keeps c, (tells (outline_of s) c Commands h).1))
    where
      by : (x : Option Transfer) → is_some x ≡ false → x ≡ None
      by None e = refl
      by (Some t) e = cc

  no_owner_of : rule_of (outline_of s) c ≡ Commands → IsNoOwner s c
  no_owner_of h q mine same = not_both (ap (λ (x : Option Owner). is_owner x c) mine ∙ elim (eqb_tells q.cpu c) [
    | inl e ↦ e.0
    | inr n ↦ absurd (n.1 same)
  ]) (sym (seen_owns s c) ∙ (tells (outline_of s) c Commands h).2)

  -- What a job has taken fits after each step.
  pub fits_kept : IsMachine now → IsReading now → IsFitting now
  fits_kept after_m after_reading = by s.stopped refl
    where
      replied : rule_of (outline_of s) c ≡ Commands → IsReplied (outline_of s) c (outline_of now) → IsFitting now
      replied h i = owned s.owner refl
        where
          owned : (x : Option Owner) → s.owner ≡ x → IsFitting now
          owned None e = none_fits now (no_owner now (i.owner ∙ owner_none s e))
          owned (Some q) e = other_fits s c o m working fitting (no_owner_of h) q e (rest_of h) after_m.keeps

      on : s.stopped ≡ false → IsFitting now
      on going = record {
        fits = λ q h. kept.job.fits q.cpu (stage_of now.store.ast.entries q.frames q.phase) (in_job now q h);
      }
        where
          kept : IsKept (outline_of now)
          kept = step_keeps (kept_seen m reading fitting) (rw (long_outline s) there) (sizes_seen after_m)
              (λ i. kept_seen after_m after_reading (none_fits now (no_owner now i.owner)))
              (λ h i. kept_seen after_m after_reading (replied h i))
              (step_outlined o going (foresees s c m entitled reading working fitting there))

      by : (b : Bool) → s.stopped ≡ b → IsFitting now
      by true e = stopped_fits c o fitting e
      by false e = on e
