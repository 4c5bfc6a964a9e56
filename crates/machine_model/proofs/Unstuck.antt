-- No state of a machine is stuck: where it wasn't stopped and some process hasn't ended, some processor moves.
use Rattle.machine_model.proofs.StepBasics.{◌≡◌, ◌<◌, ℕ, true, false, refl, subst, action_of, is_over, after, no_call, Moved, outline_of, KeepsAll, IsGoing, State, moves, turn_of, HaveSteps, SomeMoves, UnstuckGoes as Goes, Action, Action as act, length, position, Option, Some, None, is_some, sym, ◌∙◌, Transfer, Runner, no_runner, Stage, Keeper, Outline, Turn, runner_at, Works, Loads, Commands, rule_of, owns, IsEnded, IsIn, Step, ends, awaits_clear, awaits_transfer, idles, waits, IsKept, not_both, eqb_self, long_outline, position_at, position_none, rule_laws_tells as tells, inside}
use Rattle.machine_model.proofs.MachineRounds.{kept_of, machine_step, not_ended}

-- ---- In an outline that is kept and hasn't ended, some processor moves: the owner of the supervisor, or who it waits
-- for; where nobody owns it a processor that has a process, or else processor 0.

module _ {s : Outline} (k : IsKept s) (more : IsEnded s → ⊥) (all : HaveSteps s) where
  -- a step waits for the owner, for work, or as the owner; any other moves
  by_rule : (c : ℕ) → c < length s.runners → (rule_of s c ≡ Works → ⊥) → (rule_of s c ≡ Loads → s.ready ≡ 0 → ⊥)
      → (rule_of s c ≡ Commands → (o : Keeper) → s.owner ≡ Some o → ⊥) → Goes s all
  by_rule c there no_work no_idle no_wait = by (all.turn c) (all.next c) refl (all.steps c there)
    where
      here : all.turn c ≡ Moved → Goes s all
      here e = record { cpu = c; there = there; moves = e }

      by : (x : Turn) (t : Outline) → all.turn c ≡ x → Step s c x t → Goes s all
      by x t e (ends ended) = absurd (more ended)
      by x t e (awaits_clear w d h waiting online due) = absurd (no_work h)
      by x t e (awaits_transfer f uid page h look started) = absurd (no_work h)
      by x t e (idles busy h none) = absurd (no_idle h none)
      by x t e (waits o h some) = absurd (no_wait h o some)
      by x t e _ = here e

  -- who is to drop something does so, or comes online
  dropper_goes : (d : ℕ) → d < length s.runners → (runner_at s.runners d).due ≡ true → Goes s all
  dropper_goes d there due = by_rule d there (λ h. not_both due (tells s d Works h).0)
      (λ h none. not_both due (tells s d Loads h).0) (λ h o some. not_both due (tells s d Commands h).0)

  -- who reads a page in ends that, or drops something before
  reader_goes : (d : ℕ) {r : Transfer} → d < length s.runners → (runner_at s.runners d).reading ≡ Some r → Goes s all
  reader_goes d there reading = by_rule d there (λ h. not_both is (tells s d Works h).1)
      (λ h none. not_both is (tells s d Loads h).1) (λ h o some. not_both is (tells s d Commands h).1)
    where
      is : is_some (runner_at s.runners d).reading ≡ true
      is = cc

  -- the owner, or who it waits for
  owner_goes : (c : ℕ) (stage : Stage) → IsIn s c stage → Goes s all
  owner_goes c stage mine = by (all.turn c) (all.next c) refl (all.steps c there)
    where
      there : c < length s.runners
      there = (k.job.at_work c stage mine).within

      own : owns s.owner c ≡ true
      own = cc (eqb_self c)

      here : all.turn c ≡ Moved → Goes s all
      here e = record { cpu = c; there = there; moves = e }

      by : (x : Turn) (t : Outline) → all.turn c ≡ x → Step s c x t → Goes s all
      by x t e (ends ended) = absurd (more ended)
      by x t e (awaits_clear w d h waiting online due) = dropper_goes d (inside s.runners d online) due
      by x t e (awaits_transfer f uid page h look started) = let reader = k.tied.started f uid page started in
          reader_goes reader.0 reader.1 reader.2
      by x t e (idles busy h none) = cc (own, (tells s c Loads h).2)
      by x t e (waits o h some) = cc (own, (tells s c Commands h).2)
      by x t e _ = here e

  -- nobody owns the supervisor
  module _ (none : s.owner ≡ None) where
    no_work : (c : ℕ) → rule_of s c ≡ Works → ⊥
    no_work c h = not_both (tells s c Works h).2 (cc)

    runner_goes : (c : ℕ) → c < length s.runners → (runner_at s.runners c).running ≡ true → Goes s all
    runner_goes c there running = by_rule c there (no_work c) (λ h ready. not_both running (tells s c Loads h).3)
        (λ h o some. let no = sym none ∙ some in cc)

    idle_goes : ((d : ℕ) → (runner_at s.runners d).running ≡ false) → Goes s all
    idle_goes idle = by_rule 0 k.sizes.some_runner (no_work 0) (λ h ready. more (assumption))
        (λ h o some. not_both (tells s 0 Commands h).3 (idle 0))

    free_goes : Goes s all
    free_goes = by (position (λ (x : Runner). x.running) s.runners) refl
      where
        by : (o : Option ℕ) → position (λ (x : Runner). x.running) s.runners ≡ o → Goes s all
        by (Some c) e = let found = position_at (λ (x : Runner). x.running) s.runners no_runner c e in
            runner_goes c found.0 found.1
        by None e = idle_goes (λ d. position_none (λ (x : Runner). x.running) s.runners no_runner d e refl)

  pub outline_goes : Goes s all
  outline_goes = by s.owner refl
    where
      by : (o : Option Keeper) → s.owner ≡ o → Goes s all
      by None e = free_goes e
      by (Some o) e = owner_goes o.cpu o.stage e

moves_by : (a : Action) → turn_of a ≡ Moved → moves a ≡ true
moves_by act.IsStopped h = cc
moves_by act.HasEnded h = cc
moves_by (act.Waits why) h = cc
moves_by a h = refl

-- the step of each processor, in which no call of a drive fails
all_steps : (s : State) → IsGoing s → HaveSteps (outline_of s)
all_steps s going = record {
  turn = λ c. turn_of (action_of s c);
  next = λ c. outline_of (after s c (action_of s c) (no_call s));
  steps = λ c there. machine_step (after s c (action_of s c) (no_call s)) c going
      (subst (λ (n : ℕ). c < n) (long_outline s) there) (record { outcome = no_call s; done = refl });
}

pub some_moves : (s : State) → KeepsAll s → s.stopped ≡ false → is_over s ≡ false → SomeMoves s
unfolding all_steps action_of
some_moves s keeps on more = (
  found.cpu,
  record { there = rw (← (long_outline s)) found.there; moves = moves_by (action_of s found.cpu) found.moves },
)
  where
    going : IsGoing s
    going = assumption

    found : Goes (outline_of s) (all_steps s going)
    found = outline_goes (kept_of s keeps) (not_ended s keeps more) (all_steps s going)
