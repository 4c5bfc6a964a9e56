-- What the loops that make a machine end come to, turn by turn.
use Rattle.machine.proofs.Prelude.{◌≡◌, ◌≤◌, ◌<◌, ℕ, ◌+◌, ◌∷◌, true, false, cond, eqb, ◌&&◌, length, is_some, List, Option, Some, None, position, refl, sym, ap, subst, ◌∙◌, arith, append-nil, get_or_past, Err, Ok, OnErr, OnOk, Result, Transfer, action_of, has_process, is_over, CommandDone, Goes, HasTaken, IsReader, JobDone, JobFell, RoundDone, command_gauge, is_at, all_rank, Outline, Runner, runner_at, around, outline_of, stage_of, KeepsAll, cpu_at, no_processor, process_at, processor_at, IsGoing, IsOwnedBy, Owner, State, position_at, position_none, round_done, way_falls, way_next, kept_of, in_job, at_outline, long_outline, seen_reading, pools_kept, Parts, Why, HasGone, HasMoved, HasStalled, HasTurned, MayWait, OwnerTurned, WaitsFor, is_into, is_still_at, reads_into, with_spare, Grows, HasRun, HasStood, is_moved, tally, with_room, Appends, IfStill, IsTurn, KeepsParts, TellsFaults, turn_of, why_by, Turn, eqb-true, eqb_self, some_same, [], Why as why, Turn as turn}
use Rattle.machine_model.specs.Actions as act
use Rattle.machine_model.specs.Outline as outline
use Rattle.machine_model.specs.Turns as model
use Rattle.machine_model.proofs.MachineRounds as rounds
use Rattle.machine.proofs.RestLaws.{rest_kept}
use Rattle.machine.proofs.RunLaws.{round_made, run_append, run_grows, run_grows_on, run_keeps, run_keeps_on}

-- ---- steps, one after another

module _ {D X : Type 0} {plan : D → X} {places faults : D → ℕ} where
  pub gone_self : {a : Parts D} → HasGone plan places faults a a
  gone_self = record { cpus = []; moved = 0; run = (refl, refl); stopped = refl }

  pub gone_on : {a b d : Parts D} → HasGone plan places faults a b → HasGone plan places faults b d
      → HasGone plan places faults a d
  gone_on {a} {b} {d} one two = grind (arith, run_append)

  pub stalled_on : {a b d : Parts D} → HasGone plan places faults a b → HasStalled plan places faults b d
      → HasStalled plan places faults a d
  stalled_on one two = record { last = two.last; gone = gone_on one two.gone; room = two.room }

  -- room was made, and a step
  pub gone_round : {a b d : Parts D} {c : ℕ} {answer : Turn} → b ≡ with_room a b.state.spare
      → IsTurn plan places faults b d c answer → Appends b.state.entries d.state.entries 320
      → KeepsParts plan places faults b d → TellsFaults faults b d (process_at b.state c)
      → HasGone plan places faults a d
  gone_round {a} {b} {d} {c} {answer} is turn more kept told = record {
    cpus = c ∷ [];
    moved = tally (is_moved answer);
    run = (
      d,
      tally (is_moved answer),
      0,
      omega arith,
      round_made plan places faults a b d c (tally (is_moved answer)) answer is turn more kept told refl,
      (refl, refl),
    );
    stopped = ap (λ (s : State). s.stopped) turn.step.done
        ∙ ((pools_kept b.state c (action_of b.state c) turn.step.outcome).stopped
        ∙ ap (λ (t : Parts D). t.state.stopped) is);
  }

  -- there was no room for a step
  pub stalled_at : {a b : Parts D} → b ≡ with_room a b.state.spare → HasStalled plan places faults a b
  stalled_at {a} is = record { last = a; gone = gone_self; room = is }

  -- ---- what follows

  pub gone_run : {a b : Parts D} → HasGone plan places faults a b
      → (cpus : List ℕ) × (moved : ℕ) × HasRun plan places faults a b cpus moved
  gone_run h = (h.cpus, h.moved, h.run)

  pub stalled_stood : {a b : Parts D} → HasStalled plan places faults a b
      → (cpus : List ℕ) × HasStood plan places faults a b cpus
  stalled_stood h = (
    h.gone.cpus,
    record {
      before = h.gone.cpus;
      rest = [];
      cpus_are = sym (append-nil h.gone.cpus);
      last = h.last;
      moved = h.gone.moved;
      run = h.gone.run;
      room = h.room;
    },
  )

  -- a processor of the script is one still
  pub gone_planned : {a b : Parts D} {c : ℕ} → HasGone plan places faults a b → c < a.state.plan.processors
      → c < b.state.plan.processors
  gone_planned {a} {b} h within = rw (run_keeps plan places faults a b h.cpus h.moved h.run).script within

-- however it ended
module _ {D X T E : Type 0} (plan : D → X) (places faults : D → ℕ) (a b : Parts D) where
  pub loop_grows : (r : Result T E) → OnOk r (HasGone plan places faults a b)
      → OnErr r (HasStalled plan places faults a b) → Grows a.state.entries b.state.entries
  loop_grows (Ok x) gone stalled = run_grows plan places faults a b gone.cpus gone.moved gone.run
  loop_grows (Err e) gone stalled = let stood = stalled_stood stalled in
      run_grows_on plan places faults a b stood.0 stood.1

  pub loop_keeps : (r : Result T E) → OnOk r (HasGone plan places faults a b)
      → OnErr r (HasStalled plan places faults a b) → KeepsParts plan places faults a b
  loop_keeps r h1 h2 = grind (arith, run_keeps, stalled_stood, run_keeps_on)

  pub loop_stopped : (r : Result T E) → OnOk r (HasGone plan places faults a b)
      → OnErr r (HasStalled plan places faults a b) → b.state.stopped ≡ a.state.stopped
  loop_stopped (Ok x) gone stalled = gone.stopped
  loop_stopped (Err e) gone stalled = ap (λ (t : Parts D). t.state.stopped) stalled.room ∙ stalled.gone.stopped

-- ---- a turn

-- room was made, and a step
pub turned_by : {D X : Type 0} {plan : D → X} {places faults : D → ℕ} {a b d : Parts D} {c : ℕ} {answer : Turn}
    → b ≡ with_room a b.state.spare → KeepsAll a.state → KeepsAll d.state → IsTurn plan places faults b d c answer
    → HasTurned a.state d.state c answer
turned_by {D} {X} {plan} {places} {faults} {a} {b} {d} {c} {answer} is before now made = grind arith

-- an answer says what the model's does
abbrev SaysTurn : Turn → outline.Turn → Type 0
SaysTurn (turn.Moved p) x = x ≡ outline.Moved
SaysTurn (turn.Waits w) x = (reason : act.Why) × (w ≡ why_by reason) × (x ≡ outline.WaitsFor reason)
SaysTurn _ x = x ≡ outline.Ended

says_turn : (s : State) (c : ℕ) (a : act.Action) → SaysTurn (turn_of s c a) (model.turn_of a)
says_turn s c a = grind arith

module _ {s t : State} {c : ℕ} {answer : Turn} (turned : HasTurned s t c answer) (on : s.stopped ≡ false) where
  abbrev roomy : State
  roomy = with_spare s turned.spare

  -- the machine that was given room
  pub roomy_goes : IsGoing roomy
  roomy_goes = assumption (rest_kept s turned.spare s.stopped turned.before)

  -- where it waits nothing has changed; room for entries is in no outline
  still_outline : (w : Why) → answer ≡ turn.Waits w → outline_of t ≡ outline_of s
  unfolding outline_of
  still_outline w is = ap outline_of (subst (λ (x : Turn). IfStill x (t ≡ roomy)) is turned.still)

  -- ---- the owner's turn

  module _ (there : c < length s.processors) (mine : IsOwnedBy s c) where
    roomy_mine : IsOwnedBy roomy c
    roomy_mine = record { owner = mine.owner; mine = mine.mine; cpu = mine.cpu }

    -- What a step of the owner brings.
    pub owner_turned : OwnerTurned s t c answer
    unfolding outline_of
    owner_turned = by answer refl (rw turned.answer_is (says_turn roomy c (action_of roomy c)))
      where
        by_reason : (reason : act.Why) → model.turn_of (action_of roomy c) ≡ outline.WaitsFor reason
            → outline_of t ≡ outline_of s → OwnerTurned s t c (turn.Waits (why_by reason))
        by_reason (act.ForClear late) h same = (
          same,
          rw same (rounds.awaits_clear_turn roomy t c roomy_goes turned.now there roomy_mine turned.stepped late h),
        )
        by_reason (act.ForTransfer frame) h same = (
          same,
          rw same (rounds.awaits_transfer_turn roomy t c roomy_goes turned.now there roomy_mine turned.stepped frame h),
        )
        by_reason (act.ForOwner cpu) h same =
            rounds.never_owner roomy t c roomy_goes turned.now there roomy_mine turned.stepped cpu h
        by_reason (act.WhileIdle busy) h same =
            rounds.never_idle roomy t c roomy_goes turned.now there roomy_mine turned.stepped busy h

        by : (x : Turn) → answer ≡ x → SaysTurn x (model.turn_of (action_of roomy c)) → OwnerTurned s t c x
        by (turn.Moved p) is h = rounds.moved_turn roomy t c roomy_goes turned.now there roomy_mine turned.stepped h
        by (turn.Waits w) is h = rw h.1 (by_reason h.0 h.2 (still_outline w is))
        by turn.Ended is h = rounds.never_ended roomy t c roomy_goes turned.now there roomy_mine turned.stepped h
        by turn.Stopped is h = rounds.never_ended roomy t c roomy_goes turned.now there roomy_mine turned.stepped h

-- the owner is one of the processors
pub owner_there : (s : State) (c : ℕ) → KeepsAll s → IsOwnedBy s c → c < length s.processors
owner_there s c keeps mine = rw (← mine.cpu, ← (long_outline s)) ((kept_of s keeps).job.at_work mine.owner.cpu
    (stage_of s.store.ast.entries mine.owner.frames mine.owner.phase) (in_job s mine.owner mine.mine)).within

-- what the owner waits for is a processor, or is read by one
pub may_wait : (s t : State) (c : ℕ) (answer : Turn) → OwnerTurned s t c answer → MayWait t c answer
may_wait s t c answer h1 = grind arith

-- the processor that is waited for is there
pub awaited_planned : (s : State) (c d : ℕ) (answer : Turn) → KeepsAll s → WaitsFor s c answer d → d < s.plan.processors
awaited_planned s c d answer keeps waits = rw (← keeps.machine.keeps.sizes.processors) (by answer waits)
  where
    by : (x : Turn) → WaitsFor s c x d → d < length s.processors
    by (turn.Waits (why.ForClear late)) h = rounds.late_there s h.1
    by (turn.Waits (why.ForTransfer frame)) h = rw (← (long_outline s)) h.1.within
    by _ h = absurd h

-- the owner's step moved
pub moved_alone : (s t : State) (c : ℕ) (answer : Turn) → OwnerTurned s t c answer → HasMoved answer
    → JobFell (outline_of s) (outline_of t) c
moved_alone s t c (turn.Moved p) h moved = h
moved_alone s t c _ h moved = absurd moved

-- or the processor for which it waits has made its own
module _ (s t u : State) (c d : ℕ) (late : Turn) (on : t.stopped ≡ false) (turned : HasTurned t u d late) where
  abbrev ready : State
  ready = with_spare t turned.spare

  pub awaited_fell : (answer : Turn) → OwnerTurned s t c answer → WaitsFor t c answer d
      → JobFell (outline_of s) (outline_of u) c
  unfolding outline_of
  awaited_fell (turn.Waits (why.ForClear e)) h waits = subst (λ (o : Outline). JobFell o (outline_of u) c) h.0
      (rounds.cleared_turn (roomy_goes turned on) waits.1 turned.stepped)
  awaited_fell (turn.Waits (why.ForTransfer frame)) h waits = subst (λ (o : Outline). JobFell o (outline_of u) c) h.0
      (rounds.read_turn (roomy_goes turned on) turned.now waits.0 waits.1 turned.stepped)
  awaited_fell _ h waits = absurd waits

-- somebody reads into the frame that is waited for
reads_from : (s : State) (f d : ℕ) → IsReader (outline_of s) f d → reads_into f (processor_at s.processors d) ≡ true
reads_from s f d reader = cc (at_outline s d, seen_reading (around s) (processor_at s.processors d), eqb_self f)

pub reader_found : (s : State) (f : ℕ) → ((d : ℕ) × IsReader (outline_of s) f d)
    → position (reads_into f) s.processors ≡ None → ⊥
reader_found s f reader none = let no : true ≡ false = sym (reads_from s f reader.0 reader.1)
    ∙ position_none (reads_into f) s.processors no_processor reader.0 none refl in cc

-- the first one that does is it
pub reader_is : (s : State) (f d : ℕ) → position (reads_into f) s.processors ≡ Some d → IsReader (outline_of s) f d
reader_is s f d h = by (cpu_at s.processors d).transfer refl found.1
  where
    found : (d < length s.processors) × (reads_into f (processor_at s.processors d) ≡ true)
    found = position_at (reads_into f) s.processors no_processor d h

    by : (x : Option Transfer) → (cpu_at s.processors d).transfer ≡ x → is_into f x ≡ true → IsReader (outline_of s) f d
    by None e i = cc
    by (Some t) e i = record {
      uid = t.uid;
      page = t.page;
      within = rw (long_outline s) found.0;
      reading = ap (λ (x : Runner). x.reading) (at_outline s d) ∙ (seen_reading (around s) (processor_at s.processors d)
          ∙ (e ∙ (λ j. Some (record t { frame = eqb-true t.frame f i j }))));
    }

-- who owns the supervisor while a job goes on is the processor whose job it is
pub job_mine : (a b : State) (c d : ℕ) → Goes (outline_of a) (outline_of b) c → IsOwnedBy b d → d ≡ c
job_mine a b c d goes owned = let mine = rounds.job_owner a b goes owned.mine in
    cc (some_same owned.owner mine.owner (sym owned.mine ∙ mine.mine))

-- a job goes on with a turn
pub job_goes_on : (a b t : State) (c d : ℕ) → Goes (outline_of a) (outline_of b) c → IsOwnedBy b d
    → JobFell (outline_of b) (outline_of t) d → Goes (outline_of a) (outline_of t) c
job_goes_on a b t c d goes owned fell = let same = job_mine a b c d goes owned in
    rounds.job_next a t goes (rw (← same) owned) (rw (← same) fell)

-- ---- a command

-- a processor that has a process is there
pub running_there : (s : State) (c : ℕ) → is_some (cpu_at s.processors c).process ≡ true → c < length s.processors
running_there s c running = grind (arith, get_or_past)

module _ {s t : State} {c : ℕ} {answer : Turn} (turned : HasTurned s t c answer) (on : s.stopped ≡ false)
    (none : s.owner ≡ None) (running : is_some (cpu_at s.processors c).process ≡ true) where
  abbrev given : State
  given = with_spare s turned.spare

  there : c < length s.processors
  there = running_there s c running

  going : IsGoing given
  going = roomy_goes turned on

  -- nobody owns the supervisor after the turn
  pub turn_free : t.owner ≡ None → CommandDone (outline_of s) (outline_of t) c
  unfolding outline_of
  turn_free free = rounds.command_free given t c going turned.now there none running turned.stepped free

  -- the job that it took the supervisor for is done
  pub turn_job : (u : State) (d : ℕ) → IsOwnedBy t d → JobDone (outline_of t) (outline_of u) d
      → CommandDone (outline_of s) (outline_of u) c
  unfolding outline_of
  turn_job u d owned done = rounds.command_job s t u took.1
      (subst (λ (e : ℕ). JobDone (outline_of t) (outline_of u) e) is done)
    where
      took : IsOwnedBy t c × HasTaken (outline_of given) (outline_of t) c
      took = rounds.command_took given t c going turned.now there none running turned.stepped owned.mine

      is : d ≡ c
      is = sym owned.cpu
          ∙ (ap (λ (o : Owner). o.cpu) (some_same owned.owner took.0.owner (sym owned.mine ∙ took.0.mine)) ∙ took.0.cpu)

-- ---- the loop over a command

-- what is left of all commands, and one where the command is past
abbrev pub IsOnWay : State → State → ℕ → ℕ → Type 0
IsOnWay old s c since = all_rank (outline_of s) + cond (is_at (runner_at (outline_of s).runners c) since) 0 1
    ≤ all_rank (outline_of old)

pub way_begins : (s : State) (c since : ℕ) → KeepsAll s → is_some (cpu_at s.processors c).process ≡ true
    → since ≡ (processor_at s.processors c).count → IsOnWay s s c since
way_begins s c since keeps running is = rounds.way_start s c since (rounds.at_seen c since keeps
    ∙ ((λ i. running i && eqb (processor_at s.processors c).count (is i)) ∙ eqb_self
    (processor_at s.processors c).count))

pub way_goes : (old s t : State) (c since : ℕ) → KeepsAll s → is_still_at since (processor_at s.processors c) ≡ true
    → IsOnWay old s c since → CommandDone (outline_of s) (outline_of t) c → IsOnWay old t c since
way_goes old s t c since keeps is way done = way_next (outline_of s) (outline_of t) c since
    (all_rank (outline_of old)) (rounds.at_seen c since keeps ∙ is) way done

pub gauge_falls : (s t : State) (c since : ℕ) → KeepsAll s → is_still_at since (processor_at s.processors c) ≡ true
    → CommandDone (outline_of s) (outline_of t) c
    → command_gauge (outline_of t) c since < command_gauge (outline_of s) c since
gauge_falls s t c since keeps is done =
    way_falls (outline_of s) (outline_of t) c since (rounds.at_seen c since keeps ∙ is) done

pub way_ends : (old t : State) (c since : ℕ) → KeepsAll t → t.owner ≡ None → IsOnWay old t c since
    → is_still_at since (processor_at t.processors c) ≡ false → RoundDone (outline_of old) (outline_of t)
unfolding outline_of
way_ends old t c since keeps none way gone = round_done (outline_of old) (outline_of t) c since
    (cc) way (rounds.at_seen c since keeps ∙ gone)

-- ---- a round

-- the first processor that has a process has one
pub first_runs : (s : State) (c : ℕ) → position has_process s.processors ≡ Some c
    → is_some (cpu_at s.processors c).process ≡ true
first_runs s c h = (position_at has_process s.processors no_processor c h).1

-- no processor has a process, and something is left to do: processor 0 has made its step
pub idle_done : (s t : State) (answer : Turn) (turned : HasTurned s t 0 answer) → s.stopped ≡ false → s.owner ≡ None
    → position has_process s.processors ≡ None → is_over s ≡ false → RoundDone (outline_of s) (outline_of t)
unfolding outline_of
idle_done s t answer turned on none idle more = rounds.idle_round (roomy_goes turned on) turned.now none
    (λ d. position_none has_process s.processors no_processor d idle refl) more turned.stepped
