-- Each step of the owner of the supervisor is a step of the outline, where it finds what its actions ask; and so each
-- step of the machine is.
use Rattle.machine_model.proofs.Laws.{◌≡◌, ◌≢◌, ◌≤◌, ℕ, zero, suc, Bool, true, false, not, cond, eqb, List, [], ◌∷◌, length, position, count_by, Option, Some, None, is_some, get_or, refl, sym, ap, subst, ◌∙◌, inl, inr, arith, ◌-◌, position_or_len, cases_lt, Decides-ltb, eqb_tells, get_or_past, position-Some, fails_before_first, Command, What, first_off_chain, hand_past, place_of, table_of, next_out, Transfer, Mover, Aim, Phase, State, Owner, or_zero, no_processor, is_due, next_command, processor_at, cpu_at, process_at, frames_of_owner, frames_from, trailers_in, action_of, is_over, Outcome, after, turn_of, with_faults, with_store, deactivation_begun, segment_taken, write_failed, committed, committed_at, Moved, Runner, no_runner, Stage, Look, Copying, dues, Works, rule_of, IsIn, JobStep, Step, works, AreOf, CanEmpty, around, stage_of, outline_of, Foresees, IsLook, KeepsLink, MayAnswer, MayEmpty, What as what, Aim as aim, Phase as phase, Action, ForTransfer, clear_or, copy_or_commit, finish_of, go_on_with, look_of, once_cleared, own_or_run, run_process, transfer_or, Action as act, list_any, Processor, ForClear, has_process, is_empty, Ended, WaitsFor, IsEnded, ends, awaits_clear, awaits_transfer, bare, work_of, and_parts, not_true, Frame as frame, outline_frame_in as frame_in, by_end, count_cons, at_outline, is_owner, seen_due, outline_reads_map_at as map_at, seen_online, seen_running, clear_outlined, online_outlined, answer_outlined, commit_outlined, create_outlined, failed_outlined, running_at, activate_outlined, connect_outlined, in_job, in_look, deactivate_at_once_outlined, deactivate_outlined, eviction_outlined, give_up_outlined, in_stage, page_outlined, start_outlined, copy_failed_outlined, copy_outlined, move_outlined, begin_outlined, first_false, second_false}
use Rattle.machine_model.proofs.OutlineTake.{evict_outlined, signal_outlined, take_away_outlined, take_segment_outlined, took_like, took_owner}
use Rattle.machine_model.proofs.OutlineStep.{Goal, IsAtRest, clears_rule, comes_rule, reads_rule, run_goal, transfer_goal, works_seen}

-- ---- In the outline of the machine, what the owner waits for is there; and where the machine has ended, so has its
-- outline.

-- the owner waits for a clear
pub awaits_clear_outlined : (s : State) {o : Owner} (a : Aim) (w : What) (d : ℕ) → rule_of (outline_of s) o.cpu ≡ Works
    → s.owner ≡ Some o → o.phase ≡ phase.Waiting a w → is_due (processor_at s.processors d) ≡ true
    → Step (outline_of s) o.cpu (WaitsFor (ForClear d)) (outline_of s)
awaits_clear_outlined s {o} a w d h owner waits due =
    let facts = and_parts (cpu_at s.processors d).online (is_some (cpu_at s.processors d).due) due in
    awaits_clear (work_of s.store.ast.entries o.frames a) d h (in_stage s owner waits)
    (cc (at_outline s d, seen_online (around s) (processor_at s.processors d)))
    (cc (at_outline s d, seen_due (around s) (processor_at s.processors d)))

-- a frame that a page is being read into
started_at : (s : State) (f uid page : ℕ) → get_or s.store.pages.core.frames f frame.Free ≡ frame.Started uid page
    → frame_in (outline_of s).frames f ≡ frame.Started uid page
unfolding outline_of
started_at s f uid page h = map_at bare s.store.pages.core.frames f frame.Free ∙ ap bare h

-- the owner waits for a transfer
pub awaits_transfer_outlined : (s : State) {o : Owner} (f uid page : ℕ) → rule_of (outline_of s) o.cpu ≡ Works
    → s.owner ≡ Some o → o.phase ≡ phase.Looking
    → get_or s.store.pages.core.frames f frame.Free ≡ frame.Started uid page
    → Step (outline_of s) o.cpu (WaitsFor (ForTransfer f)) (outline_of s)
awaits_transfer_outlined s {o} f uid page h owner looks started =
    awaits_transfer f uid page h (in_look s owner looks) (started_at s f uid page started)

-- ---- the end

none_has : (ps : List Processor) (d : ℕ) → list_any has_process ps ≡ false → is_some (cpu_at ps d).process ≡ false
none_has [] d h = refl
none_has (p ∷ ps) zero h = first_false (has_process p) (list_any has_process ps) h
none_has (p ∷ ps) (suc d) h = none_has ps d (second_false (has_process p) (list_any has_process ps) h)

no_length : (xs : List ℕ) → is_empty xs ≡ true → length xs ≡ 0
no_length [] h = refl
no_length (x ∷ xs) h = let no = h in absurd cc

ended_is : (s : State) → is_over s ≡ true → IsEnded (outline_of s)
unfolding outline_of
ended_is s over = let facts = and_parts (is_empty s.ready) (not (list_any has_process s.processors)) over in
    record {
      ready = no_length s.ready facts.0;
      running = λ d. (
          cc (
            at_outline s d,
            seen_running (around s) (processor_at s.processors d),
            none_has s.processors d (not_true (list_any has_process s.processors) facts.1),
          )
          );
    }

pub end_outlined : (s : State) (c : ℕ) → is_over s ≡ true → Step (outline_of s) c Ended (outline_of s)
end_outlined s c over = ends (ended_is s over)

-- ---- a segment is taken

cons_nil : {A : Type 0} (x : A) (xs : List A) → (x ∷ xs) ≢ []
cons_nil {A} x xs h = let no = ap (λ (ys : List A). length ys) h in omega arith

empty_of : (s : State) {o : Owner} (uid : ℕ) (fs : List ℕ) (pairs : List (ℕ × ℕ)) → s.owner ≡ Some o
    → o.phase ≡ phase.Looking → frames_of_owner s.owner ≡ []
    → CanEmpty (outline_of s) o.cpu (place_of s.store.ast.entries uid)
    → AreOf (outline_of s) (place_of s.store.ast.entries uid) fs → length fs ≤ 256
    → KeepsLink s (segment_taken s o.cpu uid fs pairs) o.cpu
    → JobStep (outline_of s) o.cpu (outline_of (segment_taken s o.cpu uid fs pairs))
empty_of s {o} uid [] [] owner looks none can of_it few link = deactivate_at_once_outlined s uid owner looks can
empty_of s {o} uid [] (pair ∷ pairs) owner looks none can of_it few link =
    take_segment_outlined uid (took_like s o.cpu (aim.Deactivating uid) (what.Seg uid) [] (pair ∷ pairs))
    (took_owner s o.cpu (aim.Deactivating uid) (what.Seg uid) [] (pair ∷ pairs) none
    (inr (λ h. cons_nil pair pairs h))) can of_it few link
empty_of s {o} uid (f ∷ fs) [] owner looks none can of_it few link =
    take_segment_outlined uid (took_like s o.cpu (aim.Deactivating uid) (what.Seg uid) (f ∷ fs) [])
    (took_owner s o.cpu (aim.Deactivating uid) (what.Seg uid) (f ∷ fs) [] none (inl (λ h. cons_nil f fs h))) can of_it
    few link
empty_of s {o} uid (f ∷ fs) (pair ∷ pairs) owner looks none can of_it few link =
    take_segment_outlined uid (took_like s o.cpu (aim.Deactivating uid) (what.Seg uid) (f ∷ fs) (pair ∷ pairs))
    (took_owner s o.cpu (aim.Deactivating uid) (what.Seg uid) (f ∷ fs) (pair ∷ pairs) none
    (inl (λ h. cons_nil f fs h))) can
    of_it few link

-- the same after the hand of a pool has moved
victim_of_pool : (s : State) (o : Owner) (pool uid : ℕ) (place : Option ℕ) → s.owner ≡ Some o → o.phase ≡ phase.Looking
    → frames_of_owner s.owner ≡ []
    → MayEmpty s (deactivation_begun (with_store s (record s.store { ast = hand_past s.store.ast pool place })) o.cpu
    uid) o.cpu uid → JobStep (outline_of s) o.cpu
    (outline_of (deactivation_begun (with_store s (record s.store { ast = hand_past s.store.ast pool place })) o.cpu
    uid))
unfolding outline_of
victim_of_pool s o pool uid None owner looks none may =
    empty_of s uid (frames_from s.store.ast uid 0) (trailers_in s.store uid) owner looks none may.can may.of_it
    may.few may.link
victim_of_pool s o pool uid (Some place) owner looks none may =
    empty_of (with_store s (record s.store { ast = hand_past s.store.ast pool (Some place) })) uid
    (frames_from s.store.ast uid 0)
    (trailers_in (record s.store { ast = hand_past s.store.ast pool (Some place) }) uid) owner looks none may.can
    may.of_it may.few may.link

-- ---- a command takes effect

commit_is : {s : State} {c : ℕ} (may : MayAnswer s c)
    → committed s c may.process may.command ≡ committed_at s c (next_command s (process_at s c))
commit_is {s} {c} may = sym (ap (λ (j : ℕ). committed_at s c (next_command s j)) (ap or_zero may.can.process)
    ∙ ap (λ (x : Option Command). committed_at s c x) may.can.on.next
    ∙ ap (λ (j : ℕ). committed s c j may.command) (ap or_zero may.can.process))

commit_goal : {s : State} {c : ℕ} (o : Outcome) (stage : Stage) → rule_of (outline_of s) c ≡ Works
    → IsIn (outline_of s) c stage → dues (outline_of s).runners ≡ 0 → MayAnswer s c → Goal s c o act.Commit
unfolding after
commit_goal {s} {c} o stage h owner due may = rw (commit_is may) at
    (works _ h (commit_outlined stage owner due may.can))

-- ---- a look

module _ {s : State} {o : Owner} (out : Outcome) (f : Foresees s o.cpu) (rule : rule_of (outline_of s) o.cpu ≡ Works)
    (owner : s.owner ≡ Some o) (looks : o.phase ≡ phase.Looking) where
  due_none : dues (outline_of s).runners ≡ 0
  due_none = f.kept.job.fits o.cpu Look (in_look s owner looks)

  taken_none : frames_of_owner s.owner ≡ []
  taken_none = cc (f.looking o owner looks)

  look_goal : (a : Action) → IsLook s o.cpu a → Goal s o.cpu out a
  unfolding after
  look_goal (act.Waits (ForTransfer g)) may = awaits_transfer_outlined s g may.uid may.page rule owner looks may.started
  look_goal (act.Answer r) may = works _ rule (answer_outlined Look r (in_look s owner looks) due_none may.can)
  look_goal act.GiveUp may =
      works _ rule (give_up_outlined s may.0.chain may.0.uid may.0.page may.0.makes owner looks may.0.want may.1)
  look_goal (act.Activate uid place) may = works _ rule (activate_outlined s owner looks may)
  look_goal (act.Connect n uid) may = works _ rule (rw may.number at (connect_outlined s uid
      may.wants.chain may.wants.uid may.wants.page may.wants.makes owner looks may.within may.placed may.next
      (rw may.number may.there) may.wants.want may.off))
  look_goal (act.Create g uid p r) may = works _ rule (create_outlined Look g uid p r (in_look s owner looks) due_none
      may.can)
  look_goal (act.Start g uid p) may = works _ rule (start_outlined s may)
  look_goal (act.Evict g) may = works _ rule (evict_outlined s owner (f.looking o owner looks) may)
  look_goal (act.Empty uid) may =
      works _ rule (empty_of s uid (frames_from s.store.ast uid 0) (trailers_in s.store uid) owner looks taken_none
      may.can may.of_it may.few may.link)
  look_goal (act.EmptyVictim pool chain uid) may =
      works _ rule (victim_of_pool s o pool uid (first_off_chain s.store.ast pool chain) owner looks taken_none may)
  look_goal (act.TakeAway fs pairs w) may = works _ rule (take_away_outlined
      (took_like s o.cpu aim.Committing w fs pairs) (took_owner s o.cpu aim.Committing w fs pairs taken_none may.0)
      (in_look s owner looks) may.1)
  look_goal (act.BeginMove u volume) may = works _ rule (begin_outlined s u volume owner looks)
  look_goal act.Commit may = commit_goal out Look rule (in_look s owner looks) due_none may
  look_goal _ may = absurd may

-- ---- nothing is due any more

none_some : (n : ℕ) (o : Option ℕ) → o ≡ None → o ≢ Some n
none_some n o none some = let no : true ≡ false = sym (cc) ∙ ap (λ (x : Option ℕ). is_some x) none in cc

-- where no element of a list passes, the first that does is none of them
none_at : {A : Type 0} (p : A → Bool) (xs : List A) → position p xs ≡ None → (i : ℕ) (d : A) → p d ≡ false
    → p (get_or xs i d) ≡ false
none_at p xs none i d past = elim (cases_lt (position_or_len p xs) (length xs)) [
  | inl lt ↦ absurd (none_some (position_or_len p xs) (position p xs) none
      (rw ((Decides-ltb (position_or_len p xs) (length xs)).1 lt)))
  | inr le ↦ elim (cases_lt i (length xs)) [
    | inl lt ↦ fails_before_first p xs i d (omega arith)
    | inr out ↦ ap p (get_or_past xs i d out) ∙ past
  ]
]

pub count_zero : {A : Type 0} (p : A → Bool) (xs : List A) (d : A) → ((i : ℕ) → p (get_or xs i d) ≡ false)
    → count_by p xs ≡ 0
count_zero p [] d none = refl
count_zero p (x ∷ xs) d none = let rest = count_zero p xs d (λ i. none (suc i)) in
    omega (arith, count_cons p x xs, ap (λ (b : Bool). cond {A = ℕ} b 1 0) (none zero))

due_at : {s : State} {c : ℕ} (d : ℕ) → Foresees s c → position is_due s.processors ≡ None
    → is_some (cpu_at s.processors d).due ≡ false
due_at {s} d f none = by (cpu_at s.processors d).online refl
  where
    by : (b : Bool) → (cpu_at s.processors d).online ≡ b → is_some (cpu_at s.processors d).due ≡ false
    by false off = cc (f.quiet d off)
    by true on = cc (on, (none_at is_due s.processors none d no_processor refl))

dues_over : {s : State} {c : ℕ} → Foresees s c → position is_due s.processors ≡ None → dues (outline_of s).runners ≡ 0
unfolding dues
dues_over {s} {c} f none = count_zero (λ (x : Runner). x.due) (outline_of s).runners no_runner (λ d.
    cc (at_outline s d, seen_due (around s) (processor_at s.processors d), due_at d f none))

-- ---- the phases

module _ {s : State} {o : Owner} (out : Outcome) (f : Foresees s o.cpu) (rule : rule_of (outline_of s) o.cpu ≡ Works)
    (owner : s.owner ≡ Some o) (has : is_some (cpu_at s.processors o.cpu).process ≡ true) where
  may_answer : MayAnswer s o.cpu
  may_answer = f.answers has

  failed_goal : (stage : Stage) → IsIn (outline_of s) o.cpu stage → dues (outline_of s).runners ≡ 0
      → JobStep (outline_of s) o.cpu (outline_of (write_failed s o.cpu out.faults))
  failed_goal stage inside due = failed_outlined out.faults stage inside due may_answer.can

  finish_eviction : (w : What) (fs : List ℕ) (g : ℕ) → o.phase ≡ phase.Waiting aim.Evicting w → o.frames ≡ g ∷ fs
      → dues (outline_of s).runners ≡ 0 → Goal s o.cpu out (act.FinishEviction g)
  unfolding after outline_of
  finish_eviction w fs g waits frames due = by_end (λ x. Step (outline_of s) o.cpu Moved (outline_of x)) out _ _
      (λ e. works _ rule (eviction_outlined (with_faults s out.faults) w fs owner waits frames due
      (f.leaves o g fs owner frames)))
      (λ e. works _ rule (failed_goal (stage_of s.store.ast.entries o.frames (phase.Waiting aim.Evicting w))
      (in_stage s owner waits) due))

  finish_page : (uid : ℕ) (w : What) (fs : List ℕ) (g : ℕ) → o.phase ≡ phase.Waiting (aim.Deactivating uid) w
      → o.frames ≡ g ∷ fs → dues (outline_of s).runners ≡ 0 → Goal s o.cpu out (act.FinishPage g)
  unfolding after outline_of
  finish_page uid w fs g waits frames due = by_end (λ x. Step (outline_of s) o.cpu Moved (outline_of x)) out _ _
      (λ e. works _ rule (page_outlined (with_faults s out.faults) uid w fs owner waits frames due
      (f.leaves o g fs owner frames)))
      (λ e. works _ rule (failed_goal (stage_of s.store.ast.entries o.frames (phase.Waiting (aim.Deactivating uid) w))
      (in_stage s owner waits) due))

  finish_goal : (a : Aim) (w : What) (fs : List ℕ) → o.phase ≡ phase.Waiting a w → o.frames ≡ fs
      → dues (outline_of s).runners ≡ 0 → Goal s o.cpu out (finish_of a fs)
  unfolding after
  finish_goal aim.Evicting w [] waits frames due = absurd (f.evicts o w owner waits frames)
  finish_goal aim.Evicting w (g ∷ fs) waits frames due = finish_eviction w fs g waits frames due
  finish_goal (aim.Deactivating uid) w [] waits frames due =
      works _ rule (deactivate_outlined s uid w owner waits frames due)
  finish_goal (aim.Deactivating uid) w (g ∷ fs) waits frames due = finish_page uid w fs g waits frames due
  finish_goal aim.Committing w fs waits frames due =
      commit_goal out (stage_of s.store.ast.entries o.frames (phase.Waiting aim.Committing w)) rule
      (in_stage s owner waits) due may_answer

  cleared_goal : (a : Aim) (w : What) → o.phase ≡ phase.Waiting a w → (x : Option ℕ) → position is_due s.processors ≡ x
      → Goal s o.cpu out (once_cleared x (finish_of a o.frames))
  unfolding after
  cleared_goal a w waits (Some d) is =
      awaits_clear_outlined s a w d rule owner waits (position-Some is_due s.processors d no_processor is).1
  cleared_goal a w waits None is = finish_goal a w o.frames waits refl (dues_over f is)

  move_goal : (m : Mover) → o.phase ≡ phase.Moving m → (x : Option ℕ)
      → next_out (table_of s.store.ast m.uid) m.next ≡ x → Goal s o.cpu out (copy_or_commit m x)
  unfolding after
  move_goal m moves (Some p) next = by_end (λ x. Step (outline_of s) o.cpu Moved (outline_of x)) out _ _
      (λ e. works _ rule (copy_outlined s m out.faults owner moves next)) (λ e. works _ rule
      (copy_failed_outlined m out.faults owner moves
      ((f.kept.job.fits o.cpu (Copying (256 - m.next)) (in_stage s owner moves)).0) may_answer.can))
  move_goal m moves None next = works _ rule (move_outlined s m owner moves (f.moves o m owner moves refl))

  phase_goal : (ph : Phase) → o.phase ≡ ph → Goal s o.cpu out (go_on_with s (process_at s o.cpu) o ph)
  unfolding after
  phase_goal phase.Looking looks =
      look_goal out f rule owner looks (look_of s (process_at s o.cpu) (next_command s (process_at s o.cpu)))
      (f.looks o owner looks refl)
  phase_goal (phase.Taken a w) taken = works _ rule (signal_outlined s a w w owner taken)
  phase_goal (phase.Waiting a w) waits = cleared_goal a w waits (position is_due s.processors) refl
  phase_goal (phase.Moving m) moves = move_goal m moves (next_out (table_of s.store.ast m.uid) m.next) refl

-- ---- the rules

owner_goal : {s : State} {c : ℕ} (out : Outcome) → Foresees s c → IsAtRest s c → (x : Option Owner) → s.owner ≡ x
    → Goal s c out (own_or_run s c (processor_at s.processors c) x)
owner_goal {s} {c} out f rest None none = run_goal out f rest (cc) (cpu_at s.processors c).process refl
owner_goal {s} {c} out f rest (Some w) owner = by (eqb w.cpu c) refl
  where
    own : is_owner s.owner c ≡ eqb w.cpu c
    own = cc

    mine : w.cpu ≡ c → eqb w.cpu c ≡ true → Goal s c out (go_on_with s (process_at s c) w w.phase)
    mine same is = let work = f.kept.job.at_work c _ (rw same at (in_job s w owner)) in
        let has = sym (running_at s c) ∙ work.running in
        at_same same f (works_seen rest (own ∙ is)) has
      where
        at_same : w.cpu ≡ c → Foresees s c → rule_of (outline_of s) c ≡ Works
            → is_some (cpu_at s.processors c).process ≡ true → Goal s c out (go_on_with s (process_at s c) w w.phase)
        at_same same = rw (← same) (λ g h i. phase_goal out g h owner i w.phase refl)

    by : (b : Bool) → eqb w.cpu c ≡ b → Goal s c out (cond b (go_on_with s (process_at s c) w w.phase)
        (run_process s (processor_at s.processors c) (cpu_at s.processors c).process))
    by true is = elim (eqb_tells w.cpu c) [ inl e ↦ mine e.1 is | inr n ↦ (let no = sym is ∙ n.0 in absurd cc) ]
    by false is = run_goal out f rest (own ∙ is) (cpu_at s.processors c).process refl

transfer_or_goal : {s : State} {c : ℕ} (out : Outcome) → Foresees s c → (cpu_at s.processors c).online ≡ true
    → (cpu_at s.processors c).due ≡ None → (x : Option Transfer) → (cpu_at s.processors c).transfer ≡ x
    → Goal s c out (transfer_or s c (processor_at s.processors c) x)
transfer_or_goal {s} {c} out f on due (Some t) is = transfer_goal out f (reads_rule s c t on due is) is
transfer_or_goal {s} {c} out f on due None is = owner_goal out f (assumption) s.owner refl

clear_or_goal : {s : State} {c : ℕ} (out : Outcome) → Foresees s c → (cpu_at s.processors c).online ≡ true
    → (x : Option What) → (cpu_at s.processors c).due ≡ x → Goal s c out (clear_or s c (processor_at s.processors c) x)
unfolding after
clear_or_goal {s} {c} out f on (Some w) is = clear_outlined s c w (clears_rule s c w on is)
clear_or_goal {s} {c} out f on None is = transfer_or_goal out f on is (cpu_at s.processors c).transfer refl

online_goal : {s : State} {c : ℕ} (out : Outcome) → Foresees s c → (b : Bool) → (cpu_at s.processors c).online ≡ b
    → Goal s c out (cond (not b) act.Online (clear_or s c (processor_at s.processors c) (cpu_at s.processors c).due))
unfolding after
online_goal {s} {c} out f true is = clear_or_goal out f is (cpu_at s.processors c).due refl
online_goal {s} {c} out f false is = online_outlined s c (comes_rule s c is)

over_goal : (s : State) (c : ℕ) (out : Outcome) → Foresees s c → (b : Bool) → is_over s ≡ b
    → Goal s c out (cond b act.HasEnded (cond (not (cpu_at s.processors c).online) act.Online
    (clear_or s c (processor_at s.processors c) (cpu_at s.processors c).due)))
unfolding after
over_goal s c out f true is = end_outlined s c is
over_goal s c out f false is = online_goal out f (cpu_at s.processors c).online refl

-- Each step of a machine that wasn't stopped is a step of its outline, where the machine finds what its actions ask.
pub step_outlined : {s : State} {c : ℕ} (out : Outcome) → s.stopped ≡ false → Foresees s c
    → Step (outline_of s) c (turn_of (action_of s c)) (outline_of (after s c (action_of s c) out))
unfolding action_of
step_outlined {s} {c} out going f = subst
    (λ (b : Bool). Goal s c out (cond b act.IsStopped (cond (is_over s) act.HasEnded
    (cond (not (cpu_at s.processors c).online) act.Online
    (clear_or s c (processor_at s.processors c) (cpu_at s.processors c).due))))) (sym going)
    (over_goal s c out f (is_over s) refl)
