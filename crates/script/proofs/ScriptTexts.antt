-- The text of a script is read back as the script (own).
use Rattle.script.proofs.Prelude.{common_steps, ◌≡◌, ℕ, ◌+◌, ◌<◌, ◌≤◌, Bool, true, false, nat_le, nat_lt, List, [], ◌∷◌, ◌++◌, length, sum_by, Ok, codes, refl, sym, ap, ◌∙◌, arith, append_assoc, nat_tests, length-append, sum_by-cons, list_all, Who, DraftPlan, has_volume, initializer_who, is_inside, lines_of, BeginsWithInitializer, ends_once, IsPlan, is_command, is_end, is_process, is_who, weight, weight_of, finished, is_whole, script_of, command_line, later_at, line_at, next_field, no_fields, one_field, Plan, ProcessPlan, Fail, begin_text, commands_text, ended, process_text, processes_text, script_text, command_text, Command, Stage, and_false, stage}
use Rattle.script.proofs.CommandTexts.{command_again, word_is_no_comment}
use Rattle.script.proofs.FieldTexts.{front_field, last_field}
use Rattle.script.proofs.HeadTexts.{after_head, are_volumes, head_reaches, stage_after_fails, takes_after_fails, takes_fail}
use Rattle.script.proofs.PrincipalLaws.{who_field, who_in_again}
use Rattle.script.proofs.Reaching.{Reaches, read_from, reaches_both, reaches_line, reaches_nothing}
use Rattle.script.proofs.VolumeTexts.{AreVolumes}
use Rattle.script.proofs.SmallLaws.{nil_after, outside}

-- ---- the commands of a process

-- inside a process, after these commands, with which so many came in all
abbrev inside : DraftPlan → List Command → ℕ → DraftPlan
inside base done u = record base { stage = stage.Commands; list = record { commands = done; used = u } }

-- after a process of these commands
abbrev behind : DraftPlan → List Command → ℕ → DraftPlan
behind base done u = record base {
  stage = stage.Processes;
  plan = record base.plan { processes = base.plan.processes ++ record { who = base.who; commands = done } ∷ [] };
  list = record { commands = []; used = u };
}

module _ (base : DraftPlan) (a : AreVolumes base.plan.volumes) where
  goes_on : (done : List Command) (u : ℕ) (c : Command) → is_command (length base.plan.volumes) c ≡ true
      → is_end c ≡ false → u + weight c ≤ 100000
      → Reaches (inside base done u) (ended (command_text base.plan.volumes c))
      (inside base (done ++ c ∷ []) (u + weight c))
  unfolding line_at later_at command_line
  goes_on done u c h going le =
      let few : nat_le (u + weight c) 100000 ≡ true = grind (arith, nat_tests) in
      let read = command_again base.plan.volumes c a h in
      reaches_line read.fields (word_is_no_comment c) (rw (read.again, few, going) refl)

  ends : (done : List Command) (u : ℕ) (c : Command) → is_command (length base.plan.volumes) c ≡ true
      → is_end c ≡ true → u + weight c ≤ 100000
      → Reaches (inside base done u) (ended (command_text base.plan.volumes c))
      (behind base (done ++ c ∷ []) (u + weight c))
  unfolding line_at later_at command_line
  ends done u c h end le =
      let few : nat_le (u + weight c) 100000 ≡ true = grind (arith, nat_tests) in
      let read = command_again base.plan.volumes c a h in
      reaches_line read.fields (word_is_no_comment c) (rw (read.again, few, end) refl)

  commands_reach : (done : List Command) (u all : ℕ) (cs : List Command)
      → list_all (is_command (length base.plan.volumes)) cs ≡ true → ends_once cs ≡ true → u + sum_by weight cs ≡ all
      → all ≤ 100000 → Reaches (inside base done u) (commands_text base.plan.volumes cs) (behind base (done ++ cs) all)
  unfolding commands_text ends_once
  commands_reach done u all [] h end e le = absurd (cc)
  commands_reach done u all (c ∷ []) h end e le =
      let one : u + weight c ≡ all = omega (arith, e, sum_by-cons weight c []) in
      rw (← one) (reaches_both (ends done u c (grind (arith, nat_tests)) end (omega arith)) reaches_nothing)
  commands_reach done u all (c ∷ d ∷ cs) h end e le =
      let rest : u + weight c + sum_by weight (d ∷ cs) ≡ all = omega (arith, e, sum_by-cons weight c (d ∷ cs)) in
      reaches_both (goes_on done u c (grind (arith, nat_tests)) (grind (arith, nat_tests)) (omega arith))
      (rw (append_assoc done (c ∷ []) (d ∷ cs)) at (commands_reach (done ++ c ∷ []) (u + weight c) all (d ∷ cs)
      (grind (arith, nat_tests)) (grind (arith, nat_tests)) rest le))

-- ---- the first line of a process

-- between processes, at a stage
abbrev between : DraftPlan → Stage → List ProcessPlan → Who → ℕ → DraftPlan
between base s done who u = record base {
  stage = s;
  plan = record base.plan { processes = done };
  who = who;
  list = record { commands = []; used = u };
}

-- the process at the begin is the initializer
abbrev initial : DraftPlan → DraftPlan
initial base = record base { plan = record base.plan { initializer = true } }

-- ---- processes

process_reaches : (base : DraftPlan) (s : Stage) (done : List ProcessPlan) (before : Who) (u : ℕ) (x : ProcessPlan)
    → is_whole s ≡ true → AreVolumes base.plan.volumes → is_process (length base.plan.volumes) x ≡ true
    → length done < 32
    → u + weight_of x ≤ 100000 → Reaches (between base s done before u) (process_text base.plan.volumes false x)
    (between base stage.Processes (done ++ x ∷ []) x.who (u + weight_of x))
unfolding process_text weight_of begin_text line_at later_at is_process one_field next_field no_fields
process_reaches base s done before u x may a h room le =
    let who : is_who x.who ≡ true = grind (arith, nat_tests) in
    let few : nat_lt (length done) 32 ≡ true = grind (arith, nat_tests) in
    let after : has_volume s ≡ true = grind (arith, nat_tests) in
    let outer : is_inside s ≡ false = grind (arith, nat_tests) in
    reaches_both (reaches_line {word = codes "process"}
    (front_field (record { some = omega arith; bytes = refl }) (last_field (who_field x.who who))) refl
    (simp (and_false, outer, after, who_in_again x.who who, few)))
    (commands_reach (record base { plan = record base.plan { processes = done }; who = x.who }) a [] u
    (u + weight_of x) x.commands (grind (arith, nat_tests)) (grind (arith, nat_tests)) refl le)

first_reaches : (base : DraftPlan) (s : Stage) (before : Who) (u : ℕ) (x : ProcessPlan) → takes_fail s ≡ true
    → AreVolumes base.plan.volumes → is_process (length base.plan.volumes) x ≡ true → x.who ≡ initializer_who
    → u + weight_of x ≤ 100000 → Reaches (between base s [] before u) (process_text base.plan.volumes true x)
    (between (initial base) stage.Processes (x ∷ []) initializer_who (u + weight_of x))
unfolding process_text weight_of begin_text line_at later_at is_process no_fields
first_reaches base s before u x may a h who le = reaches_both
    {e = between (initial base) stage.Commands [] initializer_who u}
    (reaches_line {word = codes "initializer"} (last_field (record { some = omega arith; bytes = refl })) refl
    (simp (and_false, outside s 3 5 (omega arith) may, may))) (rw who (commands_reach
    (record base { plan = record base.plan { initializer = true; processes = [] }; who = initializer_who }) a [] u
    (u + weight_of x) x.commands (grind (arith, nat_tests)) (grind (arith, nat_tests)) refl le))

-- ---- the end

whole_after_fails : (fs : List Fail) → is_whole (stage_after_fails stage.Bulks fs) ≡ true
whole_after_fails [] = refl
whole_after_fails (f ∷ fs) = refl

end_read : (n : ℕ) (d : DraftPlan) → is_whole d.stage ≡ true → read_from n d [] ≡ Ok d.plan
unfolding lines_of finished
end_read n d h = rw h refl

processes_read : (base : DraftPlan) (s : Stage) (done : List ProcessPlan) (before : Who) (u : ℕ)
    (xs : List ProcessPlan) (n : ℕ) → is_whole s ≡ true → AreVolumes base.plan.volumes
    → list_all (is_process (length base.plan.volumes)) xs ≡ true → length done + length xs ≤ 32
    → u + sum_by weight_of xs ≤ 100000 → read_from n (between base s done before u)
    (processes_text base.plan.volumes false xs) ≡ Ok (record base.plan { processes = done ++ xs })
unfolding processes_text
processes_read base s done before u [] n may a h room le = grind (arith, nat_tests, common_steps, end_read, nil_after)
processes_read base s done before u (x ∷ xs) n may a h room le =
    let step = (process_reaches base s done before u x may a (grind (arith, nat_tests)) (omega (arith, room))
    (omega (arith, le, sum_by-cons weight_of x xs))).reads n (processes_text base.plan.volumes false xs) in
    step.1
    ∙ processes_read base stage.Processes (done ++ x ∷ []) x.who (u + weight_of x) xs step.0 refl a
    (grind (arith, nat_tests))
    (omega (arith, room, length-append done (x ∷ []))) (omega (arith, le, sum_by-cons weight_of x xs))
    ∙ ap (λ (t : List ProcessPlan). Ok (record base.plan { processes = t })) (append_assoc done (x ∷ []) xs)

first_read : (base : DraftPlan) (s : Stage) (before : Who) (xs : List ProcessPlan) (n : ℕ) → takes_fail s ≡ true
    → AreVolumes base.plan.volumes → list_all (is_process (length base.plan.volumes)) xs ≡ true
    → BeginsWithInitializer xs
    → length xs ≤ 32 → sum_by weight_of xs ≤ 100000 → read_from n (between base s [] before 0)
    (processes_text base.plan.volumes true xs) ≡ Ok (record base.plan { initializer = true; processes = xs })
unfolding processes_text
first_read base s before [] n may a h first room le = absurd first
first_read base s before (x ∷ xs) n may a h first room le =
    let step = (first_reaches base s before 0 x may a (grind (arith, nat_tests)) first
    (omega (arith, le, sum_by-cons weight_of x xs))).reads n
    (processes_text base.plan.volumes false xs) in
    step.1
    ∙ processes_read (initial base) stage.Processes (x ∷ []) initializer_who (0 + weight_of x) xs
    step.0 refl a (grind (arith, nat_tests)) (omega (arith, room)) (omega (arith, le, sum_by-cons weight_of x xs))

after_head_read : (p : Plan) (first : Bool) (n : ℕ) → IsPlan p → p.initializer ≡ first
    → read_from n (after_head p) (processes_text p.volumes first p.processes) ≡ Ok p
after_head_read p true n h e =
    first_read (after_head p) (stage_after_fails stage.Bulks p.fails) initializer_who p.processes n
    (takes_after_fails p.fails) (are_volumes p h) h.each (h.first e) h.processes h.commands
    ∙ ap (λ (b : Bool). Ok (record p { initializer = b })) (sym e)
after_head_read p false n h e =
    processes_read (after_head p) (stage_after_fails stage.Bulks p.fails) [] initializer_who 0 p.processes n
    (whole_after_fails p.fails) (are_volumes p h) h.each
    (omega (arith, h.processes)) (omega (arith, h.commands))
    ∙ ap (λ (b : Bool). Ok (record p { initializer = b })) (sym e)

-- each script that keeps its rules is read back from its text
pub read_again : (p : Plan) → IsPlan p → script_of (script_text p) ≡ Ok p
unfolding script_of script_text
read_again p h =
    let step = (head_reaches p h).reads 1 (processes_text p.volumes p.initializer p.processes) in
    step.1 ∙ after_head_read p p.initializer step.0 h refl

pub text_read_again : (text : List ℕ) (p : Plan) → IsPlan p → text ≡ script_text p → script_of text ≡ Ok p
text_read_again text p h e = ap script_of e ∙ read_again p h
