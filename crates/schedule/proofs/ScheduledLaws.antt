-- Laws of a script with a schedule below it (own).
pub use Rattle.schedule.proofs.Prelude.{Bool, Err, FailsLines, FailsScheduled, Line, List, Ok, Plan, Reads, ReadsScheduled, Refusal, Refused, Result, ScheduleFault, ScriptFault, ap, blank, finished, first_number, fold, has_schedule, lines_of, numbered, of_script, orders_in, schedule_lines, scheduled_of, script_lines, script_of, script_of_lines, subst, sym, with_orders, with_plan, ℕ, ◌∙◌, ◌≡◌}
use Rattle.script.specs.declared.reader.ScriptFault.TheVariants as script_fault
use Rattle.schedule.specs.declared.reader.ScheduleFault.TheVariants as fault

same_script : (part : List ℕ) (lines : List (List ℕ)) → lines_of part ≡ script_lines lines
    → script_of part ≡ script_of_lines (script_lines lines)
unfolding script_of script_of_lines
same_script part lines e = ap (λ (ls : List (List ℕ)). finished (fold numbered (Ok (1, blank)) ls)) e

by_script : (part : List ℕ) (lines : List (List ℕ)) (read : Result Plan Refusal) → lines_of part ≡ script_lines lines
    → script_of part ≡ read → scheduled_of lines ≡ with_orders lines read
unfolding scheduled_of
by_script part lines read e is = ap (with_orders lines) (sym (same_script part lines e) ∙ is)

-- the script is refused, or there was no memory for it
pub script_fails : (part : List ℕ) (lines : List (List ℕ)) (f : ScriptFault) → lines_of part ≡ script_lines lines
    → Reads (Err f) (script_of part) → FailsScheduled (of_script f) (scheduled_of lines)
script_fails part lines (script_fault.Refused r) e is = by_script part lines (Err r) e is
script_fails part lines script_fault.Memory e is = tt

-- the script was read
pub script_read : (part : List ℕ) (lines rest : List (List ℕ)) (p : Plan) (first : ℕ) (found : Bool) → lines_of part
    ≡ script_lines lines → rest ≡ schedule_lines lines → first ≡ first_number lines → found ≡ has_schedule lines
    → script_of part ≡ Ok p → scheduled_of lines ≡ with_plan p (orders_in p.processors found first rest)
script_read part lines rest p first found e below at has is =
    by_script part lines (Ok p) e is ∙ ap (λ (b : Bool). with_plan p (orders_in p.processors b (first_number lines)
    (schedule_lines lines))) (sym has) ∙ ap (λ (n : ℕ). with_plan p (orders_in p.processors found n (schedule_lines
    lines))) (sym at) ∙ ap (λ (ls : List (List ℕ)). with_plan p (orders_in p.processors found first ls)) (sym below)

-- the schedule was read
pub lines_ok : (p : Plan) (read : Result (List Line) Refused) (lines : List Line) → read ≡ Ok lines
    → with_plan p read ≡ Ok (p, lines)
lines_ok p read lines is = ap (with_plan p) is

-- it is refused, or there was no memory for it
pub lines_fail : (p : Plan) (read : Result (List Line) Refused) (f : ScheduleFault) → FailsLines f read
    → FailsScheduled f (with_plan p read)
lines_fail p read (fault.Schedule r) is = ap (with_plan p) is
lines_fail p read fault.Memory is = tt
lines_fail p read (fault.Script r) is = absurd is

-- what the proof of `read_with` is given
pub ruleset plan_read = (lines_ok, lines_fail)
