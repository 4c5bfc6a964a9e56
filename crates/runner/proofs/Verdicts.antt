-- What an ending says of its cause. (own)
use Rattle.runner.proofs.Prelude.{◌≡◌, ℕ, ◌<◌, ◌≤◌, ◌⊎◌, inl, inr, List, length, Option, Some, None, Result, Ok, Err, IfSome, refl, sym, ap, subst, ◌∙◌, arith, IsSomeAnd, script_of, Plan, Refusal, listing_of, made, drill_text, IsTheVerdict, IsVerdict, CheckFault, Offence, Change, Ends, EndsSo, Failed, HasPrinted, IsJudgedSo, IsReading, IsRefused, IsStatusOf, Printed, Prints, Runs, Says, WritesAll, WritesFront, limit_of, IsShutDown, Machine, accepted_text, Finished, Status, Form}
use Rattle.book_check.specs.declared.offences.CheckFault.TheVariants as fault
use Rattle.runner.specs.declared.finished.Status.TheVariants as status
use Rattle.runner.specs.declared.words.Form.TheVariants as form

-- an ending of this status
pub ended : (asked : Option Form) (src out : Change) (f : Finished) (s : Status) → Ends asked src out f → f.status ≡ s
    → EndsSo s asked src out f.machine
ended asked src out f s h e = subst (λ (x : Status). EndsSo x asked src out f.machine) e h.so

-- words that are no form have no other ending
only_usage : (s : Status) (src out : Change) (machine : Option Machine) → EndsSo s None src out machine
    → s ≡ status.Usage
only_usage status.Usage src out machine h = refl
only_usage status.ReadFault src out machine h = absurd h.0
only_usage status.TooLong src out machine h = absurd h.0
only_usage (status.Script r) src out machine h = absurd h.0
only_usage (status.Refused o) src out machine h = absurd cc
only_usage status.Done src out machine h = absurd h
only_usage status.WriteFault src out machine h = absurd h
only_usage status.Memory src out machine h = absurd cc

pub usage_there : (asked : Option Form) (src out : Change) (f : Finished) → Ends asked src out f → asked ≡ None
    → f.status ≡ status.Usage
usage_there asked src out f h e = only_usage f.status src out f.machine
    (subst (λ (x : Option Form). EndsSo f.status x src out f.machine) e h.so)

-- of a refusal the bytes alone
fact_only : (left : Option (List ℕ)) (P Q : List ℕ → Type 0) → IfSome left (λ all. P all × Q all) → IfSome left Q
fact_only None P Q h = tt
fact_only (Some all) P Q h = h.1

-- the script was refused so, of a form that reads one
pub refused_so : (asked : Option Form) (src out : Change) (f : Finished) (r : Refusal) → Ends asked src out f
    → f.status ≡ status.Script r → IsReading asked × IfSome src.before (λ bytes. IsRefused asked bytes r)
refused_so asked src out f r h e =
    let so = ended asked src out f (status.Script r) h e in
    (so.0, fact_only src.before (λ bytes. length bytes ≤ limit_of asked) (λ bytes. IsRefused asked bytes r) so.1)

-- a line of the listing is at fault, of `check`
pub offence_so : (asked : Option Form) (src out : Change) (f : Finished) (o : Offence) → Ends asked src out f
    → f.status ≡ status.Refused o
    → (asked ≡ Some form.Check) × IfSome src.before (λ bytes. IsTheVerdict bytes (Err (fault.Refused o)))
offence_so asked src out f o h e =
    let so = ended asked src out f (status.Refused o) h e in (
      so.0,
      fact_only src.before (λ bytes. length bytes ≤ 134217728) (λ bytes. IsTheVerdict bytes (Err (fault.Refused o)))
          so.1,
    )

-- of a machine that is there
pub of_run : (src : Change) (machine : Option Machine) (P : Machine → Type 0) → ((m : Machine) → Runs src m → P m)
    → IfSome machine (Runs src) → IfSome machine P
of_run src None P get h = tt
of_run src (Some m) P get h = get m h

-- of a listing that was written, or a front of it, the machine alone, or what was written of its listing
shut : (machine : Option Machine) (P : List ℕ → Type 0) (Q : Machine → Type 0) → ((m : Machine) → IsShutDown m → Q m)
    → IsSomeAnd machine (λ m. IsShutDown m × P (listing_of m.state.plan m.state.entries)) → IsSomeAnd machine Q
shut None P Q get h = h
shut (Some m) P Q get h = get m h.0

pub shut_down : (src out : Change) (f : Finished) (asked : Option Form) (Q : Machine → Type 0)
    → ((m : Machine) → IsShutDown m → Q m) → Ends asked src out f → asked ≡ Some form.Run → HasPrinted f.status
    → IsSomeAnd f.machine Q
shut_down src out f asked Q get h run printed = each f.status printed
    (subst (λ (x : Option Form). EndsSo f.status x src out f.machine) run h.so)
  where
    each : (s : Status) → HasPrinted s → EndsSo s (Some form.Run) src out f.machine → IsSomeAnd f.machine Q
    each status.Done p so = shut f.machine (WritesAll out) Q get so
    each status.WriteFault p so = shut f.machine (WritesFront out) Q get so
    each (status.Script r) p so = absurd p
    each status.TooLong p so = absurd p
    each status.Usage p so = absurd p
    each status.ReadFault p so = absurd p
    each status.Memory p so = absurd p
    each (status.Refused o) p so = absurd p

-- of a listing that was written, or a front of it, what was written
listed : (machine : Option Machine) (P : List ℕ → Type 0)
    → IsSomeAnd machine (λ m. IsShutDown m × P (listing_of m.state.plan m.state.entries))
    → IsSomeAnd machine (λ m. P (listing_of m.state.plan m.state.entries))
listed None P h = h
listed (Some m) P h = h.1

pub listed_so : (asked : Option Form) (src out : Change) (f : Finished) → Ends asked src out f → asked ≡ Some form.Run
    → HasPrinted f.status → IsSomeAnd f.machine (λ m. Printed f.status out (listing_of m.state.plan m.state.entries))
listed_so asked src out f h run printed = each f.status printed
    (subst (λ (x : Option Form). EndsSo f.status x src out f.machine) run h.so)
  where
    each : (s : Status) → HasPrinted s → EndsSo s (Some form.Run) src out f.machine
        → IsSomeAnd f.machine (λ m. Printed s out (listing_of m.state.plan m.state.entries))
    each status.Done p so = listed f.machine (WritesAll out) so
    each status.WriteFault p so = listed f.machine (WritesFront out) so
    each (status.Script r) p so = absurd p
    each status.TooLong p so = absurd p
    each status.Usage p so = absurd p
    each status.ReadFault p so = absurd p
    each status.Memory p so = absurd p
    each (status.Refused o) p so = absurd p

-- an input was accepted, and so it was written, or a front of that
pub accepted_so : (asked : Option Form) (src out : Change) (f : Finished) → Ends asked src out f
    → asked ≡ Some form.Check → HasPrinted f.status
    → (entries : ℕ) × IsJudgedSo src (Ok entries) × Printed f.status out (accepted_text entries)
accepted_so asked src out f h check printed = each f.status printed
    (subst (λ (x : Option Form). EndsSo f.status x src out f.machine) check h.so)
  where
    each : (s : Status) → HasPrinted s → EndsSo s (Some form.Check) src out f.machine
        → (entries : ℕ) × IsJudgedSo src (Ok entries) × Printed s out (accepted_text entries)
    each status.Done p so = so
    each status.WriteFault p so = so
    each (status.Script r) p so = absurd p
    each status.TooLong p so = absurd p
    each status.Usage p so = absurd p
    each status.ReadFault p so = absurd p
    each status.Memory p so = absurd p
    each (status.Refused o) p so = absurd p

-- what was written where no output was
pub said_so : (asked : Option Form) (src out : Change) (f : Finished) → Ends asked src out f → Says f.status out
said_so asked src out f h = each f.status h.so
  where
    each : (s : Status) → EndsSo s asked src out f.machine → Says s out
    each status.Usage so = so.1
    each status.ReadFault so = so.2
    each status.TooLong so = so.2
    each (status.Script r) so = so.2
    each (status.Refused o) so = so.2
    each status.Memory so = so.1
    each status.Done so = tt
    each status.WriteFault so = tt

-- what a run's ending says of the bytes
pub data Verdict (s : Status) (bytes : List ℕ) (out : Change) : Type 0 where
  memory : s ≡ status.Memory → Verdict s bytes out
  long : s ≡ status.TooLong → 4194304 < length bytes → Verdict s bytes out
  refused : (r : Refusal) → s ≡ status.Script r → length bytes ≤ 4194304 → script_of bytes ≡ Err r → Verdict s bytes out
  printed : (p : Plan) → s ≡ status.Done → length bytes ≤ 4194304 → script_of bytes ≡ Ok p → Verdict s bytes out
  broken : (p : Plan) → Failed out → length bytes ≤ 4194304 → script_of bytes ≡ Ok p → Verdict s bytes out

done_verdict : (machine : Option Machine) (bytes : List ℕ) (src out : Change) → src.before ≡ Some bytes
    → IsSomeAnd machine (λ m. IsShutDown m × WritesAll out (listing_of m.state.plan m.state.entries))
    → IfSome machine (Runs src) → Verdict status.Done bytes out
done_verdict None bytes src out told h run = absurd h
done_verdict (Some m) bytes src out told h run = printed m.state.plan refl
    (subst (λ (x : Option (List ℕ)). IfSome x (λ all. length all ≤ 4194304)) told run.within)
    (subst (λ (x : Option (List ℕ)). IfSome x (λ all. script_of all ≡ Ok m.state.plan)) told run.script)

fault_verdict : (machine : Option Machine) (bytes : List ℕ) (src out : Change) → src.before ≡ Some bytes
    → IsSomeAnd machine (λ m. IsShutDown m × WritesFront out (listing_of m.state.plan m.state.entries))
    → IfSome machine (Runs src) → Verdict status.WriteFault bytes out
fault_verdict None bytes src out told h run = absurd h
fault_verdict (Some m) bytes src out told h run = broken m.state.plan h.1.fault
    (subst (λ (x : Option (List ℕ)). IfSome x (λ all. length all ≤ 4194304)) told run.within)
    (subst (λ (x : Option (List ℕ)). IfSome x (λ all. script_of all ≡ Ok m.state.plan)) told run.script)

verdict_of : (s : Status) (machine : Option Machine) (bytes : List ℕ) (src out : Change) → (Failed src → ⊥)
    → src.before ≡ Some bytes → EndsSo s (Some form.Run) src out machine → IfSome machine (Runs src)
    → Verdict s bytes out
verdict_of status.Usage machine bytes src out fine told h run = absurd cc
verdict_of status.ReadFault machine bytes src out fine told h run = absurd (fine h.1)
verdict_of status.TooLong machine bytes src out fine told h run =
    long refl (subst (λ (x : Option (List ℕ)). IfSome x (λ all. 4194304 < length all)) told h.1)
verdict_of (status.Script r) machine bytes src out fine told h run = let is =
    subst (λ (x : Option (List ℕ)). IfSome x (λ all. (length all ≤ 4194304) × (script_of all ≡ Err r))) told h.1 in
    refused r refl is.0 is.1
verdict_of (status.Refused o) machine bytes src out fine told h run = absurd cc
verdict_of status.Done machine bytes src out fine told h run = done_verdict machine bytes src out told h run
verdict_of status.WriteFault machine bytes src out fine told h run = fault_verdict machine bytes src out told h run
verdict_of status.Memory machine bytes src out fine told h run = memory refl

-- the verdict of a call that ran a script
pub verdict : (asked : Option Form) (src out : Change) (f : Finished) → Ends asked src out f → asked ≡ Some form.Run
    → (Failed src → ⊥) → IfSome src.before (λ bytes. Verdict f.status bytes out)
verdict asked src out f h run fine = each src.before refl
  where
    each : (left : Option (List ℕ)) → src.before ≡ left → IfSome left (λ bytes. Verdict f.status bytes out)
    each None told = tt
    each (Some bytes) told = verdict_of f.status f.machine bytes src out fine told
        (subst (λ (x : Option Form). EndsSo f.status x src out f.machine) run h.so) h.run

-- what each verdict has is there, or there was no memory
pub by_verdict : (left : Option (List ℕ)) (s : Status) (out : Change) (Q : List ℕ → Type 0)
    → IfSome left (λ bytes. Verdict s bytes out) → ((bytes : List ℕ) → Verdict s bytes out → Q bytes) → IfSome left Q
by_verdict None s out Q h get = tt
by_verdict (Some bytes) s out Q h get = get bytes h

pub found_long : (s : Status) (bytes : List ℕ) (out : Change) → Verdict s bytes out → 4194304 < length bytes
    → (s ≡ status.TooLong) ⊎ (s ≡ status.Memory)
found_long s bytes out (memory e) lt = inr e
found_long s bytes out (long e l) lt = inl e
found_long s bytes out (refused r e few is) lt = absurd (omega arith)
found_long s bytes out (printed p e few is) lt = absurd (omega arith)
found_long s bytes out (broken p e few is) lt = absurd (omega arith)

pub found_refused : (s : Status) (bytes : List ℕ) (out : Change) → Verdict s bytes out → (r : Refusal)
    → length bytes ≤ 4194304 → script_of bytes ≡ Err r → (s ≡ status.Script r) ⊎ (s ≡ status.Memory)
found_refused s bytes out (memory e) r le is = inr e
found_refused s bytes out (long e l) r le is = absurd (omega arith)
found_refused s bytes out (refused q e few was) r le is = let same : q ≡ r = cc in inl (e ∙ ap status.Script same)
found_refused s bytes out (printed p e few was) r le is = absurd cc
found_refused s bytes out (broken p e few was) r le is = absurd cc

pub found_done : (s : Status) (bytes : List ℕ) (out : Change) → Verdict s bytes out → (Failed out → ⊥) → (p : Plan)
    → length bytes ≤ 4194304 → script_of bytes ≡ Ok p → (s ≡ status.Done) ⊎ (s ≡ status.Memory)
found_done s bytes out (memory e) fine p le is = inr e
found_done s bytes out (long e l) fine p le is = absurd (omega arith)
found_done s bytes out (refused r e few was) fine p le is = absurd cc
found_done s bytes out (printed q e few was) fine p le is = inl e
found_done s bytes out (broken q e few was) fine p le is = absurd (fine e)

-- what is printed of a form that reads nothing, whole or in part, or there was no memory for it
text_printed : (s : Status) (asked : Form) (src out : Change) (machine : Option Machine) (text : List ℕ)
    → (IsReading (Some asked) → ⊥) → (Some asked ≡ Some form.Check → ⊥)
    → ((W : List ℕ → Type 0) → Prints (Some asked) src machine W → W text)
    → EndsSo s (Some asked) src out machine → Printed s out text
text_printed status.Done asked src out machine text unread other prints so = prints (WritesAll out) so
text_printed status.WriteFault asked src out machine text unread other prints so = prints (WritesFront out) so
text_printed status.Memory asked src out machine text unread other prints so = so.1
text_printed status.Usage asked src out machine text unread other prints so = absurd cc
text_printed status.ReadFault asked src out machine text unread other prints so = absurd (unread so.0)
text_printed status.TooLong asked src out machine text unread other prints so = absurd (unread so.0)
text_printed (status.Script r) asked src out machine text unread other prints so = absurd (unread so.0)
text_printed (status.Refused o) asked src out machine text unread other prints so = absurd (other so.0)

-- the script of a day was printed so
pub made_so : (asked : Option Form) (src out : Change) (f : Finished) (n : ℕ) → Ends asked src out f
    → asked ≡ Some (form.Make n) → Printed f.status out (made n)
made_so asked src out f n h e = text_printed f.status (form.Make n) src out f.machine (made n) (λ reading. reading)
    (λ check. (let no : Some (form.Make n) ≡ Some form.Check = check in cc)) (λ W text. text)
    (subst (λ (x : Option Form). EndsSo f.status x src out f.machine) e h.so)

-- the text of a drill was
pub drilled_so : (asked : Option Form) (src out : Change) (f : Finished) (p frames n seed : ℕ) → Ends asked src out f
    → asked ≡ Some (form.Drill p frames n seed) → Printed f.status out (drill_text p frames n seed)
drilled_so asked src out f p frames n seed h e = text_printed f.status (form.Drill p frames n seed) src out f.machine
    (drill_text p frames n seed) (λ reading. reading)
    (λ check. (let no : Some (form.Drill p frames n seed) ≡ Some form.Check = check in cc)) (λ W text. text)
    (subst (λ (x : Option Form). EndsSo f.status x src out f.machine) e h.so)

-- ---- a listing that was judged

-- the bytes that the source tells were judged so
judged_here : (src : Change) (bytes : List ℕ) (v : Result ℕ CheckFault) → src.before ≡ Some bytes → IsJudgedSo src v
    → (length bytes ≤ 134217728) × IsTheVerdict bytes v
judged_here src bytes v told h =
    subst (λ (x : Option (List ℕ)). IfSome x (λ all. (length all ≤ 134217728) × IsTheVerdict all v)) told h

-- another verdict is none
one_verdict : (bytes : List ℕ) (given v : Result ℕ CheckFault) → IsTheVerdict bytes given → IsVerdict bytes v
    → v ≡ given
unfolding IsTheVerdict
one_verdict bytes given v one is = (one v).0 is

-- a fault of the input comes to its status, or there was no memory
fault_so : (s : Status) (bytes : List ℕ) (src out : Change) (machine : Option Machine) → (Failed src → ⊥)
    → src.before ≡ Some bytes → EndsSo s (Some form.Check) src out machine
    → (e : CheckFault) → length bytes ≤ 134217728 → IsVerdict bytes (Err e) → IsStatusOf e s ⊎ (s ≡ status.Memory)
fault_so s bytes src out machine fine told so e few is = each s so
  where
    accepted_not : (n : ℕ) → IsJudgedSo src (Ok n) → ⊥
    accepted_not n judged =
        let same = one_verdict bytes (Ok n) (Err e) (judged_here src bytes (Ok n) told judged).1 is in cc

    here : (given : CheckFault) (x : Status) → IsJudgedSo src (Err given) → IsStatusOf given x
        → IsStatusOf e x ⊎ (x ≡ status.Memory)
    here given x judged comes =
        let same = one_verdict bytes (Err given) (Err e) (judged_here src bytes (Err given) told judged).1 is in
        let one : e ≡ given = cc in inl (subst (λ (f : CheckFault). IsStatusOf f x) (sym one) comes)

    each : (x : Status) → EndsSo x (Some form.Check) src out machine → IsStatusOf e x ⊎ (x ≡ status.Memory)
    each (status.Script r) h = here (fault.Script r) (status.Script r) h.1 refl
    each (status.Refused o) h = here (fault.Refused o) (status.Refused o) h.1 refl
    each status.Memory h = inr refl
    each status.Done h = absurd (accepted_not h.0 h.1)
    each status.WriteFault h = absurd (accepted_not h.0 h.1)
    each status.TooLong h =
        let more = subst (λ (l : Option (List ℕ)). IfSome l (λ all. 134217728 < length all)) told h.1 in
        absurd (omega (arith, more, few))
    each status.ReadFault h = absurd (fine h.1)
    each status.Usage h = absurd cc

pub found_fault : (asked : Option Form) (src out : Change) (f : Finished) → Ends asked src out f
    → asked ≡ Some form.Check → (Failed src → ⊥)
    → IfSome src.before (λ bytes. (e : CheckFault) → length bytes ≤ 134217728 → IsVerdict bytes (Err e)
    → IsStatusOf e f.status ⊎ (f.status ≡ status.Memory))
found_fault asked src out f h check fine = each src.before refl
  where
    each : (left : Option (List ℕ)) → src.before ≡ left
        → IfSome left (λ bytes. (e : CheckFault) → length bytes ≤ 134217728 → IsVerdict bytes (Err e)
        → IsStatusOf e f.status ⊎ (f.status ≡ status.Memory))
    each None told = tt
    each (Some bytes) told = fault_so f.status bytes src out f.machine fine told
        (subst (λ (x : Option Form). EndsSo f.status x src out f.machine) check h.so)

-- an input that is accepted is answered so, or there was no memory
accepted_done : (s : Status) (bytes : List ℕ) (src out : Change) (machine : Option Machine) → (Failed src → ⊥)
    → (Failed out → ⊥) → src.before ≡ Some bytes → EndsSo s (Some form.Check) src out machine
    → (n : ℕ) → length bytes ≤ 134217728 → IsVerdict bytes (Ok n) → (s ≡ status.Done) ⊎ (s ≡ status.Memory)
accepted_done s bytes src out machine fine whole told so n few is = each s so
  where
    fault_not : (e : CheckFault) → IsJudgedSo src (Err e) → ⊥
    fault_not e judged =
        let same = one_verdict bytes (Err e) (Ok n) (judged_here src bytes (Err e) told judged).1 is in cc

    each : (x : Status) → EndsSo x (Some form.Check) src out machine → (x ≡ status.Done) ⊎ (x ≡ status.Memory)
    each status.Done h = inl refl
    each status.Memory h = inr refl
    each (status.Script r) h = absurd (fault_not (fault.Script r) h.1)
    each (status.Refused o) h = absurd (fault_not (fault.Refused o) h.1)
    each status.TooLong h =
        let more = subst (λ (l : Option (List ℕ)). IfSome l (λ all. 134217728 < length all)) told h.1 in
        absurd (omega (arith, more, few))
    each status.ReadFault h = absurd (fine h.1)
    each status.WriteFault h = absurd (whole h.2.fault)
    each status.Usage h = absurd cc

pub found_accepted : (asked : Option Form) (src out : Change) (f : Finished) → Ends asked src out f
    → asked ≡ Some form.Check → (Failed src → ⊥) → (Failed out → ⊥)
    → IfSome src.before (λ bytes. (n : ℕ) → length bytes ≤ 134217728 → IsVerdict bytes (Ok n)
    → (f.status ≡ status.Done) ⊎ (f.status ≡ status.Memory))
found_accepted asked src out f h check fine whole = each src.before refl
  where
    each : (left : Option (List ℕ)) → src.before ≡ left
        → IfSome left (λ bytes. (n : ℕ) → length bytes ≤ 134217728 → IsVerdict bytes (Ok n)
        → (f.status ≡ status.Done) ⊎ (f.status ≡ status.Memory))
    each None told = tt
    each (Some bytes) told = accepted_done f.status bytes src out f.machine fine whole told
        (subst (λ (x : Option Form). EndsSo f.status x src out f.machine) check h.so)

-- more bytes than a script with its listing may have are told, or there was no memory
checked_long : (s : Status) (bytes : List ℕ) (src out : Change) (machine : Option Machine) → (Failed src → ⊥)
    → src.before ≡ Some bytes
    → EndsSo s (Some form.Check) src out machine → 134217728 < length bytes → (s ≡ status.TooLong) ⊎ (s ≡ status.Memory)
checked_long s bytes src out machine fine told so many = each s so
  where
    few_not : (given : Result ℕ CheckFault) → IsJudgedSo src given → ⊥
    few_not given judged = omega (arith, (judged_here src bytes given told judged).0, many)

    each : (x : Status) → EndsSo x (Some form.Check) src out machine → (x ≡ status.TooLong) ⊎ (x ≡ status.Memory)
    each status.TooLong h = inl refl
    each status.Memory h = inr refl
    each status.Done h = absurd (few_not (Ok h.0) h.1)
    each status.WriteFault h = absurd (few_not (Ok h.0) h.1)
    each (status.Script r) h = absurd (few_not (Err (fault.Script r)) h.1)
    each (status.Refused o) h = absurd (few_not (Err (fault.Refused o)) h.1)
    each status.ReadFault h = absurd (fine h.1)
    each status.Usage h = absurd cc

pub found_checked_long : (asked : Option Form) (src out : Change) (f : Finished) → Ends asked src out f
    → asked ≡ Some form.Check → (Failed src → ⊥)
    → IfSome src.before (λ bytes. 134217728 < length bytes → (f.status ≡ status.TooLong) ⊎ (f.status ≡ status.Memory))
found_checked_long asked src out f h check fine = each src.before refl
  where
    each : (left : Option (List ℕ)) → src.before ≡ left
        → IfSome left (λ bytes. 134217728 < length bytes → (f.status ≡ status.TooLong) ⊎ (f.status ≡ status.Memory))
    each None told = tt
    each (Some bytes) told = checked_long f.status bytes src out f.machine fine told
        (subst (λ (x : Option Form). EndsSo f.status x src out f.machine) check h.so)
