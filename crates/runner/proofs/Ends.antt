-- How each way out of a call ends. (own)
use Rattle.runner.proofs.Prelude.{◌≡◌, ℕ, ◌+◌, ◌<◌, List, [], length, Option, Some, None, IfSome, is_some, true, refl, sym, ap, subst, arith, IsSomeAnd, Appends, Keeps, Keeps-refl, Consumes-nil, AppendsFront, ConsumesFront, Unread, Plan, made, drill_text, Change, Ends, EndsSo, Failed, IsReading, LeavesRun, MayHaveRun, Printed, PrintsIfRun, Runs, Unreads, Writes, cut, limit_of, whole, IsRun, Machine, usage_text, Finished, Status, Form}
use Rattle.site_io.specs.declared.whole.Unread.TheVariants as unread
use Rattle.runner.specs.declared.finished.Status.TheVariants as status
use Rattle.runner.specs.declared.words.Form.TheVariants as form

-- a text was written whole, or cut where a write failed
pub text_whole : (out : Change) (text : List ℕ) → Appends out.before out.after text → Writes out text
text_whole out text h = whole h

pub text_cut : (out : Change) (text : List ℕ) → AppendsFront out.before out.after text → Failed out → Writes out text
text_cut out text h f = cut (record { front = h; fault = f })

-- nothing is read, or written
pub reads_nothing : (a : Option (List ℕ)) (most : ℕ) → ConsumesFront a a most
unfolding ConsumesFront
reads_nothing a most = ([], omega arith, Consumes-nil a)

pub writes_nothing : (a : Option (List ℕ)) → Keeps a a
writes_nothing a = Keeps-refl a

-- a call ended so, without a machine
pub ends_without : (asked : Option Form) (src out : Change) (f : Finished) (s : Status) → f.status ≡ s
    → f.machine ≡ None → EndsSo s asked src out None
    → ConsumesFront src.before src.after (limit_of asked + 1) → Ends asked src out f
ends_without asked src out f s is without so reads = record {
  so = subst (λ (x : Status). EndsSo x asked src out f.machine) (sym is)
      (subst (λ (b : Option Machine). EndsSo s asked src out b) (sym without) so);
  run = subst (λ (m : Option Machine). IfSome m (Runs src)) (sym without) tt;
  booted = subst (λ (m : Option Machine). IfSome m (λ _. MayHaveRun f.status)) (sym without) tt;
  only = λ _. without;
  reads = reads;
}

-- the source couldn't be read
pub ends_unread : (asked : Option Form) (src out : Change) (f : Finished) (u : Unread) → IsReading asked
    → is_some asked ≡ true → Unreads u f.status out → f.machine ≡ None
    → (u ≡ unread.TooLong → IfSome src.before (λ bytes. limit_of asked < length bytes))
    → (u ≡ unread.ReadFault → Failed src) → ConsumesFront src.before src.after (limit_of asked + 1)
    → Ends asked src out f
ends_unread asked src out f unread.TooLong reading some un without longer fault reads =
    ends_without asked src out f status.TooLong un.0 without (reading, longer refl, un.1) reads
ends_unread asked src out f unread.ReadFault reading some un without longer fault reads =
    ends_without asked src out f status.ReadFault un.0 without (reading, fault refl, un.1) reads
ends_unread asked src out f unread.Memory reading some un without longer fault reads =
    ends_without asked src out f status.Memory un.0 without (some, un.1) reads

-- what holds of the bytes that were read holds of those that the source tells
pub of_told : (left : Option (List ℕ)) (bytes : List ℕ) (P : List ℕ → Type 0) → IfSome left (λ all. bytes ≡ all)
    → P bytes → IfSome left P
of_told None bytes P h p = tt
of_told (Some all) bytes P h p = subst P h p

-- the script of a day was printed
made_so : (s : Status) (n : ℕ) (src out : Change) → Printed s out (made n) → EndsSo s (Some (form.Make n)) src out None
made_so status.Done n src out h = h
made_so status.WriteFault n src out h = h
made_so status.Memory n src out h = (refl, h)
made_so (status.Script r) n src out h = absurd h
made_so status.TooLong n src out h = absurd h
made_so status.Usage n src out h = absurd h
made_so status.ReadFault n src out h = absurd h
made_so (status.Refused o) n src out h = absurd h

pub ends_made : (src out : Change) (f : Finished) (n : ℕ) → Printed f.status out (made n) → f.machine ≡ None
    → ConsumesFront src.before src.after 4194305 → Ends (Some (form.Make n)) src out f
ends_made src out f n h without reads = ends_without (Some (form.Make n)) src out f f.status refl without
    (made_so f.status n src out h) reads

-- the text of a drill was printed
drilled_so : (s : Status) (p f n seed : ℕ) (src out : Change) → Printed s out (drill_text p f n seed)
    → EndsSo s (Some (form.Drill p f n seed)) src out None
drilled_so status.Done p f n seed src out h = h
drilled_so status.WriteFault p f n seed src out h = h
drilled_so status.Memory p f n seed src out h = (refl, h)
drilled_so (status.Script r) p f n seed src out h = absurd h
drilled_so status.TooLong p f n seed src out h = absurd h
drilled_so status.Usage p f n seed src out h = absurd h
drilled_so status.ReadFault p f n seed src out h = absurd h
drilled_so (status.Refused o) p f n seed src out h = absurd h

pub ends_drilled : (src out : Change) (f : Finished) (p frames n seed : ℕ)
    → Printed f.status out (drill_text p frames n seed) → f.machine ≡ None
    → ConsumesFront src.before src.after 4194305 → Ends (Some (form.Drill p frames n seed)) src out f
ends_drilled src out f p frames n seed h without reads =
    ends_without (Some (form.Drill p frames n seed)) src out f f.status refl without
    (drilled_so f.status p frames n seed src out h) reads

-- ---- what was asked for

pub asks : (asked is : Option Form) (src out : Change) (f : Finished) → asked ≡ is → Ends is src out f
    → Ends asked src out f
asks asked is src out f e h = subst (λ (x : Option Form). Ends x src out f) (sym e) h

pub asked_none : (asked : Option Form) (src out : Change) (f : Finished) → asked ≡ None → f.status ≡ status.Usage
    → f.machine ≡ None → Writes out usage_text → ConsumesFront src.before src.after 4194305 → Ends asked src out f
asked_none asked src out f e s b text reads = asks asked None src out f e
    (ends_without None src out f status.Usage s b (refl, text) reads)

pub form_is : (form is : Form) (src out : Change) (f : Finished) → form ≡ is → Ends (Some is) src out f
    → Ends (Some form) src out f
form_is form is src out f e h = asks (Some form) (Some is) src out f (ap Some e) h

-- ---- a machine that was booted

pub left_printed : (p : Plan) (s : Status) (machine : Option Machine) (out : Change)
    → IsSomeAnd machine (λ m. LeavesRun p s m out) → PrintsIfRun s machine out
left_printed p s None out h = absurd h
left_printed p s (Some m) out h = h.printed

pub left_script : (p : Plan) (s : Status) (machine : Option Machine) (out : Change)
    → IsSomeAnd machine (λ m. LeavesRun p s m out) → IfSome machine (λ m. m.state.plan ≡ p)
left_script p s None out h = tt
left_script p s (Some m) out h = h.script

pub left_run : (p : Plan) (s : Status) (machine : Option Machine) (out : Change)
    → IsSomeAnd machine (λ m. LeavesRun p s m out) → IfSome machine IsRun
left_run p s None out h = tt
left_run p s (Some m) out h = h.run

pub left_booted : (p : Plan) (s : Status) (machine : Option Machine) (out : Change)
    → IsSomeAnd machine (λ m. LeavesRun p s m out) → IfSome machine (λ m. MayHaveRun s)
left_booted p s None out h = tt
left_booted p s (Some m) out h = h.status

-- a text was written, whole or cut
pub ruleset text_written = (text_whole, text_cut)
