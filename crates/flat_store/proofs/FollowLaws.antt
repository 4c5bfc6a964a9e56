-- What an entry does to the store that is shown.
use Rattle.std.proofs.lemmas.Grind.{common_steps}
use Rattle.flat_store.proofs.Prelude.{arith, nat_tests, ◌≡◌, ℕ, ◌+◌, ◌<◌, ◌^◌, true, false, List, set, Option, Some, Plan, command_at, Command, Entry, Reply, after_command, gone_on, reply_to_command, takes_effect, IsLawful, IsLawfulDo, MayFault, after_entry, after_fault, is_held_back, Node, Progress, Store, Held, Holds, IsReached, IsShown, Kept, Shows, answered, progress_at, place_fits, place_within, answered_advances, reached_fault, reached_on, sym, ap, ◌∙◌, progress_of}
use Rattle.book.specs.declared.entries.Entry.TheVariants as entry
use Rattle.flat_store.proofs.StoreLaws.{progress_shown}

-- an answer that took effect is the flat store's, and wasn't held back
pub effect_due : (p : Plan) (s : Store) (k place : ℕ) (c : Command) (r : Reply) → command_at p k place ≡ Some c
    → IsLawfulDo p s k place r
    → takes_effect r ≡ true → (takes_effect (reply_to_command p s k c) ≡ true) × (is_held_back p s k c ≡ false)
effect_due p s k place c r at lawful effect = grind (arith, nat_tests, common_steps)

pub go_shown : {p : Plan} {mid : Kept} {s : Store} {process place : ℕ} {c : Command} {r : Reply}
    {processes : List Progress} → IsReached p s → IsShown p mid (answered p s process c r)
    → command_at p process place ≡ Some c → IsLawfulDo p s process place r
    → ((progress_at mid.processes process).place + 1 < 2 ^ 32
    → processes ≡ set mid.processes process (gone_on (progress_at mid.processes process) c r))
    → Shows p (record mid { processes = processes }) (after_command p s process c r)
unfolding after_command
go_shown {p} {mid} {s} {process} {place} {c} {r} reached shown at lawful now =
    let same : progress_at mid.processes process ≡ progress_of s process =
    ap (λ qs. progress_at qs process) (sym shown.processes ∙ (answered_advances p s process c r).processes) in
    let fits = place_fits p process place reached.plan (place_within p process place c at) in
    let gone = now (rw (same, lawful.next) fits) in
    record {
      shown = progress_shown process (gone_on (progress_of s process) c r) shown (rw (shown.processes, ← same) gone);
      reached = reached_on p s process place c r reached lawful.going lawful.next at;
    }

-- a failure is told of a process
pub fault_shown : {p : Plan} {k : Kept} {s : Store} {processes : List Progress} (process : ℕ) → Shows p k s
    → processes ≡ set k.processes process (record (progress_at k.processes process) { faulted = true })
    → MayFault s (Some process) → Shows p (record k { processes = processes }) (after_fault s (Some process))
fault_shown {p} {s = s} process h now may =
    grind (arith, nat_tests, common_steps, progress_shown, reached_fault p s process h.reached may)

-- a page is given up, or a segment moved
pub held_shown : {p : Plan} {k : Kept} {s : Store} {held : Held} {nodes : List Node} {stored : List (ℕ × ℕ)}
    → Shows p k s → Holds p held (record s { nodes = nodes; stored = stored })
    → Shows p (record k { held = held }) (record s { nodes = nodes; stored = stored })
held_shown h holds = assumption

-- an entry that tells who holds what
pub record IsQuiet (e : Entry) : Type 0 where
  pub answer : (k place cpu : ℕ) (frame : Option ℕ) (r : Reply) → e ≡ entry.Do k place cpu frame r → ⊥
  pub release : (u q : ℕ) → e ≡ entry.Release u q → ⊥
  pub fault : (o : Option ℕ) → e ≡ entry.Fault o → ⊥
  pub moved : (k u w : ℕ) → e ≡ entry.Moved k u w → ⊥

-- it is lawful, and leaves the flat store alone
pub quiet : (p : Plan) (s : Store) (e : Entry) → IsQuiet e → IsLawful p s e × (s ≡ after_entry p s e)
unfolding IsLawful after_entry
quiet p s o other = grind (arith, nat_tests, common_steps)

pub quiet_lawful : (p : Plan) (s : Store) (e : Entry)
    → ((k place cpu : ℕ) (frame : Option ℕ) (r : Reply) → e ≡ entry.Do k place cpu frame r → ⊥)
    → ((u q : ℕ) → e ≡ entry.Release u q → ⊥) → ((o : Option ℕ) → e ≡ entry.Fault o → ⊥)
    → ((k u w : ℕ) → e ≡ entry.Moved k u w → ⊥) → IsLawful p s e
quiet_lawful p s e answer release fault moved =
    (quiet p s e (record { answer = answer; release = release; fault = fault; moved = moved })).0
