-- What is kept while a listing is judged (own).
use Rattle.std.specs.Prelude.{◌≡◌, ◌<◌, ◌≤◌, ℕ, true, List, [], ◌∷◌, ◌++◌, length, Result, Ok, Err, map, sum}
use Rattle.std.specs.Bool.{Decides}
use Rattle.script.specs.Plans.{Plan}
use Rattle.book.specs.declared.entries.Entry.{Entry}
use Rattle.flat_model.specs.Legal.{IsEnd, IsLawful, last_of, part, store_after}
use Rattle.flat_model.specs.Store.{Store, progress_of}
use Rattle.flat_store.specs.Shown.{Kept, Shows}
use Rattle.custody_model.specs.Allowed.{IsAllowed}
use Rattle.custody_model.specs.Clean.{custody_after}
use Rattle.custody_model.specs.Custody.{Custody}
use Rattle.custody.specs.Tables.{AreNodes, AreTablesOf, Tables, custody_of}
use Rattle.book_check.specs.Verdicts.{MayStand, IsTextOf, BreaksEntry}
use Rattle.book_check.specs.declared.offences.Rule.{Rule}
use Rattle.book_check.specs.declared.offences.Rule.TheVariants as rule
use Rattle.book_check.specs.declared.judge.LineFault.{LineFault}
use Rattle.book_check.specs.declared.judge.LineFault.TheVariants as fault

-- the script; its flat store and its custody after the entries so far; how many these were
pub record Judged : Type 0 where
  pub script : Plan
  pub store : Kept
  pub custody : Tables
  pub entries : ℕ

-- a process has ended exactly where its last command entry is that of its end
abbrev pub EndsAgree : Plan → List Entry → Type 0
EndsAgree p es = (k : ℕ) → k < length p.processes →
    Decides (progress_of (store_after p es) k).ended (IsEnd p k (last_of (part k es)))

-- each process has ended
unfoldable pub HaveEnded : Plan → Store → Type 0
HaveEnded p s = (k : ℕ) → k < length p.processes → (progress_of s k).ended ≡ true

-- Such entries were accepted so far: they may stand one after the other, and what is kept is the flat store and the
-- custody after them. Each counts for at most one processor, and none changes what the quotas sum to.
pub record IsAfter (j : Judged) (es : List Entry) : Type 0 where
  pub stand : MayStand j.script es
  pub shown : Shows j.script j.store (store_after j.script es)
  pub nodes : AreNodes (store_after j.script es).nodes j.custody.active
  pub custody : custody_of j.custody ≡ custody_after j.script es
  pub tables : AreTablesOf j.script j.custody
  pub count : j.entries ≡ length es
  pub turns : (d : ℕ) → ((custody_after j.script es).seat d).count ≤ length es
  pub ends : EndsAgree j.script es
  pub total : sum (map (λ n. n.quota) (store_after j.script es).nodes) ≡ j.script.quota

-- the flat store and custody allow an entry where they are as is kept
unfoldable pub Allows : Judged → Entry → Type 0
Allows j e = (s : Store) → Shows j.script j.store s → AreNodes s.nodes j.custody.active
    → IsLawful j.script s e × IsAllowed j.script s (custody_of j.custody) e

-- what an entry breaks there
abbrev pub Breaks : Plan → Store → Custody → Entry → Rule → Type 0
Breaks p s c e rule.NotLegal = IsLawful p s e → ⊥
Breaks p s c e rule.NotClean = IsLawful p s e × (IsAllowed p s c e → ⊥)
Breaks p s c e _ = ⊥

unfoldable pub Forbids : Judged → Entry → Rule → Type 0
Forbids j e r = (s : Store) → Shows j.script j.store s → AreNodes s.nodes j.custody.active
    → Breaks j.script s (custody_of j.custody) e r

-- a line is the text of at most one entry
unfoldable pub OnlyOne : List ℕ → Type 0
OnlyOne line = (e f : Entry) → IsTextOf e line → IsTextOf f line → e ≡ f

-- The entry of a line was accepted.
pub record IsNext (old new : Judged) (es : List Entry) (line : List ℕ) : Type 0 where
  pub entry : Entry
  pub text : IsTextOf entry line
  pub lawful : IsLawful old.script (store_after old.script es) entry
  pub allowed : IsAllowed old.script (store_after old.script es) (custody_after old.script es) entry
  pub after : IsAfter new (es ++ entry ∷ [])
  pub script : new.script ≡ old.script

-- a line after some entries: its entry is accepted, or the line breaks a rule
abbrev pub Meets : Judged → Judged → List Entry → List ℕ → Result (Unit {0}) LineFault → Type 0
Meets old new es line (Ok u) = IsNext old new es line
Meets old new es line (Err (fault.Broken r)) = BreaksEntry old.script es line r
Meets old new es line (Err fault.Memory) = Unit {0}

-- a line that breaks a rule changes nothing
abbrev pub Stays : Judged → Judged → LineFault → Type 0
Stays old new (fault.Broken r) = new ≡ old
Stays old new fault.Memory = Unit {0}

unfoldable pub Takes : Judged → Judged → List ℕ → Result (Unit {0}) LineFault → Type 0
Takes old new line result = (es : List Entry) → IsAfter old es → Meets old new es line result
