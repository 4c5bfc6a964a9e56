-- A reason that is so of an entry refuses it by itself, but for one that the script hasn't what the entry names.
use Rattle.clean_reasons.proofs.Prelude.{◌≡◌, ℕ, true, false, sym, subst, ◌∙◌, arith, Some, Result, Ok, Err, le-leb, lt-ltb, Plan, Command, Entry, Reply, Node, segment_at, without_words, is_lost, Store, Custody, page_of, LosesNoPage, MayTakeEffect, OfNode, AreRefusals, EffectSays, IsOfEffect, IsOfNode, IsOfTruncate, IsTakenPage, PageOf, Loss, EffectReason}
use Rattle.script.specs.declared.commands.Command.TheVariants as command
use Rattle.clean_reasons.specs.declared.reasons.Loss.TheVariants as loss
use Rattle.clean_reasons.specs.declared.reasons.EffectReason.TheVariants as effect
use Rattle.clean_reasons.specs.declared.reasons.Reason.TheVariants as reason

-- ---- what a command takes away

lost : (s : Store) (u from : ℕ) (l : Loss) (x : PageOf) → IsTakenPage s u from l x
    → is_lost (without_words s.words u from) u from x.page ≡ true
lost s u from loss.Deleted x h = absurd h
lost s u from _ x h = grind (arith, le-leb, lt-ltb)

uid_taken : (s : Store) (u from : ℕ) (l : Loss) (x : PageOf) → IsTakenPage s u from l x → x.uid ≡ u
uid_taken s u from loss.Deleted x h = absurd h
uid_taken s u from _ x h = h.0

taken_page : (s : Store) (c : Custody) (u from : ℕ) (l : Loss) (x : PageOf) (f : ℕ) → IsTakenPage s u from l x
    → page_of (c.frame f) ≡ Some (x.uid, x.page) → LosesNoPage s c u from → ⊥
taken_page s c u from l x f about page h =
    let same : x.uid ≡ u = uid_taken s u from l x about in
    let no : false ≡ true = sym (h f x.page (subst (λ (y : ℕ). page_of (c.frame f) ≡ Some (y, x.page)) same page))
    ∙ lost s u from l x about in cc

truncates : (s : Store) (c : Custody) (u from : ℕ) (r : EffectReason) → IsOfTruncate s u from r → EffectSays c r
    → LosesNoPage s c u from → ⊥
truncates s c u from (effect.InFrame l x f) about says h = taken_page s c u from l x f about (grind arith) h
truncates s c u from (effect.BeingRead l x f) about says h = taken_page s c u from l x f about (grind arith) h
truncates s c u from _ about says h = absurd about

truncates_at : (s : Store) (c : Custody) (o : Result Node Reply) (from : ℕ) (r : EffectReason)
    → IsOfNode (λ n. IsOfTruncate s n.uid from r) o → EffectSays c r → OfNode (λ n. LosesNoPage s c n.uid from) o → ⊥
truncates_at s c (Ok n) from r about says h = truncates s c n.uid from r about says h
truncates_at s c (Err x) from r about says h = absurd about

takes_away : (s : Store) (c : Custody) (k : ℕ) (x : Command) (r : EffectReason) → IsOfEffect s c k x r
    → EffectSays c r → MayTakeEffect s c k x → ⊥
takes_away s c k (command.Truncate path words) r about says h =
    truncates_at s c (segment_at s.nodes path) words r about says h
takes_away s c k _ r about says h = grind arith

-- ---- all reasons

pub refutes : (p : Plan) (s : Store) (c : Custody) (e : Entry) → AreRefusals p s c e
refutes p s c e (reason.Absent r) other so = let no : ⊥ = cc in absurd no
refutes p s c e (reason.Effect r) other so = λ h. grind (arith, takes_away, so.about, so.said)
refutes p s c e (reason.Seat r) other so = λ h. grind (arith, so.about, so.said)
refutes p s c e (reason.Ready r) other so = λ h. grind (arith, so.about, so.said)
refutes p s c e (reason.Active r) other so = λ h. grind (arith, so.about, so.said)
refutes p s c e (reason.Frame r) other so = λ h. grind (arith, so.about, so.said)
refutes p s c e (reason.Descriptor r) other so = λ h. grind (arith, so.about, so.said)
refutes p s c e (reason.Command r) other so = λ h. grind (arith, so.about, so.said)
