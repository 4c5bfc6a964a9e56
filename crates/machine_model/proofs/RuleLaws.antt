-- Which rule applies to a processor, and what it tells of it.
use Rattle.machine_model.proofs.Prelude.{◌≡◌, ℕ, Bool, true, false, ◌&&◌, is_some, refl, nat_lt, Outline, runner_at, Rule, Comes, Clears, Reads, Works, Loads, Leaves, Commands, rule_by, rule_of, owns, measures_is_over as is_over}

-- what the rules ask of six facts
abbrev pub Tells : Rule → Bool → Bool → Bool → Bool → Bool → Bool → Type 0
Tells Comes online due reading own running leaves = online ≡ false
Tells Clears online due reading own running leaves = (online ≡ true) × (due ≡ true)
Tells Reads online due reading own running leaves = (online ≡ true) × (due ≡ false) × (reading ≡ true)
Tells Works online due reading own running leaves = (due ≡ false) × (reading ≡ false) × (own ≡ true)
Tells Loads online due reading own running leaves =
    (due ≡ false) × (reading ≡ false) × (own ≡ false) × (running ≡ false)
Tells Leaves online due reading own running leaves =
    (due ≡ false) × (reading ≡ false) × (own ≡ false) × (running ≡ true) × (leaves ≡ true)
Tells Commands online due reading own running leaves =
    (due ≡ false) × (reading ≡ false) × (own ≡ false) × (running ≡ true)

told : (online due reading own running leaves : Bool)
    → Tells (rule_by online due reading own running leaves) online due reading own running leaves
told false due reading own running leaves = refl
told true true reading own running leaves = (refl, refl)
told true false false false true true = (refl, refl, refl, refl, refl)
told true false false false true false = (refl, refl, refl, refl)
told true false false false false leaves = (refl, refl, refl, refl)
told true false _ _ running leaves = (refl, refl, refl)

pub tells : (s : Outline) (c : ℕ) (rule : Rule) → rule_of s c ≡ rule
    → Tells rule (runner_at s.runners c).online (runner_at s.runners c).due (is_some (runner_at s.runners c).reading)
    (owns s.owner c) (runner_at s.runners c).running (is_over (runner_at s.runners c) && nat_lt 0 s.ready)
unfolding rule_of
tells s c rule h =
    let x = runner_at s.runners c in
    rw h at (told x.online x.due (is_some x.reading) (owns s.owner c) x.running (is_over x && nat_lt 0 s.ready))
