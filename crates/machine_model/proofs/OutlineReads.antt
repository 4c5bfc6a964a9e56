-- What is read of the outline of a machine.
use Rattle.machine_model.proofs.Prelude.{◌≡◌, ℕ, suc, Bool, false, ◌&&◌, eqb, nat_lt, List, [], ◌∷◌, length, map, Option, Some, None, is_some, set, get_or, refl, ap, Processor, State, Owner, no_processor, processor_at, booked, with_processor, has_had_its_turn, Entry, Active, Runner, runner_at, with_runner, rule_by, rule_of, owns, Around, around, runner_by, runner_of, keeper_of, outline_of}

-- ---- lists

pub map_at : {A B : Type 0} (f : A → B) (xs : List A) (i : ℕ) (d : A) → get_or (map f xs) i (f d) ≡ f (get_or xs i d)
map_at f (x ∷ xs) (suc i) d = map_at f xs i d
map_at f _ _ d = refl

pub set_map : {A B : Type 0} (f : A → B) (xs : List A) (i : ℕ) (y : A) → map f (set xs i y) ≡ set (map f xs) i (f y)
set_map f (x ∷ xs) (suc i) y = cc (set_map f xs i y)
set_map f _ _ y = refl

long_map : {A B : Type 0} (f : A → B) (xs : List A) → length (map f xs) ≡ length xs
long_map f [] = refl
long_map f (x ∷ xs) = ap suc (long_map f xs)

-- ---- processors

-- what the runner of no process and that of each process have, the runner of a processor has
runner_has : (P : Runner → Type 0) (a : Around) (p : Processor) → P (runner_by a p None)
    → ((k : ℕ) → P (runner_by a p (Some k))) → P (runner_of a p)
runner_has P a p none some = by p.cpu.process
  where
    by : (o : Option ℕ) → P (runner_by a p o)
    by None = none
    by (Some k) = some k

pub seen_online : (a : Around) (p : Processor) → (runner_of a p).online ≡ p.cpu.online
seen_online a p = runner_has (λ x. x.online ≡ p.cpu.online) a p refl (λ k. refl)

pub seen_running : (a : Around) (p : Processor) → (runner_of a p).running ≡ is_some p.cpu.process
seen_running a p = by p.cpu.process
  where
    by : (o : Option ℕ) → (runner_by a p o).running ≡ is_some o
    by None = refl
    by (Some k) = refl

pub seen_due : (a : Around) (p : Processor) → (runner_of a p).due ≡ is_some p.cpu.due
seen_due a p = runner_has (λ x. x.due ≡ is_some p.cpu.due) a p refl (λ k. refl)

pub seen_reading : (a : Around) (p : Processor) → (runner_of a p).reading ≡ p.cpu.transfer
seen_reading a p = runner_has (λ x. x.reading ≡ p.cpu.transfer) a p refl (λ k. refl)

pub seen_since : (a : Around) (p : Processor) → (runner_of a p).since ≡ p.count
seen_since a p = runner_has (λ x. x.since ≡ p.count) a p refl (λ k. refl)

pub seen_tried : (a : Around) (p : Processor) → (runner_of a p).tried ≡ p.tried
seen_tried a p = runner_has (λ x. x.tried ≡ p.tried) a p refl (λ k. refl)

-- ---- the outline

-- the outline of a processor that isn't there is that of none
pub at_outline : (s : State) (c : ℕ) → runner_at (outline_of s).runners c ≡ runner_of (around s)
    (processor_at s.processors c)
unfolding outline_of
at_outline s c = map_at (runner_of (around s)) s.processors c no_processor

pub long_outline : (s : State) → length (outline_of s).runners ≡ length s.processors
unfolding outline_of
long_outline s = long_map (runner_of (around s)) s.processors

-- a step that changes one processor alone
pub one_outlined : (s : State) (c : ℕ) (p : Processor) (es : List Entry)
    → outline_of (booked (with_processor s c p) es) ≡ with_runner (outline_of s) c (runner_of (around s) p)
unfolding outline_of
one_outlined s c p es = cc (set_map (runner_of (around s)) s.processors c p)

-- ---- rules

abbrev pub is_owner : Option Owner → ℕ → Bool
is_owner None c = false
is_owner (Some o) c = eqb o.cpu c

owns_seen : (entries : List (Option Active)) (o : Option Owner) (c : ℕ) → owns (keeper_of entries o) c ≡ is_owner o c
owns_seen entries None c = refl
owns_seen entries (Some o) c = refl

pub seen_owns : (s : State) (c : ℕ) → owns (outline_of s).owner c ≡ is_owner s.owner c
unfolding outline_of
seen_owns s c = owns_seen s.store.ast.entries s.owner c

pub ready_seen : (s : State) → (outline_of s).ready ≡ length s.ready
unfolding outline_of
ready_seen s = refl

-- the rule that applies, by the machine's own processor
pub rule_seen : (s : State) (c : ℕ) → rule_of (outline_of s) c ≡ rule_by (processor_at s.processors c).cpu.online
    (is_some (processor_at s.processors c).cpu.due) (is_some (processor_at s.processors c).cpu.transfer)
    (is_owner s.owner c) (is_some (processor_at s.processors c).cpu.process)
    ((is_some (processor_at s.processors c).cpu.process && has_had_its_turn (processor_at s.processors c))
    && nat_lt 0 (length s.ready))
unfolding rule_of
rule_seen s c = let a = around s in let p = processor_at s.processors c in rw (
  at_outline s c,
  seen_online (around s) (processor_at s.processors c),
  seen_due (around s) (processor_at s.processors c),
  seen_reading (around s) (processor_at s.processors c),
  seen_owns s c,
  seen_running (around s) (processor_at s.processors c),
  seen_since (around s) (processor_at s.processors c),
  seen_tried (around s) (processor_at s.processors c),
  ready_seen s,
) refl
