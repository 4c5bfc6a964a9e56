-- The command that a process comes to: its numbers are in their ranges.
use Rattle.machine_tables.proofs.Prelude.{◌≡◌, ◌<◌, ℕ, true, length, Option, Some, None, arith, refl, ap, sym, ◌∙◌, IfSome, and_parts, nat_tests, IsPlan, is_command, is_place, Plan, command_at, reference_of, Command, Reference, refers, command_planned, Command as command}

-- the number of a reference is one of 256
small_in : (n offset : ℕ) (x r : Reference) → is_place n offset ≡ true → x.number ≡ n → Some x ≡ Some r → r.number < 256
small_in n offset x r place is e = grind (arith, and_parts)

pub number_small : (volumes : ℕ) (c : Command) (r : Reference) → is_command volumes c ≡ true
    → reference_of c ≡ Some r → r.number < 256
unfolding is_command
number_small volumes c r h1 h2 = grind (arith, small_in, and_parts)

pub number_ended : (volumes : ℕ) (c : Command) (n : ℕ) → c ≡ command.Terminate n → is_command volumes c ≡ true → n < 256
unfolding is_command
number_ended volumes c n is ranges = grind (arith, sym (ap (is_command volumes) is) ∙ ranges, nat_tests)

by_command : (p : Plan) (k place : ℕ) (o : Option Command) → IsPlan p → command_at p k place ≡ o
    → IfSome (refers o) (λ r. r.number < 256)
by_command p k place None plan at = tt
by_command p k place (Some c) plan at = by (reference_of c) refl
  where
    by : (x : Option Reference) → reference_of c ≡ x → IfSome x (λ r. r.number < 256)
    by None e = tt
    by (Some r) e = number_small (length p.volumes) c r (command_planned p k place c plan at) e

pub next_number : (p : Plan) (k place : ℕ) (x : Option Reference) → IsPlan p → x ≡ refers (command_at p k place)
    → IfSome x (λ r. r.number < 256)
next_number p k place x plan is = rw is (by_command p k place (command_at p k place) plan refl)

pub ranges_of : (p now : Plan) (k place : ℕ) → now ≡ p → IsPlan p → (c : Command) → command_at now k place ≡ Some c
    → is_command (length p.volumes) c ≡ true
ranges_of p now k place same plan c at = grind (arith, command_planned)

-- what follows from a fact about what is there
pub if_some_then : {X : Type 0} {P Q : X → Type 0} (o : Option X) → ((x : X) → P x → Q x) → IfSome o P → IfSome o Q
if_some_then o h1 h2 = grind arith
