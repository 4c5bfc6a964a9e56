-- Laws of printable lines (own).
use Rattle.script.proofs.Prelude.{◌≡◌, ℕ, ◌+◌, ◌<◌, ◌≤◌, true, false, ◌&&◌, List, [], length, refl, sym, ap, ◌∙◌, arith, Bool, get_or, take, nat_tests, common_steps, and_false, take_all, list_all_more, line_found, line_unfed, line_last, is_printable, is_printable_byte}
use Rattle.script.proofs.LaneLaws.{front_read}

pub none_printable : true ≡ is_printable []
unfolding is_printable
none_printable = refl

pub more_printable : (bs : List ℕ) (i : ℕ) → i < length bs → 32 ≤ get_or bs i 0 → get_or bs i 0 ≤ 126
    → is_printable (take (i + 1) bs) ≡ is_printable (take i bs)
unfolding is_printable
more_printable bs i lt low high =
    let here : is_printable_byte (get_or bs i 0) ≡ true = grind (arith, nat_tests) in
    list_all_more is_printable_byte bs i 0 lt ∙ rw here (and_true _)
  where
    and_true : (z : Bool) → (z && true) ≡ z
    and_true true = refl
    and_true false = refl

pub one_unprintable : (bs : List ℕ) (i : ℕ) → i < length bs → (32 ≤ get_or bs i 0 → get_or bs i 0 ≤ 126 → ⊥) → false
    ≡ is_printable (take (i + 1) bs)
unfolding is_printable
one_unprintable bs i lt out =
    let here : is_printable_byte (get_or bs i 0) ≡ false = grind (arith, nat_tests) in
    sym (list_all_more is_printable_byte bs i 0 lt ∙ rw here (and_false _))

pub stays_unprintable : (bs : List ℕ) (i : ℕ) → i < length bs → is_printable (take i bs) ≡ false
    → is_printable (take (i + 1) bs) ≡ false
unfolding is_printable
stays_unprintable bs i lt before = list_all_more is_printable_byte bs i 0 lt ∙ rw before refl

pub all_printable : (bs : List ℕ) (i : ℕ) → length bs ≤ i → is_printable (take i bs) ≡ is_printable bs
all_printable bs i end = ap is_printable (take_all i bs end)

pub whole_unprintable : (bs : List ℕ) (i : ℕ) → length bs ≤ i → is_printable (take i bs) ≡ false
    → is_printable bs ≡ false
whole_unprintable bs i end before = sym (all_printable bs i end) ∙ before

-- and the first line of a text
pub ruleset line_taken = (
  line_found,
  line_last,
  line_unfed,
  none_printable,
  more_printable,
  one_unprintable,
  stays_unprintable,
  all_printable,
  whole_unprintable,
)

-- a line is cut where the printable front of a text ends
pub ruleset line_cut_steps = (line_taken, front_read, common_steps)
