-- Processors that are told one after the other.
use Rattle.machine_tables.proofs.Prelude.{◌≡◌, ◌+◌, ◌<◌, ℕ, suc, zero, List, [], ◌∷◌, length, get_or, set, refl, arith, What, Processor, told_at, told_from}

-- the first n of a list are told
unfoldable pub told_first : ℕ → What → ℕ → ℕ → List Processor → List Processor
told_first c w from zero ps = ps
told_first c w from (suc n) [] = []
told_first c w from (suc n) (p ∷ ps) = told_at c w from p ∷ told_first c w (from + 1) n ps

pub none_told : (c : ℕ) (w : What) (ps : List Processor) → ps ≡ told_first c w 0 0 ps
unfolding told_first
none_told c w ps = refl

one_more : (c : ℕ) (w : What) (from n : ℕ) (ps : List Processor) (d : Processor) → n < length ps
    → set (told_first c w from n ps) n (told_at c w (from + n) (get_or (told_first c w from n ps) n d))
    ≡ told_first c w from (suc n) ps
unfolding told_first
one_more c w from n [] d lt = let z : ⊥ = omega arith in absurd z
one_more c w from zero (p ∷ ps) d lt =
    let same : from + 0 ≡ from = omega arith in cc
one_more c w from (suc n) (p ∷ ps) d lt =
    let same : from + suc n ≡ from + 1 + n = omega arith in
    let mid : List Processor = told_first c w (from + 1) n ps in
    cc (one_more c w (from + 1) n ps d (omega (arith, lt)))

pub next_told : (c : ℕ) (w : What) (n : ℕ) (ps before : List Processor) (d now : Processor) → n < length ps
    → before ≡ told_first c w 0 n ps → now ≡ told_at c w n (get_or before n d)
    → set before n now ≡ told_first c w 0 (n + 1) ps
next_told c w n ps before d now lt e told =
    let more : suc n ≡ n + 1 = omega arith in
    let same : n ≡ 0 + n = omega arith in
    let mid : List Processor = told_first c w 0 n ps in
    cc (one_more c w 0 n ps d lt)

all_told : (c : ℕ) (w : What) (from : ℕ) (ps : List Processor) → told_first c w from (length ps) ps
    ≡ told_from c w from ps
unfolding told_first
all_told c w from [] = refl
all_told c w from (p ∷ ps) = cc (all_told c w (from + 1) ps)

pub told_all : (c : ℕ) (w : What) (n : ℕ) (ps now : List Processor) → n ≡ length ps → now ≡ told_first c w 0 n ps
    → now ≡ told_from c w 0 ps
told_all c w n ps now e is = cc (all_told c w 0 ps)
