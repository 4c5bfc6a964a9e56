use Rattle.volumes.proofs.Prelude.{Bool, FailLine, IsOneMore, List, Rose, [], ap, arith, below_or_past, beq, cond, counted, eqb, eqb_tells, false, inl, inr, le-ltb, length, list_any, lt-ltb, named_calls, names, names_next, or_parts, refl, suc, sym, true, zero, ℕ, ◌&&◌, ◌+◌, ◌<◌, ◌^◌, ◌||◌, ◌∙◌, ◌∷◌, ◌≡◌, ◌≢◌, ◌≤◌, ◌⊎◌}

-- one call more, counted to 2 ^ 64 - 1
pub named_more : (lines : List FailLine) (write : Bool) (n : ℕ) → n < 2 ^ 64
    → named_calls lines write (counted n) ≡ named_calls lines write n + cond (names_next lines write n) 1 0
unfolding named_calls
named_more lines write n fits = elim (below_or_past n 18446744073709551615) [
  | inl lt ↦ (let step : counted n ≡ suc n = omega arith in let next : n + 1 ≡ suc n = omega arith in
      rw (step, lt-ltb n 18446744073709551615 lt, next) refl)
  | inr past ↦ (let stays : counted n ≡ n = omega arith in
      let none : named_calls lines write n ≡ named_calls lines write n + 0 = omega arith in
      rw (stays, le-ltb n 18446744073709551615 past) none)
]

-- the calls that the lines name are at most those that the first names and those that the rest names
either : (p q : Bool) → cond {A = ℕ} (p || q) 1 0 ≤ cond {A = ℕ} (p || false) 1 0 + cond {A = ℕ} q 1 0
either true true = omega arith
either true false = omega arith
either false true = omega arith
either false false = omega arith

named_split : (line : FailLine) (lines : List FailLine) (write : Bool) (n : ℕ)
    → named_calls (line ∷ lines) write n ≤ named_calls (line ∷ []) write n + named_calls lines write n
unfolding named_calls
named_split line lines write zero = omega arith
named_split line lines write (suc n) =
    let one = either (names write (suc n) line) (list_any (names write (suc n)) lines) in
    omega (arith, named_split line lines write n, one)

pub named_none : (write : Bool) (n : ℕ) → named_calls [] write n ≡ 0
unfolding named_calls
named_none write zero = refl
named_none write (suc n) = let ih = named_none write n in omega (arith, ih)

-- a line that isn't onward names one call of its kind, and none of the other
names_at : (line : FailLine) (write : Bool) (n : ℕ) {k z : Bool} → line.onward ≡ false → beq line.write write ≡ k
    → eqb line.number n ≡ z → cond {A = ℕ} (names write n line || false) 1 0 ≡ cond {A = ℕ} (k && z) 1 0
names_at line write n {k} {z = false} single kind number = rw (kind, single, number) (none k)
  where
    none : (b : Bool) → cond {A = ℕ} ((b && false) || false) 1 0 ≡ cond {A = ℕ} (b && false) 1 0
    none true = refl
    none false = refl
names_at line write n {k} {z = true} single kind number = rw (kind, single, number) (some k)
  where
    some : (b : Bool) → cond {A = ℕ} ((b && true) || false) 1 0 ≡ cond {A = ℕ} (b && true) 1 0
    some true = refl
    some false = refl

-- a line of one kind, that isn't onward, names at most the call of its number
record NamesOne (line : FailLine) (write : Bool) (n : ℕ) : Type 0 where
  most : named_calls (line ∷ []) write n ≤ 1
  early : n < line.number → named_calls (line ∷ []) write n ≡ 0

named_one : (line : FailLine) (write : Bool) (n : ℕ) → line.onward ≡ false → NamesOne line write n
unfolding named_calls
named_one line write zero single = record { most = omega arith; early = λ lt. refl }
named_one line write (suc n) single = go (eqb_tells line.number (suc n)) (beq line.write write) refl
    (named_one line write n single)
  where
    go : ((eqb line.number (suc n) ≡ true) × (line.number ≡ suc n)) ⊎ ((eqb line.number (suc n) ≡ false) × (line.number
        ≢ suc n)) → (k : Bool) → beq line.write write ≡ k → NamesOne line write n → NamesOne line write (suc n)
    go (inl h) true kind ih = let add = names_at line write (suc n) {k = true} {z = true} single kind h.0 in
        let zero_before = ih.early (omega (arith, h.1)) in
        record { most = omega (arith, add, zero_before); early = λ lt. absurd (omega (arith, h.1)) }
    go (inl h) false kind ih = let add = names_at line write (suc n) {k = false} {z = true} single kind h.0 in
        let zero_before = ih.early (omega (arith, h.1)) in
        record { most = omega (arith, add, zero_before); early = λ lt. absurd (omega (arith, h.1)) }
    go (inr h) true kind ih = let add = names_at line write (suc n) {k = true} {z = false} single kind h.0 in
        record {
          most = omega (arith, add, ih.most);
          early = λ lt. (let zero_before = ih.early (omega arith) in omega (arith, add, zero_before));
        }
    go (inr h) false kind ih = let add = names_at line write (suc n) {k = false} {z = false} single kind h.0 in
        record {
          most = omega (arith, add, ih.most);
          early = λ lt. (let zero_before = ih.early (omega arith) in omega (arith, add, zero_before));
        }

-- and none of the other kind
names_other : (line : FailLine) (write : Bool) (n : ℕ) → beq line.write write ≡ false
    → cond {A = ℕ} (names write n line || false) 1 0 ≡ 0
names_other line write n kind = rw kind refl

named_other : (line : FailLine) (write : Bool) (n : ℕ) → beq line.write write ≡ false → named_calls (line ∷ []) write n
    ≡ 0
unfolding named_calls
named_other line write zero kind = refl
named_other line write (suc n) kind = omega (arith, named_other line write n kind, names_other line write (suc n) kind)

one_line : (line : FailLine) (a b : ℕ) → line.onward ≡ false
    → named_calls (line ∷ []) false a + named_calls (line ∷ []) true b ≤ 1
one_line line a b single = by_kind line.write refl
  where
    by_kind : (k : Bool) → line.write ≡ k → named_calls (line ∷ []) false a + named_calls (line ∷ []) true b ≤ 1
    by_kind true kind = let none = named_other line false a (rw kind refl) in let one =
        (named_one line true b single).most in omega (arith, none, one)
    by_kind false kind = let none = named_other line true b (rw kind refl) in let one =
        (named_one line false a single).most in omega (arith, none, one)

-- without an onward line the lines name at most as many calls as they are
pub few_faults : (lines : List FailLine) (a b : ℕ) → list_any (λ line. line.onward) lines ≡ false
    → named_calls lines false a + named_calls lines true b ≤ length lines
few_faults [] a b none = let x = named_none false a in let y = named_none true b in omega (arith, x, y)
few_faults (line ∷ lines) a b none =
    let parts = or_parts line.onward (list_any (λ (line : FailLine). line.onward) lines) none in
    let rest = few_faults lines a b parts.1 in
    let first = one_line line a b parts.0 in
    omega (arith, rest, first, named_split line lines false a, named_split line lines true b)

-- a call that a line names raises the count of faults, and no call lowers it
pub rose_next : (lines : List FailLine) (write : Bool) (n now other : ℕ) → n < 2 ^ 64 → now ≡ counted n
    → names_next lines write n ≡ true → Rose (named_calls lines write n + other) (named_calls lines write now + other)
rose_next lines write n now other fits is named =
    let more : named_calls lines write (counted n) ≡ named_calls lines write n + 1 = named_more lines write n fits
    ∙ rw named refl in
    rw is (omega (arith, more))

-- it raises it by one, and a call that no line names leaves it
pub once_next : (lines : List FailLine) (write : Bool) (n now : ℕ) → n < 2 ^ 64 → now ≡ counted n
    → names_next lines write n ≡ true → named_calls lines write now ≡ named_calls lines write n + 1
once_next lines write n now fits is named = rw is (named_more lines write n fits ∙ rw named refl)

pub same_next : (lines : List FailLine) (write : Bool) (n now : ℕ) → n < 2 ^ 64 → now ≡ counted n
    → names_next lines write n ≡ false → named_calls lines write now ≡ named_calls lines write n
same_next lines write n now fits is unnamed =
    let more : named_calls lines write (counted n) ≡ named_calls lines write n + 0 = named_more lines write n fits
    ∙ rw unnamed refl in
    rw is (omega (arith, more))

pub grows_next : (lines : List FailLine) (write : Bool) (n now : ℕ) → n < 2 ^ 64 → now ≡ counted n
    → named_calls lines write n ≤ named_calls lines write now
grows_next lines write n now fits is = rw is (omega (arith, named_more lines write n fits))

-- the same of a drive in core, in the terms in which a call's steps give it
pub read_rose : (lines fs : List FailLine) (reads writes now : ℕ) → reads < 2 ^ 64 → now ≡ counted reads → fs ≡ lines
    → true ≡ names_next fs false reads → Rose (named_calls lines false reads + named_calls lines true writes)
    (named_calls lines false now + named_calls lines true writes)
read_rose lines fs reads writes now fits is same named =
    rose_next lines false reads now (named_calls lines true writes) fits is
    (ap (λ (ls : List FailLine). names_next ls false reads) (sym same) ∙ sym named)

pub read_grows : (lines : List FailLine) (reads writes now : ℕ) → reads < 2 ^ 64 → now ≡ counted reads → named_calls
    lines false reads + named_calls lines true writes ≤ named_calls lines false now + named_calls lines true writes
read_grows lines reads writes now fits is = let more = grows_next lines false reads now fits is in omega (arith, more)

pub write_rose : (lines fs : List FailLine) (reads writes now : ℕ) → writes < 2 ^ 64 → now ≡ counted writes → fs
    ≡ lines → true ≡ names_next fs true writes → Rose (named_calls lines false reads + named_calls lines true writes)
    (named_calls lines false reads + named_calls lines true now)
write_rose lines fs reads writes now fits is same named =
    let rose = rose_next lines true writes now (named_calls lines false reads) fits is
    (ap (λ (ls : List FailLine). names_next ls true writes) (sym same) ∙ sym named) in
    omega (arith, rose)

pub write_grows : (lines : List FailLine) (reads writes now : ℕ) → writes < 2 ^ 64 → now ≡ counted writes → named_calls
    lines false reads + named_calls lines true writes ≤ named_calls lines false reads + named_calls lines true now
write_grows lines reads writes now fits is = let more = grows_next lines true writes now fits is in omega (arith, more)

pub read_once : (lines fs : List FailLine) (reads writes now : ℕ) → reads < 2 ^ 64 → now ≡ counted reads → fs ≡ lines
    → true ≡ names_next fs false reads → IsOneMore (named_calls lines false reads + named_calls lines true writes)
    (named_calls lines false now + named_calls lines true writes)
read_once lines fs reads writes now fits is same named = λ low. (let one = once_next lines false reads now fits is
    (ap (λ (ls : List FailLine). names_next ls false reads) (sym same) ∙ sym named) in
    omega (arith, one))

pub read_same : (lines fs : List FailLine) (reads writes now : ℕ) → reads < 2 ^ 64 → now ≡ counted reads
    → fs ≡ lines → false ≡ names_next fs false reads → named_calls lines false now + named_calls lines true writes
    ≡ named_calls lines false reads + named_calls lines true writes
read_same lines fs reads writes now fits is same unnamed =
    let stays = same_next lines false reads now fits is
    (ap (λ (ls : List FailLine). names_next ls false reads) (sym same) ∙ sym unnamed) in
    omega (arith, stays)

pub write_once : (lines fs : List FailLine) (reads writes now : ℕ) → writes < 2 ^ 64 → now ≡ counted writes → fs ≡ lines
    → true ≡ names_next fs true writes → IsOneMore (named_calls lines false reads + named_calls lines true writes)
    (named_calls lines false reads + named_calls lines true now)
write_once lines fs reads writes now fits is same named = λ low. (let one = once_next lines true writes now fits is
    (ap (λ (ls : List FailLine). names_next ls true writes) (sym same) ∙ sym named) in
    omega (arith, one))

pub write_same : (lines fs : List FailLine) (reads writes now : ℕ) → writes < 2 ^ 64 → now ≡ counted writes
    → fs ≡ lines → false ≡ names_next fs true writes → named_calls lines false reads + named_calls lines true now
    ≡ named_calls lines false reads + named_calls lines true writes
write_same lines fs reads writes now fits is same unnamed =
    let stays = same_next lines true writes now fits is
    (ap (λ (ls : List FailLine). names_next ls true writes) (sym same) ∙ sym unnamed) in
    omega (arith, stays)

-- what a call of a drive in core tells of its faults
pub ruleset read_faults = (few_faults, read_rose, read_grows, read_once, read_same)

pub ruleset write_faults = (few_faults, write_rose, write_grows, write_once, write_same)
