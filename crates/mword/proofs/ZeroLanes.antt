-- Vectors joined by `|` are zero in each lane exactly where each vector is.
use Rattle.mword.proofs.Prelude.{◌≡◌, ℕ, ◌+◌, ◌-◌, ◌*◌, ◌≤◌, ◌↔◌, List, [], ◌∷◌, ◌++◌, length, bit_or, IsTrue, nat_eq, refl, sym, ap, subst, ◌∙◌, arith, take, drop, AllByRecursion, bit_at, zip2, fold_l, chunk, or_zero_l, take-add, nat_tests, drop-drop, take_all, All-append, All-from_recursion, recursion_from_All, length-chunk, length-zip2, bit_at_or, bit_at-zero, same_from_bits, AreZero}

abbrev Zeros : List ℕ → Type 0
Zeros ws = AllByRecursion (λ w. w ≡ 0) ws

or_zero_left : {a : ℕ} (b : ℕ) → bit_or a b ≡ 0 → a ≡ 0
or_zero_left {a} b h = same_from_bits a 0 (λ i.
    omega (arith, bit_at_or a b i, bit_at-zero i, ap (λ x. bit_at x i) h))

or_zero_right : (a : ℕ) {b : ℕ} → bit_or a b ≡ 0 → b ≡ 0
or_zero_right a {b} h = same_from_bits b 0 (λ i.
    omega (arith, bit_at_or a b i, bit_at-zero i, ap (λ x. bit_at x i) h))

-- lane by lane
zeros_joined : (xs ys : List ℕ) → length xs ≡ length ys → Zeros (zip2 bit_or xs ys) → Zeros xs × Zeros ys
zeros_joined [] [] h z = (tt, tt)
zeros_joined [] (y ∷ ys) h z = absurd (omega arith)
zeros_joined (x ∷ xs) [] h z = absurd (omega arith)
zeros_joined (x ∷ xs) (y ∷ ys) h z =
    let r = zeros_joined xs ys (omega arith) z.1 in
    ((or_zero_left {a = x} y z.0, r.0), (or_zero_right x {b = y} z.0, r.1))

zeros_join : (xs ys : List ℕ) → Zeros xs → Zeros ys → Zeros (zip2 bit_or xs ys)
zeros_join [] ys zx zy = tt
zeros_join (x ∷ xs) [] zx zy = tt
zeros_join (x ∷ xs) (y ∷ ys) zx zy = (cc (or_zero_l 0), zeros_join xs ys zx.1 zy.1)

fold_zero : (a : ℕ) (xs : List ℕ) → fold_l bit_or a xs ≡ 0 → (a ≡ 0) × Zeros xs
fold_zero a [] h = (h, tt)
fold_zero a (x ∷ xs) h =
    let r = fold_zero (bit_or a x) xs h in (or_zero_left {a = a} x r.0, (or_zero_right a {b = x} r.0, r.1))

zero_fold : {a : ℕ} (xs : List ℕ) → a ≡ 0 → Zeros xs → fold_l bit_or a xs ≡ 0
zero_fold [] h z = h
zero_fold {a} (x ∷ xs) h z = zero_fold {a = bit_or a x} xs (cc) z.1

-- two neighbouring parts
zeros_append : (xs ys : List ℕ) → Zeros xs → Zeros ys → Zeros (xs ++ ys)
zeros_append [] ys zx zy = zy
zeros_append (x ∷ xs) ys zx zy = (zx.0, zeros_append xs ys zx.1 zy)

zeros_front : (xs ys : List ℕ) → Zeros (xs ++ ys) → Zeros xs
zeros_front [] ys z = tt
zeros_front (x ∷ xs) ys z = (z.0, zeros_front xs ys z.1)

zeros_back : (xs ys : List ℕ) → Zeros (xs ++ ys) → Zeros ys
zeros_back [] ys z = z
zeros_back (x ∷ xs) ys z = zeros_back xs ys z.1

test_zero : {x : ℕ} → IsTrue (nat_eq x 0) → x ≡ 0
test_zero t = grind (arith, nat_tests)

zero_test : {x : ℕ} → x ≡ 0 → IsTrue (nat_eq x 0)
zero_test z = grind (arith, nat_tests)

-- four neighbouring vectors
abbrev joined : List ℕ → List ℕ → List ℕ → List ℕ → List ℕ
joined a b c d = zip2 bit_or (zip2 bit_or a b) (zip2 bit_or c d)

chunk_add : (at n m : ℕ) (ws : List ℕ) → chunk at (n + m) ws ≡ chunk at n ws ++ chunk (at + n) m ws
chunk_add at n m ws = take-add n m (drop at ws) ∙ ap (λ (r : List ℕ). take n (drop at ws) ++ take m r)
    (drop-drop n at ws)

four_chunks : (at : ℕ) (ws : List ℕ) → take 32 (drop at ws) ≡ chunk at 8 ws
    ++ (chunk (at + 8) 8 ws ++ (chunk (at + 16) 8 ws ++ chunk (at + 24) 8 ws))
four_chunks at ws =
    let third : at + 8 + 8 ≡ at + 16 = omega arith in
    let fourth : at + 16 + 8 ≡ at + 24 = omega arith in
    cc (chunk_add at 8 24 ws, chunk_add (at + 8) 8 16 ws, chunk_add (at + 16) 8 8 ws)

pub zero_block : (at : ℕ) (ws : List ℕ) → at + 32 ≤ length ws
    → IsTrue (nat_eq (fold_l bit_or 0 (joined (chunk at 8 ws) (chunk (at + 8) 8 ws) (chunk (at + 16) 8 ws)
    (chunk (at + 24) 8 ws))) 0) ↔ AreZero (take 32 (drop at ws))
zero_block at ws h =
    let a : List ℕ = chunk at 8 ws in
    let b : List ℕ = chunk (at + 8) 8 ws in
    let c : List ℕ = chunk (at + 16) 8 ws in
    let d : List ℕ = chunk (at + 24) 8 ws in
    let la : length (chunk at 8 ws) ≡ 8 = length-chunk at 8 ws (omega arith) in
    let lb : length (chunk (at + 8) 8 ws) ≡ 8 = length-chunk (at + 8) 8 ws (omega arith) in
    let lc : length (chunk (at + 16) 8 ws) ≡ 8 = length-chunk (at + 16) 8 ws (omega arith) in
    let ld : length (chunk (at + 24) 8 ws) ≡ 8 = length-chunk (at + 24) 8 ws (omega arith) in
    let lab : length (zip2 bit_or a b) ≡ 8 = length-zip2 bit_or a b (la ∙ sym lb) ∙ la in
    let lcd : length (zip2 bit_or c d) ≡ 8 = length-zip2 bit_or c d (lc ∙ sym ld) ∙ lc in (
      λ t.
          let z = (fold_zero 0 (joined a b c d) (test_zero t)).1 in
          let halves = zeros_joined (zip2 bit_or a b) (zip2 bit_or c d) (cc) z in
          let front = zeros_joined a b (cc) halves.0 in
          let back = zeros_joined c d (cc) halves.1 in
          All-from_recursion (λ w. w ≡ 0) (take 32 (drop at ws)) (subst Zeros (sym (four_chunks at ws))
          (zeros_append a (b ++ (c ++ d)) front.0 (zeros_append b (c ++ d) front.1 (zeros_append c d back.0 back.1)))),
      λ z.
          let all = subst Zeros (four_chunks at ws) (recursion_from_All (λ w. w ≡ 0) (take 32 (drop at ws)) z) in
          let bcd = zeros_back a (b ++ (c ++ d)) all in
          let cd = zeros_back b (c ++ d) bcd in
          let front = zeros_join a b (zeros_front a (b ++ (c ++ d)) all) (zeros_front b (c ++ d) bcd) in
          let back = zeros_join c d (zeros_front c d cd) (zeros_back c d cd) in
          zero_test (zero_fold (joined a b c d) refl (zeros_join (zip2 bit_or a b) (zip2 bit_or c d) front back)),
    )

-- one more block, and all blocks
pub zero_blocks_more : (block : ℕ) (ws : List ℕ) → AreZero (take (32 * block) ws)
    → AreZero (take (32 * block + 32 - 32 * block) (drop (32 * block) ws)) → AreZero (take (32 * (block + 1)) ws)
zero_blocks_more block ws front here =
    let n : 32 * block + 32 - 32 * block ≡ 32 = omega arith in
    let m : 32 * (block + 1) ≡ 32 * block + 32 = omega arith in
    let here' = subst (λ (k : ℕ). AreZero (take k (drop (32 * block) ws))) n here in
    rw (m, take-add (32 * block) 32 ws) (All-append (λ w. w ≡ 0) (take (32 * block) ws)
    (take 32 (drop (32 * block) ws)) front here')

pub zero_blocks_all : (block : ℕ) (ws : List ℕ) → length ws ≡ 1024 → 32 ≤ block → AreZero (take (32 * block) ws)
    → AreZero ws
zero_blocks_all block ws size h z = subst AreZero (take_all (32 * block) ws (omega arith)) z

-- what the proof of `blocks_are_zero` is given
pub ruleset blocks_are_zero_steps = (zero_blocks_more, zero_blocks_all)
