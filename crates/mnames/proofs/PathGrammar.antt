-- Which texts paths begin with.
use Rattle.mnames.proofs.Prelude.{◌≡◌, ◌≢◌, ◌⊎◌, inl, inr, ℕ, zero, suc, ◌+◌, ◌-◌, ◌*◌, ◌<◌, ◌≤◌, true, false, List, [], ◌∷◌, ◌++◌, length, take, drop, get_or, drop-cons, append_assoc, refl, sym, ap, subst, ◌∙◌, arith, list_all, AllByRecursion, cases_eq, nat_tests, common_steps, append-nil, length-append, take_more, list_all-append, take-append-add, is_name, is_name_byte, IsName, IsShort, names_text, path_text, IsPath, BeginsPath, IsLongestStart, IsAtSign, IsRun, IsStuck, IsNoPath}
use Rattle.mnames.proofs.ShortTexts.{name_is_short}

name_bytes : (x : List ℕ) → IsName x → list_all is_name_byte x ≡ true
unfolding is_name
name_bytes x h = grind (arith, nat_tests)

name_short : (x : List ℕ) → IsName x → length x ≤ 32
unfolding is_name
name_short x h = grind (arith, nat_tests)

name_long : (x : List ℕ) → IsName x → 1 ≤ length x
unfolding is_name
name_long x h = grind (arith, nat_tests)

pub run_is_name : (x : List ℕ) → 1 ≤ length x → length x ≤ 32 → list_all is_name_byte x ≡ true → IsName x
unfolding is_name
run_is_name x low high h = grind (arith, nat_tests)

one_letter : IsName (97 ∷ [])
unfolding is_name
one_letter = refl

sign_is_none : (b : ℕ) → b ≡ 62 → is_name_byte b ≡ true → ⊥
sign_is_none b e h = grind (arith, nat_tests)

first_byte : (b : ℕ) (bs : List ℕ) → list_all is_name_byte (b ∷ bs) ≡ true → is_name_byte b ≡ true
first_byte b bs h = grind (arith, nat_tests)

later_bytes : (b : ℕ) (bs : List ℕ) → list_all is_name_byte (b ∷ bs) ≡ true → list_all is_name_byte bs ≡ true
later_bytes b bs h = grind (arith, nat_tests)

-- ---- where the first name of a text ends

-- before a sign
split_name : (x c : List ℕ) (xs : List (List ℕ)) (s : List ℕ) → list_all is_name_byte x ≡ true
    → list_all is_name_byte c ≡ true → x ++ names_text xs ≡ c ++ (62 ∷ s) → (x ≡ c) × (names_text xs ≡ 62 ∷ s)
split_name [] [] xs s hx hc h = (refl, h)
split_name [] (c ∷ cs) [] s hx hc h = absurd (cc)
split_name [] (c ∷ cs) (y ∷ ys) s hx hc h = absurd (sign_is_none c (cc) (first_byte c cs hc))
split_name (x ∷ xs) [] ys s hx hc h = absurd (sign_is_none x (cc) (first_byte x xs hx))
split_name (x ∷ xs) (c ∷ cs) ys s hx hc h =
    let both = split_name xs cs ys s (later_bytes x xs hx) (later_bytes c cs hc) (cc) in
    (cc, both.1)

-- not before another byte
goes_past : (x c : List ℕ) (xs : List (List ℕ)) (b : ℕ) (s : List ℕ) → list_all is_name_byte x ≡ true
    → list_all is_name_byte c ≡ true → b ≢ 62 → x ++ names_text xs ≡ c ++ (b ∷ s) → (is_name_byte b ≡ true)
    × (length c < length x)
goes_past [] [] [] b s hx hc ne h = absurd (cc)
goes_past [] [] (y ∷ ys) b s hx hc ne h = absurd (ne (cc))
goes_past [] (c ∷ cs) [] b s hx hc ne h = absurd (cc)
goes_past [] (c ∷ cs) (y ∷ ys) b s hx hc ne h = absurd (sign_is_none c (cc) (first_byte c cs hc))
goes_past (x ∷ xs) [] ys b s hx hc ne h = grind (arith, nat_tests, common_steps, first_byte)
goes_past (x ∷ xs) (c ∷ cs) ys b s hx hc ne h =
    let both = goes_past xs cs ys b s (later_bytes x xs hx) (later_bytes c cs hc) ne (cc) in
    (both.0, omega arith)

-- a name has a first byte
begins_name : (x : List ℕ) (xs : List (List ℕ)) (b : ℕ) (s : List ℕ) → IsName x → x ++ names_text xs ≡ b ∷ s
    → is_name_byte b ≡ true
begins_name [] xs b s h e = absurd (omega (arith, name_long [] h))
begins_name (x ∷ xs) ys b s h e =
    let heads : x ≡ b = cc in
    subst (λ (n : ℕ). is_name_byte n ≡ true) heads (first_byte x xs (name_bytes (x ∷ xs) h))

names_same : (xs ys : List (List ℕ)) → AllByRecursion IsName xs → AllByRecursion IsName ys → names_text xs
    ≡ names_text ys → xs ≡ ys
names_same [] [] hx hy h = refl
names_same [] (y ∷ ys) hx hy h = absurd (cc)
names_same (x ∷ xs) [] hx hy h = absurd (cc)
names_same (x ∷ []) (y ∷ []) hx hy h = cc (append-nil x, append-nil y)
names_same (x ∷ xs) (y ∷ z ∷ zs) hx hy h =
    let both = split_name x y xs (z ++ names_text zs) (name_bytes x hx.0) (name_bytes y hy.0) (cc) in
    cc (names_same xs (z ∷ zs) hx.1 hy.1 both.1)
names_same (x ∷ z ∷ zs) (y ∷ []) hx hy h =
    let both = split_name y x [] (z ++ names_text zs) (name_bytes y hy.0) (name_bytes x hx.0) (cc) in
    absurd (let nothing : [] ≡ names_text (z ∷ zs) = both.1 in cc)

-- ---- the longest front with which some names begin

-- at most m names begin with this text
abbrev Begins : ℕ → List ℕ → Type 0
Begins m text = (names : List (List ℕ)) × (more : List ℕ) × (length names ≤ m) × AllByRecursion IsName names
    × (names_text names ≡ text ++ more)

record Longest (m : ℕ) (text : List ℕ) (k : ℕ) : Type 0 where
  within : k ≤ length text
  begins : Begins m (take k text)
  longest : (n : ℕ) → k < n → n ≤ length text → Begins m (take n text) → ⊥

none_more : (text : List ℕ) → Longest 0 (62 ∷ text) 0
none_more text = grind (arith, nat_tests, common_steps)

-- the byte at a place of a longer front
cut : (text : List ℕ) (n k : ℕ) → n < k → k ≤ length text → (rest : List ℕ)
    × (take k text ≡ take n text ++ (get_or text n 0 ∷ rest))
cut [] n k lt le = absurd (omega arith)
cut (b ∷ bs) n zero lt le = absurd (omega arith)
cut (b ∷ bs) zero (suc k) lt le = (take k bs, refl)
cut (b ∷ bs) (suc n) (suc k) lt le =
    let rest = cut bs n k (omega arith) (omega arith) in (rest.0, cc (rest.1))

-- no name begins past a front that is stuck
stuck_name : (text : List ℕ) (n k : ℕ) (x : List ℕ) (xs : List (List ℕ)) (more : List ℕ) → IsStuck text n → n < k
    → k ≤ length text → IsName x → x ++ names_text xs ≡ take k text ++ more → ⊥
stuck_name text n k x xs more h lt le name e = chosen (cases_eq n 0)
  where
    after : List ℕ
    after = (cut text n k lt le).0

    bytes : x ++ names_text xs ≡ take n text ++ (get_or text n 0 ∷ (after ++ more))
    bytes = cc ((cut text n k lt le).1, append_assoc (take n text) (get_or text n 0 ∷ after) more)

    chosen : (n ≡ 0) ⊎ (n ≡ 0 → ⊥) → ⊥
    chosen (inl z) = grind (arith, nat_tests, common_steps, begins_name, after, bytes)
    chosen (inr nz) =
        let past = goes_past x (take n text) xs (get_or text n 0) (after ++ more) (name_bytes x name) h.run.each
        (h.other nz) bytes in
        let long : length (take n text) ≡ n = grind (arith, common_steps) in
        let few = name_short x name in
        cc (past.0, h.run.stop (omega arith) (omega arith))

stuck_longest : (m : ℕ) (text : List ℕ) (n : ℕ) → IsStuck text n → Longest (suc m) (62 ∷ text) (suc n)
stuck_longest m text n h = record {
  within = omega arith;
  begins = start (cases_eq n 0);
  longest = over;
}
  where
    start : (n ≡ 0) ⊎ (n ≡ 0 → ⊥) → Begins (suc m) (62 ∷ take n text)
    start (inl z) =
        ((97 ∷ []) ∷ [], 97 ∷ [], omega arith, (one_letter, tt), cc)
    start (inr nz) =
        let long : length (take n text) ≡ n = grind (arith, common_steps, h.run.within) in
        let name : IsName (take n text) = run_is_name (take n text) (omega arith) (omega arith) h.run.each in
        (take n text ∷ [], [], omega arith, (name, tt), refl)

    none : (k : ℕ) → n < k → k ≤ length text → Begins (suc m) (62 ∷ take k text) → ⊥
    none k lt le ([], more, few, each, e) = cc
    none k lt le (x ∷ xs, more, few, each, e) = stuck_name text n k x xs more h lt le each.0 (cc)

    over : (k : ℕ) → suc n < k → k ≤ length (62 ∷ text) → Begins (suc m) (take k (62 ∷ text)) → ⊥
    over zero lt le b = omega arith
    over (suc k) lt le b = none k (omega arith) (omega arith) b

-- one name before a rest that is at its sign
name_before : (m : ℕ) (x rest : List ℕ) (k : ℕ) → IsName x → IsAtSign rest → Longest m rest k
    → Longest (suc m) (62 ∷ (x ++ rest)) (suc (length x + k))
name_before m x rest k name sign h = record {
  within = omega (arith, h.within, length-append x rest);
  begins = start h.begins;
  longest = over;
}
  where
    start : Begins m (take k rest) → Begins (suc m) (62 ∷ take (length x + k) (x ++ rest))
    start (names, more, few, each, e) = (
      x ∷ names,
      more,
      omega arith,
      (name, each),
      cc (append_assoc x (take k rest) more, take-append-add x rest k),
    )

    inner : (s : List ℕ) (y : List ℕ) (ys : List (List ℕ)) (more : List ℕ) → IsName y → y ++ names_text ys ≡ x
        ++ (62 ∷ (s ++ more)) → names_text ys ≡ (62 ∷ s) ++ more
    inner s y ys more hy e = (split_name y x ys (s ++ more) (name_bytes y hy) (name_bytes x name) e).1

    none : (r : List ℕ) (j : ℕ) → IsAtSign r → Begins (suc m) (62 ∷ (x ++ take (suc j) r)) → 0 < length r
        → Begins m (take (suc j) r)
    none [] j at b lt = absurd (omega arith)
    none (c ∷ s) j at ([], more, few, each, e) lt = absurd (cc)
    none (c ∷ s) j at (y ∷ ys, more, few, each, e) lt = (
      ys,
      more,
      omega arith,
      each.1,
      cc (inner (take j s) y ys more each.0
          (cc (append_assoc x (c ∷ take j s) more))),
    )

    past : (j : ℕ) → k < j → j ≤ length rest → Begins (suc m) (62 ∷ take (length x + j) (x ++ rest)) → ⊥
    past zero lt le b = omega arith
    past (suc j) lt le b =
        h.longest (suc j) lt le (none rest j sign (rw (take-append-add x rest (suc j)) at b) (omega arith))

    over : (n : ℕ) → suc (length x + k) < n → n ≤ length (62 ∷ (x ++ rest))
        → Begins (suc m) (take n (62 ∷ (x ++ rest))) → ⊥
    over zero lt le b = omega arith
    over (suc n) lt le b =
        let same : n ≡ length x + (n - length x) = omega arith in
        past (n - length x) (omega arith) (omega (arith, length-append x rest)) (rw (← same) b)

-- so many names and bytes more, for some names
abbrev names_more : List (List ℕ) → ℕ → ℕ
names_more [] m = m
names_more (x ∷ xs) m = suc (names_more xs m)

abbrev bytes_more : List (List ℕ) → ℕ → ℕ
bytes_more [] k = k
bytes_more (x ∷ xs) k = suc (length x + bytes_more xs k)

names_more_is : (xs : List (List ℕ)) (m : ℕ) → names_more xs m ≡ length xs + m
names_more_is [] m = omega arith
names_more_is (x ∷ xs) m = omega (arith, names_more_is xs m)

bytes_more_is : (xs : List (List ℕ)) (k : ℕ) → bytes_more xs k ≡ length (names_text xs) + k
bytes_more_is [] k = omega arith
bytes_more_is (x ∷ xs) k = omega (arith, bytes_more_is xs k, length-append x (names_text xs))

at_sign : (xs : List (List ℕ)) (rest : List ℕ) → IsAtSign rest → IsAtSign (names_text xs ++ rest)
at_sign [] rest h = h
at_sign (x ∷ xs) rest h = refl

names_before : (xs : List (List ℕ)) (m : ℕ) (rest : List ℕ) (k : ℕ) → AllByRecursion IsName xs → IsAtSign rest
    → Longest m rest k → Longest (names_more xs m) (names_text xs ++ rest) (bytes_more xs k)
names_before [] m rest k each sign h = h
names_before (x ∷ xs) m rest k each sign h =
    subst (λ (t : List ℕ). Longest (suc (names_more xs m)) (62 ∷ t) (suc (length x + bytes_more xs k)))
    (sym (append_assoc x (names_text xs) rest))
    (name_before (names_more xs m) x (names_text xs ++ rest) (bytes_more xs k) each.0 (at_sign xs rest sign)
    (names_before xs m rest k each.1 sign h))

-- ---- paths

begins_path : (text : List ℕ) → Begins 9 text → BeginsPath text
begins_path [] b = ([], 62 ∷ [], record { few = omega arith; each = tt }, refl)
begins_path (c ∷ cs) ([], more, few, each, e) = absurd (cc)
begins_path (c ∷ cs) (x ∷ xs, more, few, each, e) = (x ∷ xs, more, assumption, e)

path_begins : (text : List ℕ) → BeginsPath text → Begins 9 text
path_begins text ([], more, path, e) = (
  (97 ∷ []) ∷ [],
  more ++ (97 ∷ []),
  omega arith,
  (one_letter, tt),
  cc (append_assoc text more (97 ∷ [])),
)
path_begins text (x ∷ xs, more, path, e) = (x ∷ xs, more, path.few, path.each, e)

longest_start : (text : List ℕ) (k : ℕ) → Longest 9 text k → IsLongestStart text k
longest_start text k h = record {
  within = h.within;
  begins = begins_path (take k text) h.begins;
  longest = λ n lt le b. h.longest n lt le (path_begins (take n text) b);
}

-- after some names
longest_after : (xs : List (List ℕ)) (m : ℕ) (text rest : List ℕ) (k : ℕ) → AllByRecursion IsName xs → IsAtSign rest
    → length xs + m ≡ 9 → text ≡ names_text xs ++ rest → Longest m rest k
    → IsLongestStart text (length (names_text xs) + k)
longest_after xs m text rest k each sign count same h =
    longest_start text (length (names_text xs) + k)
    (rw same (rw (names_more_is xs m ∙ count, bytes_more_is xs k) at (names_before xs m rest k each sign h)))

all_taken : (text : List ℕ) → take (length text) text ≡ text
all_taken [] = refl
all_taken (b ∷ bs) = cc (all_taken bs)

-- a text of which a path begins with less is no path
never_shorter : (text : List ℕ) (k : ℕ) → IsLongestStart text k → k < length text → (names : List (List ℕ))
    → IsPath names → text ≢ path_text names
never_shorter text k h lt names path e = h.longest (length text) lt (omega arith) (
  names,
  [],
  path,
  cc (all_taken text, append-nil (take (length text) text)),
)

short_texts : (xs : List (List ℕ)) → AllByRecursion IsName xs → length (names_text xs) ≤ 33 * length xs
short_texts [] h = omega arith
short_texts (x ∷ xs) h =
    omega (arith, short_texts xs h.1, name_short x h.0, length-append x (names_text xs))

-- the ninth name is there, and a sign follows
pub full_is_no_path : (xs : List (List ℕ)) (text after : List ℕ) → IsPath xs → 9 ≤ length xs → text ≡ names_text xs
    ++ (62 ∷ after) → IsNoPath text (length (names_text xs))
full_is_no_path xs text after path full same =
    let here : IsLongestStart text (length (names_text xs)) = subst (λ (n : ℕ). IsLongestStart text n) (omega arith)
    (longest_after xs 0 text (62 ∷ after) 0 path.each refl (omega arith) same (none_more after)) in
    let long = ap length same ∙ length-append (names_text xs) (62 ∷ after) in
    assumption (never_shorter text (length (names_text xs)) here (omega arith))

-- a name has a byte
never_nothing : (x : List ℕ) (xs : List (List ℕ)) → IsName x → x ++ names_text xs ≡ [] → ⊥
never_nothing [] xs h e = omega (arith, name_long [] h)
never_nothing (b ∷ bs) xs h e = cc

-- a sign at the end is no path, but alone
ends_at_sign : (xs ys : List (List ℕ)) → AllByRecursion IsName xs → AllByRecursion IsName ys → names_text ys
    ≡ names_text xs ++ (62 ∷ []) → ⊥
ends_at_sign [] [] hx hy e = cc
ends_at_sign [] (y ∷ ys) hx hy e = never_nothing y ys hy.0 (cc)
ends_at_sign (x ∷ xs) [] hx hy e = cc
ends_at_sign (x ∷ []) (y ∷ ys) hx hy e = ends_at_sign [] ys tt hy.1
    (split_name y x ys [] (name_bytes y hy.0) (name_bytes x hx.0) (cc (append_assoc x [] (62 ∷ [])))).1
ends_at_sign (x ∷ z ∷ zs) (y ∷ ys) hx hy e = ends_at_sign (z ∷ zs) ys hx.1 hy.1
    (split_name y x ys ((z ++ names_text zs) ++ (62 ∷ [])) (name_bytes y hy.0) (name_bytes x hx.0)
    (cc (append_assoc x (names_text (z ∷ zs)) (62 ∷ [])))).1

-- no name follows the sign
pub stuck_is_no_path : (xs : List (List ℕ)) (text after : List ℕ) (n : ℕ) → IsPath xs → length xs < 9 → 1 < length text
    → text ≡ names_text xs ++ (62 ∷ after) → IsStuck after n → IsNoPath text (length (names_text xs) + suc n)
stuck_is_no_path xs text after n path room more same h =
    record { start = start; never = never (cases_eq n (length after)) }
  where
    start : IsLongestStart text (length (names_text xs) + suc n)
    start = longest_after xs (suc (8 - length xs)) text (62 ∷ after) (suc n) path.each refl (omega (arith, room)) same
        (stuck_longest (8 - length xs) after n h)

    long : length text ≡ length (names_text xs) + length (62 ∷ after)
    long = ap length same ∙ length-append (names_text xs) (62 ∷ after)

    ended : after ≡ [] → (names : List (List ℕ)) → IsPath names → text ≢ path_text names
    ended z [] p e = omega (arith, more, ap length e)
    ended z (y ∷ ys) p e = ends_at_sign xs (y ∷ ys) path.each p.each
        (cc)

    empty : (t : List ℕ) → length t ≡ 0 → t ≡ []
    empty [] e = refl
    empty (b ∷ bs) e = absurd (omega (arith, e))

    never : (n ≡ length after) ⊎ (n ≡ length after → ⊥) → (names : List (List ℕ)) → IsPath names
        → text ≢ path_text names
    never (inl e) = ended (empty after (last (cases_eq n 0)))
      where
        last : (n ≡ 0) ⊎ (n ≡ 0 → ⊥) → length after ≡ 0
        last (inl z) = omega (arith, e, z)
        last (inr nz) = let lt : n < length after = h.inside nz in absurd (omega (arith, lt, e))
    never (inr ne) = never_shorter text (length (names_text xs) + suc n) start (omega (arith, long, h.run.within, ne))

-- a text that doesn't begin with the sign
pub unsigned_is_no_path : (text : List ℕ) → (0 < length text → get_or text 0 0 ≢ 62) → IsNoPath text 0
unsigned_is_no_path text h = grind (arith, nat_tests, common_steps)

-- ---- what the reading keeps

-- the front so far
pub record IsRunSoFar (text : List ℕ) (i : ℕ) : Type 0 where
  pub short : i ≤ 32
  pub each : list_all is_name_byte (take i text) ≡ true

pub run_more : (text : List ℕ) (i : ℕ) → IsRunSoFar text i → i < length text → i ≢ 32 → is_name_byte (get_or text i 0)
    ≡ true → IsRunSoFar text (i + 1)
run_more text i h lt ne byte = grind (arith, nat_tests, common_steps, take_more, list_all-append)

pub run_whole : (text : List ℕ) (i : ℕ) → IsRunSoFar text i → i ≤ length text
    → (i < length text → i < 32 → is_name_byte (get_or text i 0) ≡ false) → IsRun text i
run_whole text i h within stop = assumption

pub stuck_at_byte : (text rest : List ℕ) (n : ℕ) → IsRun text n → rest ≡ drop n text → 0 < length rest
    → get_or rest 0 0 ≢ 62 → IsStuck text n
stuck_at_byte text rest n h same lt ne =
    let inside : n < length text = grind (arith, common_steps, h.within, rw same at lt) in
    let at = drop-cons text n 0 inside in
    record { run = h; inside = λ nz. inside; other = λ nz e. ne (cc) }

pub stuck_at_start : (text front : List ℕ) (n : ℕ) → IsRun text n → front ≡ take n text → length front ≡ 0
    → IsStuck text 0
stuck_at_start text front n h same none =
    let long : length (take n text) ≡ n = grind (arith, common_steps, h.within) in
    let nothing : n ≡ 0 = omega (arith, ap length same) in
    record {
      run = rw (← nothing) h;
      inside = λ nz. absurd (nz refl);
      other = λ nz. absurd (nz refl);
    }

-- and where a name ends there
pub front_is_name : (text front : List ℕ) (n : ℕ) → IsRun text n → front ≡ take n text → 0 < length front → IsName front
front_is_name text front n h same some =
    let long : length (take n text) ≡ n = grind (arith, common_steps, h.within) in
    let counted = ap length same in
    subst IsName (sym same) (run_is_name (take n text) (omega arith) (omega arith) h.each)

pub front_is_short : (text front : List ℕ) (n : ℕ) → IsRun text n → front ≡ take n text → 0 < length front
    → IsShort front
front_is_short text front n h same some = name_is_short front (front_is_name text front n h same some)

-- what is read of a text, and what is left
pub record HasRead (text : List ℕ) (names : List (List ℕ)) (rest : List ℕ) : Type 0 where
  pub whole : text ≡ names_text names ++ rest
  pub path : IsPath names
  pub sign : IsAtSign rest

names_text_one_more : (xs : List (List ℕ)) (x : List ℕ) → names_text (xs ++ x ∷ []) ≡ names_text xs ++ (62 ∷ x)
names_text_one_more [] x = cc (append-nil x)
names_text_one_more (y ∷ ys) x = cc (names_text_one_more ys x, append_assoc y (names_text ys) (62 ∷ x))

each_one_more : (xs : List (List ℕ)) (x : List ℕ) → AllByRecursion IsName xs → IsName x
    → AllByRecursion IsName (xs ++ x ∷ [])
each_one_more [] x hx h = (h, tt)
each_one_more (y ∷ ys) x hx h = (hx.0, each_one_more ys x hx.1 h)

pub read_start : (text : List ℕ) → get_or text 0 0 ≡ 62 → HasRead text [] text
read_start [] e = record { whole = refl; path = record { few = omega arith; each = tt }; sign = tt }
read_start (b ∷ bs) e = record { whole = refl; path = record { few = omega arith; each = tt }; sign = e }

pub read_more : (text : List ℕ) (names : List (List ℕ)) (rest after behind name : List ℕ) (b : ℕ)
    → HasRead text names rest → rest ≡ b ∷ after → length names < 9 → IsName name → after ≡ name ++ behind
    → IsAtSign behind → HasRead text (names ++ name ∷ []) behind
read_more text names rest after behind name b h split room is_one parts sign =
    grind (arith, nat_tests, common_steps, append_assoc, names_text_one_more, length-append, each_one_more)

-- where the bytes before what is left end
pub read_length : (text : List ℕ) (names : List (List ℕ)) (rest : List ℕ) → HasRead text names rest
    → (length text ≡ length (names_text names) + length rest) × (length (names_text names) ≤ 297)
read_length text names rest h =
    (cc (length-append (names_text names) rest), omega (arith, short_texts names h.path.each, h.path.few))

pub read_whole : (text : List ℕ) (names : List (List ℕ)) (rest : List ℕ) → HasRead text names rest → 1 < length text
    → length rest ≡ 0 → text ≡ path_text names
read_whole text names (b ∷ bs) h more none = absurd (omega arith)
read_whole text [] [] h more none = absurd (omega (arith, ap length h.whole))
read_whole text (x ∷ xs) [] h more none = h.whole ∙ append-nil (names_text (x ∷ xs))

pub read_full : (text : List ℕ) (names : List (List ℕ)) (rest after : List ℕ) (b : ℕ) → HasRead text names rest → rest
    ≡ b ∷ after → 9 ≤ length names → IsNoPath text (length text - length rest)
read_full text names rest after b h split full =
    let at : b ≡ 62 = subst IsAtSign split h.sign in
    let long = (read_length text names rest h).0 in
    subst (λ (n : ℕ). IsNoPath text n) (omega arith) (full_is_no_path names text after h.path full (cc))

pub read_stuck : (text : List ℕ) (names : List (List ℕ)) (rest after : List ℕ) (b n : ℕ) → HasRead text names rest
    → rest ≡ b ∷ after → length names < 9 → 1 < length text → IsStuck after n
    → IsNoPath text (length text - length after + n)
read_stuck text names rest after b n h split room more stuck =
    let at : b ≡ 62 = subst IsAtSign split h.sign in
    let long = (read_length text names rest h).0 in
    let one = ap length split in
    subst (λ (n : ℕ). IsNoPath text n) (omega arith) (stuck_is_no_path names text after n h.path room more (cc) stuck)

-- ---- each path is read from its text

pub path_again : (text : List ℕ) (names : List (List ℕ)) → text ≡ path_text names → IsPath names → (p : List (List ℕ))
    → IsPath p → text ≡ path_text p → names ≡ p
path_again text [] e h [] hp ep = refl
path_again text [] e h (x ∷ xs) hp ep = absurd (never_nothing x xs hp.each.0 (cc))
path_again text (x ∷ xs) e h [] hp ep = absurd (never_nothing x xs h.each.0 (cc))
path_again text (x ∷ xs) e h (y ∷ ys) hp ep = names_same (x ∷ xs) (y ∷ ys) h.each hp.each (sym e ∙ ep)

-- the names above the last of a path
pub front_is_path : (names front : List (List ℕ)) (name : List ℕ) → IsPath names → names ≡ front ++ name ∷ []
    → IsPath front
front_is_path names front name h e = record {
  few = omega (arith, h.few, ap length e, length-append front (name ∷ []));
  each = each_front front (rw (← e) h.each);
}
  where
    each_front : (xs : List (List ℕ)) → AllByRecursion IsName (xs ++ name ∷ []) → AllByRecursion IsName xs
    each_front [] a = tt
    each_front (x ∷ xs) a = (a.0, each_front xs a.1)

-- what a run of bytes of a name goes by
pub ruleset run_measured = (run_more, run_whole)

-- and where it stops, and whether a name has ended there
pub ruleset name_ends = (stuck_at_byte, stuck_at_start, front_is_name, front_is_short)

-- what reading a path name by name goes by
pub ruleset path_taken = (read_start, read_more, read_length, read_whole, read_full, read_stuck)
