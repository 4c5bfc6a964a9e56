-- A new table keeps what every table keeps.
use Rattle.active_segs.proofs.Prelude.{AreNullTables, Bool, Entry, IsKept, List, None, Null, Option, Pairs, Ptw, [], all_same, ap, append_assoc, arith, both_ways, cond, count_by, entry_at, false, first_of, get_or-append_right, get_or-map, get_or-replicate, get_or_append_left, in_use, is_some, length, length-map, length-replicate, length_of_four, map, map_of, none-some, null_tables, place_of, refl, replicate, size_of, suc, sum, sum_by-cons, superior_at, superior_in, sym, table_at, true, uid_at, uid_in, zero, zeros_read, ℕ, ◌++◌, ◌+◌, ◌-◌, ◌<◌, ◌∙◌, ◌∷◌, ◌≡◌, ◌≤◌}
use Rattle.active_segs.proofs.PlaceLemmas.{first_more}

none_used : (n : ℕ) → count_by is_some (replicate n (let none : Option Entry = None in none)) ≡ 0
none_used zero = refl
none_used (suc n) =
    let none = None in
    omega (arith, none_used n, sum_by-cons (λ (x : Option Entry). cond {A = ℕ} (is_some x) 1 0) none (replicate n none))

new_map : (sizes : List ℕ) (pool : ℕ) → pool < length sizes → map_of (map (λ size. replicate size false) sizes) pool
    ≡ replicate (size_of sizes pool) false
new_map sizes pool lt = get_or-map (λ size. replicate size false) sizes pool 0 [] lt

pub kept_new : (sizes : List ℕ) (used : List (List Bool))
    (xs : List (Option Entry)) (tables : List (List Ptw)) (maps : List (List Bool)) (index : Pairs) → length sizes ≡ 4
    → sum sizes ≤ 1024 → used ≡ map (λ size. replicate size false) sizes → xs ≡ replicate (sum sizes) None
    → tables ≡ null_tables sizes → maps ≡ replicate (sum sizes) (replicate (sum sizes) true)
    → index.pairs ≡ [] → index.room ≡ sum sizes → IsKept sizes (0 ∷ 0 ∷ 0 ∷ 0 ∷ []) used xs tables maps index
kept_new sizes used xs tables maps index four few is_used is_xs is_tables is_maps empty room =
    let free : (q : ℕ) → entry_at xs q ≡ None = λ q. ap (λ (l : List (Option Entry)). entry_at l q) is_xs
    ∙ all_same (sum sizes) q None in
    let no_uid : (q : ℕ) → uid_at xs q ≡ None = λ q. ap uid_in (free q) in
    let no_superior : (q : ℕ) → superior_at xs q ≡ None = λ q. ap superior_in (free q) in
    let size : length xs ≡ sum sizes = ap length is_xs ∙ length-replicate (sum sizes) None in
    let full : (place : ℕ) → place < sum sizes → map_of maps place ≡ replicate (sum sizes) true =
    λ place lt. ap (λ (l : List (List Bool)). map_of l place) is_maps
    ∙ get_or-replicate (sum sizes) place (replicate (sum sizes) true) [] lt in
    let marks : (pool : ℕ) → pool < 4 → map_of used pool ≡ replicate (size_of sizes pool) false =
    λ pool lt. ap (λ (l : List (List Bool)). map_of l pool) is_used ∙ new_map sizes pool (omega arith) in
    record {
      pools =
          record {
            four = four;
            few = few;
            hand_count = refl;
            inside = λ pool lt some. omega (arith, zeros_read 4 pool);
          };
      entry_count = ap length is_xs ∙ length-replicate (sum sizes) None;
      table_count = ap length is_tables ∙ length_of_four (replicate 4 Null) (replicate 16 Null) (replicate 64 Null)
          (replicate 256 Null) sizes four;
      marked = record {
        maps = ap length is_used ∙ length-map sizes (λ size. replicate size false) ∙ four;
        as_long = λ pool lt. ap length (marks pool lt) ∙ length-replicate (size_of sizes pool) false;
        flags = λ pool offset lt within. ap (λ (m : List Bool). in_use m offset) (marks pool lt) ∙ get_or-replicate
            (size_of sizes pool) offset false false within ∙ sym (ap is_some (free (first_of sizes pool + offset)));
      };
      inferior_maps = record {
        maps = ap length is_maps ∙ length-replicate (sum sizes) (replicate (sum sizes) true) ∙ sym size;
        as_long = λ place lt. ap length (full place (omega arith)) ∙ length-replicate (sum sizes) true ∙ sym size;
        free = λ place q lt lt_q. (
          λ h. absurd (both_ways _ h (ap (λ (m : List Bool). in_use m q) (full place (omega arith))
              ∙ get_or-replicate (sum sizes) q true false (omega arith))),
          λ h. absurd (none-some h.0 (sym (no_uid place) ∙ h.1)),
        );
      };
      indexed = record {
        places = λ q uid. (
          λ h. absurd (none-some q (sym (ap (λ (l : List (ℕ × ℕ)). place_of l uid) empty) ∙ h)),
          λ h. absurd (none-some uid (sym (no_uid q) ∙ h)),
        );
        count = ap length empty ∙ sym (ap (count_by is_some) is_xs ∙ none_used (sum sizes));
        room = room ∙ sym (ap length is_xs ∙ length-replicate (sum sizes) None);
      };
      tree = record {
        once = λ p q uid h k. absurd (none-some uid (sym (no_uid p) ∙ h));
        superiors = λ q s h. absurd (none-some s (sym (no_superior q) ∙ h));
        grounded = ((λ u. 0), λ q u s h k. absurd (none-some u (sym (no_uid q) ∙ h)));
      };
    }

-- ---- the tables of each pool

of_these : (n : ℕ) (table : List Ptw) (rest : List (List Ptw)) (i : ℕ) → i < n → table_at (replicate n table ++ rest) i
    ≡ table
of_these n table rest i lt =
    let size : length (replicate n table) ≡ n = length-replicate n table in get_or_append_left (replicate n table) rest
    [] i (omega arith) ∙ get_or-replicate n i table [] lt

of_the_rest : (n : ℕ) (table : List Ptw) (rest : List (List Ptw)) (i : ℕ) → n ≤ i
    → table_at (replicate n table ++ rest) i ≡ table_at rest (i - n)
of_the_rest n table rest i le =
    let size : length (replicate n table) ≡ n = length-replicate n table in get_or-append_right (replicate n table)
    rest i [] (omega arith) ∙ ap (λ (k : ℕ). table_at rest (i - k)) size

module _ (sizes : List ℕ) (four : length sizes ≡ 4) where
  abbrev blank : ℕ → List Ptw
  blank words = replicate words Null

  abbrev last : List (List Ptw)
  last = replicate (size_of sizes 3) (blank 256)

  abbrev last_two : List (List Ptw)
  last_two = replicate (size_of sizes 2) (blank 64) ++ last

  abbrev last_three : List (List Ptw)
  last_three = replicate (size_of sizes 1) (blank 16) ++ last_two

  regrouped : null_tables sizes ≡ replicate (size_of sizes 0) (blank 4) ++ last_three
  regrouped = append_assoc (replicate (size_of sizes 0) (blank 4) ++ replicate (size_of sizes 1) (blank 16))
      (replicate (size_of sizes 2) (blank 64)) last
      ∙ append_assoc (replicate (size_of sizes 0) (blank 4)) (replicate (size_of sizes 1) (blank 16)) last_two

  past_first : (place : ℕ) → first_of sizes 1 ≤ place → table_at (null_tables sizes) place
      ≡ table_at last_three (place - first_of sizes 1)
  past_first place le =
      let a : first_of sizes 1 ≡ first_of sizes 0 + size_of sizes 0 = first_more sizes 0 (omega arith) in
      let none : first_of sizes 0 ≡ 0 = refl in
      let n : size_of sizes 0 ≡ first_of sizes 1 = omega arith in
      ap (λ (tables : List (List Ptw)). table_at tables place) regrouped ∙ of_the_rest
      (size_of sizes 0) (blank 4) last_three place (omega arith) ∙ ap (λ (k : ℕ). table_at last_three (place - k)) n

  -- past a pool come the tables of the next
  past : (pool words : ℕ) (rest : List (List Ptw)) (place : ℕ) → pool < 4 → first_of sizes (suc pool) ≤ place
      → (first_of sizes pool ≤ place → table_at (null_tables sizes) place
      ≡ table_at (replicate (size_of sizes pool) (blank words) ++ rest) (place - first_of sizes pool))
      → table_at (null_tables sizes) place ≡ table_at rest (place - first_of sizes (suc pool))
  past pool words rest place lt le here =
      let next = first_more sizes pool (omega arith) in
      let n : place - first_of sizes pool - size_of sizes pool ≡ place - first_of sizes (suc pool) = omega arith in
      here (omega arith) ∙ of_the_rest (size_of sizes pool) (blank words) rest (place - first_of sizes pool)
      (omega arith) ∙ ap (table_at rest) n

  past_second : (place : ℕ) → first_of sizes 2 ≤ place → table_at (null_tables sizes) place
      ≡ table_at last_two (place - first_of sizes 2)
  past_second place le = past 1 16 last_two place (omega arith) le (past_first place)

  past_third : (place : ℕ) → first_of sizes 3 ≤ place → table_at (null_tables sizes) place
      ≡ table_at last (place - first_of sizes 3)
  past_third place le = past 2 64 last place (omega arith) le (past_second place)

  pub are_null : AreNullTables sizes (null_tables sizes)
  are_null zero place lt in_pool =
      let none : first_of sizes 0 ≡ 0 = refl in
      ap (λ (tables : List (List Ptw)). table_at tables place) regrouped
      ∙ of_these (size_of sizes 0) (blank 4) last_three place (omega (arith, in_pool.to))
  are_null (suc zero) place lt in_pool =
      past_first place in_pool.from
      ∙ of_these (size_of sizes 1) (blank 16) last_two (place - first_of sizes 1) (omega (arith, in_pool.to))
  are_null (suc (suc zero)) place lt in_pool =
      past_second place in_pool.from
      ∙ of_these (size_of sizes 2) (blank 64) last (place - first_of sizes 2) (omega (arith, in_pool.to))
  are_null (suc (suc (suc zero))) place lt in_pool =
      past_third place in_pool.from
      ∙ get_or-replicate (size_of sizes 3) (place - first_of sizes 3) (blank 256) [] (omega (arith, in_pool.to))
  are_null (suc (suc (suc (suc pool)))) place lt in_pool = absurd (omega arith)
