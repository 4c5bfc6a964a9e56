-- How much a job takes at the most of a segment: each of its pages, 256 at the most, and a descriptor of each process,
-- 32 at the most.
use Rattle.machine_model.proofs.Kept.{◌≡◌, ◌<◌, ◌≤◌, ℕ, Bool, true, false, cond, eqb, is_some, length, map, List, [], ◌∷◌, Option, Some, None, inl, inr, refl, sym, ap, ◌∙◌, arith, ◌+◌, ◌/◌, suc, drop, filter, position_or_len, range_with_len, get_or_past, length-range_with_len, Command, trailers_of, descriptors_taken, first_taken, frames_taken, AllByRecursion, IsDistinct, list_any, nat_le, eqb_tells, length-map, length-le_from_distinct_below, Node, node_in, pool_for, pool_of, uid_of, Ptw, Sdw, uid_at, Links, is_for, kst_at, leads, place_of, table_of, IsKnownAt, words_few, is_uid, seen, Keeps, connected_of, descriptor_of, frames_from, frames_in, is_active, is_connected, trailers_in, State, few_kept, Command as command, What as what, Ptw as ptw, Sdw as sdw, eqb_self, active_place, none_length, within_by, none_some, ArePairs, has_pair, is_pair, first_false, second_false}
use Rattle.machine_model.proofs.TakeLists.{trailers_taken}

-- ---- pages

-- at most one frame a word
pub frames_few : (ws : List Ptw) → length (frames_in ws) ≤ length ws
frames_few [] = omega arith
frames_few (ptw.Null ∷ ws) = omega (arith, frames_few ws)
frames_few (ptw.Out r ∷ ws) = omega (arith, frames_few ws)
frames_few (ptw.Here f ∷ ws) = omega (arith, frames_few ws)
frames_few (ptw.Leaving f ∷ ws) = omega (arith, frames_few ws)

pub pool_small : (n : Node) → pool_of n < 4
pool_small n = by n.directory
  where
    small : (a b d : Bool) → cond a 0 (cond b 1 (cond d 2 3)) < 4
    small true b d = omega arith
    small false true d = omega arith
    small false false true = omega arith
    small false false false = omega arith

    by : (b : Bool) → cond b 0 (pool_for n.pages) < 4
    by true = omega arith
    by false = small (nat_le n.pages 4) (nat_le n.pages 16) (nat_le n.pages 64)

module _ (s : State) (u : ℕ) (k : Keeps s) (active : is_active s.store.ast u ≡ true) where
  abbrev place : ℕ
  place = place_of s.store.ast.entries u

  its_place : uid_at s.store.ast.entries place ≡ Some u
  its_place = (active_place s.store.ast u active).1

  -- the page table of an active segment has 256 words at the most
  pub table_few : length (table_of s.store.ast u) ≤ 256
  table_few = by (node_in s.store.accounts.nodes u) refl
    where
      by : (x : Option Node) → node_in s.store.accounts.nodes u ≡ x → length (table_of s.store.ast u) ≤ 256
      by None e = cc (sym (ap is_some e) ∙ (k.store.counted.active.there place u its_place))
      by (Some n) e = rw (k.store.kept.sized (pool_of n) place (pool_small n)
          (k.store.counted.active.pools place u n its_place e)) (words_few (pool_of n) (pool_small n))

  -- so it has 256 pages at the most in frames
  pub pages_few : length (frames_from s.store.ast u 0) ≤ 256
  pages_few = omega (arith, frames_few (table_of s.store.ast u), table_few)

  -- ---- descriptors

  -- a descriptor that leads to a segment is of a number by which its process knows it
  known_as : (j n : ℕ) → (seen s).linked j n ≡ Some u → uid_of (kst_at s.store.links.known j) n ≡ Some u
  known_as j n h = by (descriptor_of s.store.links j n) refl
    where
      by : (x : Sdw) → descriptor_of s.store.links j n ≡ x → uid_of (kst_at s.store.links.known j) n ≡ Some u
      by sdw.Fault e = cc
      by (sdw.Present aste mode pages) e = cc (at.known_as, at.active)
        where
          at : IsKnownAt s.store.ast.entries s.store.links.known j n aste
          at = k.store.kept.linked.known j n aste (ap leads e)

  -- its process is one of 32
  process_small : (j n : ℕ) → (seen s).linked j n ≡ Some u → j < 32
  process_small j n h = omega (
    arith,
    (within_by s.store.links.known j [] (λ e. none_some (sym (cc) ∙ known_as j n h))),
    k.store.kept.linked.lists.few,
  )

  uid_same : (v : ℕ) → is_uid u (Some v) ≡ true → v ≡ u
  uid_same v e = elim (eqb_tells v u) [ inl y ↦ y.1 | inr n ↦ cc ]

  -- no other one of them is of the same process
  apart : (x : ℕ × ℕ) (xs : List (ℕ × ℕ)) → (seen s).linked x.0 x.1 ≡ Some u → has_pair xs x.0 x.1 ≡ false
      → ArePairs (seen s).linked (what.Seg u) xs → AllByRecursion (λ y. eqb x.0 y ≡ false) (map (λ y. y.0) xs)
  apart x [] leads_there other are = tt
  apart x (y ∷ ys) leads_there other are = (
    elim (eqb_tells x.0 y.0) [ inl e ↦ absurd (one e.1) | inr n ↦ n.0 ],
    apart x ys leads_there (second_false (is_pair x.0 x.1 y) (has_pair ys x.0 x.1) other) are.2,
  )
    where
      its : (seen s).linked y.0 y.1 ≡ Some u
      its = cc (uid_same are.0.0 are.0.2)

      one : x.0 ≡ y.0 → ⊥
      one e = elim (eqb_tells y.0 x.0) [
        | inl a ↦ elim (eqb_tells y.1 x.1) [
          | inl b ↦ (let none : true ≡ false = sym (rw (a.0, b.0) refl) ∙ first_false (is_pair x.0 x.1 y)
              (has_pair ys x.0 x.1) other in cc)
          | inr b ↦ b.1 (k.store.kept.linked.each x.0 y.1 x.1 u (cc (known_as y.0 y.1 its))
              (known_as x.0 x.1 leads_there))
        ]
        | inr a ↦ a.1 (sym e)
      ]

  distinct : (xs : List (ℕ × ℕ)) → ArePairs (seen s).linked (what.Seg u) xs → IsDistinct eqb (map (λ y. y.0) xs)
  unfolding IsDistinct
  distinct [] are = tt
  distinct (x ∷ xs) are = (apart x xs (cc (uid_same are.0.0 are.0.2)) are.1 are.2, distinct xs are.2)

  below : (xs : List (ℕ × ℕ)) → ArePairs (seen s).linked (what.Seg u) xs → (q : ℕ)
      → list_any (eqb q) (map (λ y. y.0) xs) ≡ true → q < 32
  below [] are q h = cc
  below (x ∷ xs) are q h = elim (eqb_tells q x.0) [
    | inl e ↦ rw e.1 (process_small x.0 x.1 (cc (uid_same are.0.0 are.0.2)))
    | inr n ↦ below xs are.2 q (cc)
  ]

  -- so 32 descriptors at the most lead to it
  pub descriptors_few : length (trailers_in s.store u) ≤ 32
  descriptors_few = let are = trailers_taken s (what.Seg u) u k (eqb_self u) in
      let few = length-le_from_distinct_below (map (λ (y : ℕ × ℕ). y.0) (trailers_in s.store u)) 32
      (distinct (trailers_in s.store u) are) (below (trailers_in s.store u) are) in
      omega (arith, (length-map (trailers_in s.store u) (λ (y : ℕ × ℕ). y.0)))

-- ---- where it may be inactive

drop_few : {A : Type 0} (n : ℕ) (xs : List A) → length (drop n xs) ≤ length xs
drop_few (suc n) (x ∷ xs) = omega (arith, drop_few n xs)
drop_few _ _ = omega arith

-- a segment that isn't active has no page table
pub no_table : (s : State) (u : ℕ) → Keeps s → is_active s.store.ast u ≡ false → table_of s.store.ast u ≡ []
unfolding place_of
no_table s u k off = get_or_past s.store.ast.tables (position_or_len (is_for u) s.store.ast.entries) []
    (omega (arith, none_length (is_for u) s.store.ast.entries off))

-- of each segment 256 pages at the most are in frames, from whichever page on
pub frames_from_few : (s : State) (u low : ℕ) → Keeps s → length (frames_from s.store.ast u low) ≤ 256
frames_from_few s u low k = by (is_active s.store.ast u) refl
  where
    words : length (frames_from s.store.ast u low) ≤ length (table_of s.store.ast u)
    words = omega (arith, frames_few (drop low (table_of s.store.ast u)), drop_few low (table_of s.store.ast u))

    by : (b : Bool) → is_active s.store.ast u ≡ b → length (frames_from s.store.ast u low) ≤ 256
    by true e = omega (arith, table_few s u k e, words)
    by false e = omega (arith, ap length (no_table s u k e), words)

-- 32 descriptors at the most lead to it
pub trailers_few : (s : State) (u : ℕ) → Keeps s → length (trailers_in s.store u) ≤ 32
trailers_few s u k = by (is_active s.store.ast u) refl
  where
    by : (b : Bool) → is_active s.store.ast u ≡ b → length (trailers_in s.store u) ≤ 32
    by true e = descriptors_few s u k e
    by false e = let none = ap (λ (x : Bool). length
        (cond x (trailers_of s.store.links.trailers (place_of s.store.ast.entries u)) [])) e in omega arith

-- a process has 256 descriptors
pub connected_few : (links : Links) (k : ℕ) → length (connected_of links k) ≤ 256
connected_few links k = let pair : ℕ → ℕ × ℕ = λ n. (k, n) in
    let a = length-map (filter (λ n. is_connected (descriptor_of links k n)) (range_with_len 0 256)) pair in
    omega (
      arith,
      length-range_with_len 0 256,
      (few_kept (λ n. is_connected (descriptor_of links k n)) (range_with_len 0 256)),
    )

-- A command takes 288 pages and descriptors at the most.
pub command_few : (s : State) (k u : ℕ) (cmd : Command) → Keeps s
    → length (frames_taken s.store u (first_taken cmd)) + length (descriptors_taken s.store k u cmd) ≤ 288
command_few s k u (command.Acl path row m) keeps = omega (arith, trailers_few s u keeps)
command_few s k u (command.Delete path) keeps = omega (arith, trailers_few s u keeps, frames_from_few s u 0 keeps)
command_few s k u (command.Truncate path words) keeps = omega (arith, frames_from_few s u (words / 1024) keeps)
command_few s k u (command.Terminate n) keeps = by (is_connected (descriptor_of s.store.links k n))
  where
    by : (b : Bool) → 0 + length {A = ℕ × ℕ} (cond b ((k, n) ∷ []) []) ≤ 288
    by true = omega arith
    by false = omega arith
command_few s k u command.End keeps = omega (arith, connected_few s.store.links k)
command_few s k u _ keeps = omega arith
