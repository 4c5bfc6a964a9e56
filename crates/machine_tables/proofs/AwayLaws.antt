-- What a tree command must have out of use: pages that are here, and descriptors that lead to a segment.
use Rattle.machine_tables.proofs.Prelude.{◌≡◌, ℕ, zero, suc, ◌+◌, ◌<◌, ◌≤◌, Bool, true, false, not, ◌||◌, cond, List, [], ◌∷◌, map, length, get_or, drop, refl, arith, ◌/◌, filter, range_with_len, eqb_tells, Command, What, Ptw, is_out, ActiveSegs, Core, table_of, bring_cut, descriptors_taken, first_taken, frames_taken, is_empty, take_or_commit, what_taken, frames_from, frames_in, is_active, State, Storage, inactive_blank, is_bare, Ptw as ptw, Action, Action as act, Actions_room_for as room_for}

-- ---- of a segment that isn't active there is nothing

blank_frames : (ws : List Ptw) (low : ℕ) → ((q : ℕ) → get_or ws q ptw.Null ≡ ptw.Null) → frames_in (drop low ws) ≡ []
blank_frames [] zero h = refl
blank_frames [] (suc low) h = refl
blank_frames (w ∷ ws) zero h = cc (h 0, blank_frames ws zero (λ q. h (suc q)))
blank_frames (w ∷ ws) (suc low) h = blank_frames ws low (λ q. h (suc q))

pub no_frames : (ast : ActiveSegs) (u low : ℕ) → length ast.tables ≡ length ast.entries → is_active ast u ≡ false
    → false ≡ not (is_empty (frames_from ast u low))
no_frames ast u low tables off = cc (blank_frames (table_of ast u) low (inactive_blank ast u tables off))

-- ---- the descriptors of a process

module _ (k : ℕ) (test : ℕ → Bool) where
  abbrev pairs : ℕ → ℕ → List (ℕ × ℕ)
  pairs from n = map (λ x. (k, x)) (filter test (range_with_len from n))

  pub some_pair : (from n i : ℕ) → from ≤ i → i < from + n → test i ≡ true → not (is_bare [] (pairs from n)) ≡ true
  some_pair from zero i a b h = absurd (omega arith)
  some_pair from (suc n) i a b h = by (test from) refl (λ c. some_pair (from + 1) n i c (omega arith) h)
    where
      by : (t : Bool) → test from ≡ t → (from + 1 ≤ i → not (is_bare [] (pairs (from + 1) n)) ≡ true)
          → not (is_bare [] (map (λ x. (k, x)) (cond t (from ∷ filter test (range_with_len (from + 1) n))
          (filter test (range_with_len (from + 1) n))))) ≡ true
      by t h1 h2 = grind (arith, eqb_tells)

  pub no_pair : (from n : ℕ) → ((i : ℕ) → i < from + n → test i ≡ false) → pairs from n ≡ []
  no_pair from zero off = refl
  no_pair from (suc n) off = rw (off from (omega arith)) (no_pair (from + 1) n (λ i lt. off i (omega arith)))

  pub no_pairs : (n : ℕ) → ((i : ℕ) → i < n → test i ≡ false) → false ≡ not (is_bare [] (pairs 0 n))
  no_pairs n off = rw (no_pair 0 n (λ i lt. off i (omega arith)))

-- none of the numbers up to the next passes
pub none_next : (test : ℕ → Bool) (n : ℕ) → ((i : ℕ) → i < n → test i ≡ false) → test n ≡ false → (i : ℕ)
    → i < n + 1 → test i ≡ false
none_next test n before here i lt = grind (arith, eqb_tells)

-- ---- taken, or done at once

bare : (fs : List ℕ) (pairs : List (ℕ × ℕ)) → not (is_empty fs) ≡ false → not (is_bare [] pairs) ≡ false
    → (w : What) → act.Commit ≡ take_or_commit fs pairs w
bare fs pairs h1 h2 w = grind arith

module _ (s : State) (k u : ℕ) (c : Command) where
  abbrev frames : List ℕ
  frames = frames_taken s.store u (first_taken c)

  abbrev descriptors : List (ℕ × ℕ)
  descriptors = descriptors_taken s.store k u c

  pub committed : (not (is_empty frames) || not (is_bare [] descriptors)) ≡ false
      → act.Commit ≡ take_or_commit frames descriptors (what_taken u c)
  committed none = grind arith

-- ---- the page that is cut

module _ (st : Storage) (u words : ℕ) (otherwise : Action) where
  abbrev page : ℕ
  page = words / 1024

  abbrev core : Core
  core = st.pages.core

  brought : (w : Ptw) → is_out w ≡ true
      → room_for core u page (λ f. act.Start f u page) ≡ bring_cut core u page w otherwise
  brought w h1 = grind arith

  left : (w : Ptw) → is_out w ≡ false → otherwise ≡ bring_cut core u page w otherwise
  left w h1 = grind arith
