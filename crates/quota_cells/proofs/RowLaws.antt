-- Columns of numbers in the order of uids: one more and one less, and a walk up a chain.
use Rattle.quota_cells.proofs.Prelude.{common_steps, ◌≡◌, ◌≢◌, ℕ, suc, zero, ◌+◌, ◌<◌, ◌≤◌, true, false, List, [], ◌∷◌, length, drop, refl, sym, ◌∙◌, arith, get_or, set, inl, inr, insert, remove, drop_more, cases_order, eq-eqb, ne_eqb, lt-ltb, le-ltb, has, with_value, with_beside, without_beside, covers, changed_where, CellMaps, IsRising, quota_in, load_in, with_loads, IsGap, place_there, rest_rises, nat_tests}
use Rattle.quota_cells.proofs.PlaceLaws.{Going, going_here, going_next, going_ends, changed_none, look_at, set_there}

-- ---- one more, and one less

rest_gap : (k : ℕ) (ks : List ℕ) (u i : ℕ) → IsGap (k ∷ ks) u (suc i) → IsGap ks u i
rest_gap k ks u i gap = record {
  within = (omega arith);
  below = λ j lt. gap.below (suc j) (omega arith);
  above = λ j le lt. gap.above (suc j) (omega arith) (omega arith);
}

pub insert_beside : (ks vs : List ℕ) (u i v : ℕ) → length vs ≡ length ks → IsGap ks u i → insert vs i v
    ≡ with_beside ks vs u v
insert_beside [] [] u zero v len gap = refl
insert_beside [] [] u (suc i) v len gap = absurd (omega arith)
insert_beside [] (w ∷ vs) u i v len gap = absurd (omega arith)
insert_beside (k ∷ ks) [] u i v len gap = absurd (omega arith)
insert_beside (k ∷ ks) (w ∷ vs) u zero v len gap = rw (lt-ltb u k (gap.above 0 (omega arith) (omega arith))) refl
insert_beside (k ∷ ks) (w ∷ vs) u (suc i) v len gap =
    let more : k < u = gap.below 0 (omega arith) in
    rw (le-ltb u k (omega arith), insert_beside ks vs u i v (omega arith) (rest_gap k ks u i gap)) refl

pub remove_beside : (ks vs : List ℕ) (i : ℕ) → length vs ≡ length ks → IsRising ks → i < length ks → remove vs i
    ≡ without_beside ks vs (get_or ks i 0)
remove_beside [] vs i len up lt = absurd (omega arith)
remove_beside (k ∷ ks) [] i len up lt = absurd (omega arith)
remove_beside (k ∷ ks) (w ∷ vs) zero len up lt = rw (eq-eqb k k refl) refl
remove_beside (k ∷ ks) (w ∷ vs) (suc i) len up lt =
    let less : k < get_or ks i 0 = up 0 (suc i) (omega arith) lt in
    rw (
      ne_eqb k (get_or ks i 0) (λ q. omega arith),
      remove_beside ks vs i (omega arith) (rest_rises k ks up) (omega arith),
    ) refl

-- a uid that isn't there has a gap, and one that is there has a place
pub gap_of : (ks : List ℕ) (u : ℕ) → IsRising ks → has ks u ≡ false → (i : ℕ) × IsGap ks u i
gap_of [] u up off = (
  0,
  record { within = omega arith; below = λ j lt. absurd (omega arith); above = λ j le lt. absurd (omega arith) },
)
gap_of (k ∷ ks) u up off = elim (cases_order u k) [
  | inl same ↦ cc (rw (eq-eqb k u (sym same)) at off)
  | inr differ ↦ elim differ [
    | inl less ↦
        (0, record { within = omega arith; below = λ j lt. absurd (omega arith); above = λ j le. above_first less j })
    | inr more ↦
        (let g = gap_of ks u (rest_rises k ks up) (rw (ne_eqb k u (λ q. omega arith)) at off) in
        (suc g.0, record { within = omega (arith, g.1.within); below = below_next more g; above = above_next g }))
  ]
]
  where
    above_first : u < k → (j : ℕ) → j < length (k ∷ ks) → u < get_or (k ∷ ks) j 0
    above_first less zero lt = less
    above_first less (suc j) lt = (let later : k < get_or ks j 0 = up 0 (suc j) (omega arith) lt in omega arith)

    below_next : k < u → (g : (i : ℕ) × IsGap ks u i) → (j : ℕ) → j < suc g.0 → get_or (k ∷ ks) j 0 < u
    below_next more g zero lt = more
    below_next more g (suc j) lt = g.1.below j (omega arith)

    above_next : (g : (i : ℕ) × IsGap ks u i) → (j : ℕ) → suc g.0 ≤ j → j < length (k ∷ ks) → u < get_or (k ∷ ks) j 0
    above_next g zero le lt = absurd (omega arith)
    above_next g (suc j) le lt = g.1.above j (omega arith) (omega arith)

pub place_of : (ks : List ℕ) (u : ℕ) → has ks u ≡ true → (i : ℕ) × (i < length ks) × (get_or ks i 0 ≡ u)
place_of = place_there

-- ---- a walk up a chain

pub record Walks (g : ℕ → ℕ) (P : ℕ → Type 0) (start now : CellMaps) (up left : List ℕ) : Type 0 where
  pub kept : now ≡ with_loads start now.loads
  pub going : Going g P start.directories (quota_in start) left now.loads
      (changed_where g (covers (quota_in start) up) start.directories start.loads)

-- the directory has a load
pub walk_there : {g : ℕ → ℕ} {P : ℕ → Type 0} {start now : CellMaps} {up : List ℕ} {i : ℕ}
    → Walks g P start now up (drop i up) → i < length up → has now.directories (get_or up i 0) ≡ true
walk_there {up = up} {i = i} walks lt = rw walks.kept (rw (drop_more up i 0 lt) at walks.going.there).0

module _ {g : ℕ → ℕ} {P : ℕ → Type 0} {start now : CellMaps} {up : List ℕ} {i : ℕ}
    (walks : Walks g P start now up (drop i up)) (rises : IsRising now.directories) (lt : i < length up) where
  abbrev x : ℕ
  x = get_or up i 0

  abbrev target : List ℕ
  target = changed_where g (covers (quota_in start) up) start.directories start.loads

  place : (i : ℕ) × (i < length now.directories) × (get_or now.directories i 0 ≡ x)
  place = place_there now.directories x (walk_there walks lt)

  abbrev after : List ℕ
  after = set now.loads place.0 (g (get_or now.loads place.0 0))

  rising : IsRising start.directories
  rising = rw walks.kept at rises

  going : Going g P start.directories (quota_in start) (x ∷ drop (i + 1) up) now.loads target
  going = rw (drop_more up i 0 lt) at walks.going

  in_start : place.0 < length start.directories
  in_start = grind (arith, nat_tests, common_steps)

  at_start : get_or start.directories place.0 0 ≡ x
  at_start = cc (place.2)

  spot_quota : quota_in now x ≡ get_or now.quotas place.0 0
  spot_quota = cc (place.2, look_at now.directories now.quotas place.0 rises place.1)

  quota : quota_in now x ≡ quota_in start x
  quota = spot_quota ∙ (cc (at_start, look_at start.directories start.quotas place.0 rising in_start))

  spot_load : load_in now x ≡ get_or now.loads place.0 0
  spot_load = cc (place.2, look_at now.directories now.loads place.0 rises place.1)

  spot_set : with_value now.directories now.loads x (g (load_in now x)) ≡ after
  spot_set = rw spot_load
      (sym (set_there now.directories now.loads place.0 (g (get_or now.loads place.0 0)) rises place.1 place.2))

  pub load_fits : P (load_in now x)
  load_fits = rw spot_load (going_here going rising in_start at_start)

  pub load_ends : quota_in now x ≢ 0
      → with_loads now (with_value now.directories now.loads x (g (load_in now x))) ≡ with_loads start target
  load_ends some =
      let ends : with_loads now after ≡ with_loads start target =
      cc (going_ends going rising in_start at_start (λ e. some (quota ∙ e))) in
      cc (spot_set, ends)

  pub load_next : quota_in now x ≡ 0
      → Walks g P start (with_loads now (with_value now.directories now.loads x (g (load_in now x)))) up
      (drop (i + 1) up)
  load_next none =
      grind (arith, nat_tests, common_steps, spot_set, going_next going rising in_start at_start (sym quota ∙ none))

pub walk_done : {g : ℕ → ℕ} {P : ℕ → Type 0} {start now : CellMaps} {up : List ℕ} → Walks g P start now up []
    → now ≡ with_loads start (changed_where g (covers (quota_in start) up) start.directories start.loads)
walk_done {g} {start = start} {now = now} walks = cc (changed_none g (quota_in start) start.directories now.loads)
