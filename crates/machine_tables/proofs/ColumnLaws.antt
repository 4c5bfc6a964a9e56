-- The accounts' lists, by what is told of each segment.
use Rattle.machine_tables.proofs.Prelude.{◌≡◌, ◌≢◌, ℕ, ◌<◌, true, false, eqb, List, [], ◌∷◌, length, get_or, ext_get_or, if◌then◌else◌, inl, inr, refl, sym, ap, subst, ◌∙◌, arith, Result, Ok, cases_eq, ne_eqb, AccountMaps, HasColumns, Recounts, count_of, Node, has, look, with_value, IsRising, length_with, look_with, look_with_other, has_at, look_at, Left, Kept, Released, IsSettled, accounts_left, first_less, first_once, rest_rises}

-- ---- rising uids

less_first : (x y : ℕ) (xs ys : List ℕ) → IsRising (y ∷ ys) → has (x ∷ xs) x ≡ has (y ∷ ys) x → x ≢ y → y < x
less_first x y xs ys up same other =
    let there : has (y ∷ ys) x ≡ true = sym same ∙ has_at (x ∷ xs) 0 (omega arith) in
    let far : eqb y x ≡ false = ne_eqb y x (λ q. other (sym q)) in
    first_less y x ys up (rw far at there)

same_first : (x y : ℕ) (xs ys : List ℕ) → IsRising (x ∷ xs) → IsRising (y ∷ ys)
    → ((u : ℕ) → has (x ∷ xs) u ≡ has (y ∷ ys) u) → x ≡ y
same_first x y xs ys ux uy same = elim (cases_eq x y) [
  | inl is ↦ is
  | inr isnt ↦ (let more = less_first x y xs ys uy (same x) isnt in
      let less = less_first y x ys xs ux (sym (same y)) (λ q. isnt (sym q)) in absurd (omega arith))
]

same_rest : (x y : ℕ) (xs ys : List ℕ) → IsRising (x ∷ xs) → IsRising (y ∷ ys) → x ≡ y
    → ((u : ℕ) → has (x ∷ xs) u ≡ has (y ∷ ys) u) → (u : ℕ) → has xs u ≡ has ys u
same_rest x y xs ys ux uy first same u = elim (cases_eq x u) [
  | inl is ↦ ap (has xs) (sym is) ∙ (cc (first_once x xs ux, first_once y ys uy))
  | inr isnt ↦ (let far : eqb x u ≡ false = ne_eqb x u isnt in
      let past : eqb y u ≡ false = ne_eqb y u (λ q. isnt (first ∙ q)) in
      let both : has (x ∷ xs) u ≡ has (y ∷ ys) u = same u in rw (far, past) at both)
]

-- the same uids stand in the same order
pub rising_same : (xs ys : List ℕ) → IsRising xs → IsRising ys → ((u : ℕ) → has xs u ≡ has ys u) → xs ≡ ys
rising_same [] [] ux uy same = refl
rising_same [] (y ∷ ys) ux uy same = cc (same y, has_at (y ∷ ys) 0 (omega arith))
rising_same (x ∷ xs) [] ux uy same = cc (same x, has_at (x ∷ xs) 0 (omega arith))
rising_same (x ∷ xs) (y ∷ ys) ux uy same =
    let first = same_first x y xs ys ux uy same in
    let rest = rising_same xs ys (rest_rises x xs ux) (rest_rises y ys uy) (same_rest x y xs ys ux uy first same) in
    λ i. first i ∷ rest i

-- the values beside them are those that are told
pub columns_same : (ks vs ws : List ℕ) → IsRising ks → length vs ≡ length ks → length ws ≡ length ks
    → ((u : ℕ) → has ks u ≡ true → look ks vs u ≡ look ks ws u) → vs ≡ ws
columns_same ks vs ws up long many same = ext_get_or 0 vs ws (cc) (λ i lt. (let within : i < length ks = omega arith in
    sym (look_at ks vs i up within) ∙ (same (get_or ks i 0) (has_at ks i within) ∙ look_at ks ws i up within)))

-- ---- the accounts

pub segments_same : (old new : AccountMaps) → HasColumns old → HasColumns new → new.nodes ≡ old.nodes
    → new.segments ≡ old.segments
segments_same old new before after nodes = grind (arith, rising_same)

-- accounts whose nodes and counts are told
pub maps_same : (new old : AccountMaps) (nodes : List Node) (counts : List ℕ) → new.nodes ≡ nodes
    → new.entries ≡ old.entries → new.next ≡ old.next → new.segments ≡ old.segments → new.counts ≡ counts
    → new ≡ record old { nodes = nodes; counts = counts }
maps_same new old nodes counts a b c d e = grind arith

-- one count is told
pub recounted : (old new : AccountMaps) (seg count : ℕ) → HasColumns old → HasColumns new → Recounts old new seg count
    → new ≡ record old { counts = with_value old.segments old.counts seg count }
recounted old new seg count before after told = maps_same new old _ _ told.nodes told.entries told.next segments counts
  where
    segments : new.segments ≡ old.segments
    segments = segments_same old new before after told.nodes

    beside : (u : ℕ) → has old.segments u ≡ true → (if eqb seg u then count else count_of old u)
        ≡ look old.segments (with_value old.segments old.counts seg count) u
    beside u there = elim (cases_eq seg u) [
      | inl is ↦ sym (look_with old.segments old.counts seg count u before.counted (rw is there))
      | inr isnt ↦ (let far : eqb seg u ≡ false = ne_eqb seg u isnt in
          rw far (sym (look_with_other old.segments old.counts seg count u isnt)))
    ]

    counts : new.counts ≡ with_value old.segments old.counts seg count
    counts = columns_same old.segments new.counts (with_value old.segments old.counts seg count) before.rising
        (after.counted ∙ ap length segments) (cc (length_with old.segments old.counts seg count))
        (λ u there. cc (segments, told.counts u, beside u there))

-- the accounts once a page has left its frame
pub settled_is : {E : Type 0} (old new : AccountMaps) (uid : ℕ) (r : Result Left E) (how : Left) → r ≡ Ok how
    → HasColumns old → HasColumns new → IsSettled old new uid r → new ≡ accounts_left old uid how
settled_is {E} old new uid r how is before after settled = by how (subst (IsSettled {E = E} old new uid) is settled)
  where
    by : (x : Left) → IsSettled {E = E} old new uid (Ok x) → new ≡ accounts_left old uid x
    by Kept same = same
    by Released told = recounted old new uid _ before after told
