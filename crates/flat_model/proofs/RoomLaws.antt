-- The least number that passes a test, and the volumes that have room.
use Rattle.flat_model.proofs.Prelude.{common_steps, nat_tests, ◌≡◌, ◌<◌, ◌≤◌, ℕ, zero, suc, Bool, true, false, not, eqb, Some, None, refl, sym, ap, subst, ◌∙◌, arith, inl, inr, length, ◌-◌, nat_lt, cases_eq, leb_tells, slice_get_past, Plan, first_below, has_room, pages_stored, room_for, Store, records_in, records_of, taken_on, and_false}

-- ---- the least number that passes a test

-- none where no number passes
pub first_none : (test : ℕ → Bool) (n : ℕ) → ((v : ℕ) → v < n → test v ≡ false) → first_below test n ≡ None
first_none test zero fails = refl
first_none test (suc n) fails = rw (first_none test n (λ v lt. fails v (omega (arith, lt))), fails n (omega arith)) refl

-- one that passes, and none below it does
pub first_is : (test : ℕ → Bool) (n v : ℕ) → v < n → test v ≡ true → ((u : ℕ) → u < v → test u ≡ false)
    → first_below test n ≡ Some v
first_is test zero v lt passes fails = absurd (omega (arith, lt))
first_is test (suc n) v lt passes fails = elim (cases_eq v n) [
  | inl same ↦ rw (
    first_none test n (λ u less. fails u (omega (arith, less, same))),
    (let here : test n ≡ true = subst (λ x. test x ≡ true) same passes in here),
  ) (ap Some (sym same))
  | inr other ↦ rw (first_is test n v (omega (arith, lt, other)) passes fails) refl
]

-- ---- volumes

less_none : (n m : ℕ) → nat_lt n (0 - m) ≡ false
less_none n m = grind (arith, nat_tests, common_steps, leb_tells)

-- a volume without records has no room
pub no_room : (p : Plan) (s : Store) (uid volume : ℕ) → records_of p volume ≡ 0 → has_room p s uid volume ≡ false
no_room p s uid volume none = rw (none, less_none (pages_stored s uid) (taken_on s.nodes s.stored volume))
    (and_false (not (eqb volume _)))

-- nor has one that the script doesn't have
pub no_volume : (p : Plan) (s : Store) (uid volume : ℕ) → length p.volumes ≤ volume → has_room p s uid volume ≡ false
no_volume p s uid volume past = no_room p s uid volume (ap records_in (slice_get_past p.volumes volume past))

-- the first volume that has room is the script's
pub room_is : (p : Plan) (s : Store) (uid volume : ℕ) → has_room p s uid volume ≡ true
    → ((v : ℕ) → v < volume → has_room p s uid v ≡ false) → Some volume ≡ room_for p s uid
room_is p s uid volume has none = elim (leb_tells (suc volume) (length p.volumes)) [
  | inl is ↦ sym (first_is (has_room p s uid) (length p.volumes) volume (let lt = is.1 in omega (arith, lt)) has none)
  | inr isnt ↦ (let past = isnt.1 in
      let no : true ≡ false = sym has ∙ no_volume p s uid volume (omega (arith, past)) in absurd cc)
]

-- none has room where none that the tables have has
pub room_none : (p : Plan) (s : Store) (uid count : ℕ) → ((v : ℕ) → v < count → has_room p s uid v ≡ false)
    → ((v : ℕ) → count ≤ v → records_of p v ≡ 0) → None ≡ room_for p s uid
room_none p s uid count none past = grind (arith, nat_tests, common_steps, first_none, leb_tells, no_room)
