-- Gauges from one of which so much goes over to another, and which volume is the first with room.
use Rattle.std.proofs.lemmas.Grind.{common_steps}
use Rattle.flat_store.proofs.Prelude.{◌≡◌, ◌≢◌, ℕ, suc, zero, ◌+◌, ◌-◌, ◌<◌, ◌≤◌, Bool, true, false, cond, eqb, List, length, Option, Some, None, refl, sym, ap, ◌∙◌, arith, inl, inr, IfNone, IfSome, nat_le, nat_lt, cases_eq, cases_Bool, nat_tests, get_or_past, AccountMaps, HasColumns, count_of, look_absent, Plan, volume_in, has_segment, first_below, room_for, Store, records_of, room_is, room_none, IsLeast, filled_by, is_roomy, shifted, with_drained, Gauge, Held, Holds, gauge_at}
use Rattle.flat_model.specs.Rooms.{has_room}
use Rattle.flat_store.proofs.GaugeLaws.{counts_changed, counts_less, gauge}

-- ---- gauges

nothing_filled : (count : ℕ) → filled_by count (gauge 0 0) ≡ gauge 0 0
nothing_filled zero = refl
nothing_filled (suc count) = let more : nat_le (suc count) (0 - 0) ≡ false = grind (arith, nat_tests) in rw more refl

-- gauges that count what so many leave for another place
pub counts_shifted : (gauges : List Gauge) (old new most : ℕ → ℕ) (from to count : ℕ)
    → ((v : ℕ) → gauge_at gauges v ≡ gauge (old v) (most v)) → to ≢ from → count ≤ most to - old to
    → ((v : ℕ) → new v + cond {A = ℕ} (eqb from v) count 0 ≡ old v + cond {A = ℕ} (eqb to v) count 0)
    → (v : ℕ) → gauge_at (shifted gauges from to count) v ≡ gauge (new v) (most v)
counts_shifted gauges old new most from to count are apart room moves =
    counts_changed (filled_by count) (with_drained gauges from count) between new most to (nothing_filled count)
    (counts_less gauges old between most count from are left) (rw (own, fits) (ap (λ m. gauge m (most to)) up))
    (λ v other. let away : eqb to v ≡ false = grind (arith, nat_tests) in rw away refl)
  where
    -- what they count in between
    between : ℕ → ℕ
    between v = cond (eqb to v) (old v) (new v)

    left : (v : ℕ) → cond (eqb to v) (old v) (new v) + cond {A = ℕ} (eqb from v) count 0 ≡ old v
    left v = grind (arith, nat_tests, common_steps)

    own : eqb to to ≡ true
    own = grind (arith, nat_tests)

    fits : nat_le count (most to - old to) ≡ true
    fits = grind (arith, nat_tests)

    up : old to + count ≡ new to
    up = let both = moves to in let ne : from ≢ to = omega (arith, apart) in grind (arith, nat_tests)

-- ---- room

-- where there is no segment, no page is stored
pub none_counted : (a : AccountMaps) (u : ℕ) → HasColumns a → has_segment a.nodes u ≡ false → 0 ≡ count_of a u
none_counted a u columns none = sym (look_absent a.segments a.counts u (columns.segments u ∙ none))

pub some_free : (used most : ℕ) → nat_lt 0 (most - used) ≡ nat_lt used most
some_free used most = grind (arith, nat_tests)

-- none below a bound passes where none is the first
none_told : (test : ℕ → Bool) (n : ℕ) → first_below test n ≡ None → (m : ℕ) → m < n → test m ≡ false
none_told test zero none m lt = absurd (omega (arith, lt))
none_told test (suc n) none m lt = here (first_below test n) refl none (λ e. none_told test n e m)
  where
    here : (o : Option ℕ) → first_below test n ≡ o → first_below test (suc n) ≡ None
        → (first_below test n ≡ None → m < n → test m ≡ false) → test m ≡ false
    here (Some v) e is before = let clash : Some v ≡ None = rw e at is in cc
    here None e is before = elim (cases_eq m n) [
      | inl same ↦ elim (cases_Bool (test n)) [
        | inl passes ↦ (let clash : Some n ≡ None = rw (e, passes) at is in cc)
        | inr fails ↦ rw same fails
      ]
      | inr other ↦ before e (omega (arith, lt, other))
    ]

-- the first that passes is the least
pub first_told : (test : ℕ → Bool) (n v : ℕ) → first_below test n ≡ Some v → IsLeast test v
first_told test zero v found = cc
first_told test (suc n) v found = here (first_below test n) refl found (first_told test n v)
  where
    here : (o : Option ℕ) → first_below test n ≡ o → first_below test (suc n) ≡ Some v
        → (first_below test n ≡ Some v → IsLeast test v) → IsLeast test v
    here (Some w) e is before = let same : Some w ≡ Some v = rw e at is in before (e ∙ same)
    here None e is before = elim (cases_Bool (test n)) [
      | inl passes ↦ (let same : Some n ≡ Some v = rw (e, passes) at is in let at : n ≡ v = cc in
          rw (← at) (record { passes = passes; below = none_told test n e }))
      | inr fails ↦ (let clash : None ≡ Some v = rw (e, fails) at is in cc)
    ]

-- the first volume that the gauges find roomy is the flat store's first with room
pub room_found : {p : Plan} {s : Store} {h : Held} (u own count : ℕ) {records entries : List Gauge} → Holds p h s
    → own ≡ volume_in h.accounts.nodes u → count ≡ count_of h.accounts u → records ≡ h.records → entries ≡ h.entries
    → (found : Option ℕ) → IfSome found (λ w. is_roomy records entries own count w ≡ true)
    → IfSome found (λ w. (v : ℕ) → v < w → is_roomy records entries own count v ≡ false)
    → IfNone found ((v : ℕ) → v < length records → is_roomy records entries own count v ≡ false)
    → found ≡ room_for p s u
room_found {p} {s} {h} u own count {records} {entries} holds home stored gauges places = each
  where
    same : (v : ℕ) → is_roomy records entries own count v ≡ has_room p s u v
    same v = rw (home, stored, gauges, places, ← holds.nodes, holds.counts u, holds.records v, holds.entries v) refl

    -- past the last gauge the script has no records
    past : (v : ℕ) → length records ≤ v → records_of p v ≡ 0
    past v out = sym (ap (λ (g : Gauge). g.most) (holds.records v))
        ∙ rw (← gauges, get_or_past records v (gauge 0 0) out) refl

    each : (found : Option ℕ) → IfSome found (λ w. is_roomy records entries own count w ≡ true)
        → IfSome found (λ w. (v : ℕ) → v < w → is_roomy records entries own count v ≡ false)
        → IfNone found ((v : ℕ) → v < length records → is_roomy records entries own count v ≡ false)
        → found ≡ room_for p s u
    each (Some w) has first none = room_is p s u w (sym (same w) ∙ has) (λ v lt. sym (same v) ∙ first v lt)
    each None has first none = room_none p s u (length records) (λ v lt. sym (same v) ∙ none v lt) past
