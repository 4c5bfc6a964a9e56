-- Which stores the commands of a script may come to.
use Rattle.flat_model.proofs.Prelude.{common_steps, nat_tests, ◌≡◌, ℕ, suc, zero, ◌+◌, ◌<◌, ◌≤◌, Bool, true, false, cond, List, [], ◌∷◌, length, set, get_or, replicate, Option, Some, None, refl, arith, sum_by, list_all, and_parts, sum_by-cons, sum_by-set, IsPlan, is_process, weight_of, Plan, ProcessPlan, command_at, commands_of, nobody, Command, Reply, after_command, effect_of, gone_on, tries_on, after_reference, written_by, Progress, Store, at_first, boot, known_uid, progress_of, with_progress, ArePlaces, IsReached, answered, command, kind}
use Rattle.flat_model.proofs.PlaceLaws.{place_within, process_weighs}
use Rattle.flat_model.proofs.OtherLaws.{Advances, effect_advances}
use Rattle.flat_model.proofs.SharedLaws.{going_within}

-- ---- few uids

places_weigh : (volumes : ℕ) (qs : List Progress) (xs : List ProcessPlan) → ArePlaces qs xs
    → list_all (is_process volumes) xs ≡ true → sum_by (λ q. q.place) qs ≤ sum_by weight_of xs
places_weigh volumes [] xs places are = omega arith
places_weigh volumes (q ∷ qs) [] places are = absurd places
places_weigh volumes (q ∷ qs) (x ∷ xs) places are =
    let parts = and_parts (is_process volumes x) (list_all (is_process volumes) xs) are in
    let one : length x.commands ≤ weight_of x = process_weighs volumes x parts.0 in
    let rest : sum_by (λ q. q.place) qs ≤ sum_by weight_of xs = places_weigh volumes qs xs places.1 parts.1 in
    omega (arith, places.0, one, rest, sum_by-cons (λ (y : Progress). y.place) q qs, sum_by-cons weight_of x xs)

-- a script has too few commands for many uids
pub few_uids : (p : Plan) (s : Store) → IsReached p s → s.next < 100003
few_uids p s r = grind (arith, nat_tests, common_steps, places_weigh)

-- ---- places

places_set : (qs : List Progress) (xs : List ProcessPlan) (k : ℕ) (q : Progress) → ArePlaces qs xs
    → q.place ≤ length (get_or xs k (record { who = nobody; commands = [] })).commands → ArePlaces (set qs k q) xs
places_set [] xs k q places le = tt
places_set (o ∷ qs) [] k q places le = absurd places
places_set (o ∷ qs) (x ∷ xs) zero q places le = (le, places.1)
places_set (o ∷ qs) (x ∷ xs) (suc k) q places le = (places.0, places_set qs xs k q places.1 le)

-- ---- a command was answered

no_uid : (s : Store) (offset : ℕ) (o : Option ℕ) → (written_by s offset kind.Read o).next ≡ s.next
no_uid s offset None = refl
no_uid s offset (Some u) = refl

-- a try takes no uid
tries_stay : (p : Plan) (s : Store) (k : ℕ) (q : Progress) (c : Command) (r : Reply) → tries_on q c r ≡ true
    → (effect_of p s k c).next ≡ s.next
unfolding after_reference
tries_stay p s k q (command.Await number offset word tries) r is = no_uid s offset (known_uid s k number)
tries_stay p s k q _ r is = absurd (let none : false ≡ true = is in cc)

abbrev pub place_sum : List Progress → ℕ
place_sum qs = sum_by (λ q. q.place) qs

pub answered_advances : (p : Plan) (s : Store) (k : ℕ) (c : Command) (r : Reply) → Advances s (answered p s k c r)
answered_advances p s k c r = grind (arith, nat_tests, common_steps, effect_advances)

pub reached_on : (p : Plan) (s : Store) (k place : ℕ) (c : Command) (r : Reply) → IsReached p s
    → (progress_of s k).ended ≡ false → (progress_of s k).place ≡ place → command_at p k place ≡ Some c
    → IsReached p (after_command p s k c r)
unfolding after_command
reached_on p s k place c r h going at there = record { plan = h.plan; places = places; uids = uids }
  where
    within : k < length s.processes
    within = going_within s k going

    lt : place < length (commands_of p k)
    lt = place_within p k place c there

    by_tries : (z : Bool) → tries_on (progress_of s k) c r ≡ z
        → (gone_on (progress_of s k) c r).place ≡ cond z (progress_of s k).place ((progress_of s k).place + 1)
    by_tries true e = rw e refl
    by_tries false e = rw e refl

    places : ArePlaces (set (answered p s k c r).processes k (gone_on (progress_of s k) c r)) p.processes
    places = grind (arith, nat_tests, common_steps, answered_advances, places_set, by_tries, lt)

    total : place_sum (set s.processes k (gone_on (progress_of s k) c r)) + (progress_of s k).place
        ≡ place_sum s.processes + (gone_on (progress_of s k) c r).place
    total = sum_by-set (λ (x : Progress). x.place) s.processes k (gone_on (progress_of s k) c r)
        (record { place = 0; tries = 0; ended = true; faulted = false }) within

    uids : (answered p s k c r).next
        ≤ 2 + place_sum (set (answered p s k c r).processes k (gone_on (progress_of s k) c r))
    uids = grind (arith, nat_tests, common_steps, answered_advances, by_tries, tries_stay, total)

-- ---- a failure is told

pub reached_fault : (p : Plan) (s : Store) (k : ℕ) → IsReached p s → (progress_of s k).ended ≡ false
    → IsReached p (with_progress s k (record (progress_of s k) { faulted = true }))
reached_fault p s k h going =
    record { plan = h.plan; places = places s.processes p.processes k h.places going; uids = uids }
  where
    places : (qs : List Progress) (xs : List ProcessPlan) (k : ℕ) → ArePlaces qs xs
        → (get_or qs k (record { place = 0; tries = 0; ended = true; faulted = false })).ended ≡ false
        → ArePlaces (set qs k (record (get_or qs k (record { place = 0; tries = 0; ended = true; faulted = false }))
        { faulted = true })) xs
    places [] xs k h going = tt
    places (q ∷ qs) [] k h going = absurd h
    places (q ∷ qs) (x ∷ xs) zero h going = (h.0, h.1)
    places (q ∷ qs) (x ∷ xs) (suc k) h going = (h.0, places qs xs k h.1 going)

    uids : s.next ≤ 2 + place_sum (set s.processes k (record (progress_of s k) { faulted = true }))
    uids =
        let total : place_sum (set s.processes k (record (progress_of s k) { faulted = true }))
        + (progress_of s k).place ≡ place_sum s.processes + (progress_of s k).place
        = sum_by-set (λ (x : Progress). x.place) s.processes k (record (progress_of s k) { faulted = true })
        (record { place = 0; tries = 0; ended = true; faulted = false }) (going_within s k going) in
        omega (arith, total, h.uids)

-- ---- the boot

first_places : (xs : List ProcessPlan) → ArePlaces (replicate (length xs) at_first) xs
first_places [] = tt
first_places (x ∷ xs) = (omega arith, first_places xs)

pub reached_boot : (p : Plan) → IsPlan p → IsReached p (boot p)
unfolding boot
reached_boot p plan = record { plan = plan; places = first_places p.processes; uids = omega arith }
