-- What a step's call of a drive comes to: which drive counts a failure more, and how many all of them do.
use Rattle.machine.proofs.Prelude.{◌≡◌, ◌≤◌, ◌+◌, ◌^◌, ◌++◌, ℕ, Bool, true, length, min, List, refl, arith, inl, inr, Err, Ok, Result, count_by, sum_by, cases_lt, Rose, Entry, IsOneMore, CallsDrive, CallsDrives, page_in, is_fault, home_in, State, calls_drive, Parts, SparesCall, outcome_of, AreTold, CallsAs, CallsOne, CountsAlike, HaveCounted, KeepsParts, LetsGo, CallsTwo, RoseAtOne, count_on, sum_of_map, seen_same, OnErr, with_room, Action}
use Rattle.machine.proofs.DriveCounts.{others_sum}

-- ---- a call by its result

-- what the drives have counted after it, and what is told of one that failed
pub outcome_faults : {T E : Type 0} (r : Result T E) (n : ℕ) → (outcome_of r n).faults ≡ n
outcome_faults (Ok x) n = refl
outcome_faults (Err e) n = refl

pub outcome_tells : {T E X : Type 0} (r : Result T E) (n : ℕ) → OnErr r X → (outcome_of r n).failed ≡ true → X
outcome_tells (Ok x) n told e = cc
outcome_tells (Err x) n told e = told

module _ {D Plan T E : Type 0} {plan : D → Plan} {places faults : D → ℕ} {old new : List D} where
  pub one_called : {v : ℕ} (r : Result T E) (n : ℕ) → CallsDrive plan places faults old new v r
      → CallsOne faults old new v (outcome_of r n).failed
  one_called r n h1 = grind arith

  -- a page is copied
  pub two_called : {v w : ℕ} (r : Result T E) (n : ℕ) → CallsDrives plan places faults old new v w r
      → CallsTwo faults old new v w (outcome_of r n).failed
  two_called r n h1 = grind arith

  -- a page is let go
  pub page_let_go : (s : State) (f : ℕ) (r : Result T E) (n : ℕ)
      → CallsDrive plan places faults old new (home_in s.store (page_in s.store f).0).volume r
      → SparesCall s.store.pages f old new r → LetsGo faults s f old new (outcome_of r n).failed
  page_let_go s f r n call spares = grind (arith, one_called)

-- ---- what an action's call comes to

module _ {D : Type 0} {faults : D → ℕ} {old new : List D} where
  one_rose : (v : ℕ) → CallsOne faults old new v true → RoseAtOne faults old new
  one_rose v h = grind (arith, seen_same)

  -- where it failed a drive was called, and counts one more
  calls_failed : (s : State) (a : Action) → CallsAs faults s a old new true
      → (calls_drive a ≡ true) × RoseAtOne faults old new
  calls_failed s a h1 = grind (arith, one_rose)

  -- what is told of it
  pub are_told : (s : State) (a : Action) (failed : Bool) {told : ℕ} → CallsAs faults s a old new failed → told ≤ 1
      → (1 ≤ told → failed ≡ true) → (calls_drive a ≡ true → failed ≡ true → 1 ≤ told) → AreTold faults old new told
  are_told s a failed {told} calls few only each = grind (arith, calls_failed)

-- ---- sums

-- one drive of all counts one failure more
capped_one : (rest a b told : ℕ) → told ≡ 1 → Rose a b → IsOneMore a b
    → min (rest + b) (2 ^ 63) ≡ min (rest + a + told) (2 ^ 63)
capped_one rest a b told one rose once = grind arith

-- what is told of the drives of all that they count more
told_sum : {D : Type 0} (faults : D → ℕ) (old new : List D) (told : ℕ) → length new ≡ length old
    → AreTold faults old new told → min (sum_by faults new) (2 ^ 63) ≡ min (sum_by faults old + told) (2 ^ 63)
told_sum faults old new told long h = elim (cases_lt told 1) [
  | inl none ↦ (let same = sum_of_map faults old new (h.none (omega arith)) in omega arith)
  | inr some ↦ (let few = h.few in let one : told ≡ 1 = omega arith in
      let rose = h.one one in
      let all = others_sum faults old new rose.volume long rose.failed.others in
      rw (all.1, all.2) (capped_one all.0 _ _ told one rose.failed.rose rose.failed.once))
]

module _ {D : Type 0} (faults : D → ℕ) where
  pub told_alike : (old new : Parts D) (more : List Entry) → new.state.entries ≡ old.state.entries ++ more
      → length new.drives ≡ length old.drives → AreTold faults old.drives new.drives (count_by is_fault more)
      → CountsAlike faults old new
  told_alike old new more entries long told = grind (arith, count_on, told_sum)

  -- since a count, and then on
  pub counted_on : (counted told : ℕ) (b d : Parts D) → HaveCounted faults counted told b → CountsAlike faults b d
      → HaveCounted faults counted told d
  counted_on counted told b d one two = grind arith

module _ {D Plan : Type 0} (plan : D → Plan) (places faults : D → ℕ) where
  -- nothing but the room was changed
  pub keeps_room : (old new : Parts D) (n : ℕ) → new ≡ with_room old n → KeepsParts plan places faults old new
  keeps_room old new n is = grind arith

  -- one after the other
  pub keeps_on : (a b d : Parts D) → KeepsParts plan places faults a b → KeepsParts plan places faults b d
      → KeepsParts plan places faults a d
  keeps_on a b d one two = grind arith
