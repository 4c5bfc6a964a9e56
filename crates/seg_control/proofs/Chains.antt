-- A chain of superiors, and its first segment that is not active.
use Rattle.std.proofs.lemmas.List.{get_or-map}
pub use Rattle.seg_control.proofs.Becoming.{ActiveSegs, AreActive, Contains, Entry, HasItsSuperiors, IfNone, IsActive, IsFirstInactive, IsFull, IsGoing, IsStuck, IsVictim, Link, List, MayActivate, None, Option, Ptw, Some, Victim, VtocEntry, add-one, ap, arith, at_rest, cases_eq, filed_word, get_or, inl, inr, is_some, kept_activated, length, length-map, link_at, no_link, records_in, refl, rules, same_Some, set, suc, superior_of, sym, table_for, table_suc, table_zero, take, take-suc-set, true, uid_at, uids_of, vtoc_entry, words_in, zero, ℕ, ◌+◌, ◌<◌, ◌↔◌, ◌∙◌, ◌≡◌, ◌≤◌}

-- ---- superiors

pub superior_active : {entries : List (Option Entry)} {chain : List Link} {i : ℕ} (superior : ℕ)
    → IsFirstInactive entries chain i → superior_of chain i ≡ Some superior → IsActive entries superior
superior_active {i = zero} superior first e = cc
superior_active {entries} {chain} {i = suc i} superior first e =
    let active : IsActive entries (link_at chain i).uid = first.before i (omega arith) in
    (active.0, cc)

uid_of_link : (chain : List Link) (i d : ℕ) → i < length chain → get_or (uids_of chain) i d ≡ (link_at chain i).uid
uid_of_link chain i d lt = get_or-map (λ (link : Link). link.uid) chain i no_link d lt

pub its_superiors : {ast : ActiveSegs} {vtocs : List (List (Option VtocEntry))} {volumes : ℕ} {chain : List Link}
    → MayActivate ast vtocs volumes chain → HasItsSuperiors ast.entries (uids_of chain)
its_superiors {chain} may place uid superior holds there above =
    let within : there.0 < length chain = rw (length-map chain (λ (link : Link). link.uid)) at there.1 in
    let link = uid_of_link chain there.0 uid within in
    before there.0 superior within (sym (may.superiors there.0 place within (rw (← link, there.2) holds)) ∙ above)
  where
    before : (i superior : ℕ) → i < length chain → superior_of chain i ≡ Some superior
        → Contains (uids_of chain) superior
    before zero superior lt e = cc
    before (suc i) superior lt e = (
      i,
      rw (length-map chain (λ (link : Link). link.uid)) (omega arith),
      uid_of_link chain i superior (omega arith) ∙ same_Some _ _ e,
    )

-- and so the superiors that are given for it
pub given_superiors : (ast : ActiveSegs) (vtocs : List (List (Option VtocEntry))) (volumes : ℕ) (chain : List Link)
    (uids : List ℕ) → uids ≡ uids_of chain → MayActivate ast vtocs volumes chain → HasItsSuperiors ast.entries uids
given_superiors ast vtocs volumes chain uids is may = rw is (its_superiors may)

-- ---- the first that is not active

pub active_from : (r : Option ℕ) (entries : List (Option Entry)) (uid : ℕ)
    → ((place : ℕ) → (r ≡ Some place) ↔ (uid_at entries place ≡ Some uid)) → is_some r ≡ true → IsActive entries uid
active_from None entries uid h e = cc
active_from (Some place) entries uid h e = (place, (h place).0 refl)

pub one_more : (entries : List (Option Entry)) (chain : List Link) (i : ℕ)
    → ((j : ℕ) → j < i → IsActive entries (link_at chain j).uid)
    → IsActive entries (link_at chain i).uid → (j : ℕ) → j < i + 1 → IsActive entries (link_at chain j).uid
one_more entries chain i before active j lt = elim (cases_eq j i) [
  | inl same ↦ rw same active
  | inr ne ↦ before j (omega arith)
]

pub not_stuck_active : {ast : ActiveSegs} {chain : List Link} → AreActive ast.entries chain → {i : ℕ}
    → IsStuck ast chain i → ⊥
not_stuck_active {ast} {chain} all {i} stuck =
    let active : IsActive ast.entries (link_at chain i).uid = all.each i stuck.first.within in
    stuck.first.inactive.nowhere active.0 active.1

first_before : {entries : List (Option Entry)} {chain : List Link} {i j : ℕ} → IsFirstInactive entries chain i
    → IsFirstInactive entries chain j → i < j → ⊥
first_before {i} one two lt = (let active = two.before i lt in one.inactive.nowhere active.0 active.1)

pub first_once : {entries : List (Option Entry)} {chain : List Link} {i j : ℕ} → IsFirstInactive entries chain i
    → IsFirstInactive entries chain j → i ≡ j
first_once one two = omega (arith, first_before one two, first_before two one)

pub not_stuck_free : {ast : ActiveSegs} {chain : List Link} {i j : ℕ} → IsFirstInactive ast.entries chain j
    → (IsFull ast (link_at chain j).pool → ⊥) → IsStuck ast chain i → ⊥
not_stuck_free first room stuck = room (rw (first_once stuck.first first) at stuck.full)

pub if_none : {X : Type 0} (o : Option ℕ) → X → IfNone o X
if_none None x = x
if_none (Some i) x = tt

-- ---- page tables

pub words_few : (pool : ℕ) → pool < 4 → words_in pool ≤ 256
words_few (suc (suc (suc (suc pool)))) lt = absurd (omega arith)
words_few _ lt = omega arith

pub load_step : (places : List (Option ℕ)) (table : List Ptw) (p : ℕ) (w : Ptw) → p < length table → take p table
    ≡ table_for places p
    → w ≡ filed_word (get_or places p None) → take (p + 1) (set table p w) ≡ table_for places (p + 1)
load_step places table p w lt filled is = rw (add-one, take-suc-set table p w lt, filled, is, table_suc places p)

-- ---- the victim

pub going_free : {X : Type 0} {ast : ActiveSegs} {chain : List Link} {place j : ℕ} → IsFirstInactive ast.entries chain j
    → (IsFull ast (link_at chain j).pool → ⊥) → IsGoing ast chain place → X
going_free first room going = absurd (not_stuck_free first room going.stuck)

pub going_whole : {X : Type 0} {ast : ActiveSegs} {chain : List Link} {place : ℕ} → AreActive ast.entries chain
    → IsGoing ast chain place → X
going_whole all going = absurd (not_stuck_active all going.stuck)

pub going_is : {ast : ActiveSegs} {chain : List Link} {place : ℕ} (victim : ℕ) {j : ℕ}
    → IsFirstInactive ast.entries chain j → ((q : ℕ) → IsVictim ast (link_at chain j).pool (uids_of chain) q
    → q ≡ victim) → IsGoing ast chain place → place ≡ victim
going_is {place} victim first only going = only place (rw (first_once going.stuck.first first) at going.victim)
