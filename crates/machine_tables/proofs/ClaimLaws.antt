-- What a claim of a tree command names stays while pages are taken, and the descriptors of a process are cut in order.
use Rattle.machine_tables.proofs.Prelude.{◌≡◌, ◌≢◌, ◌+◌, ◌-◌, ◌<◌, ◌≤◌, ℕ, suc, zero, true, length, List, [], ◌∷◌, ◌++◌, map, set, Option, Some, None, refl, sym, ap, ◌∙◌, arith, inl, inr, length-append, filter, range_with_len, nat_tests, cases_lt, get_or-set_other, get_or-set_same, What, is_command, Fault, Links, leads_at, sdws_at, unlinked, Aim, cut_all, cut_one, take_all, took, connected_of, cut_of_owner, descriptor_of, is_connected, State, none_some, Cuts, cuts_in, HasOwner, Parts, with_state, take_cut, cut_long, one_known, Command as command, Cuts as cuts, Claimed_number_in as number_in}
use lib.Seq.{set_out}
use Rattle.machine_tables.proofs.TakeLaws.{owner_still, room_less}
use Rattle.machine_tables.proofs.TookLaws.{links_still, trailers_still}

-- ---- while pages are taken

pub cuts_still : (s : State) (c : ℕ) (a : Aim) (w : What) (fs : List ℕ) (k uid : ℕ) (x : Cuts)
    → cuts_in (take_all s c a w fs).store k uid x ≡ cuts_in s.store k uid x
cuts_still s c a w fs k uid cuts.Nothing = refl
cuts_still s c a w fs k uid cuts.Trailers = trailers_still s c a w fs uid
cuts_still s c a w fs k uid (cuts.Number n) = cc (links_still s c a w fs)
cuts_still s c a w fs k uid cuts.All = cc (links_still s c a w fs)

-- what the cuts ask, once the pages are taken
pub record CanCutClaim (t : State) (k uid : ℕ) (x : Cuts) : Type 0 where
  pub knows : k < length t.store.links.known
  pub owner : HasOwner t.owner
  pub few : length (cut_of_owner t.owner) + length (cuts_in t.store k uid x) ≤ 256
  pub room : length (cuts_in t.store k uid x) ≤ t.spare

pub claim_after : (s t : State) (c : ℕ) (a : Aim) (w : What) (fs : List ℕ) (k uid : ℕ) (x : Cuts)
    → t ≡ take_all s c a w fs → k < length s.store.links.known → HasOwner s.owner
    → length (cut_of_owner s.owner) + length (cuts_in s.store k uid x) ≤ 256
    → length fs + length (cuts_in s.store k uid x) ≤ s.spare → CanCutClaim t k uid x
claim_after s t c a w fs k uid x is knows owner few room =
    grind (arith, links_still, owner_still, take_cut, cuts_still, room_less)

pub claim_is : {D : Type 0} (old mid new : Parts D) (c : ℕ) (a : Aim) (w : What) (fs : List ℕ) (k uid : ℕ) (x : Cuts)
    → mid ≡ with_state old (take_all old.state c a w fs)
    → new ≡ with_state mid (cut_all mid.state c a w (cuts_in mid.state.store k uid x))
    → new ≡ with_state old (took old.state c a w fs (cuts_in old.state.store k uid x))
claim_is old mid new c a w fs k uid x took cut = cc (cuts_still old.state c a w fs k uid x)

-- ---- the descriptors of a process, in order

cut_all-append : (s : State) (c : ℕ) (a : Aim) (w : What) (xs ys : List (ℕ × ℕ))
    → cut_all s c a w (xs ++ ys) ≡ cut_all (cut_all s c a w xs) c a w ys
cut_all-append s c a w [] ys = refl
cut_all-append s c a w (x ∷ xs) ys = cut_all-append (cut_one s c a w x) c a w xs ys

abbrev pub connected_in : Links → ℕ → List ℕ → List (ℕ × ℕ)
connected_in links k ns = map (λ n. (k, n)) (filter (λ n. is_connected (descriptor_of links k n)) ns)

-- those from a number on
abbrev pub connected_from : Links → ℕ → ℕ → List (ℕ × ℕ)
connected_from links k n = connected_in links k (range_with_len n (256 - n))

one_connected : (links : Links) (k n : ℕ) (ns : List ℕ)
    → connected_in links k (n ∷ ns) ≡ number_in links k n ++ connected_in links k ns
one_connected links k n ns = grind arith

pub next_connected : (links : Links) (k n : ℕ) → n < 256
    → connected_from links k n ≡ number_in links k n ++ connected_from links k (n + 1)
next_connected links k n lt = grind (arith, one_connected)

pub none_connected : (links : Links) (k n : ℕ) → 256 ≤ n → connected_from links k n ≡ []
none_connected links k n le = grind arith

-- a cut leaves the other numbers of the process
number_left : (links : Links) (k n m : ℕ) → n ≢ m
    → descriptor_of (unlinked links k n (leads_at links.descriptors k n)) k m ≡ descriptor_of links k m
number_left links k n m ne = by (leads_at links.descriptors k n)
  where
    here : (place : ℕ) → descriptor_of (unlinked links k n (Some place)) k m ≡ descriptor_of links k m
    here place = elim (cases_lt k (length links.descriptors)) [
      | inl lt ↦ rw (get_or-set_same, get_or-set_other _ n m Fault Fault (λ e. ne (sym e)))
      | inr le ↦ rw (set_out links.descriptors k (set (sdws_at links.descriptors k) n Fault) le)
    ]

    by : (o : Option ℕ) → descriptor_of (unlinked links k n o) k m ≡ descriptor_of links k m
    by None = refl
    by (Some place) = here place

rest_left : (links : Links) (k n from count : ℕ) → n < from
    → connected_in (unlinked links k n (leads_at links.descriptors k n)) k (range_with_len from count)
    ≡ connected_in links k (range_with_len from count)
rest_left links k n from zero lt = refl
rest_left links k n from (suc count) lt = cc (
  one_connected (unlinked links k n (leads_at links.descriptors k n)) k from (range_with_len (from + 1) count),
  number_left links k n from (λ e. (omega arith)),
  rest_left links k n (from + 1) count (omega arith),
  one_connected links k from (range_with_len (from + 1) count),
)

-- once a number is cut, if it was connected, the rest is left
pub from_left : (s : State) (c : ℕ) (a : Aim) (w : What) (k n : ℕ)
    → connected_from (cut_all s c a w (number_in s.store.links k n)).store.links k (n + 1)
    ≡ connected_from s.store.links k (n + 1)
from_left s c a w k n = grind (arith, rest_left)

-- so far as the numbers of a process are cut, the rest leads to the same
pub record CutsAllOn (now first : State) (c : ℕ) (a : Aim) (w : What) (k n : ℕ) : Type 0 where
  pub same : cut_all now c a w (connected_from now.store.links k n)
      ≡ cut_all first c a w (connected_of first.store.links k)
  pub knows : k < length now.store.links.known
  pub owner : HasOwner now.owner
  pub few : length (cut_of_owner now.owner) + length (connected_from now.store.links k n) ≤ 256
  pub room : length (connected_from now.store.links k n) ≤ now.spare

pub number_few : {s first : State} {c : ℕ} {a : Aim} {w : What} {k n : ℕ} → CutsAllOn s first c a w k n → n < 256
    → (length (cut_of_owner s.owner) + length (number_in s.store.links k n) ≤ 256)
    × (length (number_in s.store.links k n) ≤ s.spare)
number_few {s} {k = k} {n} on lt = grind (arith, next_connected)

-- what a cut leaves of the rest
one_owner : (s : State) (c : ℕ) (a : Aim) (w : What) (xs : List (ℕ × ℕ)) → HasOwner s.owner
    → HasOwner (cut_all s c a w xs).owner
one_owner s c a w [] has = has
one_owner s c a w (x ∷ xs) has = one_owner (cut_one s c a w x) c a w xs (λ none. none_some (sym none))

cuts_spent : (s : State) (c : ℕ) (a : Aim) (w : What) (xs : List (ℕ × ℕ)) → length xs ≤ s.spare
    → (cut_all s c a w xs).spare + length xs ≡ s.spare
cuts_spent s c a w [] le = omega arith
cuts_spent s c a w (x ∷ xs) le =
    let rest = cuts_spent (cut_one s c a w x) c a w xs (omega arith) in omega arith

cuts_known : (s : State) (c : ℕ) (a : Aim) (w : What) (xs : List (ℕ × ℕ))
    → (cut_all s c a w xs).store.links.known ≡ s.store.links.known
cuts_known s c a w [] = refl
cuts_known s c a w (x ∷ xs) = cuts_known (cut_one s c a w x) c a w xs
    ∙ one_known s.store.links x.0 x.1 (leads_at s.store.links.descriptors x.0 x.1)

pub number_next : {s t first : State} {c : ℕ} {a : Aim} {w : What} {k n : ℕ} → CutsAllOn s first c a w k n
    → n < 256 → t ≡ cut_all s c a w (number_in s.store.links k n) → CutsAllOn t first c a w k (n + 1)
number_next {s} {c = c} {a} {w} {k} {n} on lt is = rw is (
    let xs = number_in s.store.links k n in
    let all = next_connected s.store.links k n lt in
    let left = from_left s c a w k n in
    let count = ap length all ∙ length-append xs (connected_from s.store.links k (n + 1)) in
    let less = ap length left in
    let more = cut_long s c a w xs in
    let spent = cuts_spent s c a w xs (omega arith) in
    record {
      same = cc (cut_all-append s c a w xs (connected_from s.store.links k (n + 1)));
      knows = rw (cuts_known s c a w xs) on.knows;
      owner = one_owner s c a w xs on.owner;
      few = omega arith;
      room = omega arith;
    })

pub numbers_end : {s first : State} {c : ℕ} {a : Aim} {w : What} {k n : ℕ} → CutsAllOn s first c a w k n → 256 ≤ n
    → s ≡ cut_all first c a w (connected_of first.store.links k)
numbers_end {s} {first} {c} {a} {w} {k} {n} on le = cc (none_connected s.store.links k n le)

-- ---- numbers

pub terminate_small : (volumes number : ℕ) → is_command volumes (command.Terminate number) ≡ true → number < 256
unfolding is_command
terminate_small volumes number h = grind (arith, nat_tests)
