-- Descriptors of a segment that are cut one after the other.
use Rattle.machine_tables.proofs.Prelude.{◌≡◌, ◌+◌, ◌<◌, ◌≤◌, ℕ, Bool, true, cond, count_by, List, [], ◌∷◌, length, get_or, Option, Some, refl, sym, ap, ◌∙◌, arith, length-append, slice_get, lt-ltb, get_or-set_same, nil_from_length, sum_by-cons, What, Entry, IsActive, Sdw, Fault, leads_to, trailers_of, without_trailer, Links, leads, leads_at, place_of, sdws_at, unlinked, AreLinked, Aim, CutDescriptor, cut_all, cut_one, note_of, cut_of_owner, descriptor_of, trailers_in, State, Storage, none_some, active_at, HasOwner, IsOldest, eqb_self, shown_within, times_one, within_from}

-- ---- the oldest trailer

own_trailer : (x : ℕ × ℕ) → leads_to x.0 x.1 x ≡ true
own_trailer x = rw (eqb_self x.0, eqb_self x.1) refl

abbrev tally : Bool → ℕ
tally b = cond b 1 0

-- a trailer of a place leads there
pub first_leads : (entries : List (Option Entry)) (links : Links) (place : ℕ) (pair : ℕ × ℕ) (rest : List (ℕ × ℕ))
    → AreLinked entries links → trailers_of links.trailers place ≡ pair ∷ rest
    → leads_at links.descriptors pair.0 pair.1 ≡ Some place
first_leads entries links place pair rest linked is = times_one (leads_at links.descriptors pair.0 pair.1) place
    (let one : tally (leads_to pair.0 pair.1 pair) ≡ 1 = ap tally (own_trailer pair) in
    let sum : count_by (leads_to pair.0 pair.1) (pair ∷ rest)
    ≡ tally (leads_to pair.0 pair.1 pair) + count_by (leads_to pair.0 pair.1) rest =
    sum_by-cons (λ y. tally (leads_to pair.0 pair.1 y)) pair rest in
    omega (arith, ap (count_by (leads_to pair.0 pair.1)) is, linked.exact place pair.0 pair.1))

-- the trailers of an active segment
pub trailers_are : (st : Storage) (u : ℕ) → IsActive st.ast.entries u
    → trailers_in st u ≡ trailers_of st.links.trailers (place_of st.ast.entries u)
trailers_are st u active = cc (active_at st.ast active.0 u active.1)

pub no_trailers : (st : Storage) (u : ℕ) → IsActive st.ast.entries u
    → length (trailers_of st.links.trailers (place_of st.ast.entries u)) ≡ 0 → trailers_in st u ≡ []
no_trailers st u active none = grind (arith, trailers_are, nil_from_length)

rest_of : (xs : List (ℕ × ℕ)) (pair : ℕ × ℕ) → slice_get xs 0 ≡ Some pair → (rest : List (ℕ × ℕ)) × (xs ≡ pair ∷ rest)
rest_of [] pair h = cc
rest_of (x ∷ xs) pair h = (xs, let same : x ≡ pair = cc in cc)

pub oldest_is : (st : Storage) (u : ℕ) (pair : ℕ × ℕ) → AreLinked st.ast.entries st.links → IsActive st.ast.entries u
    → slice_get (trailers_of st.links.trailers (place_of st.ast.entries u)) 0 ≡ Some pair → IsOldest st u pair
oldest_is st u pair linked active first = record {
  rest = found.0;
  is = trailers_are st u active ∙ found.1;
  leads = leading;
  process = within;
  number = omega (
    arith,
    linked.lists.words pair.0 within,
    shown_within leads (sdws_at st.links.descriptors pair.0) pair.1 Fault (place_of st.ast.entries u) refl leading,
  );
}
  where
    found : (rest : List (ℕ × ℕ)) × (trailers_of st.links.trailers (place_of st.ast.entries u) ≡ pair ∷ rest)
    found = rest_of (trailers_of st.links.trailers (place_of st.ast.entries u)) pair first

    leading : leads_at st.links.descriptors pair.0 pair.1 ≡ Some (place_of st.ast.entries u)
    leading = first_leads st.ast.entries st.links (place_of st.ast.entries u) pair found.0 linked found.1

    within : pair.0 < length st.links.known
    within = let lt = shown_within (λ (words : List Sdw). leads (get_or words pair.1 Fault)) st.links.descriptors
        pair.0 [] (place_of st.ast.entries u) refl leading in
        omega arith

-- ---- the list of what is cut

owner_still : (s : State) (c : ℕ) (a : Aim) (w : What) (pair : ℕ × ℕ) → HasOwner (cut_one s c a w pair).owner
owner_still s c a w pair none = none_some (sym none)

without_first : (pair : ℕ × ℕ) (rest : List (ℕ × ℕ)) → without_trailer (pair ∷ rest) pair.0 pair.1 ≡ rest
without_first pair rest = rw (own_trailer pair, lt-ltb 0 (length (pair ∷ rest)) (omega arith))

trailers_within : (all : List (List (ℕ × ℕ))) (place : ℕ) (pair : ℕ × ℕ) (rest : List (ℕ × ℕ))
    → trailers_of all place ≡ pair ∷ rest → place < length all
trailers_within all place pair rest is = within_from all place [] (λ none. cc)

-- once the first trailer of a segment is cut, the others are left
pub trailers_left : (st : Storage) (u : ℕ) (pair : ℕ × ℕ) (rest : List (ℕ × ℕ)) → trailers_in st u ≡ pair ∷ rest
    → leads_at st.links.descriptors pair.0 pair.1 ≡ Some (place_of st.ast.entries u) → trailers_in (record st {
      links = unlinked st.links pair.0 pair.1 (leads_at st.links.descriptors pair.0 pair.1);
    }) u ≡ rest
trailers_left st u pair rest is leads = grind (arith, get_or-set_same, trailers_within, without_first)

-- so far as the descriptors of a segment are cut, the rest leads to the same
pub record CutsOn (now first : State) (c : ℕ) (a : Aim) (w : What) (u : ℕ) : Type 0 where
  pub same : cut_all now c a w (trailers_in now.store u) ≡ cut_all first c a w (trailers_in first.store u)
  pub active : IsActive now.store.ast.entries u
  pub owner : HasOwner now.owner
  pub few : length (cut_of_owner now.owner) + length (trailers_in now.store u) ≤ 256
  pub room : length (trailers_in now.store u) ≤ now.spare

pub one_few : {s first : State} {c : ℕ} {a : Aim} {w : What} {u : ℕ} {pair : ℕ × ℕ} → CutsOn s first c a w u
    → IsOldest s.store u pair → (length (cut_of_owner s.owner) < 256) × (0 < s.spare)
one_few on is =
    let all = ap length is.is in (omega arith, omega arith)

pub cuts_next : {s t first : State} {c : ℕ} {a : Aim} {w : What} {u : ℕ} {pair : ℕ × ℕ} → CutsOn s first c a w u
    → IsOldest s.store u pair → t ≡ cut_one s c a w pair → CutsOn t first c a w u
cuts_next {s} {c = c} {a} {w} {u} {pair} on is cut = rw cut (record {
  same = cc (left, is.is, on.same);
  active = on.active;
  owner = owner_still s c a w pair;
  few = omega (arith, length-append (cut_of_owner s.owner) (note ∷ []), on.few, all, less);
  room = omega (arith, on.room, all, less);
})
  where
    left : trailers_in (cut_one s c a w pair).store u ≡ is.rest
    left = trailers_left s.store u pair is.rest is.is is.leads

    less : length (trailers_in (cut_one s c a w pair).store u) ≡ length is.rest
    less = ap length left

    all : length (trailers_in s.store u) ≡ length (pair ∷ is.rest)
    all = ap length is.is

    note : CutDescriptor
    note = note_of s.store pair.0 pair.1 (descriptor_of s.store.links pair.0 pair.1)

-- each cut leaves one less
pub cut_smaller : (s t : State) (c : ℕ) (a : Aim) (w : What) (u : ℕ) (pair : ℕ × ℕ) → IsOldest s.store u pair
    → t ≡ cut_one s c a w pair → length (trailers_in t.store u) < length (trailers_in s.store u)
cut_smaller s t c a w u pair is cut = grind (arith, trailers_left)

pub cuts_end : {s first : State} {c : ℕ} {a : Aim} {w : What} {u : ℕ} → CutsOn s first c a w u
    → trailers_in s.store u ≡ [] → s ≡ cut_all first c a w (trailers_in first.store u)
cuts_end {s} {first} {c} {a} {w} on none = cc
