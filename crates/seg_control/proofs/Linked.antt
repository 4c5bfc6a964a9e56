-- Descriptors, trailers and known segment tables after a call.
pub use Rattle.seg_control.proofs.Counts.{AreExact, AreLinked, Bool, Entry, Fault, IsDistinct-from_apart, Links, List, Option, Sdw, Some, [], and_from, and_parts, any_at, ap, arith, cases_eq, count_one, count_push, count_remove, count_some, count_two, eq-eqb, eqb, eqb-true, false, get_or, get_or-map, get_or-set_other, get_or-set_same, get_or_any, inl, inr, kst_at, leads, leads_at, leads_to, length, length-le_from_distinct_below, length-map, length-set, map, ne_eqb, refl, same_Some, sdw_at, sdws_at, set, shown_within, sym, times, times_few, times_one, trailers_of, true, uid_of, weight, ℕ, ◌<◌, ◌∙◌, ◌≡◌, ◌≢◌, ◌≤◌, ◌⊎◌}
pub use Rattle.seg_control.proofs.Paged.{each_set}

-- ---- descriptors

-- a pair of numbers is this one, or another
pub pair_cases : (q n process number : ℕ) → ((q ≡ process) × (n ≡ number)) ⊎ (q ≡ process → n ≢ number)
pair_cases q n process number = elim (cases_eq q process) [
  | inl e ↦ elim (cases_eq n number) [ inl f ↦ inl (e, f) | inr ne ↦ inr (λ _. ne) ]
  | inr ne ↦ inr (λ e. absurd (ne e))
]

-- the process of a descriptor that leads somewhere
pub leads_within : (descriptors : List (List Sdw)) (q n place : ℕ) → leads_at descriptors q n ≡ Some place
    → q < length descriptors
leads_within descriptors q n place e =
    shown_within (λ (words : List Sdw). leads (sdw_at words n)) descriptors q [] place refl e

module _ (descriptors : List (List Sdw)) (process number : ℕ) (w : Sdw) (process_within : process < length descriptors)
    (number_within : number < length (sdws_at descriptors process)) where
  pub leads_this : leads_at (set descriptors process (set (sdws_at descriptors process) number w)) process number
      ≡ leads w
  leads_this = rw (
    get_or-set_same descriptors process (set (sdws_at descriptors process) number w) [] process_within,
    get_or-set_same (sdws_at descriptors process) number w Fault number_within,
  )

  pub leads_other : (q n : ℕ) → (q ≡ process → n ≢ number)
      → leads_at (set descriptors process (set (sdws_at descriptors process) number w)) q n ≡ leads_at descriptors q n
  leads_other q n = each_set descriptors (set (sdws_at descriptors process) number w) [] (λ k words. (k ≡ process
      → n ≢ number) → leads (sdw_at words n) ≡ leads_at descriptors k n) process_within (λ other. rw
      (get_or-set_other (sdws_at descriptors process) number n w Fault (other refl))) (λ k ne other. refl) q

  pub words_kept : (q : ℕ) → length (sdws_at (set descriptors process (set (sdws_at descriptors process) number w)) q)
      ≡ length (sdws_at descriptors q)
  words_kept = each_set descriptors (set (sdws_at descriptors process) number w) [] (λ k words. length words ≡ length
      (sdws_at descriptors k)) process_within (length-set (sdws_at descriptors process) number w) (λ k ne. refl)

-- ---- trailers

pub leads_to_itself : (process number : ℕ) → leads_to process number (process, number) ≡ true
leads_to_itself process number = and_from _ _ (eq-eqb process process refl) (eq-eqb number number refl)

pub leads_to_is : (q n : ℕ) (x : ℕ × ℕ) → leads_to q n x ≡ true → (x.0 ≡ q) × (x.1 ≡ n)
leads_to_is q n x e = (let both = and_parts (eqb x.0 q) (eqb x.1 n) e in
    (eqb-true x.0 q both.0, eqb-true x.1 n both.1))

pub leads_to_not : (q n : ℕ) (x : ℕ × ℕ) → (q ≡ x.0 → n ≢ x.1) → weight (leads_to q n x) ≡ 0
leads_to_not q n x other = by_test (leads_to q n x) refl
  where
    by_test : (b : Bool) → leads_to q n x ≡ b → weight (leads_to q n x) ≡ 0
    by_test true e = (let same = leads_to_is q n x e in absurd (other (sym same.0) (sym same.1)))
    by_test false e = rw e

pub times_same : (place : ℕ) → times (Some place) place ≡ 1
times_same place = ap weight (eq-eqb place place refl)

pub times_other : (place q : ℕ) → q ≢ place → times (Some place) q ≡ 0
times_other place q ne = ap weight (ne_eqb place q (λ e. ne (sym e)))

-- a trailer leads to a descriptor that leads back
pub trailer_leads : (trailers : List (List (ℕ × ℕ))) (descriptors : List (List Sdw)) (place i : ℕ)
    → AreExact trailers descriptors → i < length (trailers_of trailers place) → leads_at descriptors
    (get_or (trailers_of trailers place) i (0, 0)).0 (get_or (trailers_of trailers place) i (0, 0)).1 ≡ Some place
trailer_leads trailers descriptors place i exact lt =
    let x : ℕ × ℕ = get_or (trailers_of trailers place) i (0, 0) in
    let some = count_one (leads_to x.0 x.1) (trailers_of trailers place) i (0, 0) lt (leads_to_itself x.0 x.1) in
    let is = exact place x.0 x.1 in
    times_one (leads_at descriptors x.0 x.1) place (omega arith)

-- no process has two trailers in one list, so there are at most as many as processes
pub most_trailers : {entries : List (Option Entry)} {links : Links} (place : ℕ) → AreLinked entries links
    → length (trailers_of links.trailers place) ≤ 32
most_trailers {links} place k =
    let xs : List (ℕ × ℕ) = trailers_of links.trailers place in
    let as_long = length-map xs (λ (x : ℕ × ℕ). x.0) in
    let most = length-le_from_distinct_below (map (λ (x : ℕ × ℕ). x.0) xs) 32
    (IsDistinct-from_apart eqb (map (λ (x : ℕ × ℕ). x.0) xs) (λ i j d less lt. apart i j d less (rw as_long at lt)))
    (λ q any. (let found = any_at q xs (0, 0) any in
    let within = leads_within links.descriptors (get_or xs found.0 (0, 0)).0 (get_or xs found.0 (0, 0)).1 place
    (trailer_leads links.trailers links.descriptors place found.0 k.exact found.1) in
    omega (arith, found.2, k.lists.few, k.lists.processes))) in
    rw as_long at most
  where
    first_at : (xs : List (ℕ × ℕ)) (i d : ℕ) → i < length xs → get_or (map (λ (x : ℕ × ℕ). x.0) xs) i d
        ≡ (get_or xs i (0, 0)).0
    first_at xs i d lt = rw (get_or_any xs i (0, 0) (d, 0) lt) (get_or-map (λ (x : ℕ × ℕ). x.0) xs i (d, 0))

    apart : (i j d : ℕ) → i < j → j < length (trailers_of links.trailers place)
        → eqb (get_or (map (λ (x : ℕ × ℕ). x.0) (trailers_of links.trailers place)) i d)
        (get_or (map (λ (x : ℕ × ℕ). x.0) (trailers_of links.trailers place)) j d) ≡ false
    apart i j d less lt =
        let xs : List (ℕ × ℕ) = trailers_of links.trailers place in
        let a : ℕ × ℕ = get_or xs i (0, 0) in
        let b : ℕ × ℕ = get_or xs j (0, 0) in
        let lt_i : i < length xs = omega arith in
        ne_eqb _ _ (λ same. (let process : b.0 ≡ a.0 = sym (first_at xs j d lt) ∙ sym same ∙ first_at xs i d lt_i in
        let one = k.known a.0 a.1 place (trailer_leads links.trailers links.descriptors place i k.exact lt_i) in
        let two = k.known b.0 b.1 place (trailer_leads links.trailers links.descriptors place j k.exact lt) in
        let uid : two.uid ≡ one.uid = same_Some _ _ (cc) in
        let known : uid_of (kst_at links.known a.0) b.1 ≡ Some one.uid =
        ap (λ (q : ℕ). uid_of (kst_at links.known q) b.1) (sym process) ∙ two.known_as ∙ ap (λ (n : ℕ). Some n) uid in
        let number : b.1 ≡ a.1 = k.each a.0 b.1 a.1 one.uid known one.known_as in
        let twice = count_two (leads_to a.0 a.1) xs i j (0, 0) less lt (leads_to_itself a.0 a.1)
        (and_from _ _ (eq-eqb b.0 a.0 process) (eq-eqb b.1 a.1 number)) in
        omega (arith, k.exact place a.0 a.1, times_few (leads_at links.descriptors a.0 a.1) place)))
