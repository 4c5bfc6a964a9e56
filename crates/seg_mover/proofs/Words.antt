-- The words of a segment that moves, after one more page was copied or not.
pub use Rattle.seg_mover.proofs.Choosing.{AreCopied, Bool, Err, HasCopied, HasParts, IsMoving, IsSome, KeepsTables, List, Mover, None, Ok, OnOk, Option, Result, Some, Vols, [], after_copy, ap, arith, below_or_past, cases_eq, copied, false, flag_within, get_or, get_or-map, get_or-set_other, inl, inr, is_some, is_to_copy, least_if, least_to_copy, length, length-map, map, map_at, moved_on, named_from, none_to_copy, number_or_zero, off_and_on, page_to_copy, pages_at, place_at, put_here, put_other, records_at, refl, rules, some_number, sym, true, with_page, words_filed, words_of, ℕ, ◌+◌, ◌<◌, ◌∙◌, ◌≡◌, ◌≢◌, ◌⊎◌}
use Rattle.seg_mover.proofs.Begun.{records_there}

-- a volume has as many records as its drive has pages
sizes_same : {D : Type 0} (pages : D → List (List ℕ)) (vols : Vols D) (v : ℕ) → HasParts (map pages vols.drives)
    vols.records vols.vtocs → v < length vols.drives → length (records_at vols v) ≡ length (pages_at pages vols v)
sizes_same pages vols v parts lt =
    let disk : v < length (map pages vols.drives) = omega (arith, length-map vols.drives pages) in
    cc (
      get_or-map length vols.records v [] 0 (records_there pages vols v parts lt),
      get_or-map length (map pages vols.drives) v [] 0 disk,
    )

-- what a call that looks for the next page to copy leaves
pub record Copies {D E : Type 0} (pages : D → List (List ℕ)) (old new : Vols D) (m n : Mover) (skip : List Bool)
    (result : Result Bool E) : Type 0 where
  pub moving : IsMoving old m
  pub parts : HasParts (map pages old.drives) old.records old.vtocs
  pub step : HasCopied (map pages old.drives) (map pages new.drives) old m n (page_to_copy old m skip) result
  pub tables : KeepsTables old new

place_kept : {D : Type 0} {old new : Vols D} (home : ℕ × ℕ) (p : ℕ) → KeepsTables old new
    → place_at new home p ≡ place_at old home p
place_kept home p tables = rw tables.vtocs

pub map_kept : {D : Type 0} {old new : Vols D} (home : ℕ × ℕ) → KeepsTables old new → map_at new home ≡ map_at old home
map_kept home tables = rw tables.vtocs

-- the drives hold what they held, or one page more was copied
after_cases : {E : Type 0} {D : Type 0} (disks now : List (List (List ℕ)))
    (vols : Vols D) (m : Mover) (page : Option ℕ) (result : Result Bool E) → now ≡ after_copy disks vols m page result
    → (now ≡ disks) ⊎ ((p : ℕ) × (page ≡ Some p) × (now ≡ copied disks vols m p))
after_cases disks now vols m None result is = inl is
after_cases disks now vols m (Some p) (Ok x) is = inr (p, refl, is)
after_cases disks now vols m (Some p) (Err e) is = inl is

-- the new record of a page that was copied
record IsCopy {D : Type 0} (pages : D → List (List ℕ)) (old : Vols D) (m : Mover) (p r : ℕ) : Type 0 where
  place : place_at old m.to p ≡ Some r
  there : m.to.0 < length (map pages old.drives)
  within : r < length (pages_at pages old m.to.0)

copy_of : {D : Type 0} (pages : D → List (List ℕ)) (old : Vols D) (m : Mover) (skip : List Bool) (p : ℕ)
    → IsMoving old m → HasParts (map pages old.drives) old.records old.vtocs → page_to_copy old m skip ≡ Some p
    → (r : ℕ) × IsCopy pages old m p r
copy_of pages old m skip p moving parts is =
    let least = least_to_copy old m skip p is in
    let named : IsSome (place_at old m.to p) = moving.same p ∙ named_from (place_at old m.from p) _ least.wanted in
    let found = some_number (place_at old m.to p) named in
    let within = flag_within (records_at old m.to.0) found.0 (moving.new_kept.used p found.0 found.1) in (
      found.0,
      record {
        place = found.1;
        there = omega (arith, length-map old.drives pages);
        within = omega (arith, sizes_same pages old m.to.0 parts moving.target);
      },
    )

-- the page that was copied
here : {D : Type 0} (pages : D → List (List ℕ)) (old new : Vols D) (m : Mover) (p r : ℕ) → IsCopy pages old m p r
    → KeepsTables old new → map pages new.drives ≡ copied (map pages old.drives) old m p
    → words_of pages new m.to p ≡ words_of pages old m.from p
here pages old new m p r copy tables is = rw is (cc (
  place_kept m.to p tables,
  put_here (map pages old.drives) m.to.0 r (words_of pages old m.from p) [] copy.there copy.within,
))
  where
    put_at : Option ℕ → List (List (List ℕ))
    put_at place = with_page (map pages old.drives) m.to.0 (number_or_zero place) (words_of pages old m.from p)

-- another page
elsewhere : {D : Type 0} (pages : D → List (List ℕ)) (old new : Vols D) (m : Mover) (p r q : ℕ) → IsMoving old m
    → IsCopy pages old m p r → map pages new.drives ≡ copied (map pages old.drives) old m p → q ≢ p → (place : Option ℕ)
    → place_at old m.to q ≡ place → words_filed (pages_at pages new m.to.0) place
    ≡ words_filed (pages_at pages old m.to.0) place
elsewhere pages old new m p r q moving copy is other None at = refl
elsewhere pages old new m p r q moving copy is other (Some s) at =
    rw (is, copy.place) (put_other (map pages old.drives) m.to.0 r (words_of pages old m.from p) [] m.to.0 s copy.there
    (λ _ same. other (moving.new_kept.once q p s at (cc))))

kept : {D : Type 0} (pages : D → List (List ℕ)) (old new : Vols D) (home : ℕ × ℕ) (q : ℕ)
    → KeepsTables old new → words_filed (pages_at pages new home.0) (place_at old home q) ≡ words_filed
    (pages_at pages old home.0) (place_at old home q) → words_of pages new home q ≡ words_of pages old home q
kept pages old new home q tables same = cc (place_kept home q tables)

-- the page that is copied next isn't before it
not_before : {D : Type 0} (old : Vols D) (m : Mover) (skip : List Bool) (q : ℕ) → q < m.next
    → page_to_copy old m skip ≢ Some q
not_before old m skip q lt is = omega (arith, (least_to_copy old m skip q is).late)

module _ {D E : Type 0} {pages : D → List (List ℕ)} {old new : Vols D} {m n : Mover} {skip : List Bool}
    {result : Result Bool E} (h : Copies pages old new m n skip result) where
  pub words_others : (q : ℕ) → page_to_copy old m skip ≢ Some q → words_of pages new m.to q ≡ words_of pages old m.to q
  words_others q other = kept pages old new m.to q h.tables (elim
      (after_cases (map pages old.drives) (map pages new.drives) old m (page_to_copy old m skip) result h.step.pages) [
        | inl same ↦ rw same
        | inr one ↦ (let copy = copy_of pages old m skip one.0 h.moving h.parts one.1 in
            elsewhere pages old new m one.0 copy.0 q h.moving copy.1 one.2 (λ same. other (cc))
            (place_at old m.to q) refl)
      ])

  pub pages_source : pages_at pages new m.from.0 ≡ pages_at pages old m.from.0
  pages_source =
      elim (after_cases (map pages old.drives) (map pages new.drives) old m (page_to_copy old m skip) result
      h.step.pages) [
        | inl same ↦ ap (λ (disks : List (List (List ℕ))). get_or disks m.from.0 []) same
        | inr one ↦ rw one.2 (get_or-set_other (map pages old.drives) m.to.0 m.from.0 _ [] h.moving.other)
      ]

  words_source : (q : ℕ) → words_of pages new m.from q ≡ words_of pages old m.from q
  words_source q =
      kept pages old new m.from q h.tables (cc (pages_source))

  -- a page of before stays as it is
  stays : AreCopied pages old m skip → (q : ℕ) → q < m.next → page_to_copy old m skip ≢ Some q
      → is_to_copy (map_at new m.from) skip q ≡ true → words_of pages new m.to q ≡ words_of pages new m.from q
  stays done q lt other wanted =
      words_others q other ∙ done.words q lt (cc (map_kept m.from h.tables)) ∙ sym (words_source q)

  same_mover : AreCopied pages old m skip → AreCopied pages new m skip
  same_mover done = record { words = λ q lt wanted. stays done q lt (not_before old m skip q lt) wanted }

pub words_page : {D E : Type 0} {pages : D → List (List ℕ)} {old new : Vols D} {m n : Mover} {skip : List Bool}
    {result : Result Bool E} → Copies pages old new m n skip result → (p : ℕ) → page_to_copy old m skip ≡ Some p
    → OnOk result (words_of pages new m.to p ≡ words_of pages old m.from p)
words_page {result = Err e} h p is = tt
words_page {E} {pages} {old} {new} {m} {skip} {result = Ok x} h p is =
    let copy = copy_of pages old m skip p h.moving h.parts is in
    here pages old new m p copy.0 copy.1 h.tables (cc)

-- ---- the pages that were copied

one_more : {D E : Type 0} {pages : D → List (List ℕ)} {old new : Vols D} {m n : Mover} {skip : List Bool} {x : Bool}
    (p : ℕ) → Copies {E = E} pages old new m n skip (Ok x) → AreCopied pages old m skip
    → page_to_copy old m skip ≡ Some p → AreCopied pages new (record m { next = p + 1 }) skip
one_more {pages} {old} {new} {m} {skip} p h done is = record { words = words }
  where
    wanted_then : (q : ℕ) → is_to_copy (map_at new m.from) skip q ≡ true → is_to_copy (map_at old m.from) skip q ≡ true
    wanted_then q wanted = cc (map_kept m.from h.tables)

    words : (q : ℕ) → q < p + 1 → is_to_copy (map_at new m.from) skip q ≡ true
        → words_of pages new m.to q ≡ words_of pages new m.from q
    words q lt wanted = elim (cases_eq q p) [
      | inl same ↦ words_page h q (cc) ∙ sym (words_source h q)
      | inr other ↦ elim (below_or_past q m.next) [
        | inl before ↦ stays h done q before (not_before old m skip q before) wanted
        | inr late ↦ absurd (off_and_on (is_to_copy (map_at old m.from) skip q)
            ((least_to_copy old m skip p is).before q late (omega arith)) (wanted_then q wanted))
      ]
    ]

pub are_copied : {D E : Type 0} {pages : D → List (List ℕ)} {old new : Vols D} {m n : Mover} {skip : List Bool} {result
    : Result Bool E} → Copies pages old new m n skip result → AreCopied pages old m skip → AreCopied pages new n skip
are_copied {E} {pages} {old} {new} {m} {n} {skip} {result} h done =
    rw h.step.mover (go (page_to_copy old m skip) result refl h)
  where
    go : (page : Option ℕ) (res : Result Bool E) → page_to_copy old m skip ≡ page → Copies pages old new m n skip res
        → AreCopied pages new (moved_on m page res) skip
    go None res is same = same_mover same done
    go (Some p) (Ok x) is same = one_more p same done is
    go (Some p) (Err e) is same = same_mover same done

-- there is none left
none_from : (page : Option ℕ) → false ≡ is_some page → page ≡ None
none_from None is = refl
none_from (Some p) is = cc

pub all_copied : {D E : Type 0} {pages : D → List (List ℕ)} {old new : Vols D} {m n : Mover} {skip : List Bool} {result
    : Result Bool E} → Copies pages old new m n skip result → result ≡ Ok false → AreCopied pages old m skip → (p : ℕ)
    → p < 256 → is_to_copy (map_at new n.from) skip p ≡ true → words_of pages new n.to p ≡ words_of pages new n.from p
all_copied {pages} {old} {new} {m} {n} {skip} {result} h ended done =
    let none : page_to_copy old m skip ≡ None = none_from (page_to_copy old m skip) (rw ended at h.step.answer) in
    let same : n ≡ m = h.step.mover ∙ ap (λ (page : Option ℕ). moved_on m page result) none in
    rw same (go none)
  where
    go : page_to_copy old m skip ≡ None → (p : ℕ) → p < 256 → is_to_copy (map_at new m.from) skip p ≡ true
        → words_of pages new m.to p ≡ words_of pages new m.from p
    go none p lt wanted = elim (below_or_past p m.next) [
      | inl before ↦ stays h done p before (not_before old m skip p before) wanted
      | inr late ↦ absurd (off_and_on (is_to_copy (map_at old m.from) skip p) (none_to_copy old m skip none p late lt)
          (cc (map_kept m.from h.tables)))
    ]
