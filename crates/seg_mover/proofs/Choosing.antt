-- The page that is copied next.
pub use Rattle.seg_mover.proofs.Prelude.{AreCopied, Bool, Err, HasCopied, HasParts, IfSome, IsLeastToCopy, IsMoving, IsSome, KeepsTables, List, Mover, None, Ok, OnOk, Option, Result, Some, Vols, [], after_copy, ap, arith, below_or_past, cases_eq, cond, copied, false, first_to_copy, flag_within, get_or, get_or-map, get_or-set_other, inl, inr, is_some, is_to_copy, length, length-map, map, map_at, moved_on, number_or_zero, off_and_on, page_to_copy, pages_at, place_at, put_here, put_other, records_at, refl, rules, some_number, some_same, suc, sym, true, with_page, words_filed, words_of, zero, ℕ, ◌&&◌, ◌+◌, ◌-◌, ◌<◌, ◌∙◌, ◌≡◌, ◌≢◌, ◌≤◌, ◌⊎◌}

-- one page on
first_suc : (places : List (Option ℕ)) (skip : List Bool) (count p : ℕ) → first_to_copy places skip (suc count) p
    ≡ cond (is_to_copy places skip p) (Some p) (first_to_copy places skip count (p + 1))
unfolding first_to_copy
first_suc places skip count p = refl

first_zero : (places : List (Option ℕ)) (skip : List Bool) (p : ℕ) → first_to_copy places skip 0 p ≡ None
unfolding first_to_copy
first_zero places skip p = refl

first_left : (places : List (Option ℕ)) (skip : List Bool) (p : ℕ) → p < 256 → first_to_copy places skip (256 - p) p
    ≡ cond (is_to_copy places skip p) (Some p) (first_to_copy places skip (256 - (p + 1)) (p + 1))
first_left places skip p lt =
    let more : 256 - p ≡ suc (256 - (p + 1)) = omega arith in
    cc (first_suc places skip (256 - (p + 1)) p)

pub first_here : (places : List (Option ℕ)) (skip : List Bool) (p : ℕ) → p < 256 → is_to_copy places skip p ≡ true
    → first_to_copy places skip (256 - p) p ≡ Some p
first_here places skip p lt wanted = cc (first_left places skip p lt)

pub first_skip : (places : List (Option ℕ)) (skip : List Bool) (p : ℕ) → p < 256 → is_to_copy places skip p ≡ false
    → first_to_copy places skip (256 - (p + 1)) (p + 1) ≡ first_to_copy places skip (256 - p) p
first_skip places skip p lt unwanted = cc (first_left places skip p lt)

pub first_past : (places : List (Option ℕ)) (skip : List Bool) (p : ℕ) → 256 ≤ p
    → first_to_copy places skip (256 - p) p ≡ None
first_past places skip p past =
    let none : 256 - p ≡ 0 = omega arith in
    cc (first_zero places skip p)

-- what is found is the least
record IsFirst (places : List (Option ℕ)) (skip : List Bool) (count p q : ℕ) : Type 0 where
  late : p ≤ q
  within : q < p + count
  wanted : is_to_copy places skip q ≡ true
  before : (s : ℕ) → p ≤ s → s < q → is_to_copy places skip s ≡ false

first_is : (places : List (Option ℕ)) (skip : List Bool) (count p q : ℕ) → first_to_copy places skip count p ≡ Some q
    → IsFirst places skip count p q
first_is places skip zero p q is = let none : None ≡ Some q = sym (first_zero places skip p) ∙ is in cc
first_is places skip (suc count) p q is =
    go (first_is places skip count (p + 1) q) (is_to_copy places skip p) refl (sym (first_suc places skip count p) ∙ is)
  where
    go : (first_to_copy places skip count (p + 1) ≡ Some q → IsFirst places skip count (p + 1) q) → (b : Bool)
        → is_to_copy places skip p ≡ b → cond b (Some p) (first_to_copy places skip count (p + 1)) ≡ Some q
        → IsFirst places skip (suc count) p q
    go later true here found =
        let same : p ≡ q = some_same p q found in
        record {
          late = omega arith;
          within = omega arith;
          wanted = cc;
          before = λ s late lt. absurd (omega arith);
        }
    go later false here found =
        let ih = later found in
        record {
          late = omega arith;
          within = omega arith;
          wanted = ih.wanted;
          before = λ s late lt. elim (cases_eq s p) [
            | inl same ↦ ap (is_to_copy places skip) same ∙ here
            | inr other ↦ ih.before s (omega arith) lt
          ];
        }

first_none : (places : List (Option ℕ)) (skip : List Bool) (count p : ℕ) → first_to_copy places skip count p ≡ None
    → (s : ℕ) → p ≤ s → s < p + count → is_to_copy places skip s ≡ false
first_none places skip zero p is s late lt = absurd (omega arith)
first_none places skip (suc count) p is s late lt =
    go (first_none places skip count (p + 1)) (is_to_copy places skip p) refl (sym (first_suc places skip count p) ∙ is)
  where
    go : (first_to_copy places skip count (p + 1) ≡ None → (t : ℕ) → p + 1 ≤ t → t < p + 1 + count
        → is_to_copy places skip t ≡ false) → (b : Bool) → is_to_copy places skip p ≡ b
        → cond b (Some p) (first_to_copy places skip count (p + 1)) ≡ None → is_to_copy places skip s ≡ false
    go later true here found = cc
    go later false here found = elim (cases_eq s p) [
      | inl same ↦ ap (is_to_copy places skip) same ∙ here
      | inr other ↦ later found s (omega arith) (omega arith)
    ]

pub least_to_copy : {D : Type 0} (vols : Vols D) (m : Mover) (skip : List Bool) (p : ℕ)
    → page_to_copy vols m skip ≡ Some p → IsLeastToCopy (map_at vols m.from) skip m.next p
least_to_copy vols m skip p is =
    let first = first_is (map_at vols m.from) skip (256 - m.next) m.next p is in
    record {
      late = first.late;
      within = omega arith;
      wanted = first.wanted;
      before = first.before;
    }

pub least_if : {D : Type 0} (vols : Vols D) (m : Mover) (skip : List Bool)
    → IfSome (page_to_copy vols m skip) (λ p. IsLeastToCopy (map_at vols m.from) skip m.next p)
least_if vols m skip = go (page_to_copy vols m skip) refl
  where
    go : (page : Option ℕ) → page_to_copy vols m skip ≡ page
        → IfSome page (λ p. IsLeastToCopy (map_at vols m.from) skip m.next p)
    go None is = tt
    go (Some p) is = least_to_copy vols m skip p is

pub none_to_copy : {D : Type 0} (vols : Vols D) (m : Mover) (skip : List Bool) → page_to_copy vols m skip ≡ None
    → (p : ℕ) → m.next ≤ p → p < 256 → is_to_copy (map_at vols m.from) skip p ≡ false
none_to_copy vols m skip is p late lt =
    first_none (map_at vols m.from) skip (256 - m.next) m.next is p late (omega arith)

-- a page that is to be copied has a record
pub named_from : (place : Option ℕ) (b : Bool) → is_some place && b ≡ true → IsSome place
named_from None b on = cc
named_from (Some r) b on = refl
