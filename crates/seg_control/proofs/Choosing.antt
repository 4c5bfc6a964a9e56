-- The page of a segment that moves that is copied next.
pub use Rattle.seg_control.proofs.Prelude.{Bool, IsMapOf, List, Null, Option, Out, Ptw, all_same, ap, arith, cases_eq, cases_lt, false, first_out, first_to_copy, get_or, get_or-set_other, get_or-set_same, get_or_past, has_record, inl, inr, is_framed, is_out, is_to_copy, length, length-replicate, length-set, not, ptw_at, refl, replicate, rules, set, suc, sym, true, zero, ℕ, ◌&&◌, ◌+◌, ◌<◌, ◌∙◌, ◌≡◌, ◌≤◌}

-- ---- the pages in frames

-- the places before place n say of each page whether it is in a frame, and the others say no
pub record IsFramedTo (t : List Ptw) (framed : List Bool) (n : ℕ) : Type 0 where
  pub size : length framed ≡ 256
  pub done : (p : ℕ) → p < n → get_or framed p false ≡ is_framed (ptw_at t p)
  pub left : (p : ℕ) → n ≤ p → get_or framed p false ≡ false

pub framed_start : (t : List Ptw) → IsFramedTo t (replicate 256 false) 0
framed_start t = record {
  size = length-replicate 256 false;
  done = λ p lt. absurd (omega arith);
  left = λ p le. all_same 256 p false;
}

pub framed_more : {t : List Ptw} {framed : List Bool} {n : ℕ} (b : Bool) → IsFramedTo t framed n → n < 256
    → b ≡ is_framed (ptw_at t n) → IsFramedTo t (set framed n b) (n + 1)
framed_more {t} {framed} {n} b part lt is = record {
  size = length-set framed n b ∙ part.size;
  done = λ p less. elim (cases_eq p n) [
    | inl same ↦ rw (same, get_or-set_same framed n b false (rw part.size lt)) is
    | inr other ↦ get_or-set_other framed n p b false other ∙ part.done p (omega arith)
  ];
  left = λ p past. get_or-set_other framed n p b false (λ same. omega arith) ∙ part.left p (omega arith);
}

pub framed_end : {t : List Ptw} {framed : List Bool} {n : ℕ} → IsFramedTo t framed n → length t ≤ n → (p : ℕ)
    → get_or framed p false ≡ is_framed (ptw_at t p)
framed_end {t} {n} part past p = elim (cases_lt p n) [
  | inl lt ↦ part.done p lt
  | inr far ↦ part.left p far ∙ sym (ap is_framed (get_or_past t p Null (omega arith)))
]

-- ---- the page that is copied next

-- a page that has a record, and is in no frame, is on its record alone
out_or_framed : (word : Ptw) → has_record word && not (is_framed word) ≡ is_out word
out_or_framed Null = refl
out_or_framed _ = refl

-- what the mover is to copy, where it skips the pages in frames
pub to_copy_out : {places : List (Option ℕ)} {t : List Ptw} (framed : List Bool) (p : ℕ) → IsMapOf places t
    → get_or framed p false ≡ is_framed (ptw_at t p) → is_to_copy places framed p ≡ is_out (ptw_at t p)
to_copy_out {t} framed p map is = rw (map.stored p, is) (out_or_framed (ptw_at t p))

pub first_same : (places : List (Option ℕ)) (t : List Ptw) (framed : List Bool) (count p : ℕ) → ((q : ℕ)
    → is_to_copy places framed q ≡ is_out (ptw_at t q)) → first_to_copy places framed count p ≡ first_out t count p
unfolding first_to_copy first_out
first_same places t framed zero p same = refl
first_same places t framed (suc count) p same = rw (same p, first_same places t framed count (p + 1) same)

pub out_from : (word : Ptw) → is_out word ≡ true → (r : ℕ) × (word ≡ Out r)
out_from Null on = cc
out_from (Out r) on = (r, refl)
out_from _ on = cc
