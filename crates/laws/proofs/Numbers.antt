-- Laws of numbers.
use Rattle.laws.proofs.Prelude.{arith, eqb, false, inl, inr, ltb, nat_lt, refl, suc, sym, true, ℕ, ◌&&◌, ◌<◌, ◌∙◌, ◌≡◌, ◌≤◌, ◌⊎◌, Decides-eqb, eqb_tells, leb_tells, nat_tests, nat_le}

pub eqb_self : (n : ℕ) → eqb n n ≡ true
eqb_self n = (Decides-eqb n n).1 refl

pub below_or_past : (a b : ℕ) → (a < b) ⊎ (b ≤ a)
below_or_past a b = elim (leb_tells b a) [ inl h ↦ inr h.1 | inr h ↦ inl h.1 ]

pub lt_from : (n limit : ℕ) → nat_lt n limit ≡ true → n < limit
lt_from n limit h = grind (arith, nat_tests)

pub zero_word : (w : ℕ) → eqb w 0 ≡ true → w ≡ 0
zero_word w h = elim (eqb_tells w 0) [
  | inl e ↦ e.1
  | inr n ↦ absurd (let no : true ≡ false = sym h ∙ n.0 in cc)
]

pub from_first : (page : ℕ) → nat_le 0 page ≡ true
from_first page = grind (arith, nat_tests)

pub below : (a b : ℕ) → a < b → ltb a b ≡ true
below a b h = elim (leb_tells (suc a) b) [ inl i ↦ i.0 | inr i ↦ absurd (omega (arith, h, i.1)) ]

pub same_test : (x y : ℕ) → x ≡ y → eqb y x ≡ true
same_test x y e = grind (arith, nat_tests)

pub eqb_turned : (x y : ℕ) → eqb x y ≡ eqb y x
eqb_turned x y = elim (eqb_tells x y) [
  | inl e ↦ elim (eqb_tells y x) [ inl d ↦ e.0 ∙ sym d.0 | inr m ↦ absurd (m.1 (sym e.1)) ]
  | inr n ↦ elim (eqb_tells y x) [ inl d ↦ absurd (n.1 (sym d.1)) | inr m ↦ n.0 ∙ sym m.0 ]
]

pub and_both : (a b c d : ℕ) → (eqb a c && eqb b d) ≡ true → (a ≡ c) × (b ≡ d)
and_both a b c d h = elim (eqb_tells a c) [
  | inl y ↦ elim (eqb_tells b d) [
    | inl z ↦ (y.1, z.1)
    | inr m ↦ absurd (let no : false ≡ true = sym (rw (y.0, m.0) refl) ∙ h in cc)
  ]
  | inr m ↦ absurd (let no : false ≡ true = sym (rw m.0 refl) ∙ h in cc)
]
