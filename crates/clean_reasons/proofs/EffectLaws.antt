-- What is told of a page that a `truncate` cuts.
use Rattle.clean_reasons.proofs.Prelude.{◌≡◌, ◌≢◌, ℕ, ◌*◌, ◌+◌, ◌<◌, ◌≤◌, Bool, true, false, ◌||◌, ◌&&◌, refl, sym, subst, Some, arith, inl, inr, leb, ltb, cases_lt, lt-leb, ltb-true, is_zero_page, without_words, is_lost, Store, Custody, page_of, AreKept, IsCut, IsOfLoss, IsOfTruncate, IsTakenPage, LosesPage, Loss, EffectReason}
use Rattle.clean_reasons.specs.declared.reasons.Loss.TheVariants as loss
use Rattle.clean_reasons.specs.declared.reasons.EffectReason.TheVariants as effect

pub cut : (s : Store) (u from q : ℕ) (r : EffectReason) → IsCut s u from q → IsOfLoss loss.Cut u q r
    → IsOfTruncate s u from r
cut s u from q (effect.InFrame m x f) is h = subst (λ (l : Loss). IsTakenPage s u from l x) (sym h.0)
    (h.1.0, subst (λ (y : ℕ). IsCut s u from y) (sym h.1.1) is)
cut s u from q (effect.BeingRead m x f) is h = subst (λ (l : Loss). IsTakenPage s u from l x) (sym h.0)
    (h.1.0, subst (λ (y : ℕ). IsCut s u from y) (sym h.1.1) is)
cut s u from q _ is h = absurd h

-- a page isn't wholly past the words that are kept, where none that is so is in a frame
pub not_past : (c : Custody) (u from words q f : ℕ) → (LosesPage c u from → ⊥)
    → page_of (c.frame f) ≡ Some (u, q) → 1024 * from < words + 1024 → 1024 * q < words
not_past c u from words q f none at least = elim (cases_lt q from) [
  | inl lt ↦ omega (arith, lt, least)
  | inr le ↦ absurd (none (record { frame = f; page = q; lost = (at, le) }))
]

parts : (a b z : Bool) → (a || (b && z)) ≢ false → a ≡ false → (b ≡ true) × (z ≡ true)
parts true b z h e = let no : ⊥ = cc in absurd no
parts false true true h e = (refl, refl)
parts false true false h e = absurd (h refl)
parts false false z h e = absurd (h refl)

pub is_cut : (s : Store) (u from kept q : ℕ) → AreKept (without_words s.words u from) u from kept → kept ≤ q
    → 1024 * q < from → IsCut s u from q
is_cut s u from kept q are past before =
    let lost : is_lost (without_words s.words u from) u from q ≢ false =
    λ e. let lt = (are q).1 e in omega (arith, lt, past) in
    let both = parts (leb from (1024 * q)) (ltb from (1024 * q + 1024))
    (is_zero_page (without_words s.words u from) u q) lost (lt-leb from (1024 * q) before) in record {
      kept = before;
      zero = both.1;
      last = ltb-true from (1024 * q + 1024) both.0;
    }
