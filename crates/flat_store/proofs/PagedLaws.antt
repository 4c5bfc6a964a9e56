-- Pages in a map by uid and number.
use Rattle.std.proofs.lemmas.Grind.{common_steps}
use Rattle.flat_store.proofs.Prelude.{arith, nat_tests, subst, MutBor, replicate, option_copied_mut, ◌≡◌, ℕ, Bool, cond, List, Option, Some, None, IfSome, IsSome, IsTrue, set, ◌↔◌, Bor, refl, sym, ap, ◌∙◌, option_copied, lookup, AreZero, cut_at, key_is, Paged, is_key, page_at, words_in, Puts, Cuts}

-- a map that reads as one where a key was put
pub puts_from : {old now new : Paged} {u q : ℕ} {w : Option (List ℕ)} → old ≡ now
    → ((y : ℕ × ℕ) → lookup (is_key y.0 y.1) new ≡ cond (is_key u q y) w (lookup (is_key y.0 y.1) old))
    → Puts now new u q w
puts_from {old} {u = u} {q} {w} is each = rw (← is) (record {
  at = λ v r. each (v, r) ∙ ap (λ z. cond z w (page_at old v r)) (key_is u q v r);
})

-- what a look-up lends
pub got : {X : Type 0} (o : Option (Bor X)) (m : Option X) → option_copied o ≡ m → IfSome o (λ w. m ≡ Some w.now)
got None m e = tt
got (Some w) m e = sym e

pub got_mut : {X : Type 0} {o : Option (MutBor X)} {m : Option X} {w : MutBor X} → option_copied_mut o ≡ m → o ≡ Some w
    → m ≡ Some w.now
got_mut {X} e is = sym e ∙ ap (λ (x : Option (MutBor X)). option_copied_mut x) is

-- the pages once one that is there is written through what was lent
pub put_through : {old now new : Paged} {u q : ℕ} (at word : ℕ) {before after : List ℕ} → old ≡ now
    → page_at old u q ≡ Some before → after ≡ set before at word → (IsSome (page_at old u q) → (y : ℕ × ℕ)
    → lookup (is_key y.0 y.1) new ≡ cond (is_key u q y) (Some after) (lookup (is_key y.0 y.1) old))
    → Puts now new u q (Some (set (words_in (page_at now u q)) at word))
put_through at word is there change each = rw (← is, there, ← change) (puts_from refl (each (rw there refl)))

pub put_new : {old now new : Paged} {u q : ℕ} (at word : ℕ) {zeros after : List ℕ} → old ≡ now
    → zeros ≡ replicate 1024 0 → after ≡ set zeros at word
    → ((y : ℕ × ℕ) → lookup (is_key y.0 y.1) new ≡ cond (is_key u q y) (Some after) (lookup (is_key y.0 y.1) old))
    → Puts now new u q (Some (set (replicate 1024 0) at word))
put_new {now = now} {new} {u} {q} at word is zero change each =
    subst (λ w. Puts now new u q (Some w)) (change ∙ ap (λ w. set w at word) zero) (puts_from is each)

-- the same of a page that is cut
pub cut_through : {old now new : Paged} {u q : ℕ} (at : ℕ) {before after words : List ℕ} {zero result : Bool}
    → old ≡ now → page_at old u q ≡ Some before → after ≡ cut_at at before → (IsSome (page_at old u q) → (y : ℕ × ℕ)
    → lookup (is_key y.0 y.1) new ≡ cond (is_key u q y) (Some after) (lookup (is_key y.0 y.1) old))
    → (IsTrue zero ↔ AreZero after) → result ≡ zero → page_at now u q ≡ Some words
    → Cuts now new u q at words × (IsTrue result ↔ AreZero (cut_at at words))
cut_through at {before} {words = words} is there change each zeros told found =
    grind (arith, nat_tests, common_steps, puts_from)
