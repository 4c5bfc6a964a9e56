-- Nothing is found exactly where no entry fits.
use Rattle.std.proofs.Common.{◌≡◌, ◌≢◌, ℕ, zero, suc, ◌<◌, ◌↔◌, Bool, true, false, cond, List, [], ◌∷◌, length, Option, Some, None, IsNone, All, is_some, refl, sym, ap, ◌∙◌, arith, get_or}
use Rattle.std.specs.List.{find}
use Rattle.std.specs.Option.{option_map}
use Rattle.std.proofs.lemmas.Bool.{eqb-true, eq-eqb, both_ways, and_parts, and_from, false_from_ne_true}
use Rattle.std.proofs.lemmas.Option.{none-some}
use Rattle.assoc_mem.specs.declared.HeldSeg.{HeldSeg}
use Rattle.assoc_mem.specs.declared.HeldPage.{HeldPage}
use Rattle.assoc_mem.specs.Held.{is_number, is_page}
use Rattle.laws.proofs.Options.{none_there, none_mapped}

module _ {X : Type 0} (p : X → Bool) where
  find_none : (xs : List X) → find p xs ≡ None → (k : ℕ) (d : X) → k < length xs → p (get_or xs k d) ≡ false
  find_none [] e k d lt = absurd (omega arith)
  find_none (x ∷ xs) e k d lt = at (find_none xs) (p x) refl e k lt
    where
      at : (find p xs ≡ None → (k : ℕ) (d : X) → k < length xs → p (get_or xs k d) ≡ false) → (b : Bool) → p x ≡ b
          → cond b (Some x) (find p xs) ≡ None
          → (k : ℕ) → k < length (x ∷ xs) → p (get_or (x ∷ xs) k d) ≡ false
      at ih true is e' k lt = absurd (none-some x (sym e'))
      at ih false is e' zero lt = is
      at ih false is e' (suc k) lt = ih e' k d (omega arith)

  none_find : (xs : List X) → ((k : ℕ) (d : X) → k < length xs → p (get_or xs k d) ≡ false) → find p xs ≡ None
  none_find [] all = refl
  none_find (x ∷ xs) all =
      ap (λ (b : Bool). cond b (Some x) (find p xs)) (all 0 x (omega arith))
      ∙ none_find xs (λ k d lt. all (suc k) d (omega arith))

pub no_seg : (xs : List HeldSeg) (number : ℕ) (r : Option HeldSeg) → r ≡ find (is_number number) xs → IsNone r
    ↔ All (λ entry. entry.number ≢ number) xs
no_seg xs number r is = (
  λ h. λ k d lt same. both_ways _ (find_none (is_number number) xs (sym is ∙ none_there r h) k d lt) (eq-eqb _ _ same),
  λ all. ap is_some (is ∙ none_find (is_number number) xs
      (λ k d lt. false_from_ne_true _ (λ on. all k d lt (eqb-true _ _ on)))),
)

pub no_page : (xs : List HeldPage) (uid page : ℕ) (r : Option ℕ) → r
    ≡ option_map (λ entry. entry.frame) (find (is_page uid page) xs)
    → IsNone r ↔ All (λ entry. entry.uid ≡ uid → entry.page ≢ page) xs
no_page xs uid page r is =
    let same_variant : is_some r ≡ is_some (find (is_page uid page) xs) = ap is_some is
    ∙ none_mapped (λ (entry : HeldPage). entry.frame) (find (is_page uid page) xs) in (
      λ h. λ k d lt same_uid same_page. both_ways _
          (find_none (is_page uid page) xs (none_there _ (sym same_variant ∙ h))
          k d lt)
          (and_from _ _ (eq-eqb _ _ same_uid) (eq-eqb _ _ same_page)),
      λ all. same_variant ∙ ap is_some (none_find (is_page uid page) xs (λ k d lt. false_from_ne_true _ (λ on.
          (let parts = and_parts _ _ on in all k d lt (eqb-true _ _ parts.0) (eqb-true _ _ parts.1))))),
    )
