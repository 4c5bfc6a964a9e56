-- Where no reason is found, the rule isn't broken.
use Rattle.reasons.proofs.Prelude.{◌≡◌, ◌==◌, Bool, true, false, if◌then◌else◌, List, [], ◌∷◌, ℕ, Option, Some, None, length, refl, sym, subst, ◌∙◌, arith, nat_tests, IfSome, lines_of, onto_piece, Plan, entry_text, IsEntry, Entry, IsComplete, store_after, Store, Kept, Shows, HaveEnded, IsAfter, Judged, BreaksEntry, Rule, IsWhy, is_end, Reason}
use Rattle.book_check.specs.declared.offences.Rule.TheVariants as rule
use Rattle.reasons.proofs.SinceLaws.{shown_there}

module _ (p : Plan) (es : List Entry) (line : List ℕ) where
  module _ (back : (e : Entry) → IsEntry e → entry_text e ≡ line → None ≡ Some e) where
    -- the line is no entry's text
    pub no_entry_legal : BreaksEntry p es line rule.NotLegal → ⊥
    no_entry_legal (e, text, not_lawful) = let z = back e text.entry text.text in cc

    pub no_entry_clean : BreaksEntry p es line rule.NotClean → ⊥
    no_entry_clean (e, text, lawful, not_allowed) = let z = back e text.entry text.text in cc

complete_there : (j : Judged) (es : List Entry) → IsAfter j es → HaveEnded j.script (store_after j.script es)
    → IsComplete j.script es
unfolding HaveEnded IsComplete
complete_there j es after ended k lt = (after.ends k lt).0 (ended k lt)

-- each process has ended
pub complete_told : (j : Judged) (es : List Entry) (p : Plan) (k : Kept) → p ≡ j.script → k ≡ j.store
    → ((s : Store) → Shows p k s → HaveEnded p s) → IsAfter j es → IsComplete j.script es
complete_told j es p k ps ks ended after = complete_there j es after
    (subst (λ (q : Plan). HaveEnded q (store_after j.script es)) ps
    (ended (store_after j.script es) (shown_there j es after p k ps ks)))

-- what is asked of a line and a rule is asked of these
pub why_at : (bytes : List ℕ) (p : Plan) (es : List Entry) (line first : List ℕ) (at_end : Bool) (given r : Rule)
    (o : Option Reason) → line ≡ first → given ≡ r → IfSome o (IsWhy bytes p es line at_end r)
    → IfSome o (IsWhy bytes p es first at_end given)
why_at bytes p es line first at_end given r o at is h =
    subst (λ (l : List ℕ). IfSome o (IsWhy bytes p es l at_end given)) at
    (subst (λ (q : Rule). IfSome o (IsWhy bytes p es line at_end q)) (sym is) h)

-- nothing is left where there are no bytes, and only there
pub end_there : (bytes : List ℕ) → (length bytes == 0) ≡ is_end (lines_of bytes)
unfolding lines_of
end_there [] = refl
end_there (b ∷ bs) =
    let some : (length (b ∷ bs) == 0) ≡ false = grind (arith, nat_tests) in some ∙ each (b == 10) (lines_of bs)
  where
    each : (z : Bool) (lines : List (List ℕ))
        → false ≡ is_end (if z then [] ∷ lines else onto_piece b lines)
    each true lines = refl
    each false [] = refl
    each false (line ∷ lines) = refl

-- why the book isn't complete, at the end of the listing or before its summary
pub incomplete_at : (bytes : List ℕ) (p : Plan) (es : List Entry) (line rest : List ℕ) (at_end : Bool) (given : Rule)
    (o : Option Reason) → at_end ≡ (length rest == 0) → given ≡ rule.Incomplete
    → IfSome o (IsWhy bytes p es line at_end rule.Incomplete)
    → IfSome o (IsWhy bytes p es line (is_end (lines_of rest)) given)
incomplete_at bytes p es line rest at_end given o at is h =
    subst (λ (z : Bool). IfSome o (IsWhy bytes p es line z given)) (at ∙ end_there rest)
    (subst (λ (q : Rule). IfSome o (IsWhy bytes p es line at_end q)) (sym is) h)
