-- One more entry: what it does to a legal book, to the store after it, and to a process's part.
use Rattle.flat_model.proofs.Prelude.{common_steps, nat_tests, ◌≡◌, ℕ, suc, zero, ◌+◌, true, false, List, [], ◌∷◌, ◌++◌, take, length, get_or, ◌<◌, Some, refl, sym, ap, subst, ◌∙◌, arith, slice_get, filter-append, Plan, Entry, Store, boot, IsLawful, IsLegalFrom, IsLegal, store_from, store_after, after_entry, part, is_part, last_of}

store_from-push : (p : Plan) (s : Store) (es : List Entry) (e : Entry) → store_from p s (es ++ e ∷ [])
    ≡ after_entry p (store_from p s es) e
unfolding store_from
store_from-push p s [] e = refl
store_from-push p s (d ∷ es) e = store_from-push p (after_entry p s d) es e

legal_from_push : (p : Plan) (s : Store) (es : List Entry) (e : Entry) → IsLegalFrom p s es
    → IsLawful p (store_from p s es) e → IsLegalFrom p s (es ++ e ∷ [])
unfolding IsLegalFrom store_from
legal_from_push p s [] e legal lawful = (lawful, tt)
legal_from_push p s (d ∷ es) e legal lawful = (legal.0, legal_from_push p (after_entry p s d) es e legal.1 lawful)

pub store_after-push : (p : Plan) (es : List Entry) (e : Entry) → store_after p (es ++ e ∷ [])
    ≡ after_entry p (store_after p es) e
unfolding store_after
store_after-push p es e = store_from-push p (boot p) es e

pub legal_push : (p : Plan) (es : List Entry) (e : Entry) → IsLegal p es → IsLawful p (store_after p es) e
    → IsLegal p (es ++ e ∷ [])
unfolding IsLegal store_after
legal_push p es e legal lawful = legal_from_push p (boot p) es e legal lawful

pub legal_nil : (p : Plan) → IsLegal p []
unfolding IsLegal IsLegalFrom
legal_nil p = tt

pub store_after-nil : (p : Plan) → store_after p [] ≡ boot p
unfolding store_after store_from
store_after-nil p = refl

pub part-push : (k : ℕ) (es : List Entry) (e : Entry) → is_part k e ≡ true → part k (es ++ e ∷ []) ≡ part k es ++ e ∷ []
unfolding part
part-push k es e h = filter-append (is_part k) es (e ∷ []) ∙ rw h refl

pub part-skip : (k : ℕ) (es : List Entry) (e : Entry) → is_part k e ≡ false → part k (es ++ e ∷ []) ≡ part k es
unfolding part
part-skip k es e h = grind (arith, nat_tests, common_steps, filter-append)

pub last_of-push : (es : List Entry) (e : Entry) → last_of (es ++ e ∷ []) ≡ Some e
last_of-push [] e = refl
last_of-push (d ∷ []) e = refl
last_of-push (d ∷ f ∷ es) e = last_of-push (f ∷ es) e

-- one entry of a legal book
legal_from_at : (p : Plan) (s : Store) (es : List Entry) (i : ℕ) (e : Entry) → IsLegalFrom p s es → slice_get es i
    ≡ Some e → IsLawful p (store_from p s (take i es)) e
unfolding IsLegalFrom store_from
legal_from_at p s [] i e legal at = absurd cc
legal_from_at p s (d ∷ es) zero e legal at = let same : d ≡ e = cc in subst (IsLawful p s) same legal.0
legal_from_at p s (d ∷ es) (suc i) e legal at = legal_from_at p (after_entry p s d) es i e legal.1 at

pub legal_at : (p : Plan) (es : List Entry) (i : ℕ) (e : Entry) → IsLegal p es → slice_get es i ≡ Some e
    → IsLawful p (store_after p (take i es)) e
unfolding IsLegal store_after
legal_at p es i e legal at = legal_from_at p (boot p) es i e legal at

take_step : (es : List Entry) (i : ℕ) (e : Entry) → slice_get es i ≡ Some e → take (suc i) es ≡ take i es ++ e ∷ []
take_step [] i e at = absurd cc
take_step (d ∷ es) zero e at = let same : d ≡ e = cc in ap (λ (x : Entry). x ∷ []) same
take_step (d ∷ es) (suc i) e at = ap (λ (t : List Entry). d ∷ t) (take_step es i e at)

take_next : (es : List Entry) (i : ℕ) (e : Entry) → slice_get es i ≡ Some e → take (i + 1) es ≡ take i es ++ e ∷ []
take_next es i e at = let next : i + 1 ≡ suc i = omega arith in ap (λ (n : ℕ). take n es) next ∙ take_step es i e at

pub store_next : (p : Plan) (es : List Entry) (i : ℕ) (e : Entry) → slice_get es i ≡ Some e
    → store_after p (take (i + 1) es) ≡ after_entry p (store_after p (take i es)) e
store_next p es i e at = ap (store_after p) (take_next es i e at) ∙ store_after-push p (take i es) e

-- the entry at a place within
pub entry_there : (es : List Entry) (i : ℕ) (e : Entry) → i < length es → e ≡ get_or es i e → slice_get es i ≡ Some e
entry_there [] i e lt is = absurd (omega arith)
entry_there (d ∷ es) zero e lt is = ap (λ (x : Entry). Some x) (sym is)
entry_there (d ∷ es) (suc i) e lt is = entry_there es i e (omega arith) is
