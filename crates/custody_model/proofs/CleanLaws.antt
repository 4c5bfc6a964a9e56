-- One more entry: what it does to a clean book, and to the custody after it.
use Rattle.custody_model.proofs.Prelude.{◌≡◌, List, [], ◌∷◌, ◌++◌, refl, Plan, Entry, after_entry, store_from, store_after, Store, boot, IsAllowed, IsCleanFrom, custody_from, IsClean, custody_after, Custody, nothing_held, custody_next}

custody_from-push : (p : Plan) (s : Store) (c : Custody) (es : List Entry) (e : Entry)
    → custody_from p s c (es ++ e ∷ []) ≡ custody_next p (store_from p s es) (custody_from p s c es) e
unfolding custody_from store_from
custody_from-push p s c [] e = refl
custody_from-push p s c (d ∷ es) e = custody_from-push p (after_entry p s d) (custody_next p s c d) es e

clean_from_push : (p : Plan) (s : Store) (c : Custody) (es : List Entry) (e : Entry) → IsCleanFrom p s c es
    → IsAllowed p (store_from p s es) (custody_from p s c es) e → IsCleanFrom p s c (es ++ e ∷ [])
unfolding IsCleanFrom custody_from store_from
clean_from_push p s c [] e clean allowed = (allowed, tt)
clean_from_push p s c (d ∷ es) e clean allowed = (
  clean.0,
  clean_from_push p (after_entry p s d) (custody_next p s c d) es e clean.1 allowed,
)

pub custody_after-push : (p : Plan) (es : List Entry) (e : Entry) → custody_after p (es ++ e ∷ [])
    ≡ custody_next p (store_after p es) (custody_after p es) e
unfolding custody_after store_after
custody_after-push p es e = custody_from-push p (boot p) (nothing_held p) es e

pub clean_push : (p : Plan) (es : List Entry) (e : Entry) → IsClean p es
    → IsAllowed p (store_after p es) (custody_after p es) e → IsClean p (es ++ e ∷ [])
unfolding IsClean custody_after store_after
clean_push p es e clean allowed = clean_from_push p (boot p) (nothing_held p) es e clean allowed

pub clean_nil : (p : Plan) → IsClean p []
unfolding IsClean IsCleanFrom
clean_nil p = tt

pub custody_after-nil : (p : Plan) → custody_after p [] ≡ nothing_held p
unfolding custody_after custody_from
custody_after-nil p = refl
