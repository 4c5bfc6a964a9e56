-- Since when a sentence has been true.
use Rattle.reasons.proofs.Prelude.{◌≡◌, ℕ, ◌+◌, ◌≤◌, ◌<◌, Bool, List, [], ◌∷◌, ◌++◌, length, take, Option, Some, None, refl, sym, ap, subst, ◌∙◌, inl, inr, ◌⊎◌, leb, true, false, arith, Decides, leb_tells, length-append, take-append-le, take_all, Entry, Plan, store_after, Store, Kept, Shows, AreNodes, Tables, custody_of, custody_after, Custody, IsAfter, Judged, LegalSays, LegalReason, CleanSays, CleanReason, is_still_so, SumReason, IsWatched, Looks, HasSince, IsSince, SaysAt, Reason}
use Rattle.reasons.specs.declared.asking.Reason.TheVariants as reason

-- ---- a judge stands after some entries

module _ (j : Judged) (es : List Entry) (after : IsAfter j es) where
  -- what its flat store shows
  pub shown_there : (p : Plan) (k : Kept) → p ≡ j.script → k ≡ j.store → Shows p k (store_after j.script es)
  shown_there p k ps ks = subst (λ (q : Plan). Shows q k (store_after j.script es)) (sym ps)
      (subst (λ (x : Kept). Shows j.script x (store_after j.script es)) (sym ks) after.shown)

  pub nodes_there : (t : Tables) → t ≡ j.custody → AreNodes (store_after j.script es).nodes t.active
  nodes_there t ts = subst (λ (x : Tables). AreNodes (store_after j.script es).nodes x.active) (sym ts) after.nodes

  pub custody_there : (t : Tables) → t ≡ j.custody → custody_of t ≡ custody_after j.script es
  custody_there t ts = ap custody_of ts ∙ after.custody

  -- what the looks at a sentence decide
  pub legal_says : (p : Plan) (k : Kept) (r : LegalReason) (b : Bool) → p ≡ j.script → k ≡ j.store
      → ((s : Store) → Shows p k s → Decides b (LegalSays p s r)) → Decides b (SaysAt j.script es (reason.NotLegal r))
  unfolding SaysAt
  legal_says p k r b ps ks h = subst (λ (q : Plan). Decides b (LegalSays q (store_after j.script es) r)) ps
      (h (store_after j.script es) (shown_there p k ps ks))

  pub clean_says : (k : Kept) (t : Tables) (r : CleanReason) (b : Bool) → k ≡ j.store → t ≡ j.custody
      → ((p : Plan) (s : Store) → Shows p k s → AreNodes s.nodes t.active → Decides b (CleanSays s (custody_of t) r))
      → Decides b (SaysAt j.script es (reason.NotClean r))
  unfolding SaysAt
  clean_says k t r b ks ts h = subst (λ (c : Custody). Decides b (CleanSays (store_after j.script es) c r))
      (custody_there t ts)
      (h j.script (store_after j.script es) (shown_there j.script k refl ks) (nodes_there t ts))

  pub sum_says : (k : Kept) (r : SumReason) (b : Bool) → k ≡ j.store
      → ((p : Plan) (s : Store) → Shows p k s → b ≡ is_still_so s r)
      → Decides b (SaysAt j.script es (reason.WrongSum r))
  unfolding SaysAt
  sum_says k r b ks h =
      let same = h j.script (store_after j.script es) (shown_there j.script k refl ks) in
      (λ e. sym same ∙ e, λ e. same ∙ e)

pub ruleset sentence_steps = (legal_says, clean_says, sum_says)

-- ---- one entry more

module _ (p : Plan) (r : Reason) (n : ℕ) (es : List Entry) (e : Entry) where
  abbrev more : List Entry
  more = es ++ e ∷ []

  one_more : length more ≡ length es + 1
  one_more = length-append es (e ∷ [])

  before : (k : ℕ) → k ≤ length es → SaysAt p (take k more) r → SaysAt p (take k es) r
  before k low h = subst (λ (xs : List Entry). SaysAt p xs r) (take-append-le k es (e ∷ []) low) h

  -- it became true here
  since_here : (number : ℕ) → number ≡ n + length es → (SaysAt p es r → ⊥) → SaysAt p more r
      → IsSince p r n more number
  since_here number is not_yet yes_ = record {
    low = omega (arith, is);
    high = let count = one_more in omega (arith, is, count);
    so = λ k low high. subst (λ (xs : List Entry). SaysAt p xs r)
        (sym (take_all k more (let count = one_more in omega (arith, is, count, low)))) yes_;
    not_before = λ k same h. not_yet (subst (λ (xs : List Entry). SaysAt p xs r)
        (take_all k es (omega (arith, is, same))) (before k (omega (arith, is, same)) h));
  }

  -- it has been true since an earlier line
  since_still : (line : ℕ) → IsSince p r n es line → SaysAt p more r → IsSince p r n more line
  since_still line was yes_ = record {
    low = was.low;
    high = let count = one_more in let high_is = was.high in omega (arith, high_is, count);
    so = λ k low high. each k low high (leb_tells k (length es));
    not_before = λ k same h. was.not_before k same (before k
        (let high_is = was.high in omega (arith, high_is, same)) h);
  }
    where
      each : (k : ℕ) → line + 1 ≤ n + k → k ≤ length more
          → ((leb k (length es) ≡ true) × (k ≤ length es)) ⊎ ((leb k (length es) ≡ false) × (length es < k))
          → SaysAt p (take k more) r
      each k low high (inl under) = subst (λ (xs : List Entry). SaysAt p xs r)
          (sym (take-append-le k es (e ∷ []) under.1)) (was.so k low under.1)
      each k low high (inr over) = subst (λ (xs : List Entry). SaysAt p xs r)
          (sym (take_all k more (let count = one_more in let past = over.1 in omega (arith, count, past)))) yes_

  since_on : (number : ℕ) (old new : Option ℕ) → number ≡ n + length es → HasSince p r n es old
      → Looks p more (Some r) number old new → HasSince p r n more new
  since_on number old new is was (inr (false_now, none)) = subst (HasSince p r n more) (sym none) false_now
  since_on number None new is was (inl (yes_, some)) =
      subst (HasSince p r n more) (sym some) (since_here number is was yes_)
  since_on number (Some line) new is was (inl (yes_, some)) =
      subst (HasSince p r n more) (sym some) (since_still line was yes_)

pub watched_on : (p : Plan) (r : Option Reason) (n : ℕ) (es : List Entry) (e : Entry) (number : ℕ) (old new : Option ℕ)
    → number ≡ n + length es → IsWatched p n es r old → Looks p (es ++ e ∷ []) r number old new
    → IsWatched p n (es ++ e ∷ []) r new
watched_on p None n es e number old new is was looks = tt
watched_on p (Some r) n es e number old new is was looks = since_on p r n es e number old new is was looks
