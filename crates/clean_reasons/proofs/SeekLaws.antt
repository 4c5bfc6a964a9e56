-- What a scan of a table tells of all of it: past its end nothing is looked for.
use Rattle.clean_reasons.proofs.Prelude.{◌≢◌, ℕ, ◌<◌, ◌≤◌, List, length, get_or, sym, subst, inl, inr, arith, Some, None, Option, IfNone, MatchOption, cases_lt, get_or_past, Plan, page_of, AreTablesOf, Tables, custody_of, HasLostNone, IsLostPage, LosesPage}
use Rattle.custody_model.specs.declared.FrameUse.TheVariants as frame

whole : {X : Type 0} (P : ℕ → X → Type 0) (d : X) → ((f : ℕ) → P f d) → (xs : List X) (i : ℕ) → length xs ≤ i
    → ((f : ℕ) → f < i → P f (get_or xs f d)) → (f : ℕ) → P f (get_or xs f d)
whole P d none xs i most all f = elim (cases_lt f i) [
  | inl lt ↦ all f lt
  | inr past ↦ subst (λ (x : _). P f x) (sym (get_or_past xs f d (omega (arith, past, most)))) (none f)
]

-- ---- pages

none_free : (u q : ℕ) → page_of frame.Free ≢ Some (u, q)
none_free u q = λ e. cc

pub no_lost_page : {R : Type 0} (Q : R → Type 0) (p : Plan) (t : Tables) (u from i : ℕ) (best : Option R)
    → AreTablesOf p t → p.frames ≤ i → MatchOption best (HasLostNone (custody_of t) u from i) Q
    → IfNone best (LosesPage (custody_of t) u from → ⊥)
no_lost_page Q p t u from i None tables most h = λ l. let n = tables.frames in
    whole (λ f x. (q : ℕ) → IsLostPage u from q x → ⊥) frame.Free (λ f q e. none_free u q e.0) t.frames i
    (omega (arith, n, most)) h l.frame l.page l.lost
no_lost_page Q p t u from i (Some x) tables most h = tt
