-- What the looks at the flat store say of a reason.
use Rattle.legal_reasons.proofs.Prelude.{◌≡◌, ℕ, suc, ◌+◌, ◌*◌, ◌<◌, ◌≤◌, Bool, true, false, List, [], ◌∷◌, length, Option, Some, None, refl, sym, subst, ◌∙◌, arith, inl, inr, IfSome, slice_index_or, list_all, cases_eq, Decides, Plan, MayFault, is_zero_page, Progress, Store, progress_of, words_zero, Kept, Shows, Entry, entry, Reason, HasWordAt, HaveEnded, IsAbout, IsSaid, IsSo, process_in}

each_ended : (qs : List Progress) → ((k : ℕ) → k < length qs
    → (slice_index_or qs k (record { place = 0; tries = 0; ended = true; faulted = false })).ended ≡ true)
    → list_all (λ q. q.ended) qs ≡ true
each_ended [] each = refl
each_ended (q ∷ qs) each =
    let first : q.ended ≡ true = each 0 (omega arith) in
    let rest : list_all (λ x. x.ended) qs ≡ true = each_ended qs (λ k lt. each (suc k) (omega arith)) in
    rw (first, rest) refl

-- where each process has ended a drive's failure may be told of none
pub may_fault : (p : Plan) (k : Kept) (s : Store) → Shows p k s → HaveEnded p s → MayFault s None
unfolding HaveEnded
may_fault p k s shown all = each_ended s.processes (λ j lt. all j (subst (λ (n : ℕ). j < n) shown.shown.runners lt))

pub all_ended : (p : Plan) (s : Store) (k : ℕ) → length p.processes ≤ k
    → ((j : ℕ) → j < k → (progress_of s j).ended ≡ true) → HaveEnded p s
unfolding HaveEnded
all_ended p s k most all j lt = all j (omega (arith, lt, most))

-- a word that was looked at is 0
word_is_zero : (s : Store) (u q at : ℕ) (r : Bool) → Decides r (HasWordAt s u q at) → r ≡ false → q < 4194304
    → at < 1024
    → s.words u (1024 * q + at) ≡ 0
word_is_zero s u q at r told no_ small lt = elim (cases_eq (s.words u (1024 * q + at)) 0) [
  | inl same ↦ same
  | inr other ↦
      let there : r ≡ true = told.1 (record { within = omega (arith, small, lt); other = other }) in
      absurd (let clash : false ≡ true = sym no_ ∙ there in cc)
]

pub words_so_far : (s : Store) (u q at : ℕ) (r : Bool) → Decides r (HasWordAt s u q at) → r ≡ false → q < 4194304
    → at < 1024
    → ((i : ℕ) → i < at → s.words u (1024 * q + i) ≡ 0)
    → (i : ℕ) → i < at + 1 → s.words u (1024 * q + i) ≡ 0
words_so_far s u q at r told no_ small lt all i less = elim (cases_eq i at) [
  | inl same ↦ subst (λ (j : ℕ). s.words u (1024 * q + j) ≡ 0) (sym same) (word_is_zero s u q at r told no_ small lt)
  | inr other ↦ all i (omega (arith, less, other))
]

pub all_words_zero : (s : Store) (u q at : ℕ) → 1024 ≤ at → ((i : ℕ) → i < at → s.words u (1024 * q + i) ≡ 0)
    → is_zero_page s.words u q ≡ true
all_words_zero s u q at most all = words_zero s.words u q (λ i lt. all i (omega (arith, lt, most)))

-- why no failure of a drive is told of a process, or of none, as what is so of its entry
pub fault_so : (p : Plan) (s : Store) (o : Option ℕ) (e : Entry) → e ≡ entry.Fault o → (r : Option Reason)
    → IfSome r (λ x. IsSaid p s x) → IfSome o (λ k. IfSome r (λ x. process_in x ≡ Some k))
    → IfSome r (λ x. IsSo p s e x)
fault_so p s None e is None said about = tt
fault_so p s None e is (Some x) said about =
    record { about = subst (λ (y : Entry). IsAbout y x) (sym is) tt; said = said }
fault_so p s (Some k) e is None said about = tt
fault_so p s (Some k) e is (Some x) said about =
    record { about = subst (λ (y : Entry). IsAbout y x) (sym is) about; said = said }
