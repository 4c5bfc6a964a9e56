use Rattle.legal_reasons.proofs.Prelude.{◌≡◌, ◌<◌, ◌*◌, ◌+◌, ℕ, Store, Shows, Plan}
use Rattle.legal_reasons.proofs.pages.first_word.Given as goal

-- each word so far is 0
abbrev pub invariant-loop-at : goal.invariant-loop-at
invariant-loop-at l = (p : Plan) (s : Store) → Shows p l.store s → l.page < 4194304 → (i : ℕ) → i < l.at → s.words l.uid
    (1024 * l.page + i) ≡ 0
