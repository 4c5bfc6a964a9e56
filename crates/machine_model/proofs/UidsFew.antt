-- A machine makes few uids: one in each command that makes a directory or a segment.
use Rattle.machine_model.proofs.Prelude.{◌≡◌, ◌<◌, ℕ, List, [], ◌∷◌, Option, Some, None, refl, arith, Plan, command_at, Command, Entry, IsAnswer, IsLawful, IsLegal, IsLegalFrom, MayFault, after_do, after_entry, after_fault, store_after, store_from, Store, boot, few_reached, reached_boot, reached_fault, reached_on, KeepsAll, State, Entry as entry}
use Rattle.flat_model.specs.Reached.{IsReached}

entry_reached : {p : Plan} {s : Store} (e : Entry) → IsReached p s → IsLawful p s e → IsReached p (after_entry p s e)
unfolding after_entry IsLawful
entry_reached {p} {s} (entry.Do k place cpu frame r) reached h = by (command_at p k place) refl h.answer
  where
    by : (x : Option Command) → command_at p k place ≡ x → IsAnswer p s k x r → IsReached p (after_do p s k x r)
    by None e i = absurd i
    by (Some c) e i = reached_on p s k place c r reached h.going h.next e
entry_reached (entry.Release uid page) reached h = assumption
entry_reached {p} {s} (entry.Fault process) reached h = by process h
  where
    by : (x : Option ℕ) → MayFault s x → IsReached p (after_fault s x)
    by None i = reached
    by (Some k) i = reached_fault p s k reached i
entry_reached (entry.Moved k uid volume) reached h = assumption
entry_reached _ reached h = reached

book_reached : (p : Plan) (s : Store) (es : List Entry) → IsReached p s → IsLegalFrom p s es
    → IsReached p (store_from p s es)
unfolding store_from IsLegalFrom
book_reached p s [] reached h = reached
book_reached p s (e ∷ es) reached h = book_reached p (after_entry p s e) es (entry_reached e reached h.0) h.1

-- The next uid is small, over every schedule.
pub few_uids : (s : State) → KeepsAll s → s.store.accounts.next < 100003
unfolding IsLegal store_after
few_uids s all = omega (
  arith,
  few_reached s.plan (store_after s.plan s.entries) (book_reached s.plan (boot s.plan) s.entries
      (reached_boot s.plan all.machine.script) all.machine.keeps.book.legal),
)
