-- One more entry: what of the machine's promise it keeps by the laws of books and custody alone.
use Rattle.machine_model.proofs.Prelude.{◌≡◌, ℕ, [], ◌∷◌, ◌++◌, sym, ap, subst, ◌∙◌, Entry, IsLawful, after_entry, progress_of, legal_push, store_after-push, IsAllowed, Custody, FillsOnline, pending_after, custody_next, clean_push, custody_after-push, fine_next, KeepsBook, IsOwned, IsTied, HoldsRight, AreUnderWay, IsRun, is_pending, Seen, flat, shown, refl}

-- A machine after one more entry, by what the entry is and what its tables show then.
pub record Books (v : Seen) (e : Entry) (now : Seen) : Type 0 where
  pub lawful : IsLawful v.plan (flat v) e
  pub allowed : IsAllowed v.plan (flat v) (shown v) e
  pub online : FillsOnline (shown v) e
  pub next : shown now ≡ custody_next v.plan (flat v) (shown v) e
  pub pending : is_pending now.owner ≡ pending_after (is_pending v.owner) e
  pub going_owned : IsOwned (custody_next v.plan (flat v) (shown v) e) now.owner
  pub tied : IsTied now.bound now.reads now.words
  pub holding_right : (d : ℕ) → HoldsRight now.bound (shown now).descriptor (now.processors d)
  pub under_way : AreUnderWay now.reads now.processors
  pub runs : (k : ℕ) → IsRun (progress_of (after_entry v.plan (flat v) e) k) (now.runs k)

pub book_next : {v : Seen} {e : Entry} {now : Seen} → now.plan ≡ v.plan → now.entries ≡ v.entries ++ e ∷ []
    → KeepsBook v → Books v e now → KeepsBook now
book_next {v} {e} {now} plan entries k b = record {
  legal = rw (plan, entries) (legal_push v.plan v.entries e k.legal b.lawful);
  clean = rw (plan, entries) (clean_push v.plan v.entries e k.clean (rw (← k.held) b.allowed));
  held = b.next ∙ (ap (λ (c : Custody). custody_next v.plan (flat v) c e) k.held ∙
      rw (plan, entries) (sym (custody_after-push v.plan v.entries e)));
  stale_due = rw (b.next, b.pending) (fine_next v.plan (flat v) (shown v)
      (is_pending v.owner) e k.stale_due b.allowed b.online);
  going_owned = rw b.next b.going_owned;
  tied = b.tied;
  holding_right = b.holding_right;
  under_way = b.under_way;
  runs = λ j. rw flat_is (b.runs j);
}
  where
    flat_is : flat now ≡ after_entry v.plan (flat v) e
    flat_is = rw (plan, entries) (store_after-push v.plan v.entries e)

-- an entry of which custody and the tables show nothing
pub book_apart : {v : Seen} (e : Entry) → KeepsBook v → IsLawful v.plan (flat v) e
    → IsAllowed v.plan (flat v) (shown v) e → FillsOnline (shown v) e
    → custody_next v.plan (flat v) (shown v) e ≡ shown v → pending_after (is_pending v.owner) e ≡ is_pending v.owner
    → ((j : ℕ) → IsRun (progress_of (after_entry v.plan (flat v) e) j) (v.runs j))
    → KeepsBook (record v { entries = v.entries ++ e ∷ [] })
book_apart {v} e k lawful allowed online next pending runs = book_next refl refl k (assumption (
  lawful,
  allowed,
  online,
  sym next,
  sym pending,
  subst (λ (c : Custody). IsOwned c v.owner) (sym next) k.going_owned,
  runs,
))
