-- What a reference through a frame asks, and what the machine is after it.
use Rattle.machine.proofs.Prelude.{Parts, Reference, Reply, Some, ap, bound_from_page, bound_page, cpu_at, frame_at, is_bound, map_list, old_word, or_zero, pages_after, sym, told_by, true, went_through, with_pages_of, with_state, word_reply, ℕ, ◌/◌, ◌∙◌, ◌≡◌, Frame as frame, Action as act}
use Rattle.machine.proofs.Does.{Does, found}

-- the frame has a page
pub through_bound : {D : Type 0} {t : Parts D} {c f : ℕ} {r : Reference} → Does t c (act.Through f r)
    → is_bound (frame_at t.state.store.pages.core f) ≡ true
through_bound {D} {t} {c} {f} {r} d = bound_from_page (frame_at t.state.store.pages.core f) (found d).0
    (r.offset / 1024) (sym (map_list bound_page t.state.store.pages.core.frames f frame.Free) ∙ (found d).1)

-- the word is read or written, and then the process is answered
pub told_through : {D : Type 0} (t : Parts D) (c f : ℕ) (r : Reference) {mid now : Parts D} {k word : ℕ}
    {answer : Reply}
    → (cpu_at t.state.processors c).process ≡ Some k → mid ≡ with_pages_of t (pages_after t.state.store.pages f r)
    → word ≡ old_word t.state.store.pages f r → answer ≡ word_reply word r.kind
    → now ≡ with_state mid (told_by mid.state c k (Some f) answer) → now ≡ with_state t (went_through t.state c f r)
told_through t c f r {mid} {now} {k} {word} {answer} its reached was is told =
    told ∙ (λ i. with_state (reached i) (told_by (reached i).state c (ap or_zero (sym its) i) (Some f) (reply i)))
  where
    reply : answer ≡ word_reply (old_word t.state.store.pages f r) r.kind
    reply = cc
