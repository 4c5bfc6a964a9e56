-- What custody sees of a machine whose job signals, and where a page leaves its frame or stays.
use Rattle.machine_model.proofs.Basics.{◌≡◌, ◌<◌, ℕ, zero, suc, ◌+◌, Bool, true, false, cond, eqb, List, [], ◌∷◌, ◌++◌, length, Option, Some, None, inr, refl, sym, ap, ◌∙◌, arith, What, Core, bound_page, reads_of, Left, evicted, word_of_left, Plain, binding_at, bindings, frame_in, record_of, read_at, at_put, back, dropped, gone, signal_given, told_at, warned, KeepsBook, names, seen, here_if, told_from, with_left, home_in, no_processor, processor_at, Processor, Owner, State, with_word, Entry as entry, Frame as frame, core_map_with_frame as with_frame, Ptw as ptw, Left as left, by_place, bound_put, reads_put}
use Rattle.machine_model.proofs.TakeSeen.{HasTables, binding_is, not_null, words_put}

-- ---- the signal

-- what a processor has that clears, one that is warned, and one that is left as it is, it has once a signal told it
pub told_has : (P : Processor → Type 0) (c : ℕ) (w : What) (d : ℕ) (p : Processor)
    → P (dropped p w) → P (warned p w) → P p → P (told_at c w d p)
told_has P c w d p clears waits stays = by (eqb d c) p.cpu.online
  where
    by : (own online : Bool) → P (cond own (dropped p w) (cond online (warned p w) p))
    by true online = clears
    by false true = waits
    by false false = stays

pub told_process : (c : ℕ) (w : What) (d : ℕ) (p : Processor) → (told_at c w d p).cpu.process ≡ p.cpu.process
told_process c w d p = told_has (λ q. q.cpu.process ≡ p.cpu.process) c w d p refl refl refl

pub told_online : (c : ℕ) (w : What) (d : ℕ) (p : Processor) → (told_at c w d p).cpu.online ≡ p.cpu.online
told_online c w d p = told_has (λ q. q.cpu.online ≡ p.cpu.online) c w d p refl refl refl

told_nobody : (c : ℕ) (w : What) (d : ℕ) → told_at c w d no_processor ≡ no_processor
told_nobody c w d = by (eqb d c)
  where
    by : (b : Bool) → cond b (dropped no_processor w) no_processor ≡ no_processor
    by true = refl
    by false = refl

pub told_reads : (c : ℕ) (w : What) (ps : List Processor) (from d : ℕ)
    → processor_at (told_from c w from ps) d ≡ told_at c w (from + d) (processor_at ps d)
told_reads c w [] from d = sym (told_nobody c w (from + d))
told_reads c w (p ∷ ps) from zero = ap (λ (n : ℕ). told_at c w n p) (omega arith)
told_reads c w (p ∷ ps) from (suc d) = told_reads c w ps (from + 1) d
    ∙ ap (λ (n : ℕ). told_at c w n (processor_at ps d)) (omega arith)

pub signal_seen : (s : State) (c : ℕ) (w : What) (owner : Option Owner) → seen (record s {
  processors = told_from c w 0 s.processors;
  owner = owner;
  entries = s.entries ++ entry.Signal c w ∷ [];
}) ≡ signal_given (seen s) c w owner
signal_seen s c w owner = λ i. record (seen s) {
  processors = λ d. (told_reads c w s.processors 0 d
      ∙ ap (λ (n : ℕ). told_at c w n (processor_at s.processors d)) (plus d)) i;
  owner = owner;
  entries = s.entries ++ entry.Signal c w ∷ [];
}
  where
    plus : (d : ℕ) → 0 + d ≡ d
    plus d = omega arith

-- ---- a page leaves its frame

evicted_core : (pages : Plain) (st : State) (f : ℕ) (how : Left) (u p : ℕ)
    → (evicted pages (home_in st.store u) p f how).core ≡ with_frame pages.core f frame.Free
evicted_core pages st f left.Released u p = refl
evicted_core pages st f left.Kept u p = refl

-- nothing was being read into a frame, and isn't then
pub unread_put : (reads : ℕ → Option (ℕ × ℕ)) (f : ℕ) → reads f ≡ None → (g : ℕ) → at_put reads f None g ≡ reads g
unread_put reads f none g = by_place (λ (x : Option (ℕ × ℕ)). x ≡ reads g) reads f None g (λ e. cc) (λ n. refl)

pub gone_seen : (s : State) (f u p : ℕ) (how : Left) (owner : Option Owner) → HasTables s → KeepsBook (seen s)
    → f < length s.store.pages.core.frames → (seen s).words u p ≡ ptw.Leaving f → seen (record s {
      store = with_left s.store f how (u, p);
      owner = owner;
      entries = s.entries ++ entry.GonePage f ∷ [];
    }) ≡ gone (seen s) f u p (word_of_left how (record_of s.store.pages (home_in s.store u) p)) owner
gone_seen s f u p how owner tables book there leaving = λ i. record (seen s) {
  bound = λ g. (ap (λ (x : Core). binding_at (bindings x) g) (evicted_core s.store.pages s f how u p)
      ∙ bound_put s.store.pages.core f frame.Free there g) i;
  reads = λ g. (ap (λ (x : Core). read_at (reads_of x) g) (evicted_core s.store.pages s f how u p)
      ∙ (reads_put s.store.pages.core f frame.Free there g ∙ unread_put (seen s).reads f unread g)) i;
  words = λ v q. words_put s.store.ast u p (word_of_left how (record_of s.store.pages (home_in s.store u) p)) tables
      (not_null f leaving (inr refl)) v q i;
  owner = owner;
  entries = s.entries ++ entry.GonePage f ∷ [];
}
  where
    unread : (seen s).reads f ≡ None
    unread = by ((seen s).reads f) refl
      where
        by : (x : Option (ℕ × ℕ)) → (seen s).reads f ≡ x → x ≡ None
        by None e = refl
        by (Some page) e = cc (book.tied.unbound f page.0 page.1 e, (book.tied.back f u p (ap names leaving)))

-- ---- it stays

pub back_seen : (s : State) (f u p : ℕ) (owner : Option Owner) → HasTables s → KeepsBook (seen s)
    → (seen s).words u p ≡ ptw.Leaving f → seen (record s {
      store = here_if s.store f (bound_page (frame_in s.store.pages f));
      owner = owner;
      entries = s.entries ++ entry.BackPage f ∷ [];
    }) ≡ back (seen s) f u p owner
back_seen s f u p owner tables book leaving = cc (binding_is s f, book.tied.back f u p (ap names leaving), words)
  where
    words : seen (record s {
      store = with_word s.store u p (ptw.Here f);
      owner = owner;
      entries = s.entries ++ entry.BackPage f ∷ [];
    }) ≡ back (seen s) f u p owner
    words = λ i. record (back (seen s) f u p owner) {
      words = λ v q. words_put s.store.ast u p (ptw.Here f) tables (not_null f leaving (inr refl)) v q i;
    }
