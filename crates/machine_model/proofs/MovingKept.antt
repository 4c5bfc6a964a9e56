-- The machine keeps its promise through the steps of a move.
use Rattle.machine_model.proofs.Kept.{◌≡◌, ◌≤◌, ℕ, false, List, [], ◌∷◌, ◌++◌, Option, Some, None, ◌⊎◌, inl, inr, refl, sym, ap, subst, ◌∙◌, arith, count_by, suc, zero, ◌^◌, min, Rose, IsLawful, MayFault, after_entry, MayMove, MayRehome, custody_next, Ptw, ptw_at, rehomed, rehomed_word, binding_at, bindings_modified, reads_modified, ActiveSegs, Mover, map_at, place_of, table_of, word_of, tabled, read_at, KeepsBook, is_out, is_pending, names, seen, IsAtWork, Keeps, StoreSays, is_fault, copy_failed, move_begun, move_committed, mover_to, moving, page_copied, past_page, volumes_in, without_move, flat_of, process_at, processor_at, run_at, Seen, bound_use, frame_use, shown, Owner, State, fault_told, looking, with_faults, with_store, length-set, Entry as entry, Reply as reply, Ptw as ptw, fault_keeps, owner_keeps, faults_push, tell_kept_CanTell as CanTell, told_keeps, IsIdle, owned_laws_nobody as nobody, set_either, kept_with, quiet_faults, book_apart, looks_idle}

-- ---- owners that have taken nothing

pub moving_idle : (c : ℕ) (m : Mover) → IsIdle (Some (moving c m))
moving_idle c m = assumption ((refl, refl))

some_same : (x y : Owner) → Some x ≡ Some y → x ≡ y
some_same x y h = cc

-- ---- a move begins, and goes on

module _ (s : State) (c : ℕ) (k : Keeps s) (idle : IsIdle s.owner) (still : is_pending s.owner ≡ false)
    (works : IsAtWork (processor_at s.processors c)) where
  at_work : (q r : Owner) → Some q ≡ Some r → q.cpu ≡ c → IsAtWork (processor_at s.processors r.cpu)
  at_work q r h here = rw (sym here ∙ ap (λ (x : Owner). x.cpu) (some_same q r h)) at works

  pub begun_kept : (u volume : ℕ) → StoreSays (move_begun s c u volume) → Keeps (move_begun s c u volume)
  begun_kept u volume says = kept_with (move_begun s c u volume) (owner_keeps k.book idle
      (moving_idle c (mover_to s.store u volume)) still) says k.few_faults k.sizes.processors k.sizes.processes
      (λ r h. at_work (moving c (mover_to s.store u volume)) r h refl)

  pub copied_kept : (m : Mover) (p faults : ℕ) → s.faults ≤ faults
      → StoreSays (page_copied (with_faults s faults) c m p) → Keeps (page_copied (with_faults s faults) c m p)
  copied_kept m p faults rose says = kept_with (page_copied (with_faults s faults) c m p)
      (owner_keeps k.book idle (moving_idle c (past_page m p)) still) says
      (omega arith) k.sizes.processors k.sizes.processes (λ r h. at_work (moving c (past_page m p)) r h refl)

-- ---- a copy failed

abbrev pub copy_failing : State → ℕ → ℕ → State
copy_failing s c faults = fault_told (with_store s (without_move s.store)) (Some (process_at s c)) faults

pub copy_failed_kept : {s : State} {c : ℕ} (faults : ℕ) → Keeps s → IsIdle s.owner → is_pending s.owner ≡ false
    → Rose s.faults faults → MayFault (flat_of s) (Some (process_at s c))
    → CanTell (copy_failing s c faults) c (process_at s c) None reply.Device → StoreSays (copy_failed s c faults)
    → Keeps (copy_failed s c faults)
copy_failed_kept {s} {c} faults k idle still rose may can says = kept_with (copy_failed s c faults)
    (owner_keeps (told_keeps
    (fault_keeps (seen s) (Some (process_at s c)) k.book may) can) idle nobody still) says few
    (length-set s.processors c _ ∙ k.sizes.processors) (length-set s.runs (process_at s c) _ ∙ k.sizes.processes)
    (λ o h. cc)
  where
    few : min (count_by is_fault ((s.entries ++ entry.Fault (Some (process_at s c)) ∷ [])
        ++ entry.Do (process_at s c) (run_at s.runs (process_at s c)).place c None reply.Device ∷ [])) (2 ^ 63) ≤ faults
    few = omega (
      arith,
      faults_push s.entries (entry.Fault (Some (process_at s c))),
      faults_push (s.entries ++ entry.Fault (Some (process_at s c)) ∷ []) (entry.Do (process_at s c)
          (run_at s.runs (process_at s c)).place c None reply.Device),
    )

-- ---- words by another file map

rehomed_at : (words : List Ptw) (places : List (Option ℕ)) (p : ℕ)
    → (q : Option ℕ) × (ptw_at (rehomed words places) p ≡ rehomed_word (ptw_at words p) q)
unfolding rehomed
rehomed_at (w ∷ ws) [] (suc p) = rehomed_at ws [] p
rehomed_at (w ∷ ws) (q ∷ qs) zero = (q, refl)
rehomed_at (w ∷ ws) (q ∷ qs) (suc p) = rehomed_at ws qs p
rehomed_at _ _ _ = (None, refl)

-- each word is as before, or names another record
pub word_rehomed : (ast : ActiveSegs) (uid : ℕ) (places : List (Option ℕ)) (u p : ℕ)
    → (word_of (tabled ast uid (rehomed (table_of ast uid) places)) u p ≡ word_of ast u p)
    ⊎ ((q : Option ℕ) × (word_of (tabled ast uid (rehomed (table_of ast uid) places)) u p
    ≡ rehomed_word (word_of ast u p) q))
word_rehomed ast uid places u p = elim (set_either ast.tables (place_of ast.entries uid)
    (rehomed (table_of ast uid) places) (place_of ast.entries u) []) [
      | inl same ↦ inl (cc)
      | inr is ↦ (let at = rehomed_at (table_of ast uid) places p in inr (at.0, cc))
    ]

-- what custody sees of a word is as before
record IsWordAlike (old now : Ptw) : Type 0 where
  named : names now ≡ names old
  out : is_out now ≡ is_out old
  used : (page : ℕ × ℕ) → bound_use page now ≡ bound_use page old

rehomed_alike : (w : Ptw) (q : Option ℕ) → IsWordAlike w (rehomed_word w q)
rehomed_alike ptw.Null q = record { named = refl; out = refl; used = λ page. refl }
rehomed_alike (ptw.Out r) None = record { named = refl; out = refl; used = λ page. refl }
rehomed_alike (ptw.Out r) (Some q) = record { named = refl; out = refl; used = λ page. refl }
rehomed_alike (ptw.Here f) q = record { named = refl; out = refl; used = λ page. refl }
rehomed_alike (ptw.Leaving f) q = record { named = refl; out = refl; used = λ page. refl }

word_alike : (ast : ActiveSegs) (uid : ℕ) (places : List (Option ℕ)) (u p : ℕ)
    → IsWordAlike (word_of ast u p) (word_of (tabled ast uid (rehomed (table_of ast uid) places)) u p)
word_alike ast uid places u p = elim (word_rehomed ast uid places u p) [
  | inl same ↦ rw same (record { named = refl; out = refl; used = λ page. refl })
  | inr is ↦ rw is.1 (rehomed_alike (word_of ast u p) is.0)
]

-- ---- a book whose words are other ones of the same kind

module _ (v : Seen) (words : ℕ → ℕ → Ptw) (like : (u p : ℕ) → IsWordAlike (v.words u p) (words u p)) where
  uses_like : (b r : Option (ℕ × ℕ)) → frame_use words b r ≡ frame_use v.words b r
  uses_like None r = refl
  uses_like (Some page) r = (like page.0 page.1).used page

  shown_like : shown (record v { words = words }) ≡ shown v
  shown_like = λ i. record (shown v) { frame = λ f. uses_like (v.bound f) (v.reads f) i }

  words_keep : KeepsBook v → KeepsBook (record v { words = words })
  words_keep k = record {
    legal = k.legal;
    clean = k.clean;
    held = shown_like ∙ k.held;
    stale_due = rw shown_like k.stale_due;
    going_owned = rw shown_like k.going_owned;
    tied = record {
      named = λ f u p h. (like u p).named ∙ k.tied.named f u p h;
      back = λ f u p h. k.tied.back f u p (sym (like u p).named ∙ h);
      out = λ f u p h. (like u p).out ∙ k.tied.out f u p h;
      alone = k.tied.alone;
      unbound = k.tied.unbound;
    };
    holding_right = k.holding_right;
    under_way = k.under_way;
    runs = k.runs;
  }

-- ---- a move is committed

module _ (s : State) (c : ℕ) (m : Mover) (k : Keeps s) (idle : IsIdle s.owner) (still : is_pending s.owner ≡ false)
    (works : IsAtWork (processor_at s.processors c)) where
  abbrev now : State
  now = move_committed s c m

  abbrev words : ℕ → ℕ → Ptw
  words u p = word_of now.store.ast u p

  like : (u p : ℕ) → IsWordAlike ((seen s).words u p) (words u p)
  like u p = word_alike s.store.ast m.uid (map_at (volumes_in s.store.pages m) m.to) u p

  -- before the entry
  abbrev before : Seen
  before = record (seen s) { words = words; owner = Some (looking c) }

  now_seen : seen now ≡ record before { entries = s.entries ++ entry.Moved (process_at s c) m.uid m.to.0 ∷ [] }
  now_seen = λ i. record before {
    entries = s.entries ++ entry.Moved (process_at s c) m.uid m.to.0 ∷ [];
    bound = λ f. binding_at (bindings_modified s.store.pages.core m.uid i) f;
    reads = λ f. read_at (reads_modified s.store.pages.core m.uid i) f;
  }

  before_keeps : KeepsBook before
  before_keeps = owner_keeps (words_keep (seen s) words like k.book) idle (looks_idle c) still

  rehomes : MayRehome (shown (seen s)) m.uid → MayRehome (shown before) m.uid
  rehomes may = record {
    active = may.active;
    still = λ f q h. may.still f q (sym (uses_like (seen s) words like ((seen s).bound f) ((seen s).reads f)) ∙ h);
  }

  pub moved_kept : MayMove s.plan (flat_of s) (process_at s c) m.uid m.to.0 → MayRehome (shown (seen s)) m.uid
      → StoreSays (move_committed s c m) → Keeps (move_committed s c m)
  unfolding IsLawful after_entry custody_next
  moved_kept may rehome says = kept_with (move_committed s c m)
      (subst KeepsBook (sym now_seen) (book_apart (entry.Moved (process_at s c) m.uid m.to.0) before_keeps may
      (rehomes rehome) tt refl refl k.book.runs)) says
      (quiet_faults (entry.Moved (process_at s c) m.uid m.to.0) s.faults k refl (omega arith)) k.sizes.processors
      k.sizes.processes (λ r h. (rw (ap (λ (x : Owner). x.cpu) (some_same (looking c) r h)) at works))
