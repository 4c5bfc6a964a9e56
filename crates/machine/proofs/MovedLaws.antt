-- A step that moves lengthens the book, or changes the owner of the supervisor or how far the owner's job has come.
use Rattle.machine.proofs.Prelude.{◌≡◌, ◌≢◌, ◌⊎◌, ◌<◌, ◌≤◌, ◌+◌, ◌-◌, ℕ, Bool, true, false, cond, length, List, ◌∷◌, ◌++◌, Some, inl, inr, refl, sym, ◌∙◌, arith, length-append, Command, Entry, What, Transfer, Left, words_in, Aim, CutDescriptor, copy_failed, move_begun, page_copied, action_of, Outcome, after, by_outcome, committed, gone_entries, left_after, with_effect, cut_all, cut_one, emptied, entries_left, eviction_done, left_of, page_back, page_done, page_in, pages_back, seg_back, seg_gone, segment_taken, segs_back, segs_gone, take_all, take_one, took, with_hand_moved, write_failed, KeepsAll, Mover, table_of, cut_of_owner, frames_from, frames_of_owner, process_at, trailers_in, uid_of_command, Owner, State, booked, fault_told, transfer_failed, transferred, with_faults, with_store, moves, first_past, CopiesNext, Knows, step_knows, BeginsMove, none_some, Changes, le_refl, [], Command as command, Entry as entry, What as what, Left as left, Aim as aim, Phase as phase, Action, Action as act}
use Rattle.machine.proofs.Found.{Found, step_found}

-- how many entries the book has
abbrev size : State → ℕ
size s = length s.entries

abbrev IsLonger : State → State → Type 0
IsLonger s t = size s < size t

-- ---- lists of entries

takes_size : (s : State) (c : ℕ) (a : Aim) (w : What) (fs : List ℕ) → size (take_all s c a w fs) ≡ size s + length fs
takes_size s c a w [] = omega arith
takes_size s c a w (f ∷ fs) = omega (
  arith,
  takes_size (take_one s c a w f) c a w fs,
  length-append s.entries (entry.Take f ∷ []),
)

cuts_size : (s : State) (c : ℕ) (a : Aim) (w : What) (xs : List (ℕ × ℕ))
    → size (cut_all s c a w xs) ≡ size s + length xs
cuts_size s c a w [] = omega arith
cuts_size s c a w (x ∷ xs) = omega (
  arith,
  cuts_size (cut_one s c a w x) c a w xs,
  length-append s.entries (entry.Cut x.0 x.1 ∷ []),
)

took_size : (s : State) (c : ℕ) (a : Aim) (w : What) (fs : List ℕ) (xs : List (ℕ × ℕ))
    → size (took s c a w fs xs) ≡ size s + (length fs + length xs)
took_size s c a w fs xs = omega (arith, cuts_size (take_all s c a w fs) c a w xs, takes_size s c a w fs)

gone_size : (s : State) (ds : List CutDescriptor) → size (segs_gone s ds) ≡ size s + length ds
gone_size s [] = omega arith
gone_size s (d ∷ ds) = omega (
  arith,
  gone_size (seg_gone s d) ds,
  length-append s.entries (entry.GoneSeg d.process d.number ∷ []),
)

pages_size : (s : State) (fs : List ℕ) → size (pages_back s fs) ≡ size s + length fs
pages_size s [] = omega arith
pages_size s (f ∷ fs) = omega (arith, pages_size (page_back s f) fs, length-append s.entries (entry.BackPage f ∷ []))

segs_size : (s : State) (ds : List CutDescriptor) → size (segs_back s ds) ≡ size s + length ds
segs_size s [] = omega arith
segs_size s (d ∷ ds) = omega (
  arith,
  segs_size (seg_back s d) ds,
  length-append s.entries (entry.BackSeg d.process d.number ∷ []),
)

-- ---- jobs

-- an entry more
still : (es : List Entry) (e : Entry) (n : ℕ) → n ≤ length es → n ≤ length (es ++ e ∷ [])
still es e n le = omega (arith, length-append es (e ∷ []))

longer : (es : List Entry) (e : Entry) (n : ℕ) → n ≤ length es → n < length (es ++ e ∷ [])
longer es e n le = omega (arith, length-append es (e ∷ []))

emptied_longer : (s : State) (c u : ℕ) → IsLonger s (emptied s c u)
emptied_longer s c u = let gone = gone_size s (cut_of_owner s.owner) in longer _ _ _ (omega arith)

segment_longer : (s : State) (c u : ℕ) (fs : List ℕ) (xs : List (ℕ × ℕ)) → IsLonger s (segment_taken s c u fs xs)
segment_longer s c u [] [] = emptied_longer s c u
segment_longer s c u [] (x ∷ xs) = omega (arith, took_size s c (aim.Deactivating u) (what.Seg u) [] (x ∷ xs))
segment_longer s c u (f ∷ fs) xs = omega (arith, took_size s c (aim.Deactivating u) (what.Seg u) (f ∷ fs) xs)

taken_longer : (s : State) (c : ℕ) (fs : List ℕ) (xs : List (ℕ × ℕ)) (w : What) → (fs ≢ []) ⊎ (xs ≢ [])
    → IsLonger s (took s c aim.Committing w fs xs)
taken_longer s c [] [] w (inl n) = absurd (n refl)
taken_longer s c [] [] w (inr n) = absurd (n refl)
taken_longer s c [] (x ∷ xs) w n = omega (arith, took_size s c aim.Committing w [] (x ∷ xs))
taken_longer s c (f ∷ fs) xs w n = omega (arith, took_size s c aim.Committing w (f ∷ fs) xs)

left_some : (f : ℕ) (how : Left) (page : ℕ × ℕ) → 1 ≤ length (entries_left f how page)
left_some f left.Released page = omega arith
left_some f left.Kept page = omega arith

page_longer : (s : State) (f : ℕ)
    → size s < length (s.entries ++ entries_left f (left_of (words_in s.store.pages f)) (page_in s.store f))
page_longer s f = grind (arith, left_some, length-append)

failed_longer : (s : State) (c n : ℕ) → IsLonger s (write_failed s c n)
failed_longer s c n =
    let told = fault_told s (Some (process_at s c)) n in
    let first = longer s.entries (entry.Fault (Some (process_at s c))) (size s) (le_refl _) in
    let pages = pages_size told (frames_of_owner s.owner) in
    let segs = segs_size (pages_back told (frames_of_owner s.owner)) (cut_of_owner s.owner) in
    longer _ _ _ (omega arith)

lost_longer : (s : State) (c : ℕ) (t : Transfer) (n : ℕ) → IsLonger s (transfer_failed s c t n)
lost_longer s c t n = longer _ _ _ (still _ _ _ (still _ _ _ (le_refl _)))

by_longer : (s : State) (o : Outcome) (well ill : State) → IsLonger s well → IsLonger s ill
    → IsLonger s (by_outcome o well ill)
by_longer s o well ill a b = grind arith

-- ---- a command

left_size : (s : State) (c : ℕ) (x : Command) → size s ≤ size (left_after s c x)
left_size s c command.End = omega (arith, length-append s.entries (entry.Leave c ∷ []))
left_size s c x = omega arith

-- the machine once what a command took is gone
abbrev let_go : State → ℕ → Command → State
let_go s k x = booked (with_store s (with_effect s.store k (uid_of_command s.store k x) (frames_of_owner s.owner) x))
    (gone_entries s (uid_of_command s.store k x) x)

committed_longer : (s : State) (c k : ℕ) (x : Command) → IsLonger s (committed s c k x)
committed_longer s c k x = grind (arith, length-append, left_size)

-- ---- a segment moves

copy_longer : (s : State) (c n : ℕ) → IsLonger s (copy_failed s c n)
copy_longer s c n = longer _ _ _ (still _ _ _ (le_refl _))

-- what the owner does
phases : {a b : Owner} → Some a ≡ Some b → a.phase ≡ b.phase
phases e = cc

begin_changes : (s : State) (c u volume : ℕ) → BeginsMove s c u volume → (move_begun s c u volume).owner ≢ s.owner
begin_changes s c u volume k e = grind (arith, phases)

-- the next page that is copied is past the one before
next_of : {m n : Mover} → phase.Moving m ≡ phase.Moving n → m.next ≡ n.next
next_of e = cc

copy_changes : (s : State) (c : ℕ) (m : Mover) (p n : ℕ) → CopiesNext s c m p
    → (page_copied (with_faults s n) c m p).owner ≢ s.owner
copy_changes s c m p n k e = omega (
  arith,
  (first_past (table_of s.store.ast m.uid) (256 - m.next) m.next p k.next).0,
  next_of (phases (e ∙ k.moving.owner.mine) ∙ k.moving.moves),
)

copied_changes : (s : State) (c : ℕ) (m : Mover) (p : ℕ) (o : Outcome) → CopiesNext s c m p
    → Changes s (by_outcome o (page_copied (with_faults s o.faults) c m p) (copy_failed s c o.faults))
copied_changes s c m p o k = by o.failed
  where
    by : (f : Bool) → Changes s (cond f (copy_failed s c o.faults) (page_copied (with_faults s o.faults) c m p))
    by true = inl (copy_longer s c o.faults)
    by false = inr (copy_changes s c m p o.faults k)

-- ---- each action

module _ (s : State) (c : ℕ) (o : Outcome) where
  one : (e : Entry) → size s < length (s.entries ++ e ∷ [])
  one e = longer s.entries e (size s) (le_refl _)

  changes : (a : Action) → Knows s c a → Found s c a → moves a ≡ true → Changes s (after s c a o)
  unfolding after
  changes act.IsStopped k f m = cc
  changes act.HasEnded k f m = cc
  changes (act.Waits why) k f m = cc
  changes (act.EndTransfer t) k f m = inl (by_longer s o (transferred (with_faults s o.faults) c t)
      (transfer_failed s c t o.faults) (one _) (lost_longer s c t o.faults))
  changes act.TakeSupervisor k f m = inr (λ e. none_some (sym f ∙ sym e))
  changes act.GiveUp k f m = inr (λ e. none_some (e ∙ f.mine))
  changes (act.Create n u p r) k f m = inl (longer _ _ _ (still _ _ _ (le_refl _)))
  changes (act.Empty u) k f m = inl (segment_longer s c u (frames_from s.store.ast u 0) (trailers_in s.store u))
  changes (act.EmptyVictim pool chain u) k f m =
      let hand = with_store s (with_hand_moved s.store pool chain) in
      inl (segment_longer hand c u (frames_from hand.store.ast u 0) (trailers_in hand.store u))
  changes (act.TakeAway fs pairs w) k f m = inl (taken_longer s c fs pairs w k.2)
  changes (act.FinishEviction n) k f m = inl (by_longer s o (eviction_done (with_faults s o.faults) c n)
      (write_failed s c o.faults) (page_longer s n) (failed_longer s c o.faults))
  changes (act.FinishPage n) k f m = inl (by_longer s o (page_done (with_faults s o.faults) n)
      (write_failed s c o.faults) (page_longer s n) (failed_longer s c o.faults))
  changes (act.Deactivate u) k f m = inl (emptied_longer s c u)
  changes (act.BeginMove u volume) k f m = inr (begin_changes s c u volume k)
  changes (act.CopyPage x n) k f m = copied_changes s c x n o k
  changes act.Commit k f m = inl (rw k.speaks.next (committed_longer s c (process_at s c) k.command))
  changes a k f m = inl (one _)

  pub moved_changes : KeepsAll s → c < length s.processors → moves (action_of s c) ≡ true
      → Changes s (after s c (action_of s c) o)
  moved_changes all there = changes (action_of s c) (step_knows s c o all.machine there all.working)
      (step_found s c all.machine there)
