-- The machine keeps its promise where a job takes pages and cuts descriptors.
use Rattle.machine_model.proofs.Laws.{◌≡◌, ℕ, Bool, true, false, ◌&&◌, eqb, count_by, List, [], ◌∷◌, ◌++◌, length, Option, Some, None, inl, inr, refl, sym, ap, subst, ◌∙◌, arith, list_any, eqb_tells, Plan, What, Sdw, NamesAllGoing, has, at_put_two, Aim, taken, page_at, takes, IsAimed, KeepsBook, waits_for, led_to, seen, cut_all, cut_one, note_of, take_all, take_one, took, IsAtWork, Keeps, StoreSays, is_fault, cut_of_owner, descriptor_of, frames_of_owner, or_zero, processor_at, Seen, shown, CutDescriptor, Owner, State, or_parts, Entry as entry, Sdw as sdw, CanTakeAll, chain_laws_HasTaken as HasTaken, names_linked, names_uid, takes_keep, cut_keeps, quiet_push, by_places, HasTables, cut_one_seen, take_all_seen}
use Rattle.machine_model.proofs.TransferKept.{kept_with}

-- ---- descriptors

-- a pair of a process and a number
abbrev pub is_pair : ℕ → ℕ → ℕ × ℕ → Bool
is_pair k n x = eqb x.0 k && eqb x.1 n

abbrev pub has_pair : List (ℕ × ℕ) → ℕ → ℕ → Bool
has_pair pairs k n = list_any (is_pair k n) pairs

-- each of some descriptors leads to a segment that is named, and none comes twice
abbrev pub ArePairs : (ℕ → ℕ → Option ℕ) → What → List (ℕ × ℕ) → Type 0
ArePairs linked w [] = Unit {0}
ArePairs linked w (x ∷ xs) = ((u : ℕ) × (linked x.0 x.1 ≡ Some u) × (names_uid w u ≡ true)) ×
    (has_pair xs x.0 x.1 ≡ false) × ArePairs linked w xs

pair_same : (x : ℕ × ℕ) {k n : ℕ} → x.0 ≡ k → x.1 ≡ n → is_pair k n x ≡ true
pair_same x {k} {n} a b = elim (eqb_tells x.0 k) [
  | inl e ↦ elim (eqb_tells x.1 n) [ inl i ↦ rw (e.0, i.0) refl | inr m ↦ absurd (m.1 b) ]
  | inr m ↦ absurd (m.1 a)
]

pub pairs_kept : (linked : ℕ → ℕ → Option ℕ) (w : What) (k n : ℕ) (xs : List (ℕ × ℕ)) → has_pair xs k n ≡ false
    → ArePairs linked w xs → ArePairs (at_put_two linked k n None) w xs
pairs_kept linked w k n [] none are = tt
pairs_kept linked w k n (x ∷ xs) none are = (
  (
    are.0.0,
    by_places (λ (o : Option ℕ). o ≡ Some are.0.0) linked k n None x.0 x.1
        (λ a b. cc (pair_same x a b, (or_parts (is_pair k n x) (has_pair xs k n) none).0)) (λ m. are.0.1),
    are.0.2,
  ),
  are.1,
  pairs_kept linked w k n xs (or_parts (is_pair k n x) (has_pair xs k n) none).1 are.2,
)

-- what is remembered of a descriptor that leads to a segment
pub note_is : (s : State) (k n : ℕ) {u : ℕ} (x : Sdw) → led_to s.store.ast.entries x ≡ Some u
    → ((note_of s.store k n x).process ≡ k) × ((note_of s.store k n x).number ≡ n) × ((note_of s.store k n x).uid ≡ u)
note_is s k n sdw.Fault h = cc
note_is s k n (sdw.Present aste m pages) h = (refl, refl, ap or_zero h)

-- the descriptor that is remembered where a pair is cut
abbrev pub noted : State → ℕ × ℕ → CutDescriptor
noted s x = note_of s.store x.0 x.1 (descriptor_of s.store.links x.0 x.1)

note_of_pair : (s : State) (x : ℕ × ℕ) {u : ℕ} → (seen s).linked x.0 x.1 ≡ Some u
    → ((noted s x).process ≡ x.0) × ((noted s x).number ≡ x.1) × ((noted s x).uid ≡ u)
note_of_pair s x {u} led = note_is s x.0 x.1 (descriptor_of s.store.links x.0 x.1) led

-- it stands for the segment that the pair stands for
pub noted_has : (f : ℕ → ℕ → Option ℕ) (s : State) (x : ℕ × ℕ) {u : ℕ} → (seen s).linked x.0 x.1 ≡ Some u
    → f x.0 x.1 ≡ Some u → f (noted s x).process (noted s x).number ≡ Some (noted s x).uid
noted_has f s x {u} led h = let note = note_of_pair s x led in (λ i. f (note.0 i) (note.1 i)) ∙ (cc)

-- once a pair is cut, a descriptor that still leads to a segment led there before
pub linked_before : (s : State) (c : ℕ) (a : Aim) (w : What) (x : ℕ × ℕ) {u : ℕ} → (seen s).linked x.0 x.1 ≡ Some u
    → (k n : ℕ) {v : ℕ} → (seen (cut_one s c a w x)).linked k n ≡ Some v → (seen s).linked k n ≡ Some v
linked_before s c a w x {u} led k n {v} h = by_places (λ (o : Option ℕ). o ≡ Some v → (seen s).linked k n ≡ Some v)
    (seen s).linked (noted s x).process (noted s x).number None k n (λ e i g. cc) (λ m g. g)
    (cc (cut_one_seen s c a w x led))

-- and the pairs after it lead where they led
pub pairs_left : (s : State) (c : ℕ) (a : Aim) (w : What) (x : ℕ × ℕ) (xs : List (ℕ × ℕ))
    → ArePairs (seen s).linked w (x ∷ xs) → ArePairs (seen (cut_one s c a w x)).linked w xs
pairs_left s c a w x xs are = let note = note_of_pair s x are.0.1 in
    rw (cut_one_seen s c a w x are.0.1) (subst (λ (l : ℕ → ℕ → Option ℕ). ArePairs l w xs)
    (λ i. at_put_two (seen s).linked (sym note.0 i) (sym note.1 i) None) (pairs_kept (seen s).linked w x.0 x.1 xs
    are.1 are.2))

-- descriptors are cut one after the other
pub cut_all_keeps : (s : State) (c : ℕ) (a : Aim) {w : What} (pairs : List (ℕ × ℕ)) → KeepsBook (seen s)
    → NamesAllGoing (shown (seen s)) w → waits_for s.owner ≡ None
    → ((gs : List ℕ) (cs : List CutDescriptor) → IsAimed a w gs cs) → ArePairs (seen s).linked w pairs
    → HasTaken (seen (cut_all s c a w pairs)) w
cut_all_keeps s c a [] k others still aimed are = assumption
cut_all_keeps s c a {w} (x ∷ xs) k others still aimed are =
    cut_all_keeps (cut_one s c a w x) c a xs book (book.going_owned.says w refl).1 refl aimed
    (pairs_left s c a w x xs are)
  where
    d : CutDescriptor
    d = noted s x

    linked : (seen s).linked d.process d.number ≡ Some d.uid
    linked = noted_has (seen s).linked s x are.0.1 are.0.1

    book : KeepsBook (seen (cut_one s c a w x))
    book = subst KeepsBook (sym (cut_one_seen s c a w x are.0.1)) (cut_keeps c a w d k (record {
      linked = linked;
      still = still;
      others = others;
      this = cc (names_linked (seen s) w d.process d.number linked, (note_of_pair s x are.0.1).2);
      aimed = aimed (frames_of_owner s.owner) (cut_of_owner s.owner ++ d ∷ []);
    }))

-- ---- pages, and then descriptors

takes_linked : (v : Seen) (c : ℕ) (a : Aim) (w : What) (fs : List ℕ) → (takes v c a w fs).linked ≡ v.linked
takes_linked v c a w [] = refl
takes_linked v c a w (f ∷ fs) = takes_linked (taken v c a w f (page_at v f).0 (page_at v f).1) c a w fs

-- What a job may take: pages that are here, and descriptors that lead to segments, all named by what it is to signal.
pub record CanTook (s : State) (a : Aim) (w : What) (fs : List ℕ) (pairs : List (ℕ × ℕ)) : Type 0 where
  pub pages : CanTakeAll (seen s) a w fs
  pub bound : (f : ℕ) → has fs f ≡ true → (seen s).bound f ≡ Some (page_at (seen s) f)
  pub pairs_are : ArePairs (seen s).linked w pairs

pub took_keeps : {s : State} (c : ℕ) {a : Aim} {w : What} {fs : List ℕ} {pairs : List (ℕ × ℕ)} → HasTables s
    → KeepsBook (seen s) → CanTook s a w fs pairs → HasTaken (seen (took s c a w fs pairs)) w
took_keeps {s} c {a} {w} {fs} {pairs} tables k can = cut_all_keeps
    (take_all s c a w fs) c a pairs first.book first.others first.still can.pages.aimed
    (rw (ap (λ (v : Seen). v.linked) taken_is ∙ takes_linked (seen s) c a w fs) can.pairs_are)
  where
    taken_is : seen (take_all s c a w fs) ≡ takes (seen s) c a w fs
    taken_is = take_all_seen s c a w fs tables can.pages.here can.bound can.pages.once

    first : HasTaken (seen (take_all s c a w fs)) w
    first = rw taken_is (takes_keep (seen s) c a w fs k can.pages)

-- taking changes the store, the owner and the book alone
record IsRest (s now : State) : Type 0 where
  pub processors : now.processors ≡ s.processors
  pub runs : now.runs ≡ s.runs
  pub plan : now.plan ≡ s.plan
  pub faults : now.faults ≡ s.faults
  pub count : count_by is_fault now.entries ≡ count_by is_fault s.entries

rest_by : {s now : State} → now.processors ≡ s.processors → now.runs ≡ s.runs → now.plan ≡ s.plan
    → now.faults ≡ s.faults → count_by is_fault now.entries ≡ count_by is_fault s.entries → IsRest s now
rest_by processors runs plan faults count = assumption

rest_on : {s t u : State} → IsRest s t → IsRest t u → IsRest s u
rest_on one two = rest_by (cc) (cc) (cc) (cc) (cc)

take_rest : (s : State) (c : ℕ) (a : Aim) (w : What) (fs : List ℕ) → IsRest s (take_all s c a w fs)
take_rest s c a w [] = rest_by refl refl refl refl refl
take_rest s c a w (f ∷ fs) = rest_on (rest_by refl refl refl refl (quiet_push s.entries (entry.Take f) refl))
    (take_rest (take_one s c a w f) c a w fs)

cut_rest : (s : State) (c : ℕ) (a : Aim) (w : What) (pairs : List (ℕ × ℕ)) → IsRest s (cut_all s c a w pairs)
cut_rest s c a w [] = rest_by refl refl refl refl refl
cut_rest s c a w (x ∷ xs) = rest_on (rest_by refl refl refl refl (quiet_push s.entries (entry.Cut x.0 x.1) refl))
    (cut_rest (cut_one s c a w x) c a w xs)

-- the owner is this processor
abbrev pub Owns : State → ℕ → Type 0
Owns s c = (o : Owner) → s.owner ≡ Some o → o.cpu ≡ c

own_cpu : {c : ℕ} (q o : Owner) → Some q ≡ Some o → q.cpu ≡ c → o.cpu ≡ c
own_cpu q o h same = ap (λ (x : Owner). x.cpu) (let is : o ≡ q = cc in is) ∙ same

take_owns : (s : State) (c : ℕ) (a : Aim) (w : What) (fs : List ℕ) → Owns s c → Owns (take_all s c a w fs) c
take_owns s c a w [] own = own
take_owns s c a w (f ∷ fs) own = take_owns (take_one s c a w f) c a w fs (λ o h. own_cpu _ o h refl)

cut_owns : (s : State) (c : ℕ) (a : Aim) (w : What) (pairs : List (ℕ × ℕ)) → Owns s c → Owns (cut_all s c a w pairs) c
cut_owns s c a w [] own = own
cut_owns s c a w (x ∷ xs) own = cut_owns (cut_one s c a w x) c a w xs (λ o h. own_cpu _ o h refl)

pub took_kept : {s : State} (c : ℕ) {a : Aim} {w : What} {fs : List ℕ} {pairs : List (ℕ × ℕ)} → Keeps s
    → CanTook s a w fs pairs → Owns s c → IsAtWork (processor_at s.processors c) → StoreSays (took s c a w fs pairs)
    → Keeps (took s c a w fs pairs)
took_kept {s} c {a} {w} {fs} {pairs} k can own works says = kept_with (took s c a w fs pairs)
    (took_keeps c k.store.kept.places k.book can).book says
    (let faults = rest.faults in let few = k.few_faults in omega (arith, rest.count, faults, few))
    (ap length rest.processors ∙ (k.sizes.processors ∙ ap (λ (p : Plan). p.processors) (sym rest.plan)))
    (ap length rest.runs ∙ (k.sizes.processes ∙ ap (λ (p : Plan). length p.processes) (sym rest.plan)))
    (λ o h. (rw rest.processors (subst (λ (d : ℕ). IsAtWork (processor_at s.processors d))
    (sym (cut_owns (take_all s c a w fs) c a w pairs (take_owns s c a w fs own) o h)) works)))
  where
    rest : IsRest s (took s c a w fs pairs)
    rest = rest_on (take_rest s c a w fs) (cut_rest (take_all s c a w fs) c a w pairs)
