-- What the owner's job leaves as it is while it takes frames and descriptors, gives them back, and lets them go.
use Rattle.machine_model.proofs.Prelude.{◌≡◌, ℕ, List, [], ◌∷◌, Option, Some, None, ◌∙◌, What, What as what, frame_in, bound_page, Aim, Aim as aim, Left, Left as left, CutDescriptor, deactivation_begun, emptied, eviction_begun, eviction_done, cut_all, cut_one, here_if, hand_past, first_off_chain, left_of, page_back, page_done, pages_back, seg_back, seg_gone, segment_taken, segs_back, segs_gone, take_all, take_one, took, victim_taken, with_choice, with_hand_moved, with_left, leaving_if, words_in, page_in, fault_told, with_faults, with_store, frames_from, trailers_in, cut_of_owner, frames_of_owner, process_at, State, leads_at}
use Rattle.storage_ops.proofs.Less.{one_known}

-- the script, who runs where, the tree, the principals, the numbers, the pools and the move under way
pub record Stays (s t : State) : Type 0 where
  pub plan : t.plan ≡ s.plan
  pub runs : t.runs ≡ s.runs
  pub ready : t.ready ≡ s.ready
  pub processors : t.processors ≡ s.processors
  pub stopped : t.stopped ≡ s.stopped
  pub visited : t.visited ≡ s.visited
  pub nodes : t.store.accounts.nodes ≡ s.store.accounts.nodes
  pub whos : t.store.whos ≡ s.store.whos
  pub known : t.store.links.known ≡ s.store.links.known
  pub sizes : t.store.ast.sizes ≡ s.store.ast.sizes
  pub moving : t.store.moving ≡ s.store.moving

stays_on : {s u : State} (t : State) → Stays s t → Stays t u → Stays s u
stays_on t a b = assumption (
  b.plan ∙ a.plan,
  b.runs ∙ a.runs,
  b.ready ∙ a.ready,
  b.processors ∙ a.processors,
  b.stopped ∙ a.stopped,
  b.visited ∙ a.visited,
  b.nodes ∙ a.nodes,
  b.whos ∙ a.whos,
  b.known ∙ a.known,
  b.sizes ∙ a.sizes,
  b.moving ∙ a.moving,
)

-- ---- what is taken

one_taken : (s : State) (c : ℕ) (a : Aim) (w : What) (f : ℕ) → Stays s (take_one s c a w f)
one_taken s c a w f = by (bound_page (frame_in s.store.pages f))
  where
    by : (x : Option (ℕ × ℕ)) → Stays s (record (take_one s c a w f) { store = leaving_if s.store f x })
    by None = assumption
    by (Some page) = assumption

frames_taken : (s : State) (c : ℕ) (a : Aim) (w : What) (fs : List ℕ) → Stays s (take_all s c a w fs)
frames_taken s c a w [] = assumption
frames_taken s c a w (f ∷ fs) = stays_on _ (one_taken s c a w f) (frames_taken (take_one s c a w f) c a w fs)

pairs_cut : (s : State) (c : ℕ) (a : Aim) (w : What) (pairs : List (ℕ × ℕ)) → Stays s (cut_all s c a w pairs)
pairs_cut s c a w [] = assumption
pairs_cut s c a w (x ∷ xs) = stays_on (cut_one s c a w x) (assumption (one_known s.store.links x.0 x.1
    (leads_at s.store.links.descriptors x.0 x.1))) (pairs_cut (cut_one s c a w x) c a w xs)

pub all_taken : (s : State) (c : ℕ) (a : Aim) (w : What) (fs : List ℕ) (pairs : List (ℕ × ℕ))
    → Stays s (took s c a w fs pairs)
all_taken s c a w fs pairs = stays_on _ (frames_taken s c a w fs) (pairs_cut (take_all s c a w fs) c a w pairs)

pub evicting : (s : State) (c f : ℕ) → Stays s (eviction_begun s c f)
evicting s c f =
    stays_on (with_store s (with_choice s.store f)) (assumption) (one_taken _ c aim.Evicting (what.Page f) f)

-- ---- a segment is to be inactive

all_gone : (s : State) (ds : List CutDescriptor) → Stays s (segs_gone s ds)
all_gone s [] = assumption
all_gone s (d ∷ ds) = stays_on (seg_gone s d) (assumption) (all_gone (seg_gone s d) ds)

pub is_emptied : (s : State) (c u : ℕ) → Stays s (emptied s c u)
is_emptied s c u = stays_on (segs_gone s (cut_of_owner s.owner)) (all_gone s (cut_of_owner s.owner)) (assumption)

segment : (s : State) (c u : ℕ) (fs : List ℕ) (pairs : List (ℕ × ℕ)) → Stays s (segment_taken s c u fs pairs)
segment s c u [] [] = is_emptied s c u
segment s c u [] (x ∷ xs) = all_taken s c (aim.Deactivating u) (what.Seg u) [] (x ∷ xs)
segment s c u (f ∷ fs) pairs = all_taken s c (aim.Deactivating u) (what.Seg u) (f ∷ fs) pairs

pub emptying : (s : State) (c u : ℕ) → Stays s (deactivation_begun s c u)
emptying s c u = segment s c u (frames_from s.store.ast u 0) (trailers_in s.store u)

pub emptying_victim : (s : State) (c pool : ℕ) (chain : List ℕ) (u : ℕ) → Stays s (victim_taken s c pool chain u)
emptying_victim s c pool chain u = stays_on _ (by (first_off_chain s.store.ast pool chain))
    (emptying (with_store s (with_hand_moved s.store pool chain)) c u)
  where
    by : (x : Option ℕ) → Stays s (with_store s (record s.store { ast = hand_past s.store.ast pool x }))
    by None = assumption
    by (Some place) = assumption

-- ---- what was taken goes, or comes back

pub page_left : (s : State) (f faults : ℕ) → Stays s (page_done (with_faults s faults) f)
page_left s f faults = by (left_of (words_in s.store.pages f))
  where
    by : (how : Left) → Stays s (record (page_done (with_faults s faults) f) {
      store = with_left s.store f how (page_in s.store f);
    })
    by left.Released = assumption
    by left.Kept = assumption

pub evicted : (s : State) (c f faults : ℕ) → Stays s (eviction_done (with_faults s faults) c f)
evicted s c f faults = by (left_of (words_in s.store.pages f))
  where
    by : (how : Left) → Stays s (record (eviction_done (with_faults s faults) c f) {
      store = with_left s.store f how (page_in s.store f);
    })
    by left.Released = assumption
    by left.Kept = assumption

one_back : (s : State) (f : ℕ) → Stays s (page_back s f)
one_back s f = by (bound_page (frame_in s.store.pages f))
  where
    by : (x : Option (ℕ × ℕ)) → Stays s (record (page_back s f) { store = here_if s.store f x })
    by None = assumption
    by (Some page) = assumption

frames_back : (s : State) (fs : List ℕ) → Stays s (pages_back s fs)
frames_back s [] = assumption
frames_back s (f ∷ fs) = stays_on _ (one_back s f) (frames_back (page_back s f) fs)

cut_back : (s : State) (ds : List CutDescriptor) → Stays s (segs_back s ds)
cut_back s [] = assumption
cut_back s (d ∷ ds) = stays_on (seg_back s d) (assumption) (cut_back (seg_back s d) ds)

-- the machine once a failure was told, and all came back that was taken
abbrev pub all_back : State → ℕ → ℕ → State
all_back s c faults = segs_back (pages_back (fault_told s (Some (process_at s c)) faults) (frames_of_owner s.owner))
    (cut_of_owner s.owner)

pub is_back : (s : State) (c faults : ℕ) → Stays s (all_back s c faults)
is_back s c faults = let told = fault_told s (Some (process_at s c)) faults in
    let pages = pages_back told (frames_of_owner s.owner) in
    stays_on told (assumption)
    (stays_on pages (frames_back told (frames_of_owner s.owner)) (cut_back pages (cut_of_owner s.owner)))
