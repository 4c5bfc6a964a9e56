-- What a job takes, and what comes back where the drive failed, isn't seen in the flat store.
use Rattle.machine.proofs.Prelude.{choice_bindings, Aim, CutDescriptor, List, None, Option, Some, State, Storage, What, after_choice, bound_page, cut_all, cut_of_owner, cut_one, deactivation_begun, fault_told, first_off_chain, frame_in, frames_from, frames_of_owner, hand_past, here_if, leads_at, leaving_if, page_back, pages_back, process_at, refl, seg_back, segment_taken, segs_back, segs_gone_rest, subst, sym, take_all, take_one, trailers_in, unlinked, victim_taken, with_choice, with_hand_moved, with_inactive, with_leaving, with_relink, with_store, write_failed, ℕ, ◌∷◌, emptied, took, [], What as what, Aim as aim}
use Rattle.machine.proofs.Stays.{ShowsAs, core_as, same_as, tables_as, then_as}

-- the clock's choice, with the marks and the hand as they are then
choice_as : (st : Storage) (f : ℕ) → ShowsAs st (with_choice st f)
choice_as st f = core_as st (after_choice st.pages.core f) (choice_bindings st.pages.core f)

-- a page that is on its way out
leaving_by : (st : Storage) (f : ℕ) (x : Option (ℕ × ℕ)) → ShowsAs st (leaving_if st f x)
leaving_by st f None = same_as st
leaving_by st f (Some page) = tables_as st (leaving_if st f (Some page)).ast st.links refl

leaving_as : (st : Storage) (f : ℕ) → ShowsAs st (with_leaving st f)
leaving_as st f = leaving_by st f (bound_page (frame_in st.pages f))

-- the clock's choice is on its way out
pub evicted_as : (st : Storage) (f : ℕ) → ShowsAs st (with_leaving (with_choice st f) f)
evicted_as st f = then_as (choice_as st f) (leaving_as (with_choice st f) f)

-- a descriptor that is cut
cut_by : (st : Storage) (k n : ℕ) (x : Option ℕ) → ShowsAs st (record st { links = unlinked st.links k n x })
cut_by st k n None = same_as st
cut_by st k n (Some place) = tables_as st st.ast (unlinked st.links k n (Some place)) refl

take_as : (s : State) (c : ℕ) (a : Aim) (w : What) (fs : List ℕ) → ShowsAs s.store (take_all s c a w fs).store
take_as s c a w [] = same_as s.store
take_as s c a w (f ∷ fs) = then_as (leaving_as s.store f) (take_as (take_one s c a w f) c a w fs)

cut_as : (s : State) (c : ℕ) (a : Aim) (w : What) (xs : List (ℕ × ℕ)) → ShowsAs s.store (cut_all s c a w xs).store
cut_as s c a w [] = same_as s.store
cut_as s c a w (x ∷ xs) = then_as (cut_by s.store x.0 x.1 (leads_at s.store.links.descriptors x.0 x.1))
    (cut_as (cut_one s c a w x) c a w xs)

pub took_as : (s : State) (c : ℕ) (a : Aim) (w : What) (fs : List ℕ) (xs : List (ℕ × ℕ))
    → ShowsAs s.store (took s c a w fs xs).store
took_as s c a w fs xs = then_as (take_as s c a w fs) (cut_as (take_all s c a w fs) c a w xs)

-- a segment that isn't active any more
pub emptied_as : (s : State) (c u : ℕ) → ShowsAs s.store (emptied s c u).store
emptied_as s c u = subst (λ (st : Storage). ShowsAs s.store (with_inactive st u))
    (sym (segs_gone_rest s (cut_of_owner s.owner)).4) (tables_as s.store (with_inactive s.store u).ast s.store.links
    refl)

segment_as : (s : State) (c u : ℕ) (fs : List ℕ) (xs : List (ℕ × ℕ)) → ShowsAs s.store (segment_taken s c u fs xs).store
segment_as s c u [] [] = emptied_as s c u
segment_as s c u [] (x ∷ xs) = took_as s c (aim.Deactivating u) (what.Seg u) [] (x ∷ xs)
segment_as s c u (f ∷ fs) xs = took_as s c (aim.Deactivating u) (what.Seg u) (f ∷ fs) xs

-- a segment of which everything is taken
pub begun_as : (s : State) (c u : ℕ) → ShowsAs s.store (deactivation_begun s c u).store
begun_as s c u = segment_as s c u (frames_from s.store.ast u 0) (trailers_in s.store u)

-- the victim of a pool, whose hand moves on
hand_by : (st : Storage) (pool : ℕ) (x : Option ℕ) → ShowsAs st (record st { ast = hand_past st.ast pool x })
hand_by st pool None = same_as st
hand_by st pool (Some place) = tables_as st (hand_past st.ast pool (Some place)) st.links refl

pub victim_as : (s : State) (c pool : ℕ) (chain : List ℕ) (u : ℕ)
    → ShowsAs s.store (victim_taken s c pool chain u).store
victim_as s c pool chain u = then_as (hand_by s.store pool (first_off_chain s.store.ast pool chain))
    (begun_as (with_store s (with_hand_moved s.store pool chain)) c u)

-- ---- what comes back

-- a page that is here again
here_by : (st : Storage) (f : ℕ) (x : Option (ℕ × ℕ)) → ShowsAs st (here_if st f x)
here_by st f None = same_as st
here_by st f (Some page) = tables_as st (here_if st f (Some page)).ast st.links refl

pages_back_as : (s : State) (fs : List ℕ) → ShowsAs s.store (pages_back s fs).store
pages_back_as s [] = same_as s.store
pages_back_as s (f ∷ fs) = then_as (here_by s.store f (bound_page (frame_in s.store.pages f)))
    (pages_back_as (page_back s f) fs)

segs_back_as : (s : State) (ds : List CutDescriptor) → ShowsAs s.store (segs_back s ds).store
segs_back_as s [] = same_as s.store
segs_back_as s (d ∷ ds) = then_as (tables_as s.store s.store.ast (with_relink s.store d).links refl)
    (segs_back_as (seg_back s d) ds)

-- the machine after a failed write
pub failed_as : (s : State) (c faults : ℕ) → ShowsAs s.store (write_failed s c faults).store
failed_as s c faults = then_as (pages_back_as told (frames_of_owner s.owner))
    (segs_back_as (pages_back told (frames_of_owner s.owner)) (cut_of_owner s.owner))
  where
    told : State
    told = fault_told s (Some (process_at s c)) faults
