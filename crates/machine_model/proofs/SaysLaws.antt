-- What the store says after each action, by what its calls say of it.
use Rattle.machine_model.proofs.Basics.{cond_both, ◌≡◌, ℕ, ◌+◌, ◌*◌, true, false, eqb, List, [], ◌∷◌, ◌++◌, map, length, sum, Option, Some, None, refl, sym, ap, subst, ◌∙◌, arith, ◌/◌, ◌%◌, length-set, Who, Plan, reference_of, Command, RefKind, Reference, Entry, Reply, Node, bound_page, Left, Home, evicted, referred, Plain, frame_in_pages, words_in, Transfer, effect_of, takes_effect, after_entry, store_after, store_after-push, alters, new_word, word_reply, written, written_by, Store, known_uid, Outcome, after, emptied, entries_left, eviction_begun, eviction_done, here_if, leaving_if, left_of, page_back, page_done, page_in, pages_back, seg_back, seg_gone, segs_back, segs_gone, with_choice, without_first_frame, write_failed, AreThere, HadRights, IsConserved, IsFaithful, Keeps, StoreKept, StoreSays, cut_of_owner, flat_of, frames_of_owner, home_in, is_active, next_command, process_at, run_at, Says, left_page, shown_after, through, with_made_page, without_left, CutDescriptor, Owner, State, Storage, activated_at, connected_to, fault_told, frame_lost, old_word, page_created, pages_after, started, told, told_by, transfer_failed, transferred, went_through, with_faults, append_assoc, RefKind as kind, Entry as entry, Reply as reply, Left as left, references_after_reference as after_reference, Action, Action as act, IsAlike, alike, alike_by, alike_on, alike_shown, conserved_by, done_alike, fault_alike, is_still, one_still, refused_alike, left_nodes as account_nodes}
use Rattle.machine_model.proofs.ChoiceLaws.{choice_count}

-- the quotas of a flat store together
abbrev pub quotas : Store → ℕ
quotas t = sum (map (λ n. n.quota) t.nodes)

-- ---- descriptors that are cut

pub no_rights : (nodes : List Node) (whos : List Who) → HadRights nodes whos []
no_rights nodes whos = record {
  modes = λ i d n h. cc;
  lengths = λ i d n h. cc;
}

pub same_rights : (old now : Storage) {ds es : List CutDescriptor} → now.accounts.nodes ≡ old.accounts.nodes
    → now.whos ≡ old.whos → es ≡ ds → HadRights old.accounts.nodes old.whos ds
    → HadRights now.accounts.nodes now.whos es
same_rights old now nodes whos same h = rw nodes (rw (whos, same) h)

pub there_still : (old now : Storage) (ds : List CutDescriptor) → now.links.descriptors ≡ old.links.descriptors
    → ((u : ℕ) → is_active old.ast u ≡ true → is_active now.ast u ≡ true) → AreThere old ds → AreThere now ds
there_still old now [] links active h = tt
there_still old now (d ∷ ds) links active h = (
  (
    rw links h.0.0,
    rw links h.0.1,
    active d.uid h.0.2,
  ),
  there_still old now ds links active h.1,
)

-- ---- what is put together

-- Of a step: the script and the number of frames are as before, and what the job has cut had the right modes.
pub record Rest (s now : State) : Type 0 where
  pub plan : now.plan ≡ s.plan
  pub frames : length now.store.pages.core.frames ≡ length s.store.pages.core.frames
  pub rights : HadRights now.store.accounts.nodes now.store.whos (cut_of_owner now.owner)
  pub cut : AreThere now.store (cut_of_owner now.owner)

-- the tree, the principals, the descriptors and the cut list are as before
pub record IsSame (s now : State) : Type 0 where
  pub plan : now.plan ≡ s.plan
  pub frames : length now.store.pages.core.frames ≡ length s.store.pages.core.frames
  pub nodes : now.store.accounts.nodes ≡ s.store.accounts.nodes
  pub whos : now.store.whos ≡ s.store.whos
  pub descriptors : now.store.links.descriptors ≡ s.store.links.descriptors
  pub active : (u : ℕ) → is_active s.store.ast u ≡ true → is_active now.store.ast u ≡ true
  pub cut : cut_of_owner now.owner ≡ cut_of_owner s.owner

pub is_same : {s now : State} → now.plan ≡ s.plan
    → length now.store.pages.core.frames ≡ length s.store.pages.core.frames
    → now.store.accounts.nodes ≡ s.store.accounts.nodes → now.store.whos ≡ s.store.whos
    → now.store.links.descriptors ≡ s.store.links.descriptors
    → ((u : ℕ) → is_active s.store.ast u ≡ true → is_active now.store.ast u ≡ true)
    → cut_of_owner now.owner ≡ cut_of_owner s.owner → IsSame s now
is_same plan frames nodes whos descriptors active cut = assumption (plan, frames, nodes, whos, descriptors, active, cut)

pub same_rest : {s now : State} → Keeps s → IsSame s now → Rest s now
same_rest {s} {now} k same = record {
  plan = same.plan;
  frames = same.frames;
  rights = same_rights s.store now.store same.nodes same.whos same.cut k.rights;
  cut = rw same.cut (there_still s.store now.store (cut_of_owner s.owner) same.descriptors same.active k.cut);
}

-- the job has cut nothing, or is over
pub none_rest : (s now : State) → now.plan ≡ s.plan
    → length now.store.pages.core.frames ≡ length s.store.pages.core.frames → cut_of_owner now.owner ≡ [] → Rest s now
none_rest s now plan frames cut = record {
  plan = plan;
  frames = frames;
  rights = rw cut (no_rights now.store.accounts.nodes now.store.whos);
  cut = rw cut tt;
}

pub says_by : {s : State} (now : State) {t : Store} → Keeps s → StoreKept now.store → IsFaithful s.plan t now.store
    → IsAlike t (flat_of now) → quotas t ≡ s.plan.quota → Rest s now → StoreSays now
says_by {s} now {t} k kept shown like total rest =
    let faithful = alike_shown (flat_of now) like shown in assumption (
      subst (λ (p : Plan). IsFaithful p (flat_of now) now.store) (sym rest.plan) faithful,
      subst (λ (p : Plan). IsConserved p (flat_of now)) (sym rest.plan)
          (conserved_by s.plan (flat_of now) now.store faithful kept.accounts (cc)),
      rest.frames ∙ (k.sizes.frames ∙ ap (λ (p : Plan). p.frames) (sym rest.plan)),
    )

-- by what the calls of an action say, where this is the machine after it
pub says_is : {s : State} {c : ℕ} {o : Outcome} {a : Action} {now : State} → Keeps s → Says s c o a
    → after s c a o ≡ now → IsAlike (shown_after s c o a (flat_of s)) (flat_of now)
    → quotas (shown_after s c o a (flat_of s)) ≡ s.plan.quota → Rest s now → StoreSays now
says_is {s} {c} {o} {a} {now} k says is like total rest = says_by now k
    (rw (← is) says.store) (rw is at (says.shown (flat_of s) k.faithful)) like total rest

-- ---- where the store is as before

-- a refusal or a drive's failure leaves the store as it is, and the flat store that it shows
pub refused_says : {s : State} (c k : ℕ) (f : Option ℕ) (r : Reply) → Keeps s → takes_effect r ≡ false
    → StoreSays (told_by s c k f r)
refused_says {s} c k f r keeps h = says_by (told_by s c k f r) keeps keeps.store keeps.faithful
    (refused_alike s.plan s.entries k (run_at s.runs k).place c f r h) keeps.conserved.total
    (same_rest keeps (is_same refl refl refl refl refl (λ u e. e) refl))

-- ---- references

-- a word that is written through its frame
through_is : (s : State) (f k : ℕ) {u : ℕ} (r : Reference) (t : Store) → known_uid t k r.number ≡ Some u
    → page_in s.store f ≡ (u, r.offset / 1024) → old_word s.store.pages f r ≡ t.words u r.offset
    → through s f r t ≡ after_reference t k r
unfolding after_reference
through_is s f k {u} r t known page old = cc same
  where
    offset : 1024 * (page_in s.store f).1 + r.offset % 1024 ≡ r.offset
    offset = let whole : 1024 * (r.offset / 1024) + r.offset % 1024 ≡ r.offset = omega arith in cc

    same : written t u r.offset (new_word (t.words u r.offset) r.kind)
        ≡ written t (page_in s.store f).0 (1024 * (page_in s.store f).1 + r.offset % 1024)
        (new_word (old_word s.store.pages f r) r.kind)
    same = λ i. written t (ap (λ (x : ℕ × ℕ). x.0) (sym page) i) (sym offset i) (new_word (sym old i) r.kind)

nodes_through : (s : State) (f : ℕ) (r : Reference) (t : Store) → (through s f r t).nodes ≡ t.nodes
nodes_through s f r t = cond_both (alters r.kind) _ t (λ x. x.nodes ≡ t.nodes) (λ h. refl) (λ h. refl)

word_done : (w : ℕ) (how : RefKind) → takes_effect (word_reply w how) ≡ true
word_done w kind.Read = refl
word_done w _ = refl

effect_is : (p : Plan) (t : Store) (k : ℕ) (cmd : Command) {r : Reference} → reference_of cmd ≡ Some r
    → effect_of p t k cmd ≡ after_reference t k r
effect_is p t k cmd h = cc

pages_count : (pages : Plain) (f : ℕ) (r : Reference) → length (pages_after pages f r).core.frames
    ≡ length pages.core.frames
pages_count pages f r = cond_both (alters r.kind) _ (referred pages f false)
    (λ x. length x.core.frames ≡ length pages.core.frames) (λ h. length-set pages.core.frames f _)
    (λ h. length-set pages.core.frames f _)

-- a reference goes through a frame that has its page
pub through_says : {s : State} {c : ℕ} {o : Outcome} (f : ℕ) {u : ℕ} {r : Reference} {cmd : Command} → Keeps s
    → Says s c o (act.Through f r) → next_command s (process_at s c) ≡ Some cmd → reference_of cmd ≡ Some r
    → known_uid (flat_of s) (process_at s c) r.number ≡ Some u → page_in s.store f ≡ (u, r.offset / 1024)
    → old_word s.store.pages f r ≡ (flat_of s).words u r.offset → StoreSays (went_through s c f r)
unfolding after
through_says {s} {c} f {u} {r} {cmd} k says next is known page old = says_is k
    says refl (rw (effect_is s.plan (flat_of s) (process_at s c) cmd is
    ∙ sym (through_is s f (process_at s c) r (flat_of s) known page old)) at (done_alike s.plan s.entries
    (process_at s c) (run_at s.runs (process_at s c)).place c (Some f) (word_reply (old_word s.store.pages f r) r.kind)
    next (word_done (old_word s.store.pages f r) r.kind))) (cc (nodes_through s f r (flat_of s)))
    (same_rest k (is_same refl (pages_count s.store.pages f r) refl refl refl (λ v e. e) refl))

-- a page that isn't stored is read, or 0 is written to it, where it is: the flat store is as it was
pub plain_says : {s : State} (c : ℕ) {r : Reference} {cmd : Command} → Keeps s
    → next_command s (process_at s c) ≡ Some cmd → reference_of cmd ≡ Some r
    → IsAlike (flat_of s) (after_reference (flat_of s) (process_at s c) r)
    → StoreSays (told s c None (word_reply 0 r.kind))
plain_says {s} c {r} {cmd} k next is like = says_by (told s c None (word_reply 0 r.kind)) k k.store k.faithful
    (alike_on like (rw (effect_is s.plan (flat_of s) (process_at s c) cmd is) at (done_alike s.plan s.entries
    (process_at s c) (run_at s.runs (process_at s c)).place c None (word_reply 0 r.kind) next
    (word_done 0 r.kind)))) k.conserved.total (same_rest k
    (is_same refl refl refl refl refl (λ v e. e) refl))

-- ---- a page is made

made_by : (t : Store) (u offset : ℕ) (how : RefKind) → t.words u offset ≡ 0 → eqb (new_word 0 how) 0 ≡ false
    → written t u offset (new_word 0 how) ≡ written_by t offset how (Some u)
made_by t u offset kind.Read zero h = absurd (let no : true ≡ false = h in cc)
made_by t u offset (kind.Write w) zero h = refl
made_by t u offset (kind.Add w) zero h = cc

-- a page that is all zeros is made by a reference to it
pub made_is : (s : State) (c u : ℕ) (r : Reference) (t : Store) → known_uid t (process_at s c) r.number ≡ Some u
    → t.words u r.offset ≡ 0 → eqb (new_word 0 r.kind) 0 ≡ false
    → with_made_page s c r t ≡ after_reference t (process_at s c) r
unfolding after_reference
made_is s c u r t known zero word = cc (made_by t u r.offset r.kind zero word)

nodes_made : (s : State) (c : ℕ) (r : Reference) (t : Store) → (with_made_page s c r t).nodes ≡ t.nodes
unfolding after_reference
nodes_made s c r t = by (known_uid t (process_at s c) r.number)
  where
    by : (x : Option ℕ) → (written_by t r.offset (kind.Write (new_word 0 r.kind)) x).nodes ≡ t.nodes
    by None = refl
    by (Some u) = refl

pub created_says : {s : State} {c : ℕ} {o : Outcome} (f u : ℕ) {v : ℕ} (p : ℕ) {r : Reference} {cmd : Command} → Keeps s
    → Says s c o (act.Create f u p r) → next_command s (process_at s c) ≡ Some cmd → reference_of cmd ≡ Some r
    → known_uid (flat_of s) (process_at s c) r.number ≡ Some v → (flat_of s).words v r.offset ≡ 0
    → eqb (new_word 0 r.kind) 0 ≡ false → StoreSays (page_created s c f u p r)
unfolding after
created_says {s} {c} f u {v} p {r} {cmd} k says next is known zero word = says_is k says refl
    (rw effect at (done_alike s.plan (s.entries ++ entry.Here f u p ∷ []) (process_at s c)
    (run_at s.runs (process_at s c)).place c None (word_reply 0 r.kind) next (word_done 0 r.kind)))
    (cc (nodes_made s c r (flat_of s)))
    (none_rest s (page_created s c f u p r) refl (length-set s.store.pages.core.frames f _) refl)
  where
    effect : effect_of s.plan (store_after s.plan (s.entries ++ entry.Here f u p ∷ [])) (process_at s c) cmd
        ≡ with_made_page s c r (flat_of s)
    effect = cc (
      one_still s.plan s.entries (entry.Here f u p) refl,
      effect_is s.plan (flat_of s) (process_at s c) cmd is,
      made_is s c v r (flat_of s) known zero word,
    )

-- ---- looks that bring a segment or a page nearer

still_alike : (s : State) (e : Entry) → is_still e ≡ true → IsAlike (flat_of s) (store_after s.plan
    (s.entries ++ e ∷ []))
still_alike s e h = alike_by (alike (flat_of s)) (one_still s.plan s.entries e h)

pub activated_says : {s : State} {c : ℕ} {o : Outcome} (u place : ℕ) → Keeps s → Says s c o (act.Activate u place)
    → cut_of_owner s.owner ≡ [] → StoreSays (activated_at s u place)
unfolding after
activated_says {s} u place k says none = says_is k says refl
    (still_alike s (entry.Activate u) refl) k.conserved.total (none_rest s (activated_at s u place) refl refl none)

pub connected_says : {s : State} {c : ℕ} {o : Outcome} (n u : ℕ) → Keeps s → Says s c o (act.Connect n u)
    → cut_of_owner s.owner ≡ [] → StoreSays (connected_to s c n u)
unfolding after
connected_says {s} {c} n u k says none = says_is k says refl (still_alike s (entry.Connect (process_at s c) n u) refl)
    k.conserved.total (none_rest s (connected_to s c n u) refl refl none)

pub started_says : {s : State} {c : ℕ} {o : Outcome} (f u p : ℕ) → Keeps s → Says s c o (act.Start f u p)
    → StoreSays (started s c f u p)
unfolding after
started_says {s} {c} f u p k says = says_is k says refl (still_alike s (entry.Start f u p) refl) k.conserved.total
    (none_rest s (started s c f u p) refl (length-set s.store.pages.core.frames f _) refl)

-- ---- the clock's choice is taken

pub leaving_pages : (st : Storage) (f : ℕ) (x : Option (ℕ × ℕ)) → (leaving_if st f x).pages ≡ st.pages
leaving_pages st f None = refl
leaving_pages st f (Some page) = refl

pub evicting_says : {s : State} {c : ℕ} {o : Outcome} (f : ℕ) → Keeps s → Says s c o (act.Evict f)
    → cut_of_owner s.owner ≡ [] → StoreSays (eviction_begun s c f)
unfolding after
evicting_says {s} {c} f k says none = says_is k says refl (still_alike s (entry.Take f) refl) k.conserved.total
    (none_rest
    s (eviction_begun s c f) refl (ap (λ (pages : Plain). length pages.core.frames)
    (leaving_pages (with_choice s.store f) f _) ∙ choice_count s.store.pages.core f) none)

-- ---- the end of a transfer

module _ {s : State} {c : ℕ} {o : Outcome} (t : Transfer) (k : Keeps s) (says : Says s c o (act.EndTransfer t)) where
  pub read_says : o.failed ≡ false → StoreSays (transferred (with_faults s o.faults) c t)
  unfolding after
  read_says h = let now = transferred (with_faults s o.faults) c t in says_is k says (cc)
      (still_alike s (entry.Here t.frame t.uid t.page) refl) k.conserved.total
      (same_rest k (is_same refl (length-set s.store.pages.core.frames t.frame _) refl refl refl (λ u e. e) refl))

  pub failed_says : o.failed ≡ true → StoreSays (transfer_failed s c t o.faults)
  unfolding after
  failed_says h =
      let now = transfer_failed s c t o.faults in
      let told_process = process_at (fault_told (frame_lost s c t) (Some (process_at s c)) o.faults) c in
      says_is k says (cc) (alike_on (still_alike s (entry.Lose t.frame) refl) (alike_on
      (fault_alike s.plan (s.entries ++ entry.Lose t.frame ∷ []) (Some (process_at s c)))
      (refused_alike s.plan ((s.entries ++ entry.Lose t.frame ∷ []) ++ entry.Fault (Some (process_at s c)) ∷ [])
      told_process (run_at s.runs told_process).place c None reply.Device refl))) k.conserved.total
      (same_rest k (is_same refl (length-set s.store.pages.core.frames t.frame _) refl refl refl (λ u e. e) refl))

-- ---- a page leaves its frame

pub left_flat : (p : Plan) (es : List Entry) (f : ℕ) (how : Left) (page : ℕ × ℕ)
    → store_after p (es ++ entries_left f how page) ≡ without_left how page (store_after p es)
unfolding after_entry
left_flat p es f left.Released page = cc (
  append_assoc es (entry.GonePage f ∷ []) (entry.Release page.0 page.1 ∷ []),
  store_after-push p (es ++ entry.GonePage f ∷ []) (entry.Release page.0 page.1),
  one_still p es (entry.GonePage f) refl,
)
left_flat p es f left.Kept page = one_still p es (entry.GonePage f) refl

pub left_nodes : (how : Left) (page : ℕ × ℕ) (t : Store) → (without_left how page t).nodes ≡ t.nodes
left_nodes left.Released page t = refl
left_nodes left.Kept page t = refl

pub left_count : (pages : Plain) (home : Home) (p f : ℕ) (how : Left)
    → length (evicted pages home p f how).core.frames ≡ length pages.core.frames
left_count pages home p f left.Released = length-set pages.core.frames f _
left_count pages home p f left.Kept = length-set pages.core.frames f _

pub cut_less : (x : Option Owner) → cut_of_owner (without_first_frame x) ≡ cut_of_owner x
cut_less None = refl
cut_less (Some q) = refl

module _ (s : State) (c : ℕ) (o : Outcome) (f : ℕ) (k : Keeps s) where
  abbrev how : Left
  how = left_of (words_in s.store.pages f)

  left_alike : IsAlike (left_page s f (flat_of s)) (store_after s.plan (s.entries ++ entries_left f how
      (page_in s.store f)))
  left_alike = alike_by (alike (left_page s f (flat_of s))) (left_flat s.plan s.entries f how (page_in s.store f))

  left_total : quotas (left_page s f (flat_of s)) ≡ s.plan.quota
  left_total = cc (left_nodes how (page_in s.store f) (flat_of s), k.conserved.total)

  pub evicted_says : Says s c o (act.FinishEviction f) → o.failed ≡ false
      → StoreSays (eviction_done (with_faults s o.faults) c f)
  unfolding after
  evicted_says says h = let now = eviction_done (with_faults s o.faults) c f in
      says_is k says (cc) (rw h left_alike) (rw h left_total)
      (none_rest s now refl (left_count s.store.pages (home_in s.store (page_in s.store f).0)
      (page_in s.store f).1 f how) refl)

  pub page_left_says : Says s c o (act.FinishPage f) → o.failed ≡ false
      → StoreSays (page_done (with_faults s o.faults) f)
  unfolding after
  page_left_says says h = let now = page_done (with_faults s o.faults) f in
      says_is k says (cc) (rw h left_alike) (rw h left_total) (same_rest k (is_same refl
      (left_count s.store.pages (home_in s.store (page_in s.store f).0) (page_in s.store f).1 f how)
      (account_nodes s.store.accounts (page_in s.store f).0 how) refl refl (λ u e. e) (cut_less s.owner)))

-- ---- a write failed

-- the script, the pages and the flat store as before
pub record IsBack (s now : State) : Type 0 where
  pub plan : now.plan ≡ s.plan
  pub pages : now.store.pages ≡ s.store.pages
  pub flat : store_after now.plan now.entries ≡ store_after s.plan s.entries

back_by : {s now : State} → now.plan ≡ s.plan → now.store.pages ≡ s.store.pages
    → store_after now.plan now.entries ≡ store_after s.plan s.entries → IsBack s now
back_by plan pages flat = assumption

pub back_on : {s t u : State} → IsBack s t → IsBack t u → IsBack s u
back_on a b = assumption (b.plan ∙ a.plan, b.pages ∙ a.pages, b.flat ∙ a.flat)

here_pages : (st : Storage) (f : ℕ) (x : Option (ℕ × ℕ)) → (here_if st f x).pages ≡ st.pages
here_pages st f None = refl
here_pages st f (Some page) = refl

pub pages_are_back : (s : State) (fs : List ℕ) → IsBack s (pages_back s fs)
pages_are_back s [] = assumption
pages_are_back s (f ∷ fs) = back_on (back_by refl (here_pages s.store f (bound_page (frame_in_pages s.store.pages f)))
    (one_still s.plan s.entries (entry.BackPage f) refl)) (pages_are_back (page_back s f) fs)

pub segs_are_back : (s : State) (ds : List CutDescriptor) → IsBack s (segs_back s ds)
segs_are_back s [] = assumption
segs_are_back s (d ∷ ds) = back_on
    (back_by refl refl (one_still s.plan s.entries (entry.BackSeg d.process d.number) refl))
    (segs_are_back (seg_back s d) ds)

module _ (s : State) (c : ℕ) (faults : ℕ) where
  abbrev fault_state : State
  fault_state = fault_told s (Some (process_at s c)) faults

  abbrev back_state : State
  back_state = segs_back (pages_back fault_state (frames_of_owner s.owner)) (cut_of_owner s.owner)

  back_is : IsBack fault_state back_state
  back_is = back_on (pages_are_back fault_state (frames_of_owner s.owner))
      (segs_are_back (pages_back fault_state (frames_of_owner s.owner)) (cut_of_owner s.owner))

  pub failed_alike : IsAlike (flat_of s) (flat_of (write_failed s c faults))
  failed_alike = alike_on (alike_by (fault_alike s.plan s.entries (Some (process_at s c))) back_is.flat)
      (refused_alike back_state.plan back_state.entries (process_at back_state c)
      (run_at back_state.runs (process_at back_state c)).place c None reply.Device refl)

  pub failed_rest : Rest s (write_failed s c faults)
  failed_rest = none_rest s (write_failed s c faults) back_is.plan (cc (back_is.pages)) refl

module _ {s : State} (c : ℕ) (o : Outcome) (f : ℕ) (k : Keeps s) (h : o.failed ≡ true) where
  pub eviction_failed_says : Says s c o (act.FinishEviction f) → StoreSays (write_failed s c o.faults)
  unfolding after
  eviction_failed_says says = says_is k says (cc)
      (rw h (failed_alike s c o.faults)) (rw h k.conserved.total) (failed_rest s c o.faults)

  pub page_failed_says : Says s c o (act.FinishPage f) → StoreSays (write_failed s c o.faults)
  unfolding after
  page_failed_says says = says_is k says (cc)
      (rw h (failed_alike s c o.faults)) (rw h k.conserved.total) (failed_rest s c o.faults)

-- ---- a segment is active no more

pub gone_is : (s : State) (ds : List CutDescriptor) → IsBack s (segs_gone s ds)
gone_is s [] = assumption
gone_is s (d ∷ ds) = back_on (back_by refl refl (one_still s.plan s.entries (entry.GoneSeg d.process d.number) refl))
    (gone_is (seg_gone s d) ds)

pub emptied_says : {s : State} (c u : ℕ) {st : Storage} → Keeps s → StoreKept st → IsFaithful s.plan (flat_of s) st
    → (emptied s c u).store ≡ st → StoreSays (emptied s c u)
emptied_says {s} c u k kept shown is = let gone = segs_gone s (cut_of_owner s.owner) in
    says_by (emptied s c u) k (subst StoreKept (sym is) kept)
    (rw is shown) (alike_by (alike (flat_of s)) (one_still gone.plan gone.entries (entry.Deactivate u) refl
    ∙ (gone_is s (cut_of_owner s.owner)).flat)) k.conserved.total
    (none_rest s (emptied s c u) (gone_is s (cut_of_owner s.owner)).plan
    (cc ((gone_is s (cut_of_owner s.owner)).pages)) refl)

pub deactivated_says : {s : State} {c : ℕ} {o : Outcome} (u : ℕ) → Keeps s → Says s c o (act.Deactivate u)
    → StoreSays (emptied s c u)
unfolding after
deactivated_says {s} {c} u k says = emptied_says c u k says.store (says.shown (flat_of s) k.faithful) refl
