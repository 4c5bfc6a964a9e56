-- In the outline of the machine, taking, signalling and finishing are steps of the owner's job.
use Rattle.machine_model.proofs.Laws.{◌≡◌, ◌≢◌, ◌≤◌, ℕ, suc, ◌+◌, List, [], ◌∷◌, ◌++◌, length, map, Option, Some, None, refl, sym, ap, subst, ◌∙◌, inl, inr, ◌⊎◌, append_assoc, zero-add, What, bound_page, core_frame, command_at, Plain, Active, leads_at, place_of, is_filed, Aim, Processor, CutDescriptor, State, Storage, Owner, next_command, no_processor, run_at, processor_at, frames_of_owner, cut_of_owner, cut_all, cut_one, eviction_begun, leaving_if, owner_signalled, signalled, take_all, take_one, told_from, took, with_choice, with_leaving, Runner, EvictFrame, Look, Taken, Waiting, runner_at, at_stage, IsIn, JobStep, takes_segment, takes_frame, takes_for_commit, signals, CanEmpty, CanEvict, AreAlike, AreOf, with_runners, Around, around, bare, lacks_record, left_in, want_of, runner_by, runner_of, work_of, keeper_of, outline_of, Aim as aim, Phase as phase, jobs_told_at as told_at, eqb_self, Command, reply_to_tree_command, delete_reply, terminate_reply, acl_reply, truncate_reply, reference_of, refusal, Keeps, flat_of, refusal_of, TakesSome, Command as command, Entry as entry, outline_reads_map_at as map_at, seen_online, seen_running, seen_due, seen_reading, seen_since, seen_tried, job_to, in_job, choice_bare, told_has, told_online, told_process, told_reads, leaving_pages, told_transfer, one_still}
use Rattle.storage_ops.proofs.Less.{one_known}

-- ---- what taking leaves

pub leaving_entries : (st : Storage) (f : ℕ) (o : Option (ℕ × ℕ)) → (leaving_if st f o).ast.entries ≡ st.ast.entries
leaving_entries st f None = refl
leaving_entries st f (Some page) = refl

pub leaving_links : (st : Storage) (f : ℕ) (o : Option (ℕ × ℕ)) → (leaving_if st f o).links ≡ st.links
leaving_links st f None = refl
leaving_links st f (Some page) = refl

leaving_accounts : (st : Storage) (f : ℕ) (o : Option (ℕ × ℕ)) → (leaving_if st f o).accounts ≡ st.accounts
leaving_accounts st f None = refl
leaving_accounts st f (Some page) = refl

leaving_whos : (st : Storage) (f : ℕ) (o : Option (ℕ × ℕ)) → (leaving_if st f o).whos ≡ st.whos
leaving_whos st f None = refl
leaving_whos st f (Some page) = refl

-- the outline of a machine whose store has the same but for page tables, and whose owner is this
pub record LooksLike (s t : State) : Type 0 where
  pub plan : t.plan ≡ s.plan
  pub runs : t.runs ≡ s.runs
  pub ready : t.ready ≡ s.ready
  pub processors : t.processors ≡ s.processors
  pub pages : t.store.pages ≡ s.store.pages
  pub entries : t.store.ast.entries ≡ s.store.ast.entries
  pub accounts : t.store.accounts ≡ s.store.accounts
  pub whos : t.store.whos ≡ s.store.whos
  pub known : t.store.links.known ≡ s.store.links.known

looks_like : {s t : State} → t.plan ≡ s.plan → t.runs ≡ s.runs → t.ready ≡ s.ready → t.processors ≡ s.processors
    → t.store.pages ≡ s.store.pages → t.store.ast.entries ≡ s.store.ast.entries → t.store.accounts ≡ s.store.accounts
    → t.store.whos ≡ s.store.whos → t.store.links.known ≡ s.store.links.known → LooksLike s t
looks_like plan runs ready processors pages entries accounts whos known = assumption

take_one_like : (s : State) (c : ℕ) (a : Aim) (w : What) (f : ℕ) → LooksLike s (take_one s c a w f)
take_one_like s c a w f = let page = bound_page (core_frame s.store.pages.core.frames f) in
    looks_like refl refl refl refl (leaving_pages s.store f page) (leaving_entries s.store f page)
    (leaving_accounts s.store f page) (leaving_whos s.store f page) (cc (leaving_links s.store f page))

like_self : (s : State) → LooksLike s s
like_self s = looks_like refl refl refl refl refl refl refl refl refl

like_on : {s t u : State} → LooksLike s t → LooksLike t u → LooksLike s u
like_on one two = looks_like (cc) (cc) (cc) (cc) (cc) (cc) (cc) (cc) (cc)

take_all_like : (s : State) (c : ℕ) (a : Aim) (w : What) (fs : List ℕ) → LooksLike s (take_all s c a w fs)
take_all_like s c a w [] = like_self s
take_all_like s c a w (f ∷ fs) = like_on (take_one_like s c a w f) (take_all_like (take_one s c a w f) c a w fs)

cut_one_like : (s : State) (c : ℕ) (a : Aim) (w : What) (pair : ℕ × ℕ) → LooksLike s (cut_one s c a w pair)
cut_one_like s c a w pair = looks_like refl refl refl refl refl refl refl refl
    (one_known s.store.links pair.0 pair.1 (leads_at s.store.links.descriptors pair.0 pair.1))

cut_all_like : (s : State) (c : ℕ) (a : Aim) (w : What) (pairs : List (ℕ × ℕ)) → LooksLike s (cut_all s c a w pairs)
cut_all_like s c a w [] = like_self s
cut_all_like s c a w (pair ∷ pairs) = like_on (cut_one_like s c a w pair)
    (cut_all_like (cut_one s c a w pair) c a w pairs)

pub took_like : (s : State) (c : ℕ) (a : Aim) (w : What) (fs : List ℕ) (pairs : List (ℕ × ℕ))
    → LooksLike s (took s c a w fs pairs)
took_like s c a w fs pairs = like_on (take_all_like s c a w fs) (cut_all_like (take_all s c a w fs) c a w pairs)

-- the owner once frames were taken and descriptors were cut, one at least
take_owner : (s : State) (c : ℕ) (a : Aim) (w : What) (f : ℕ) (fs : List ℕ) → (take_all s c a w (f ∷ fs)).owner
    ≡ Some (record {
      cpu = c;
      phase = phase.Taken a w;
      frames = frames_of_owner s.owner ++ (f ∷ fs);
      cut = cut_of_owner s.owner;
    })
take_owner s c a w f [] = refl
take_owner s c a w f (g ∷ gs) =
    cc (take_owner (take_one s c a w f) c a w g gs, append_assoc (frames_of_owner s.owner) (f ∷ []) (g ∷ gs))

-- who the owner is once something was taken: the processor, having taken these frames
pub record HasTakenFrames (s : State) (c : ℕ) (a : Aim) (w : What) (frames : List ℕ) : Type 0 where
  pub cut : List CutDescriptor
  pub owner : s.owner ≡ Some (record { cpu = c; phase = phase.Taken a w; frames = frames; cut = cut })

cut_owner : (s : State) (c : ℕ) (a : Aim) (w : What) (pair : ℕ × ℕ) (pairs : List (ℕ × ℕ))
    → HasTakenFrames (cut_all s c a w (pair ∷ pairs)) c a w (frames_of_owner s.owner)
cut_owner s c a w pair [] = record { cut = _; owner = refl }
cut_owner s c a w pair (next ∷ rest) = cut_owner (cut_one s c a w pair) c a w next rest

pub took_owner : (s : State) (c : ℕ) (a : Aim) (w : What) (fs : List ℕ) (pairs : List (ℕ × ℕ))
    → frames_of_owner s.owner ≡ [] → (fs ≢ []) ⊎ (pairs ≢ []) → HasTakenFrames (took s c a w fs pairs) c a w fs
took_owner s c a w [] [] none (inl some) = absurd (some refl)
took_owner s c a w [] [] none (inr some) = absurd (some refl)
took_owner s c a w [] (pair ∷ pairs) none some =
    subst (λ (xs : List ℕ). HasTakenFrames (cut_all s c a w (pair ∷ pairs)) c a w xs) none
    (cut_owner s c a w pair pairs)
took_owner s c a w (f ∷ fs) [] none some = record { cut = cut_of_owner s.owner; owner = cc (take_owner s c a w f fs) }
took_owner s c a w (f ∷ fs) (pair ∷ pairs) none some =
    subst (λ (xs : List ℕ). HasTakenFrames (cut_all (take_all s c a w (f ∷ fs)) c a w (pair ∷ pairs)) c a w xs)
    (cc (take_owner s c a w f fs)) (cut_owner (take_all s c a w (f ∷ fs)) c a w pair pairs)

-- ---- the outline then

like_outline : (s t : State) → LooksLike s t → outline_of t ≡ record (outline_of s) {
  runners = map (runner_of (around t)) s.processors;
  owner = keeper_of s.store.ast.entries t.owner;
}
unfolding outline_of
like_outline s t like = λ i. record {
  runners = map (runner_of (around t)) (like.processors i);
  frames = map bare (like.pages i).core.frames;
  entries = like.entries i;
  stored = is_filed (like.accounts i) (like.pages i).vtocs;
  full = lacks_record (like.accounts i).nodes (like.pages i).records;
  owner = keeper_of (like.entries i) t.owner;
  ready = length (like.ready i);
  left = left_in (like.plan i).processes (like.runs i);
}

want_like : (a b : Around) (p : Processor) → b.nodes ≡ a.nodes → b.whos ≡ a.whos → b.links.known ≡ a.links.known
    → b.next ≡ a.next → (runner_of b p).want ≡ (runner_of a p).want
want_like a b p nodes whos known next = by p.cpu.process
  where
    by : (o : Option ℕ) → (runner_by b p o).want ≡ (runner_by a p o).want
    by None = refl
    by (Some k) = λ i. want_of (record {
      nodes = nodes i;
      whos = whos i;
      links = record { trailers = b.links.trailers; known = known i; descriptors = b.links.descriptors };
      next = next i;
    }) k (next i k)

-- all but what is due, connected and held stands
pub like_alike : {s t : State} (c : ℕ) → LooksLike s t → (runner_of (around t) (processor_at s.processors c)).linked ≡
    (runner_of (around s) (processor_at s.processors c)).linked
    → AreAlike (outline_of s).runners (map (runner_of (around t)) s.processors) c
unfolding outline_of
like_alike {s} {t} c like linked = record {
  count = same_long (runner_of (around s)) (runner_of (around t)) s.processors;
  online = λ d. at t d (λ x. x.online) ∙ seen_online (around t) (processor_at s.processors d)
      ∙ sym (at s d (λ x. x.online) ∙ seen_online (around s) (processor_at s.processors d));
  running = λ d. at t d (λ x. x.running) ∙ seen_running (around t) (processor_at s.processors d)
      ∙ sym (at s d (λ x. x.running) ∙ seen_running (around s) (processor_at s.processors d));
  reading = λ d. at t d (λ x. x.reading) ∙ seen_reading (around t) (processor_at s.processors d)
      ∙ sym (at s d (λ x. x.reading) ∙ seen_reading (around s) (processor_at s.processors d));
  since = λ d. at t d (λ x. x.since) ∙ seen_since (around t) (processor_at s.processors d)
      ∙ sym (at s d (λ x. x.since) ∙ seen_since (around s) (processor_at s.processors d));
  tried = λ d. at t d (λ x. x.tried) ∙ seen_tried (around t) (processor_at s.processors d)
      ∙ sym (at s d (λ x. x.tried) ∙ seen_tried (around s) (processor_at s.processors d));
  want = at t c (λ x. x.want) ∙ want_like (around s) (around t) (processor_at s.processors c) (cc) like.whos like.known
      (λ i. λ k. command_at (like.plan i) k (run_at (like.runs i) k).place) ∙ sym (at s c (λ x. x.want));
  linked = at t c (λ x. x.linked) ∙ linked ∙ sym (at s c (λ x. x.linked));
  due = at t c (λ x. x.due) ∙ seen_due (around t) (processor_at s.processors c)
      ∙ sym (at s c (λ x. x.due) ∙ seen_due (around s) (processor_at s.processors c));
}
  where
    at : {B : Type 0} (u : State) (d : ℕ) (P : Runner → B)
        → P (runner_at (map (runner_of (around u)) s.processors) d) ≡ P
        (runner_of (around u) (processor_at s.processors d))
    at u d P = ap P (map_at (runner_of (around u)) s.processors d no_processor)

    same_long : (f g : Processor → Runner) (xs : List Processor) → length (map g xs) ≡ length (map f xs)
    same_long f g [] = refl
    same_long f g (x ∷ xs) = ap suc (same_long f g xs)

taken_outline : {s t : State} {c : ℕ} {a : Aim} {w : What} {fs : List ℕ} → LooksLike s t → HasTakenFrames t c a w fs
    → with_runners (at_stage (outline_of s) c (Taken (work_of s.store.ast.entries fs a)))
    (map (runner_of (around t)) s.processors) ≡ outline_of t
taken_outline {s} {t} like took = cc (like_outline s t like)

-- a segment is taken: for its length, or as a victim
pub take_segment_outlined : {s t : State} {c : ℕ} (uid : ℕ) {w : What} {fs : List ℕ} → LooksLike s t
    → HasTakenFrames t c (aim.Deactivating uid) w fs → CanEmpty (outline_of s) c (place_of s.store.ast.entries uid)
    → AreOf (outline_of s) (place_of s.store.ast.entries uid) fs → length fs ≤ 256
    → (runner_of (around t) (processor_at s.processors c)).linked ≡
    (runner_of (around s) (processor_at s.processors c)).linked → JobStep (outline_of s) c (outline_of t)
take_segment_outlined {s} {t} {c} uid {w} {fs} like took can of_it few linked =
    job_to (outline_of t) (taken_outline like took)
    (takes_segment (place_of s.store.ast.entries uid) fs (map (runner_of (around t)) s.processors) can of_it few
    (like_alike c like linked))

-- what a tree command must have out of use is taken
pub take_away_outlined : {s t : State} {c : ℕ} {w : What} {fs : List ℕ} → LooksLike s t
    → HasTakenFrames t c aim.Committing w fs → IsIn (outline_of s) c Look
    → (runner_of (around t) (processor_at s.processors c)).linked ≡
    (runner_of (around s) (processor_at s.processors c)).linked → JobStep (outline_of s) c (outline_of t)
take_away_outlined {s} {t} {c} like took look linked = job_to (outline_of t) (taken_outline like took)
    (takes_for_commit (map (runner_of (around t)) s.processors) look (like_alike c like linked))

-- a frame's page is taken
evicted_outline : (s : State) (c f : ℕ) → frames_of_owner s.owner ≡ []
    → at_stage (outline_of s) c (Taken (EvictFrame f)) ≡ outline_of (eviction_begun s c f)
unfolding outline_of
evicted_outline s c f none = λ i. record {
  runners = (sym (λ j. map (runner_of (record {
    nodes = (leaving_accounts (with_choice s.store f) f (taken_page s f) j).nodes;
    whos = leaving_whos (with_choice s.store f) f (taken_page s f) j;
    links = leaving_links (with_choice s.store f) f (taken_page s f) j;
    next = next_command s;
  })) s.processors)) i;
  frames = (sym (ap (λ (x : Plain). map bare x.core.frames) (pages s f) ∙ choice_bare s.store.pages.core f)) i;
  entries = (sym (leaving_entries (with_choice s.store f) f (taken_page s f))) i;
  stored = (sym (λ j. is_filed (leaving_accounts (with_choice s.store f) f (taken_page s f) j) (pages s f j).vtocs)) i;
  full = (sym (λ j. lacks_record (leaving_accounts (with_choice s.store f) f (taken_page s f) j).nodes
      (pages s f j).records)) i;
  owner = (sym (owner s c f none)) i;
  ready = length s.ready;
  left = left_in s.plan.processes s.runs;
}
  where
    taken_page : State → ℕ → Option (ℕ × ℕ)
    taken_page s f = bound_page (core_frame (with_choice s.store f).pages.core.frames f)

    pages : (s : State) (f : ℕ) → (with_leaving (with_choice s.store f) f).pages ≡ (with_choice s.store f).pages
    pages s f = leaving_pages (with_choice s.store f) f
        (bound_page (core_frame (with_choice s.store f).pages.core.frames f))

    owner : (s : State) (c f : ℕ) → frames_of_owner s.owner ≡ []
        → keeper_of (eviction_begun s c f).store.ast.entries (eviction_begun s c f).owner
        ≡ Some (record { cpu = c; stage = Taken (EvictFrame f) })
    owner s c f none = cc

pub evict_outlined : (s : State) {o : Owner} {f : ℕ} → s.owner ≡ Some o → o.frames ≡ []
    → CanEvict (outline_of s) o.cpu f → JobStep (outline_of s) o.cpu (outline_of (eviction_begun s o.cpu f))
evict_outlined s {o} {f} owner none can = job_to
    (outline_of (eviction_begun s o.cpu f)) (evicted_outline s o.cpu f (cc)) (takes_frame f can)

-- ---- the signal

told_count : (c : ℕ) (w : What) (e : ℕ) (p : Processor) → (told_at c w e p).count ≡ p.count
told_count c w e p = told_has (λ q. q.count ≡ p.count) c w e p refl refl refl

told_tried : (c : ℕ) (w : What) (e : ℕ) (p : Processor) → (told_at c w e p).tried ≡ p.tried
told_tried c w e p = told_has (λ q. q.tried ≡ p.tried) c w e p refl refl refl

told_itself : (c : ℕ) (w : What) (p : Processor) → (told_at c w c p).cpu.due ≡ p.cpu.due
told_itself c w p = rw (eqb_self c)

-- what a runner's outline has by its process alone
by_process : {A : Type 0} (see : Runner → A) (a : Around) (p q : Processor)
    → see (runner_by a q None) ≡ see (runner_by a p None)
    → ((k : ℕ) → see (runner_by a q (Some k)) ≡ see (runner_by a p (Some k))) → q.cpu.process ≡ p.cpu.process
    → see (runner_of a q) ≡ see (runner_of a p)
by_process see a p q none some same = by q.cpu.process ∙ ap (λ (o : Option ℕ). see (runner_by a p o)) same
  where
    by : (o : Option ℕ) → see (runner_by a q o) ≡ see (runner_by a p o)
    by None = none
    by (Some k) = some k

want_by_process : (a : Around) (p q : Processor) → q.cpu.process ≡ p.cpu.process
    → (runner_of a q).want ≡ (runner_of a p).want
want_by_process a p q same = by_process (λ x. x.want) a p q refl (λ k. refl) same

linked_by_process : (a : Around) (p q : Processor) → q.cpu.process ≡ p.cpu.process
    → (runner_of a q).linked ≡ (runner_of a p).linked
linked_by_process a p q same = by_process (λ x. x.linked) a p q refl (λ k. refl) same

told_alike : (s : State) (c : ℕ) (w : What)
    → AreAlike (outline_of s).runners (map (runner_of (around s)) (told_from c w 0 s.processors)) c
unfolding outline_of
told_alike s c w = record {
  count = told_long (runner_of (around s)) c w 0 s.processors;
  online = λ d. now d (λ x. x.online) ∙ seen_online (around s) (told_at c w (0 + d) (processor_at s.processors d))
      ∙ told_online c w (0 + d) (processor_at s.processors d)
      ∙ sym (was d (λ x. x.online) ∙ seen_online (around s) (processor_at s.processors d));
  running = λ d. cc (
    now d (λ x. x.running),
    seen_running (around s) (told_at c w (0 + d) (processor_at s.processors d)),
    told_process c w (0 + d) (processor_at s.processors d),
    was d (λ x. x.running),
    seen_running (around s) (processor_at s.processors d),
  );
  reading = λ d. now d (λ x. x.reading) ∙ seen_reading (around s) (told_at c w (0 + d) (processor_at s.processors d))
      ∙ told_transfer c w (0 + d) (processor_at s.processors d)
      ∙ sym (was d (λ x. x.reading) ∙ seen_reading (around s) (processor_at s.processors d));
  since = λ d. now d (λ x. x.since) ∙ seen_since (around s) (told_at c w (0 + d) (processor_at s.processors d))
      ∙ told_count c w (0 + d) (processor_at s.processors d)
      ∙ sym (was d (λ x. x.since) ∙ seen_since (around s) (processor_at s.processors d));
  tried = λ d. now d (λ x. x.tried) ∙ seen_tried (around s) (told_at c w (0 + d) (processor_at s.processors d))
      ∙ told_tried c w (0 + d) (processor_at s.processors d)
      ∙ sym (was d (λ x. x.tried) ∙ seen_tried (around s) (processor_at s.processors d));
  want = now c (λ x. x.want) ∙ want_by_process (around s) (processor_at s.processors c)
      (told_at c w (0 + c) (processor_at s.processors c)) (told_process c w (0 + c) (processor_at s.processors c))
      ∙ sym (was c (λ x. x.want));
  linked = now c (λ x. x.linked) ∙ linked_by_process (around s) (processor_at s.processors c)
      (told_at c w (0 + c) (processor_at s.processors c)) (told_process c w (0 + c) (processor_at s.processors c))
      ∙ sym (was c (λ x. x.linked));
  due = cc (
    now c (λ x. x.due),
    seen_due (around s) (told_at c w (0 + c) (processor_at s.processors c)),
    zero-add c,
    told_itself c w (processor_at s.processors c),
    was c (λ x. x.due),
    seen_due (around s) (processor_at s.processors c),
  );
}
  where
    was : {B : Type 0} (d : ℕ) (P : Runner → B) → P (runner_at (map (runner_of (around s)) s.processors) d) ≡ P
        (runner_of (around s) (processor_at s.processors d))
    was d P = ap P (map_at (runner_of (around s)) s.processors d no_processor)

    now : {B : Type 0} (d : ℕ) (P : Runner → B)
        → P (runner_at (map (runner_of (around s)) (told_from c w 0 s.processors)) d)
        ≡ P (runner_of (around s) (told_at c w (0 + d) (processor_at s.processors d)))
    now d P = cc (
      map_at (runner_of (around s)) (told_from c w 0 s.processors) d no_processor,
      told_reads c w s.processors 0 d,
    )

    told_long : (f : Processor → Runner) (c : ℕ) (w : What) (d : ℕ) (ps : List Processor)
        → length (map f (told_from c w d ps)) ≡ length (map f ps)
    told_long f c w d [] = refl
    told_long f c w d (p ∷ ps) = ap suc (told_long f c w (d + 1) ps)

signalled_keeper : (entries : List (Option Active)) (o : Owner) (a : Aim) (w : What) → o.phase ≡ phase.Taken a w
    → keeper_of entries (owner_signalled (Some o)) ≡ Some
    (record { cpu = o.cpu; stage = Waiting (work_of entries o.frames a) })
signalled_keeper entries o a w h = cc

signalled_outline : (s : State) {o : Owner} (a : Aim) (w v : What) → s.owner ≡ Some o → o.phase ≡ phase.Taken a w
    → with_runners (at_stage (outline_of s) o.cpu (Waiting (work_of s.store.ast.entries o.frames a)))
    (map (runner_of (around s)) (told_from o.cpu v 0 s.processors)) ≡ outline_of (signalled s o.cpu v)
unfolding outline_of
signalled_outline s {o} a w v owner h = cc (signalled_keeper s.store.ast.entries o a w h, owner)

pub signal_outlined : (s : State) {o : Owner} (a : Aim) (w v : What) → s.owner ≡ Some o → o.phase ≡ phase.Taken a w
    → JobStep (outline_of s) o.cpu (outline_of (signalled s o.cpu v))
signal_outlined s {o} a w v owner h = job_to (outline_of (signalled s o.cpu v)) (signalled_outline s a w v owner h)
    (signals (work_of s.store.ast.entries o.frames a) (map (runner_of (around s)) (told_from o.cpu v 0 s.processors))
    (cc (in_job s o owner)) (told_alike s o.cpu v))

-- ---- A command that takes pages or descriptors out of use isn't refused while its job is at work: what refuses it is
-- in the tree and the numbers, which no other processor's step changes.

-- a command that takes is no reference
pub takes_tree : (c : Command) → TakesSome (Some c) → reference_of c ≡ None
takes_tree (command.Acl path row m) some = refl
takes_tree (command.Terminate n) some = refl
takes_tree (command.Truncate path words) some = refl
takes_tree (command.Delete path) some = refl
takes_tree command.End some = refl
takes_tree _ some = absurd some

-- ---- steps that leave the tree and the numbers

module _ (s now : State) (keeps : Keeps s) (kept : Keeps now)
    (nodes : now.store.accounts.nodes ≡ s.store.accounts.nodes) (known : now.store.links.known ≡ s.store.links.known)
  where
    same_nodes : (flat_of now).nodes ≡ (flat_of s).nodes
    same_nodes = cc

    same_numbers : (flat_of now).known ≡ (flat_of s).known
    same_numbers = cc

    pub stands_on : (k : ℕ) (c : Command) → TakesSome (Some c) → refusal_of s k c ≡ None → refusal_of now k c ≡ None
    unfolding refusal_of acl_reply terminate_reply truncate_reply delete_reply
    stands_on k (command.Acl path row m) some h = cc
    stands_on k (command.Terminate n) some h = cc same_numbers
    stands_on k (command.Truncate path words) some h = cc
    stands_on k (command.Delete path) some h = cc
    stands_on k command.End some h = refl
    stands_on k _ some h = absurd some

-- ---- frames and descriptors are taken

take_all_flat : (s : State) (c : ℕ) (a : Aim) (w : What) (fs : List ℕ) → flat_of (take_all s c a w fs) ≡ flat_of s
take_all_flat s c a w [] = refl
take_all_flat s c a w (f ∷ fs) =
    take_all_flat (take_one s c a w f) c a w fs ∙ one_still s.plan s.entries (entry.Take f) refl

cut_all_flat : (s : State) (c : ℕ) (a : Aim) (w : What) (pairs : List (ℕ × ℕ))
    → flat_of (cut_all s c a w pairs) ≡ flat_of s
cut_all_flat s c a w [] = refl
cut_all_flat s c a w (pair ∷ pairs) =
    cut_all_flat (cut_one s c a w pair) c a w pairs ∙ one_still s.plan s.entries (entry.Cut pair.0 pair.1) refl

-- what isn't refused isn't refused once its job took
pub took_stands : (s : State) (c : ℕ) (a : Aim) (w : What) (fs : List ℕ) (pairs : List (ℕ × ℕ)) (k : ℕ) (cmd : Command)
    → refusal_of s k cmd ≡ None → refusal_of (took s c a w fs pairs) k cmd ≡ None
unfolding refusal_of
took_stands s c a w fs pairs k cmd h =
    (λ i. refusal (reply_to_tree_command ((took_like s c a w fs pairs).plan i) ((cut_all_flat
    (take_all s c a w fs) c a w pairs ∙ take_all_flat s c a w fs) i) k cmd)) ∙ h
