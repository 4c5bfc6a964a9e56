-- In the outline of the machine, what the owner of the supervisor does is a step of its job in the outline.
use Rattle.machine_model.proofs.Prelude.{◌≡◌, ◌≢◌, ◌<◌, ℕ, zero, suc, Bool, true, false, List, [], ◌∷◌, length, map, Option, Some, None, set, get_or, refl, sym, arith, get_or-set_same, get_or-set_other, Reference, Active, Links, place_of, sdws_at, Processor, State, Owner, node_in, no_processor, superior_of_node, mode_in, length_in, processor_at, descriptor_of, is_connected, with_link_of, activated_at, connected_to, Refer, Look, Outline, runner_at, want_at, with_entry, IsIn, JobStep, activates, connects, CanActivate, with_link, Around, around, reference_in, is_linked, want_of, runner_by, runner_of, stage_of, keeper_of, outline_of, IsPlaced, HasDescriptor, Sdw as sdw, Phase as phase, ap, ◌∙◌, Frame, Left, words_in, Transfer, AccountMaps, Phase, What, CutDescriptor, Storage, next_command, cut_of_owner, looking, started, with_owner, accounts_left, emptied, eviction_done, left_of, page_done, page_gone, page_in, seg_gone, segs_gone, with_left, without_first_frame, EmptyPlace, Waiting, with_frame, at_stage, dues, lack, frees_frame, frees_page, empties, empties_at_once, gives_up, starts, CanEmpty, CanStart, with_stored, without_owner, now_reading, bare, full_then, stored_then, Frame as frame, Left as left, Aim as aim, FinishingMayRelease as MayRelease}
use Rattle.machine_model.proofs.OutlineReads.{at_outline, set_map}
use Rattle.machine_model.proofs.JobLaws.{alike_self}

-- a step of a job to an outline that is the same
pub job_to : {s t : Outline} (u : Outline) {c : ℕ} → t ≡ u → JobStep s c t → JobStep s c u
job_to u same step = rw (← same) step

-- ---- the owner

pub in_job : (s : State) (o : Owner) → s.owner ≡ Some o
    → IsIn (outline_of s) o.cpu (stage_of s.store.ast.entries o.frames o.phase)
unfolding outline_of
in_job s o h = cc

look_of_keeper : (entries : List (Option Active)) (o : Owner) → o.phase ≡ phase.Looking
    → keeper_of entries (Some o) ≡ Some (record { cpu = o.cpu; stage = Look })
look_of_keeper entries o looks = cc

pub in_look : (s : State) {o : Owner} → s.owner ≡ Some o → o.phase ≡ phase.Looking → IsIn (outline_of s) o.cpu Look
unfolding outline_of
in_look s {o} h looks = cc (look_of_keeper s.store.ast.entries o looks)

-- an owner that looks is the same whatever is active
keep_look : (es fs : List (Option Active)) {x : Option Owner} {o : Owner} → x ≡ Some o → o.phase ≡ phase.Looking
    → keeper_of es x ≡ keeper_of fs x
keep_look es fs {x} {o} h looks = cc (look_of_keeper es o looks, look_of_keeper fs o looks)

-- ---- a look that brings a segment nearer

abbrev superior_in : State → ℕ → Option ℕ
superior_in s uid = superior_of_node (node_in s.store.accounts.nodes uid)

pub activate_outlined : (s : State) {o : Owner} {uid place : ℕ} → s.owner ≡ Some o → o.phase ≡ phase.Looking
    → CanActivate (outline_of s) o.cpu place uid → JobStep (outline_of s) o.cpu (outline_of (activated_at s uid place))
unfolding outline_of
activate_outlined s {o} {uid} {place} owner looks can = job_to (outline_of (activated_at s uid place))
    (rw (keep_look s.store.ast.entries (activated_at s uid place).store.ast.entries owner looks))
    (activates place uid (superior_in s uid) can)

-- a list in which one element is seen otherwise
map_like : {A B : Type 0} (f g : A → B) (xs : List A) (d : A) → ((i : ℕ) → g (get_or xs i d) ≡ f (get_or xs i d))
    → map g xs ≡ map f xs
map_like f g [] d same = refl
map_like {B = B} f g (x ∷ xs) d same = cc (same zero, map_like f g xs d (λ i. same (suc i)))

pub map_change : {A B : Type 0} (f g : A → B) (xs : List A) (c : ℕ) (y : B) (d : A) → c < length xs
    → g (get_or xs c d) ≡ y → ((i : ℕ) → i ≢ c → g (get_or xs i d) ≡ f (get_or xs i d)) → map g xs ≡ set (map f xs) c y
map_change f g [] c y d lt here other = absurd (omega arith)
map_change {B = B} f g (x ∷ xs) zero y d lt here other =
    cc (map_like f g xs d (λ i. other (suc i) (λ e. absurd (omega arith))))
map_change {B = B} f g (x ∷ xs) (suc c) y d lt here other = cc (
  other zero (λ e. absurd (omega arith)),
  map_change f g xs c y d (omega arith) here (λ i n. other (suc i) (λ e. n (omega arith))),
)

-- ---- a look that connects

abbrev linked_around : Around → Links → Around
linked_around a links = record a { links = links }

-- the runner of a process whose next command's descriptor is connected now
linked_runner : (a : Around) (links : Links) (p : Processor) {k : ℕ} {r : Reference} → p.cpu.process ≡ Some k
    → reference_in (a.next k) ≡ Some r → links.known ≡ a.links.known
    → is_connected (descriptor_of links k r.number) ≡ true
    → runner_of (linked_around a links) p ≡ record (runner_of a p) { linked = true }
linked_runner a links p {k} process next known now =
    rw process (λ i. record (runner_by a p (Some k)) { want = want_same i; linked = linked_now i })
  where
    want_same : want_of (linked_around a links) k (a.next k) ≡ want_of a k (a.next k)
    want_same = rw (known)

    linked_now : is_linked (linked_around a links) k (reference_in (a.next k)) ≡ true
    linked_now = cc

-- the runner of a processor whose process has the same descriptors as before
other_runner : (a : Around) (links : Links) (p : Processor) → links.known ≡ a.links.known
    → ((k : ℕ) → p.cpu.process ≡ Some k → sdws_at links.descriptors k ≡ sdws_at a.links.descriptors k)
    → runner_of (linked_around a links) p ≡ runner_of a p
other_runner a links p known same = by p.cpu.process same
  where
    by : (o : Option ℕ) → ((k : ℕ) → o ≡ Some k → sdws_at links.descriptors k ≡ sdws_at a.links.descriptors k)
        → runner_by (linked_around a links) p o ≡ runner_by a p o
    by None h = refl
    by (Some k) h = λ i. record (runner_by a p (Some k)) {
      want = want_of (record a { links = record links { known = known i } }) k (a.next k);
      linked = linked_same (reference_in (a.next k)) (h k refl) i;
    }
      where
        linked_same : (r : Option Reference) → sdws_at links.descriptors k ≡ sdws_at a.links.descriptors k
            → is_linked (linked_around a links) k r ≡ is_linked a k r
        linked_same None e = refl
        linked_same (Some r) e = cc

now_connected : (s : State) {k n : ℕ} (uid : ℕ) → HasDescriptor s.store.links k n
    → is_connected (descriptor_of (with_link_of s.store k n uid).links k n) ≡ true
now_connected s {k} {n} uid there = cc (
  get_or-set_same s.store.links.descriptors k (set (sdws_at s.store.links.descriptors k) n
      (sdw.Present (place_of s.store.ast.entries uid) (mode_in s.store k uid) (length_in s.store uid))) []
      there.process,
  get_or-set_same (sdws_at s.store.links.descriptors k) n (sdw.Present (place_of s.store.ast.entries uid)
      (mode_in s.store k uid) (length_in s.store uid)) sdw.Fault there.number,
)

connected_outline : (s : State) {c k n : ℕ} (uid : ℕ) {r : Reference} → c < length s.processors
    → IsPlaced s.processors c k → reference_in ((around s).next k) ≡ Some r → r.number ≡ n
    → HasDescriptor s.store.links k n → outline_of (connected_to s c n uid) ≡ with_link (outline_of s) c
unfolding outline_of
connected_outline s {c} {k} {n} uid {r} lt placed next number there =
    cc (map_change (runner_of (around s)) (runner_of (linked_around (around s) (with_link_of s.store k n uid).links))
    s.processors c (record (runner_at (outline_of s).runners c) { linked = true }) no_processor lt (cc (
      linked_runner (around s) (with_link_of s.store k n uid).links (processor_at s.processors c) placed.here
          next refl (rw number (now_connected s uid there)),
      at_outline s c,
    )) (λ d apart. other_runner (around s) (with_link_of s.store k n uid).links
    (processor_at s.processors d) refl (λ j h. get_or-set_other s.store.links.descriptors k j
    (set (sdws_at s.store.links.descriptors k) n (sdw.Present (place_of s.store.ast.entries uid)
    (mode_in s.store k uid) (length_in s.store uid))) [] (λ e. placed.only d apart (cc)))))

pub connect_outlined : (s : State) {o : Owner} {k : ℕ} (uid : ℕ) {r : Reference} (chain : List ℕ) (u page : ℕ)
    (makes : Bool) → s.owner ≡ Some o → o.phase ≡ phase.Looking → o.cpu < length s.processors
    → IsPlaced s.processors o.cpu k → reference_in ((around s).next k) ≡ Some r → HasDescriptor s.store.links k r.number
    → want_at (outline_of s) o.cpu ≡ Refer chain u page makes → (runner_at (outline_of s).runners o.cpu).linked ≡ false
    → JobStep (outline_of s) o.cpu (outline_of (connected_to s o.cpu r.number uid))
connect_outlined s {o} {k} uid {r} chain u page makes owner looks lt placed next there want off =
    job_to (outline_of (connected_to s o.cpu r.number uid))
    (sym (connected_outline s uid lt placed next refl there))
    (connects chain u page makes (in_look s owner looks) want off)

-- ---- In the outline of the machine, what ends a phase of a job is a step of it: pages leave their frames, a segment
-- becomes inactive, a transfer begins, and the supervisor is given up.

-- ---- a page leaves its frame

left_frames : (st : Storage) (f : ℕ) (how : Left) (page : ℕ × ℕ)
    → (with_left st f how page).pages.core.frames ≡ set st.pages.core.frames f frame.Free
left_frames st f left.Released page = refl
left_frames st f left.Kept page = refl

pub left_nodes : (a : AccountMaps) (uid : ℕ) (how : Left) → (accounts_left a uid how).nodes ≡ a.nodes
left_nodes a uid left.Released = refl
left_nodes a uid left.Kept = refl

-- the outline once a page has left its frame, and the owner is this
gone_outline : (s : State) (f : ℕ) (k : Option Owner) → outline_of (with_owner (page_gone s f) k)
    ≡ record (with_stored (with_frame (outline_of s) f frame.Free) (stored_then s f) (full_then s f))
    { owner = keeper_of s.store.ast.entries k }
unfolding outline_of
gone_outline s f k = λ i. record {
  runners = map (runner_of (record {
    nodes = left_nodes s.store.accounts (page_in s.store f).0 (left_of (words_in s.store.pages f)) i;
    whos = s.store.whos;
    links = s.store.links;
    next = next_command s;
  })) s.processors;
  frames = (ap (λ (fs : List Frame). map bare fs) (left_frames s.store f (left_of (words_in s.store.pages f))
      (page_in s.store f)) ∙ set_map bare s.store.pages.core.frames f frame.Free) i;
  entries = s.store.ast.entries;
  stored = stored_then s f;
  full = full_then s f;
  owner = keeper_of s.store.ast.entries k;
  ready = length s.ready;
  left = (outline_of s).left;
}

pub in_stage : (s : State) {o : Owner} {ph : Phase} → s.owner ≡ Some o → o.phase ≡ ph
    → IsIn (outline_of s) o.cpu (stage_of s.store.ast.entries o.frames ph)
in_stage s {o} owner h = cc (in_job s o owner)

pub eviction_outlined : (s : State) {o : Owner} (w : What) {f : ℕ} (rest : List ℕ) → s.owner ≡ Some o
    → o.phase ≡ phase.Waiting aim.Evicting w → o.frames ≡ f ∷ rest → dues (outline_of s).runners ≡ 0
    → MayRelease (outline_of s) f (stored_then s f) (full_then s f)
    → JobStep (outline_of s) o.cpu (outline_of (eviction_done s o.cpu f))
eviction_outlined s {o} w {f} rest owner h frames due may =
    job_to (outline_of (eviction_done s o.cpu f)) (sym (gone_outline s f (Some (looking o.cpu))))
    (frees_frame f (stored_then s f) (full_then s f) (cc (in_stage s owner h)) due may)

rest_keeper : (entries : List (Option Active)) (o : Owner) (uid : ℕ) (w : What) (f : ℕ) (rest : List ℕ)
    → o.phase ≡ phase.Waiting (aim.Deactivating uid) w → o.frames ≡ f ∷ rest
    → keeper_of entries (without_first_frame (Some o)) ≡ Some
    (record { cpu = o.cpu; stage = Waiting (EmptyPlace (place_of entries uid) rest) })
rest_keeper entries o uid w f rest h frames = ap (λ (x : Owner). keeper_of entries (without_first_frame (Some x)))
    (λ i. record { cpu = o.cpu; phase = h i; frames = frames i; cut = o.cut })

pub page_outlined : (s : State) {o : Owner} (uid : ℕ) (w : What) {f : ℕ} (rest : List ℕ) → s.owner ≡ Some o
    → o.phase ≡ phase.Waiting (aim.Deactivating uid) w → o.frames ≡ f ∷ rest → dues (outline_of s).runners ≡ 0
    → MayRelease (outline_of s) f (stored_then s f) (full_then s f)
    → JobStep (outline_of s) o.cpu (outline_of (page_done s f))
page_outlined s {o} uid w {f} rest owner h frames due may = job_to (outline_of (page_done s f)) (cc (
  rest_keeper s.store.ast.entries o uid w f rest h frames,
  (gone_outline s f (without_first_frame s.owner)),
)) (frees_page (place_of s.store.ast.entries uid) f rest (stored_then s f) (full_then s f)
    (cc (in_stage s owner h)) due may)

-- ---- a segment becomes inactive

-- descriptors that are gone change nothing but the book and the owner
segs_rest : (s : State) (ds : List CutDescriptor) → segs_gone s ds ≡ record s {
  owner = (segs_gone s ds).owner;
  entries = (segs_gone s ds).entries;
  spare = (segs_gone s ds).spare;
}
segs_rest s [] = refl
segs_rest s (d ∷ ds) = segs_rest (seg_gone s d) ds

emptied_outline : (s : State) (c uid : ℕ) → outline_of (emptied s c uid)
    ≡ at_stage (with_entry (outline_of s) (place_of s.store.ast.entries uid) None) c Look
unfolding outline_of
emptied_outline s c uid = rw (segs_rest s (cut_of_owner s.owner))

pub deactivate_outlined : (s : State) {o : Owner} (uid : ℕ) (w : What) → s.owner ≡ Some o
    → o.phase ≡ phase.Waiting (aim.Deactivating uid) w → o.frames ≡ [] → dues (outline_of s).runners ≡ 0
    → JobStep (outline_of s) o.cpu (outline_of (emptied s o.cpu uid))
deactivate_outlined s {o} uid w owner h frames due =
    job_to (outline_of (emptied s o.cpu uid)) (sym (emptied_outline s o.cpu uid))
    (empties (place_of s.store.ast.entries uid) (outline_of s).runners
    (cc (in_stage s owner h)) due (alike_self (outline_of s).runners o.cpu)
    due)

-- where nothing had to be taken
pub deactivate_at_once_outlined : (s : State) {o : Owner} (uid : ℕ) → s.owner ≡ Some o → o.phase ≡ phase.Looking
    → CanEmpty (outline_of s) o.cpu (place_of s.store.ast.entries uid)
    → JobStep (outline_of s) o.cpu (outline_of (emptied s o.cpu uid))
deactivate_at_once_outlined s {o} uid owner looks can = job_to (outline_of (emptied s o.cpu uid))
    (cc (in_look s owner looks, emptied_outline s o.cpu uid)) (empties_at_once (place_of s.store.ast.entries uid) can)

-- ---- the supervisor is given up

gave_up_outline : (s : State) → outline_of (with_owner s None) ≡ without_owner (outline_of s)
unfolding outline_of
gave_up_outline s = refl

pub give_up_outlined : (s : State) {o : Owner} (chain : List ℕ) (uid page : ℕ) (makes : Bool) → s.owner ≡ Some o
    → o.phase ≡ phase.Looking → want_at (outline_of s) o.cpu ≡ Refer chain uid page makes
    → lack (outline_of s) (runner_at (outline_of s).runners o.cpu) ≡ 0
    → JobStep (outline_of s) o.cpu (outline_of (with_owner s None))
give_up_outlined s {o} chain uid page makes owner looks want fits = job_to (outline_of (with_owner s None))
    (sym (gave_up_outline s)) (gives_up chain uid page makes (in_look s owner looks) want fits)

-- ---- a transfer begins

abbrev reading_processor : Processor → Transfer → Processor
reading_processor p t = record p { cpu = record p.cpu { transfer = Some t } }

reading_runner : (a : Around) (p : Processor) (t : Transfer)
    → runner_of a (reading_processor p t) ≡ record (runner_of a p) { reading = Some t }
reading_runner a p t = by p.cpu.process
  where
    by : (o : Option ℕ) → runner_by a (reading_processor p t) o ≡ record (runner_by a p o) { reading = Some t }
    by None = refl
    by (Some k) = refl

started_outline : (s : State) (c f uid page : ℕ)
    → without_owner (now_reading (outline_of s) c f uid page) ≡ outline_of (started s c f uid page)
unfolding outline_of
started_outline s c f uid page = cc (
  set_map bare s.store.pages.core.frames f (frame.Started uid page),
  set_map (runner_of (around s)) s.processors c
      (reading_processor (processor_at s.processors c) (record { frame = f; uid = uid; page = page })),
  reading_runner (around s) (processor_at s.processors c) (record { frame = f; uid = uid; page = page }),
  at_outline s c,
)

pub start_outlined : (s : State) {c f uid page : ℕ} → CanStart (outline_of s) c f uid page
    → JobStep (outline_of s) c (outline_of (started s c f uid page))
start_outlined s {c} {f} {uid} {page} can = job_to
    (outline_of (started s c f uid page)) (started_outline s c f uid page) (starts f uid page can)
