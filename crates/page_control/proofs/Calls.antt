-- What the calls that move pages promise, by what their steps leave.
pub use Rattle.page_control.proofs.Prelude.{All-get_or, AreZero, Bool, Bound, ChangesStored, ChangesWords, Core, Err, Frame, Free, HasCreated, HasLeft, HasRead, Here, Home, IfOk, IsMapOf, IsTableOf, IsTied, IsTrue, KeepsCounts, KeepsOthers, KeepsWords, Kept, Leaving, Left, List, None, Null, Ok, OnErr, OnOk, Option, Out, Plain, Ptw, Released, Result, Some, Started, [], ap, arith, binding_at, bindings, bound_page, cases_eq, common_steps, cond, disk_of, dropped, evicted, false, filed, frame_at, frame_in, frame_of, framed, get_or, get_or-replicate, get_or-set_other, get_or-set_same, get_or_past, has_record, inl, inr, is_away, is_filed_at, is_kept, is_modified, is_out, is_some, is_stored, length, length-map, length-replicate, length-set, map_at, next_record, none_put, not_none, number_in, off_and_on, one_less, one_more, plain, ptw_at, reads_of, record_of, refl, replicate, rules, same_number_lists, set, set_past, started_page, sym, taken, taken_after, true, uid_in, uid_of_home, unstored, with_frame, with_page, within_from, word_of_left, words_at, words_filed, words_in, words_on, words_out, ℕ, ◌<◌, ◌↔◌, ◌∙◌, ◌≡◌}
pub use Rattle.page_control.proofs.Counting.{binding_is, bindings_lost, bindings_with, bound_idle, counts_created, counts_dropped, counts_evicted, counts_lost, counts_read, counts_same, filed_in_use, frame_same, leaving_within, map_place, map_read, map_refiled, map_word, page_dropped, record_is, seen_same, starts_with, table_created, table_left, table_lost, table_read, table_word, taken_less, taken_more, stored_away, tied_filed, tied_volume}
use Rattle.page_control.proofs.Naming.{filed_stored, filed_unstored}
use Rattle.page_control.proofs.Touching.{IsPage, Touches, bound_now, moves, others_of, page_none, page_some, refiles, shown_in, shown_out, stored_other, tie_own, words_kept, words_other}

-- where nothing has changed
others_same : {s : Plain} {uid : ℕ} {home : Home} → KeepsOthers s s uid home
others_same = record {
  uids = λ other. refl;
  maps = λ other n. refl;
  tables = λ segment table n t. t;
  ties = λ segment other table n t. t;
}

-- ---- evict

-- what `evict` was called with, and what its steps left
pub record Evicts {E : Type 0} (s now : Plain) (t u : List Ptw) (uid : ℕ) (home : Home) (p f : ℕ)
    (result : Result Left E) : Type 0 where
  pub tie : IsTied s uid home t
  pub leaving : ptw_at t p ≡ Leaving f
  pub left : HasLeft s now t u home p f result

-- what it promises
pub record HasEvicted {E : Type 0} (s now : Plain) (u : List Ptw) (uid : ℕ) (home : Home) (f p : ℕ)
    (result : Result Left E) : Type 0 where
  pub tie : IsTied now uid home u
  pub others : KeepsOthers s now uid home
  pub words : KeepsWords s now uid home
  pub stored : IfOk result (λ left. ChangesStored s now home p (is_kept left))
  pub freed : OnOk result (bindings now.core ≡ set (bindings s.core) f None)
  pub reads : reads_of now.core ≡ reads_of s.core
  pub taken : IfOk result (λ left. taken now.records ≡ taken_after (taken s.records) home.volume left)
  pub counts : KeepsCounts s now

core_freed : (s : Plain) {now : Plain} (home : Home) (p f : ℕ) (left : Left) → now ≡ evicted s home p f left → now.core
    ≡ with_frame s.core f Free
core_freed s home p f Released is = rw is
core_freed s home p f Kept is = rw is

no_frame : (left : Left) (r : ℕ) → frame_of (word_of_left left r) ≡ None
no_frame Released r = refl
no_frame Kept r = refl

-- what the drives hold after a page is saved: its record has its words, and the others are as before
saved_here : (disks now : List (List (List ℕ))) (b : Bool) (v r : ℕ) (words : List ℕ) → now ≡ cond b (with_page disks v
    r words) disks → v < length disks → r < length (get_or disks v []) → (b ≡ false → words ≡ get_or (get_or disks v [])
    r []) → get_or (get_or now v []) r [] ≡ words
saved_here disks now true v r words is vl rl clean = rw is (cc (
  get_or-set_same disks v (set (get_or disks v []) r words) [] vl,
  get_or-set_same (get_or disks v []) r words [] rl,
))
saved_here disks now false v r words is vl rl clean = rw is (sym (clean refl))

saved_others : (disks now : List (List (List ℕ))) (b : Bool) (v r : ℕ) (words : List ℕ) → now
    ≡ cond b (with_page disks v r words) disks → v < length disks
    → (w k : ℕ) → (w ≡ v → k ≡ r → ⊥) → get_or (get_or now w []) k [] ≡ get_or (get_or disks w []) k []
saved_others disks now true v r words is vl w k other = rw is (elim (cases_eq w v) [
  | inl e ↦ (rw e (cc (
    get_or-set_same disks v (set (get_or disks v []) r words) [] vl,
    get_or-set_other (get_or disks v []) r k words [] (other e),
  )))
  | inr n ↦ rw (get_or-set_other disks v w (set (get_or disks v []) r words) [] n)
])
saved_others disks now false v r words is vl w k other = rw is refl

pub zeros_are : {n : ℕ} {words : List ℕ} → AreZero words → length words ≡ n → words ≡ replicate n 0
zeros_are {n = n} {words = words} all long = same_number_lists words (replicate n 0) (long ∙ sym (length-replicate n 0))
    (λ k lt. All-get_or (λ (word : ℕ). word ≡ 0) words k 0 lt all ∙ sym (get_or-replicate n k 0 0 (omega arith)))

-- what its two ways of leaving tell, each by itself
record IsGone (s now : Plain) (u : List Ptw) (uid : ℕ) (home : Home) (f p : ℕ) (left : Left) : Type 0 where
  touches : Touches s now uid home p f Free
  words : words_at now uid home p ≡ words_in s f
  map : IsMapOf (map_at now.vtocs home) u
  never : is_stored now home p ≡ true → AreZero (words_at now uid home p) → ⊥
  stored : is_stored now home p ≡ is_kept left
  taken : taken now.records ≡ taken_after (taken s.records) home.volume left

module _ {E : Type 0} {s now : Plain} {t u : List Ptw} {uid : ℕ} {home : Home} {p f : ℕ} {left : Left}
    (e : Evicts {E = E} s now t u uid home p f (Ok left)) where
  bound_at : binding_at (bindings s.core) f ≡ Some (uid, p)
  bound_at = e.tie.table.back f p (ap frame_of e.leaving)

  its_record : filed s home p ≡ Some (record_of s home p)
  its_record = tied_filed p e.tie (ap has_record e.leaving)

  core_left : now.core ≡ with_frame s.core f Free
  core_left = core_freed s home p f left e.left.effect

  only_there : (g : ℕ) → binding_at (bindings s.core) g ≡ Some (uid, p) → g ≡ f
  only_there g at = frame_same (frame_of (ptw_at t p)) g f (e.tie.table.named g p at) (ap frame_of e.leaving)

  -- no frame has the page any more
  gone_left : (g : ℕ) → binding_at (bindings now.core) g ≡ Some (uid, p) → ⊥
  gone_left g at = elim (bound_now (bindings s.core) f None g (uid, p)
      (rw (core_left, bindings_with s.core f Free) at at)) [
        | inl here ↦ not_none None (uid, p) refl here.1
        | inr there ↦ there.0 (only_there g there.1)
      ]

  evicted_ok : IsGone s now u uid home f p left → HasEvicted {E = E} s now u uid home f p (Ok left)
  evicted_ok gone = record {
    tie = tie_own gone.touches t u e.tie (rw e.left.word (length-set t p (word_of_left left (record_of s home p))))
        (table_left s.core p (word_of_left left (record_of s home p)) e.tie.table e.leaving
        (no_frame left (record_of s home p)) core_left e.left.word) gone.map (λ g off at. absurd (gone_left g at))
        (λ on all. absurd (gone.never on all));
    others = others_of gone.touches;
    words = words_kept gone.touches (cc (shown_in s uid p f home bound_at only_there));
    stored = record { here = gone.stored; others = λ h q n. stored_other gone.touches h q n };
    freed = rw core_left (bindings_with s.core f Free);
    reads = rw core_left (seen_same started_page s.core f Free (sym (bound_idle (frame_in s f) uid p
        (sym (binding_is s.core f) ∙ bound_at))));
    taken = gone.taken;
    counts = counts_evicted home p f left e.left.effect;
  }

module _ {E : Type 0} {s now : Plain} {t u : List Ptw} {uid : ℕ} {home : Home} {p f : ℕ}
    (e : Evicts {E = E} s now t u uid home p f (Ok Released)) where
  filed_left : filed now home p ≡ None
  filed_left = rw (e.left.effect, map_refiled s.vtocs uid p None home e.tie.used) (none_put (map_at s.vtocs home) p)

  gone_released : IsGone s now u uid home f p Released
  unfolding is_filed_at
  gone_released = record {
    touches = rw e.left.effect (refiles None refl (page_some _ uid p (bound_at e)) (page_none None uid p refl) (λ g n.
        refl) refl refl e.tie.used e.tie.records (filed_unstored p home e.tie.records e.tie.used (its_record e)));
    words = cc (shown_out now uid p home (gone_left e), filed_left, zeros_are (e.left.zeros.0 refl) e.left.long);
    map = map_place e.tie.map (rw e.left.effect (map_refiled s.vtocs uid p None home e.tie.used)) e.left.word refl (λ r
        i. cc) (leaving_within t p f e.leaving) (none_put (map_at s.vtocs home) p);
    never = λ on all. off_and_on (is_stored now home p) (ap is_some filed_left) on;
    stored = ap is_some filed_left;
    taken = rw e.left.effect (taken_less s.records home.volume (record_of s home p)
        (filed_in_use s home p e.tie.records (its_record e)));
  }

module _ {E : Type 0} {s now : Plain} {t u : List Ptw} {uid : ℕ} {home : Home} {p f : ℕ}
    (e : Evicts {E = E} s now t u uid home p f (Ok Kept)) where
  disks_left : now.disks ≡ cond (is_modified (frame_in s f)) (with_page s.disks home.volume (record_of s home p)
      (words_in s f)) s.disks
  disks_left = rw e.left.effect

  filed_kept : filed now home p ≡ Some (record_of s home p)
  filed_kept = rw e.left.effect (its_record e)

  words_after : words_at now uid home p ≡ words_in s f
  words_after = cc (
    shown_out now uid p home (gone_left e),
    filed_kept,
    saved_here s.disks now.disks (is_modified (frame_in s f)) home.volume (record_of s home p) (words_in s f) disks_left
        e.tie.volume e.left.within (λ off. e.tie.clean f p off (bound_at e) ∙ ap (words_filed (disk_of s home.volume))
        (its_record e)),
  )

  gone_kept : IsGone s now u uid home f p Kept
  unfolding is_filed_at
  gone_kept = record {
    touches = moves s now uid p f home Free (core_left e) (page_some _ uid p (bound_at e)) (page_none None uid p refl)
        (λ g n. cc) (λ w k other. saved_others s.disks now.disks (is_modified (frame_in s f)) home.volume (record_of s
        home p) (words_in s f) disks_left e.tie.volume w k (λ v r. other v (cc (its_record e)))) (counts_evicted home p
        f Kept e.left.effect).volumes (cc) (cc) e.tie.used e.tie.records;
    words = words_after;
    map = rw e.left.effect (map_word e.tie.map e.left.word
        (cc) (λ r out. (let its = its_record e in cc)) (leaving_within t p f e.leaving));
    never = λ on all. (let none = e.left.zeros.1 (rw words_after at all) in cc);
    stored = ap is_some filed_kept;
    taken = cc;
  }

pub has_evicted : {E : Type 0} {s now : Plain} {t u : List Ptw} {uid : ℕ} {home : Home} {p f : ℕ}
    {result : Result Left E} → Evicts s now t u uid home p f result → HasEvicted s now u uid home f p result
has_evicted {result = Err x} e = rw (e.left.effect, e.left.word) (record {
  tie = e.tie;
  others = others_same;
  words = record { words = λ v h q homes. refl };
  stored = tt;
  freed = tt;
  reads = refl;
  taken = tt;
  counts = counts_same refl;
})
has_evicted {result = Ok Released} e = evicted_ok e (gone_released e)
has_evicted {result = Ok Kept} e = evicted_ok e (gone_kept e)

-- ---- end_in

-- what `end_in` was called with, and what its steps left
pub record Reads {T E : Type 0} (s now : Plain) (t u : List Ptw) (uid : ℕ) (home : Home) (p f : ℕ)
    (result : Result T E) : Type 0 where
  pub tie : IsTied s uid home t
  pub out : is_out (ptw_at t p) ≡ true
  pub started : frame_at s.core f ≡ Started uid p
  pub read : HasRead s now t u uid home p f result

pub out_record : (s : Plain) (uid : ℕ) (home : Home) (t : List Ptw) (p r : ℕ) → IsTied s uid home t → ptw_at t p
    ≡ Out r → record_of s home p ≡ r
out_record s uid home t p r tie word = record_is s home p r (tie.map.out p r word)

-- the word of a page that is out names the record that its file map has
out_word : {s : Plain} {uid : ℕ} {home : Home} {t : List Ptw} (p : ℕ) → IsTied s uid home t → is_out (ptw_at t p)
    ≡ true → ptw_at t p ≡ Out (record_of s home p)
out_word {s = s} {uid = uid} {home = home} {t = t} p tie out = by_word refl out
  where
    by_word : {w : Ptw} → ptw_at t p ≡ w → is_out w ≡ true → ptw_at t p ≡ Out (record_of s home p)
    by_word {w = Null} is on = cc
    by_word {w = (Out r)} is on = cc (out_record s uid home t p r tie is)
    by_word is on = cc

not_started : {frame : Frame} {uid p : ℕ} → frame ≡ Free → frame ≡ Started uid p → ⊥
not_started h i = cc

-- a frame that was bound to no page is bound to one, which no frame was bound to
bound_alone : (old new : List (Option (ℕ × ℕ))) (f : ℕ) (y : ℕ × ℕ) → new ≡ set old f (Some y)
    → ((g : ℕ) → binding_at old g ≡ Some y → ⊥) → (g : ℕ) → binding_at new g ≡ Some y → g ≡ f
bound_alone old new f y is none g at = elim (bound_now old f (Some y) g y (sym (cc) ∙ at)) [
  | inl here ↦ here.0
  | inr there ↦ absurd (none g there.1)
]

bound_there : (old : List (Option (ℕ × ℕ))) {new : List (Option (ℕ × ℕ))} {f : ℕ} {y : ℕ × ℕ}
    → new ≡ set old f (Some y) → f < length old → binding_at new f ≡ Some y
bound_there old {f = f} {y = y} is lt = rw is (get_or-set_same old f (Some y) None lt)

-- what it promises
pub record HasBrought {T E : Type 0} (s now : Plain) (u : List Ptw) (uid : ℕ) (home : Home) (p f : ℕ)
    (result : Result T E) : Type 0 where
  pub tie : IsTied now uid home u
  pub others : KeepsOthers s now uid home
  pub words : KeepsWords s now uid home
  pub bound : OnOk result (bindings now.core ≡ set (bindings s.core) f (Some (uid, p)))
  pub lost : OnErr result (bindings now.core ≡ bindings s.core)
  pub reads : reads_of now.core ≡ set (reads_of s.core) f None
  pub counts : KeepsCounts s now

module _ {T E : Type 0} {s now : Plain} {t u : List Ptw} {uid : ℕ} {home : Home} {p f : ℕ} {result : Result T E}
    (e : Reads s now t u uid home p f result) where
  its_word : ptw_at t p ≡ Out (record_of s home p)
  its_word = out_word p e.tie e.out

  its_frame : f < length s.core.frames
  its_frame = within_from s.core.frames f Free (λ free. not_started free e.started)

  idle_read : binding_at (bindings s.core) f ≡ None
  idle_read = cc (binding_is s.core f)

  none_before : (g : ℕ) → binding_at (bindings s.core) g ≡ Some (uid, p) → ⊥
  none_before g at = not_none (frame_of (ptw_at t p)) g (ap frame_of its_word) (e.tie.table.named g p at)

module _ {T E : Type 0} {s now : Plain} {t u : List Ptw} {uid : ℕ} {home : Home} {p f : ℕ} {x : T}
    (e : Reads {T = T} {E = E} s now t u uid home p f (Ok x)) where
  bound_read : bindings now.core ≡ set (bindings s.core) f (Some (uid, p))
  bound_read = rw e.read.effect (bindings_with s.core f (Bound uid p false false))

  bound_in : binding_at (bindings now.core) f ≡ Some (uid, p)
  bound_in = bound_there (bindings s.core) bound_read (rw (length-map s.core.frames bound_page) (its_frame e))

  alone : (g : ℕ) → binding_at (bindings now.core) g ≡ Some (uid, p) → g ≡ f
  alone = bound_alone (bindings s.core) (bindings now.core) f (uid, p) bound_read (none_before e)

  touches_read : Touches s now uid home p f (Bound uid p false false)
  touches_read = rw e.read.effect (moves s _ uid p f home (Bound uid p false false) refl (page_none _ uid p (idle_read
      e)) (page_some (Some (uid, p)) uid p refl) (λ g n. get_or-set_other s.frames f g (words_on s home.volume
      (record_of s home p)) [] n) (λ w k n. refl) refl refl refl e.tie.used e.tie.records)

  -- the page has the words of its record, in the frame and before
  words_there : words_in now f ≡ words_out s home p
  words_there = rw (
    e.read.effect,
    get_or-set_same s.frames f (words_on s home.volume (record_of s home p)) [] (rw e.read.frames (its_frame e)),
  ) (cc (e.tie.map.out p (record_of s home p) (its_word e)))

  brought : HasBrought {T = T} {E = E} s now u uid home p f (Ok x)
  brought = record {
    tie = tie_own touches_read t u e.tie (rw e.read.word (length-set t p (Here f))) (table_read s.core now.core uid t u
        p f (record_of s home p) e.tie.table e.started (its_word e) (cc) e.read.word) (map_read p f e.tie.map (cc)
        (its_word e) e.read.word) (λ g off at. ap (words_in now) (alone g at) ∙ words_there ∙ sym (ap (λ (y : Plain).
        words_out y home p) e.read.effect)) (λ on all. (f, bound_in));
    others = others_of touches_read;
    words = words_kept touches_read (shown_in now uid p f home bound_in alone ∙ words_there
        ∙ sym (shown_out s uid p home (none_before e)));
    bound = bound_read;
    lost = tt;
    reads = rw e.read.effect (starts_with s.core f (Bound uid p false false));
    counts = counts_read uid p home.volume (record_of s home p) f e.read.effect;
  }

module _ {T E : Type 0} {s now : Plain} {t u : List Ptw} {uid : ℕ} {home : Home} {p f : ℕ} {x : E}
    (e : Reads {T = T} {E = E} s now t u uid home p f (Err x)) where
  lost_read : bindings now.core ≡ bindings s.core
  lost_read = rw e.read.effect (bindings_lost s.core f e.started)

  none_now : (g : ℕ) → binding_at (bindings now.core) g ≡ Some (uid, p) → ⊥
  none_now g at = none_before e g (rw lost_read at at)

  words_lost : words_at now uid home p ≡ words_at s uid home p
  words_lost = cc (shown_out now uid p home none_now, shown_out s uid p home (none_before e))

  touches_lost : Touches s now uid home p f Free
  touches_lost = rw e.read.effect (moves s _ uid p f home Free refl (page_none _ uid p (idle_read e))
      (page_none None uid p refl) (λ g n. refl) (λ w k n. refl) refl refl refl e.tie.used e.tie.records)

  lost : HasBrought {T = T} {E = E} s now u uid home p f (Err x)
  lost = record {
    tie = rw e.read.word (tie_own touches_lost t t e.tie refl (table_lost s.core now.core uid t p f e.tie.table
        e.started (cc)) (rw (ap (λ (y : Plain). map_at y.vtocs home) e.read.effect) e.tie.map) (λ g off at. absurd
        (none_now g at)) (λ on all. absurd (let there = e.tie.zeros p (ap (λ (y : Plain). is_stored y home p) (sym
        e.read.effect) ∙ on) (rw words_lost at all) in none_before e there.0 there.1)));
    others = others_of touches_lost;
    words = words_kept touches_lost words_lost;
    bound = tt;
    lost = lost_read;
    reads = rw e.read.effect (starts_with s.core f Free);
    counts = counts_lost f e.read.effect;
  }

pub has_brought : {T E : Type 0} {s now : Plain} {t u : List Ptw} {uid : ℕ} {home : Home} {p f : ℕ}
    {result : Result T E} → Reads s now t u uid home p f result → HasBrought s now u uid home p f result
has_brought {result = Ok x} e = brought e
has_brought {result = Err x} e = lost e

-- ---- create_page

-- what `create_page` was called with, and what its steps left
pub record Creates {T E : Type 0} (s now : Plain) (t u : List Ptw) (uid : ℕ) (home : Home) (p f at w : ℕ)
    (result : Result T E) : Type 0 where
  pub tie : IsTied s uid home t
  pub page : p < length t
  pub null : ptw_at t p ≡ Null
  pub frame : f < length s.core.frames
  pub free : frame_at s.core f ≡ Free
  pub made : HasCreated s now t u uid home p f at w result

-- what it promises
pub record HasMade {T E : Type 0} (s now : Plain) (u : List Ptw) (uid : ℕ) (home : Home) (p f at w : ℕ)
    (result : Result T E) : Type 0 where
  pub tie : IsTied now uid home u
  pub others : KeepsOthers s now uid home
  pub words : OnOk result (ChangesWords s now uid home p (set (replicate 1024 0) at w))
  pub stored : OnOk result (ChangesStored s now home p true)
  pub bound : OnOk result (bindings now.core ≡ set (bindings s.core) f (Some (uid, p)))
  pub reads : reads_of now.core ≡ reads_of s.core
  pub taken : OnOk result (taken now.records ≡ one_more (taken s.records) home.volume)
  pub counts : KeepsCounts s now

none_at : {place : Option ℕ} → is_some place ≡ false → place ≡ None
none_at {place = None} off = refl
none_at {place = (Some r)} off = cc

module _ {T E : Type 0} {s now : Plain} {t u : List Ptw} {uid : ℕ} {home : Home} {p f at w : ℕ} {x : T}
    (e : Creates {T = T} {E = E} s now t u uid home p f at w (Ok x)) where
  unmade : (g : ℕ) → binding_at (bindings s.core) g ≡ Some (uid, p) → ⊥
  unmade g at = not_none (frame_of (ptw_at t p)) g (ap frame_of e.null) (e.tie.table.named g p at)

  map_made : map_at now.vtocs home ≡ set (map_at s.vtocs home) p (Some (next_record s home))
  map_made = rw e.made.effect (map_refiled s.vtocs uid p (Some (next_record s home)) home e.tie.used)

  -- the file map has room for it
  full : get_or (set (map_at s.vtocs home) p (Some (next_record s home))) p None ≡ Some (next_record s home)
  full = rw map_made at e.made.placed

  bound_created : bindings now.core ≡ set (bindings s.core) f (Some (uid, p))
  bound_created = rw e.made.effect (bindings_with s.core f (Bound uid p true true))

  made_in : binding_at (bindings now.core) f ≡ Some (uid, p)
  made_in = bound_there (bindings s.core) bound_created (rw (length-map s.core.frames bound_page) e.frame)

  made_alone : (g : ℕ) → binding_at (bindings now.core) g ≡ Some (uid, p) → g ≡ f
  made_alone = bound_alone (bindings s.core) (bindings now.core) f (uid, p) bound_created unmade

  touches_created : Touches s now uid home p f (Bound uid p true true)
  touches_created = rw e.made.effect (refiles (Some (next_record s home)) refl (page_none _ uid p (cc (binding_is s.core
      f))) (page_some (Some (uid, p)) uid p refl) (λ g n. get_or-set_other s.frames f g (set (replicate 1024 0) at w) []
      n) refl refl e.tie.used e.tie.records (filed_stored p home e.tie.records e.tie.used (none_at (cc (e.tie.map.stored
      p))) full e.made.free))

  -- it is modified
  marked : (g : ℕ) → is_modified (frame_in now g) ≡ false → binding_at (bindings now.core) g ≡ Some (uid, p) → ⊥
  marked g off at = off_and_on (is_modified (frame_in now f)) (rw (made_alone g at) at off)
      (rw (e.made.effect, get_or-set_same s.core.frames f (Bound uid p true true) Free e.frame))

  made : HasMade {T = T} {E = E} s now u uid home p f at w (Ok x)
  unfolding is_filed_at
  made = record {
    tie = tie_own touches_created t u e.tie (rw e.made.word (length-set t p (Here f))) (table_created s.core now.core
        uid t u p f e.tie.table e.free e.frame e.null e.page (cc) e.made.word) (map_place e.tie.map map_made e.made.word
        refl (λ q i. cc) e.page full) (λ g off at. absurd (marked g off at)) (λ on all. (f, made_in));
    others = others_of touches_created;
    words = record {
      here = shown_in now uid p f home made_in made_alone ∙ rw
          (e.made.effect, get_or-set_same s.frames f (set (replicate 1024 0) at w) [] (rw e.made.frames e.frame)) refl;
      others = λ v h q homes other. words_other touches_created v h q homes.used other;
    };
    stored = record { here = ap is_some e.made.placed; others = λ h q n. stored_other touches_created h q n };
    bound = bound_created;
    reads = rw e.made.effect (seen_same started_page s.core f (Bound uid p true true) (cc));
    taken = rw e.made.effect (taken_more s.records home.volume e.made.free.within e.made.free.free);
    counts = counts_created uid p home (next_record s home) f at w e.made.effect;
  }

pub has_made : {T E : Type 0} {s now : Plain} {t u : List Ptw} {uid : ℕ} {home : Home} {p f at w : ℕ}
    {result : Result T E} → Creates s now t u uid home p f at w result → HasMade s now u uid home p f at w result
has_made {result = Err x} e = rw (e.made.effect, e.made.word) (record {
  tie = e.tie;
  others = others_same;
  words = tt;
  stored = tt;
  bound = tt;
  reads = refl;
  taken = tt;
  counts = counts_same refl;
})
has_made {result = Ok x} e = made e

-- ---- drop_page

-- what `drop_page` was called with, and what its steps left
pub record Drops (s now : Plain) (t u : List Ptw) (uid : ℕ) (home : Home) (p : ℕ) : Type 0 where
  pub tie : IsTied s uid home t
  pub page : p < length t
  pub away : is_away (ptw_at t p) ≡ true
  pub effect : now ≡ dropped s home p (ptw_at t p)
  pub word : u ≡ set t p Null

-- the frame that the page leaves, or none: one past the end
abbrev left_frame : Plain → Ptw → ℕ
left_frame s (Leaving f) = f
left_frame s _ = length s.core.frames

core_same : (core : Core) → core ≡ with_frame core (length core.frames) Free
core_same core = ap (λ (frames : List Frame). record core { frames = frames })
    (sym (set_past core.frames (length core.frames) Free (omega arith)))

dropped_is : (s : Plain) (home : Home) (p : ℕ) (w : Ptw)
    → dropped s home p w ≡ framed (unstored s home p) (left_frame s w) Free
dropped_is s home p (Leaving f) = refl
dropped_is s home p _ = cc (core_same s.core)

was_dropped : (s : Plain) {uid p : ℕ} {t : List Ptw} {w : Ptw} → IsTableOf (bindings s.core) uid t → ptw_at t p ≡ w
    → IsPage (binding_at (bindings s.core) (left_frame s w)) uid p
was_dropped s {uid = uid} {p = p} {w = (Leaving f)} table at = page_some _ uid p (table.back f p (ap frame_of at))
was_dropped s {uid = uid} {p = p} table at = page_none _ uid p (cc (
  binding_is s.core (length s.core.frames),
  get_or_past s.core.frames (length s.core.frames) Free (omega arith),
))

idle_dropped : (s : Plain) {uid : ℕ} (p : ℕ) {t : List Ptw} {w : Ptw}
    → IsTableOf (bindings s.core) uid t → ptw_at t p ≡ w → started_page (frame_in s (left_frame s w)) ≡ None
idle_dropped s {uid = uid} p {w = (Leaving f)} table at =
    bound_idle (frame_in s f) uid p (sym (binding_is s.core f) ∙ table.back f p (ap frame_of at))
idle_dropped s p table at =
    ap started_page (get_or_past s.core.frames (length s.core.frames) Free (omega arith))

left_is : (s : Plain) (w : Ptw) (g : ℕ) → is_away w ≡ true → frame_of w ≡ Some g → g ≡ left_frame s w
left_is s (Leaving f) g away e = cc
left_is s _ g away e = cc

table_dropped : (s : Plain) {uid p : ℕ} {w : Ptw} {t u : List Ptw} → ptw_at t p ≡ w → is_away w ≡ true
    → IsTableOf (bindings s.core) uid t → p < length t → u ≡ set t p Null
    → IsTableOf (bindings (with_frame s.core (left_frame s w) Free)) uid u
table_dropped s {uid = uid} {p = p} {w = (Leaving f)} {t = t} {u = u} word away table pl ws =
    table_left s.core p Null table word refl refl ws
table_dropped s {p = p} {w = (Out r)} {u = u} word away table pl ws =
    rw (set_past s.core.frames (length s.core.frames) Free (omega arith)) (table_word u p Null table ws (cc) pl)
table_dropped s word away table pl ws = cc

module _ {s now : Plain} {t u : List Ptw} {uid : ℕ} {home : Home} {p : ℕ} (e : Drops s now t u uid home p) where
  effect_is : now ≡ framed (unstored s home p) (left_frame s (ptw_at t p)) Free
  effect_is = e.effect ∙ dropped_is s home p (ptw_at t p)

  filed_away : filed s home p ≡ Some (record_of s home p)
  filed_away = tied_filed p e.tie (stored_away (ptw_at t p) e.away)

  map_dropped : map_at now.vtocs home ≡ set (map_at s.vtocs home) p None
  map_dropped = rw effect_is (map_refiled s.vtocs uid p None home e.tie.used)

  filed_dropped : filed now home p ≡ None
  filed_dropped = rw map_dropped (none_put (map_at s.vtocs home) p)

  touches_dropped : Touches s now uid home p (left_frame s (ptw_at t p)) Free
  touches_dropped = rw effect_is (refiles None refl (was_dropped s e.tie.table refl) (page_none None uid p refl) (λ g n.
      refl) refl refl e.tie.used e.tie.records (filed_unstored p home e.tie.records e.tie.used filed_away))

  -- no frame has the page any more
  gone_dropped : (g : ℕ) → binding_at (bindings now.core) g ≡ Some (uid, p) → ⊥
  gone_dropped g at = elim (bound_now (bindings s.core) (left_frame s (ptw_at t p)) None g (uid, p)
      (rw (effect_is, bindings_with s.core (left_frame s (ptw_at t p)) Free) at at)) [
        | inl here ↦ not_none None (uid, p) refl here.1
        | inr there ↦ there.0 (left_is s (ptw_at t p) g e.away (e.tie.table.named g p there.1))
      ]

  pub words_dropped : ChangesWords s now uid home p (replicate 1024 0)
  words_dropped = record {
    here = cc (shown_out now uid p home gone_dropped, filed_dropped);
    others = λ v h q homes other. words_other touches_dropped v h q homes.used other;
  }

  pub stored_dropped : ChangesStored s now home p false
  unfolding is_filed_at
  stored_dropped = record { here = ap is_some filed_dropped; others = λ h q n. stored_other touches_dropped h q n }

  pub tie_dropped : IsTied now uid home u
  tie_dropped = tie_own touches_dropped t u e.tie (rw e.word (length-set t p Null)) (rw effect_is (table_dropped s refl
      e.away e.tie.table e.page e.word)) (map_place e.tie.map map_dropped e.word refl (λ r i. cc) e.page (none_put
      (map_at s.vtocs home) p)) (λ g off at. absurd (gone_dropped g at)) (λ on all. absurd (off_and_on (is_stored now
      home p) stored_dropped.here on))

  pub others_of_dropped : KeepsOthers s now uid home
  others_of_dropped = others_of touches_dropped

  pub taken_dropped : taken now.records ≡ one_less (taken s.records) home.volume
  taken_dropped = rw effect_is (taken_less s.records home.volume (record_of s home p)
      (filed_in_use s home p e.tie.records filed_away))

  pub counts_of_dropped : KeepsCounts s now
  counts_of_dropped = counts_dropped home p (ptw_at t p) e.effect

  pub starts_dropped : reads_of now.core ≡ reads_of s.core
  starts_dropped = rw effect_is (seen_same started_page s.core (left_frame s (ptw_at t p)) Free
      (sym (idle_dropped s p e.tie.table refl)))

-- what the frame's page tells of the words that it is seen as
pub not_zero : {b : Bool} (words : List ℕ) → (IsTrue b) ↔ (AreZero words) → b ≡ false → AreZero words → ⊥
not_zero {b = b} words zero off all = (let on : b ≡ true = zero.1 all in cc)
