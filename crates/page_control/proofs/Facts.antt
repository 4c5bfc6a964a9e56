pub use Rattle.page_control.proofs.Prelude.{All, All-get_or, AreFiled, Bool, Bound, Core, Entry, Frame, Free, Here, Home, IsLeastFree, IsMapOf, IsSome, IsTableOf, IsTied, Leaving, List, None, Null, Option, Out, Paging, Plain, Ptw, Some, Started, [], after_reference, ap, arith, binding_at, bindings, bound_page, cases_eq, common_steps, entry_at, entry_of, false, file_map_of, filed, flag_within, flags_of, frame_at, frame_of, get_or, get_or-map, get_or-set_other, get_or-set_same, get_or_past, has_record, in_use, inl, inr, is_bound, is_some, leb_tells, length, length-map, map, map-set, map-set_same, map_at, map_some, not_none, number_in, number_or_zero, plain, ptw_at, put, put_here, put_other, reads_of, record_of, records_in, refl, replicate, set, set-set, set_past, some_unwrapped, started_page, sym, take, true, uid_at, uid_in, uid_of, vtoc_in, with_frame, with_record, within_from, ℕ, ◌++◌, ◌<◌, ◌∙◌, ◌∷◌, ◌≡◌, ◌≢◌, ◌⊎◌, is_away}

pub home_used : (s : Plain) (uid : ℕ) (home : Home) → uid_at s.vtocs home ≡ Some uid → IsSome (entry_of s home)
home_used s uid home h = map_some (λ (e : Entry). e.uid) (entry_of s home) uid h

pub here_within : (table : List Ptw) (p f : ℕ) → ptw_at table p ≡ Here f → p < length table
here_within table p f h = within_from table p Null (λ e. cc)

pub leaving_within : (table : List Ptw) (p f : ℕ) → ptw_at table p ≡ Leaving f → p < length table
leaving_within table p f h = within_from table p Null (λ e. cc)

pub out_within : (table : List Ptw) (p r : ℕ) → ptw_at table p ≡ Out r → p < length table
out_within table p r h = within_from table p Null (λ e. cc)

-- a page whose word isn't `Null` is on a record
pub filed_from_word : (s : Plain) (home : Home) (table : List Ptw) (p : ℕ) → IsMapOf (file_map_of s home) table
    → has_record (ptw_at table p) ≡ true → filed s home p ≡ Some (record_of s home p)
filed_from_word s home table p h word = some_unwrapped (filed s home p) (h.stored p ∙ word)

-- which is in use
pub filed_in_use : (s : Plain) (home : Home) (p : ℕ) {r : ℕ} → AreFiled s.records s.vtocs → filed s home p ≡ Some r
    → in_use (flags_of s home.volume) r ≡ true
filed_in_use s home p {r = r} h is = h.used home.volume home.entry p r is

-- where all records are in use, none is free
pub none_free : {flags : List Bool} {r : ℕ} → All (λ flag. flag ≡ true) flags → IsLeastFree flags r → ⊥
none_free {flags = flags} {r = r} all least = cc
    (All-get_or (λ (flag : Bool). flag ≡ true) flags r false least.within all, least.free)

-- a page that is cleared from its start
pub all_cleared : (words : List ℕ) → take 0 words ++ replicate 1024 0 ≡ replicate 1024 0
all_cleared [] = refl
all_cleared (w ∷ words) = refl

-- what one frame is bound to
pub binding_is : (core : Core) (f : ℕ) → binding_at (bindings core) f ≡ bound_page (frame_at core f)
binding_is core f = get_or-map bound_page core.frames f Free

-- a frame that is bound to a page is bound
pub bound_from_page : (frame : Frame) (uid p : ℕ) → bound_page frame ≡ Some (uid, p) → is_bound frame ≡ true
bound_from_page (Bound u q used modified) uid p h = refl
bound_from_page _ uid p h = cc

-- and so is the frame that a word names
pub leaving_bound : (core : Core) {uid : ℕ} {table : List Ptw} (p : ℕ) {f : ℕ} → IsTableOf (bindings core) uid table
    → ptw_at table p ≡ Leaving f → is_bound (frame_at core f) ≡ true
leaving_bound core {uid = uid} p {f = f} h word =
    bound_from_page (frame_at core f) uid p (sym (binding_is core f) ∙ h.back f p (ap frame_of word))

-- a bound frame is within the core
pub bound_inside : (core : Core) (f : ℕ) → is_bound (frame_at core f) ≡ true → f < length core.frames
bound_inside core f bound = within_from core.frames f Free (λ free. bound_not_free free bound)
  where
    bound_not_free : {frame : Frame} → frame ≡ Free → is_bound frame ≡ true → ⊥
    bound_not_free {frame = frame} free bound = let off : is_bound frame ≡ false = ap is_bound free in cc

-- what a change of one frame does to the bindings
pub bindings_with : (core : Core) (f : ℕ) (frame : Frame) → bindings (with_frame core f frame)
    ≡ set (bindings core) f (bound_page frame)
bindings_with core f frame = map-set bound_page core.frames f frame

-- what is seen of each frame, where one is replaced that is seen as the same
pub seen_same : {X : Type 0} (see : Frame → X) (core : Core) (f : ℕ) (frame : Frame) → see frame ≡ see (frame_at core f)
    → map see (with_frame core f frame).frames ≡ map see core.frames
seen_same see core f frame same = map-set_same see core.frames f frame Free same

-- a reference through a frame leaves it bound to the same page, or to none
pub page_referred : (frame : Frame) (wrote : Bool) → bound_page (after_reference frame wrote) ≡ bound_page frame
page_referred Free wrote = refl
page_referred _ wrote = refl

pub bindings_referred : (core : Core) (f : ℕ) (wrote : Bool)
    → bindings (with_frame core f (after_reference (frame_at core f) wrote)) ≡ bindings core
bindings_referred core f wrote = seen_same bound_page core f _ (page_referred (frame_at core f) wrote)

pub bindings_started : (core : Core) (f uid p : ℕ) → frame_at core f ≡ Free
    → bindings (with_frame core f (Started uid p)) ≡ bindings core
bindings_started core f uid p free = seen_same bound_page core f (Started uid p) (cc)

pub bindings_lost : (core : Core) (f : ℕ) {uid p : ℕ}
    → frame_at core f ≡ Started uid p → bindings (with_frame core f Free) ≡ bindings core
bindings_lost core f started = seen_same bound_page core f Free (cc)

-- the page that a bound frame has
pub bound_to : (frame : Frame) → is_bound frame ≡ true → bound_page frame ≡ Some (uid_in frame, number_in frame)
bound_to (Bound u q used modified) h = refl
bound_to _ h = cc

-- a frame that is bound and then written through
pub bound_and_marked : (core : Core) {f : ℕ} (uid p : ℕ) → f < length core.frames → with_frame (with_frame core f (Bound
    uid p false false)) f (after_reference (frame_at (with_frame core f (Bound uid p false false)) f) true) ≡ with_frame
    core f (Bound uid p true true)
bound_and_marked core {f = f} uid p lt =
    let read : get_or (set core.frames f (Bound uid p false false)) f Free ≡ Bound uid p false false =
    get_or-set_same core.frames f (Bound uid p false false) Free lt in
    cc (set-set core.frames f (Bound uid p false false) (Bound uid p true true))

-- for which pages frames are started
pub starts_with : (core : Core) (f : ℕ) (frame : Frame) → reads_of (with_frame core f frame)
    ≡ set (reads_of core) f (started_page frame)
starts_with core f frame = map-set started_page core.frames f frame

-- a bound frame is started for none
pub bound_idle : (frame : Frame) (uid p : ℕ) → bound_page frame ≡ Some (uid, p) → started_page frame ≡ None
bound_idle (Started u q) uid p h = cc
bound_idle _ uid p h = refl

-- the record that a file map names
pub record_is : (s : Plain) (home : Home) (p r : ℕ) → filed s home p ≡ Some r → record_of s home p ≡ r
record_is s home p r is = ap number_or_zero is

-- what the tie of a segment gives
pub tied_entry : {s : Plain} {uid : ℕ} {home : Home} {words : List Ptw} → IsTied s uid home words
    → IsSome (entry_of s home)
tied_entry {s = s} {uid = uid} {home = home} tie = home_used s uid home tie.used

pub tied_volume : {D : Type 0} (pages : D → List (List ℕ)) (s : Paging D) {uid : ℕ} {home : Home} {words : List Ptw}
    → IsTied (plain pages s) uid home words → home.volume < length s.volumes.drives
tied_volume pages s tie = (omega (arith, length-map s.volumes.drives pages))

pub tied_filed : {s : Plain} {uid : ℕ} {home : Home} {words : List Ptw} (p : ℕ) → IsTied s uid home words
    → has_record (ptw_at words p) ≡ true → filed s home p ≡ Some (record_of s home p)
tied_filed {s} {home} {words} p tie has = filed_from_word s home words p tie.map has

-- a page that is away is on a record
pub stored_away : (word : Ptw) → is_away word ≡ true → has_record word ≡ true
stored_away Null away = cc
stored_away (Out r) away = refl
stored_away _ away = refl

pub plain_volume : {D : Type 0} (pages : D → List (List ℕ)) (s : Paging D) (v : ℕ) → v < length s.volumes.drives
    → v < length (plain pages s).disks
plain_volume pages s v lt = (omega (arith, length-map s.volumes.drives pages))

-- what the steps of each call go by: a page that leaves its frame, one that is dropped and one that is made
pub ruleset page_leaves = (tied_entry, tied_volume, tied_filed, leaving_within)

pub ruleset page_dropped = (tied_entry, tied_volume, tied_filed, stored_away, leaving_bound)

pub ruleset page_made = (home_used, none_free)

pub ruleset frame_filled = (bound_and_marked, all_cleared)

-- a record that a file map names
pub ruleset record_within = (filed_in_use, flag_within)

pub ruleset record_filed = (filed_in_use, record_is)
