-- What the calls on pages make of the flat store that is shown.
use Rattle.machine_tables.proofs.Prelude.{◌≡◌, ◌+◌, ◌*◌, ℕ, true, false, subst, ◌%◌, List, IfOk, Result, Ok, Err, Plan, Reference, alters, new_word, written, Store, Frame, after_reference, bound_page, frame_at, is_bound, Left, Plain, frame_in, number_in, referred, uid_in, get_or-set_same, page_left, Shows, Stored, page_in, page_or_zero, IsFaithful, through, without_left, Storage, old_word, Parts, shown, with_pages_of, arith}
use Rattle.machine_tables.proofs.PageLaws.{bound_within}
use Rattle.machine_tables.proofs.RefusalLaws.{shows_of}

faithful_of : {D : Type 0} (drive : D → List (List ℕ)) (p : Plan) (t : Store) (st : Stored D) → Shows drive p t st
    → IsFaithful p t (shown drive st)
faithful_of drive p t st h = assumption

-- by what a call of the store says
pub shown_by : {D : Type 0} (drive : D → List (List ℕ)) (old : Parts D) (before after : Stored D) (p : Plan)
    (t u : Store) → shown drive before ≡ old.state.store → (Shows drive p t before → Shows drive p u after)
    → IsFaithful p t old.state.store → IsFaithful p u (shown drive after)
shown_by drive old before after p t u same call h = grind (arith, faithful_of, shows_of)

-- the page in a bound frame
page_told : (x : Frame) → is_bound x ≡ true → ◌≡◌ {A = ℕ × ℕ} (uid_in x, number_in x) (page_or_zero (bound_page x))
page_told x h1 = grind arith

pub page_of_frame : {D : Type 0} (drive : D → List (List ℕ)) (old : Parts D) (before : Stored D) (f : ℕ)
    → shown drive before ≡ old.state.store → is_bound (frame_at old.state.store.pages.core f) ≡ true
    → ◌≡◌ {A = ℕ × ℕ} (uid_in (frame_at before.segs.pages.core f), number_in (frame_at before.segs.pages.core f))
    (page_in old.state.store f)
page_of_frame drive old before f same bound = cc (page_told (frame_at old.state.store.pages.core f) bound)

-- a word is written through a frame
pub written_shown : {D : Type 0} (drive : D → List (List ℕ)) (old : Parts D) (before after : Stored D) (p : Plan)
    (t : Store) (f at w : ℕ) → shown drive before ≡ old.state.store
    → is_bound (frame_at old.state.store.pages.core f) ≡ true
    → (Shows drive p t before → Shows drive p (written t (uid_in (frame_at before.segs.pages.core f))
    (1024 * number_in (frame_at before.segs.pages.core f) + at) w) after) → IsFaithful p t old.state.store
    → IsFaithful p (written t (page_in old.state.store f).0 (1024 * (page_in old.state.store f).1 + at) w)
    (shown drive after)
written_shown drive old before after p t f at w same bound call h = grind (arith, page_of_frame, shown_by)

-- a page has left its frame
left_same : (E : Type 0) (t : Store) (page : ℕ × ℕ) (left : Left)
    → page_left {E = E} t page.0 page.1 (Ok left) ≡ without_left left page t
left_same E t page left = grind arith

pub left_shown : {D E : Type 0} (drive : D → List (List ℕ)) (old : Parts D) (before after : Stored D) (f uid : ℕ)
    (r : Result Left E) → shown drive before ≡ old.state.store
    → is_bound (frame_at old.state.store.pages.core f) ≡ true → uid_in (frame_at before.segs.pages.core f) ≡ uid
    → ((p : Plan) (t : Store) → Shows drive p t before
    → Shows drive p (page_left t uid (number_in (frame_at before.segs.pages.core f)) r) after)
    → IfOk r (λ left. (p : Plan) (t : Store) → IsFaithful p t old.state.store
    → IsFaithful p (without_left left (page_in old.state.store f) t) (shown drive after))
left_shown drive old before after f uid (Err e) same bound own call = tt
left_shown {E = E} drive old before after f uid (Ok left) same bound own call = λ p t h.
    subst (λ (x : Store). IsFaithful p x (shown drive after)) (left_same E t (page_in old.state.store f) left)
    (subst (λ (x : ℕ × ℕ). IsFaithful p (page_left {E = E} t x.0 x.1 (Ok left)) (shown drive after))
    (cc (page_of_frame drive old before f same bound)) (shown_by drive old before after p t _ same (call p t) h))

-- ---- a reference through a frame

still_bound : (x : Frame) → bound_page (after_reference x false) ≡ bound_page x
still_bound x = grind arith

-- once its word was read
page_read : (s : Plain) (f : ℕ) → is_bound (frame_in s f) ≡ true
    → bound_page (frame_in (referred s f false) f) ≡ bound_page (frame_in s f)
page_read s f bound = grind (arith, get_or-set_same, bound_within, still_bound)

pub through_shown : {D : Type 0} (old mid : Parts D) (after : Storage) (f w : ℕ) (r : Reference) (p : Plan) (t : Store)
    → is_bound (frame_in old.state.store.pages f) ≡ true
    → mid ≡ with_pages_of old (referred old.state.store.pages f false)
    → alters r.kind ≡ true → w ≡ new_word (old_word old.state.store.pages f r) r.kind
    → (IsFaithful p t mid.state.store → IsFaithful p
    (written t (page_in mid.state.store f).0 (1024 * (page_in mid.state.store f).1 + r.offset % 1024) w) after)
    → IsFaithful p t mid.state.store → IsFaithful p (through old.state f r t) after
through_shown old mid after f w r p t bound read writes word write h = grind (arith, page_read)

pub not_through : {D : Type 0} (old : Parts D) (after : Storage) (f : ℕ) (r : Reference) (p : Plan) (t : Store)
    → alters r.kind ≡ false → IsFaithful p t after → IsFaithful p (through old.state f r t) after
not_through old after f r p t none h = rw none h
