-- What a change of a word and a frame does to the ties between tables, file maps and frames.
pub use Rattle.page_control.proofs.Facts.{Bound, Core, Entry, Free, Here, Home, IsMapOf, IsTableOf, Leaving, List, None, Null, Option, Out, Ptw, Some, Started, [], ap, binding_at, binding_is, bindings, bindings_lost, bindings_referred, bindings_started, bindings_with, bound_from_page, bound_idle, bound_inside, bound_page, bound_to, cases_eq, entry_at, false, filed_in_use, frame_at, frame_of, get_or, get_or-set_other, get_or-set_same, get_or_past, has_record, here_within, inl, inr, is_some, leaving_within, leb_tells, length, length-map, map_at, not_none, out_within, page_dropped, plain_volume, ptw_at, put, put_here, put_other, record_is, records_in, refl, seen_same, set, set_past, starts_with, sym, stored_away, tied_filed, tied_volume, true, uid_at, uid_of, vtoc_in, with_frame, with_record, within_from, ℕ, ◌<◌, ◌∙◌, ◌≡◌, ◌≢◌, ◌⊎◌}

abbrev pub number_of : Option (ℕ × ℕ) → ℕ
number_of None = 0
number_of (Some x) = x.1

page_same : {x : Option (ℕ × ℕ)} {uid p q : ℕ} → x ≡ Some (uid, p) → x ≡ Some (uid, q) → p ≡ q
page_same h i = sym (ap number_of h) ∙ ap number_of i

pub frame_same : (x : Option ℕ) (f g : ℕ) → x ≡ Some f → x ≡ Some g → f ≡ g
frame_same x f g h i = cc

-- frame f, which was bound to no page, is bound to page p, whose word named no frame
pub table_in : {old : List (Option (ℕ × ℕ))} {new : List (Option (ℕ × ℕ))} {uid : ℕ} {t : List Ptw} {u : List Ptw}
    {p f : ℕ} → IsTableOf old uid t → new ≡ set old f (Some (uid, p)) → u ≡ set t p (Here f)
    → frame_of (ptw_at t p) ≡ None → binding_at old f ≡ None → p < length t → f < length old → IsTableOf new uid u
table_in {old} {uid} {t} {p = p} {f = f} h bs ws word free pl fl =
    let at = get_or-set_same t p (Here f) Null pl in
    let here = get_or-set_same old f (Some (uid, p)) None fl in
    rw (bs, ws) (record {
      named = λ g q is. elim (cases_eq g f) [
        | inl e ↦ rw (← (page_same here (rw e at is)), at, e)
        | inr n ↦
            (let named = h.named g q (rw (get_or-set_other old f g (Some (uid, p)) None n) at is) in
            let other : q ≢ p = λ e. not_none (frame_of (ptw_at t q)) g (rw e word) named in
            rw (get_or-set_other t p q (Here f) Null other) named)
      ];
      back = λ g q is. elim (cases_eq q p) [
        | inl e ↦ rw (← (frame_same _ f g (ap frame_of at) (rw e at is)), here, e)
        | inr n ↦
            (let bound = h.back g q (rw (get_or-set_other t p q (Here f) Null n) at is) in
            let other : g ≢ f = λ e. not_none (binding_at old g) (uid, q) (rw e free) bound in
            rw (get_or-set_other old f g (Some (uid, p)) None other) bound)
      ];
    })

-- frame f, which the word of page p named, is bound to no page, and the word w names none
pub table_out : {old : List (Option (ℕ × ℕ))} (new : List (Option (ℕ × ℕ))) {uid : ℕ} {t : List Ptw} (u : List Ptw)
    (p f : ℕ) (w : Ptw) → IsTableOf old uid t → new ≡ set old f None → u ≡ set t p w → frame_of (ptw_at t p) ≡ Some f
    → frame_of w ≡ None → p < length t → f < length old → IsTableOf new uid u
table_out {old} new {uid} {t} u p f w h bs ws word none pl fl =
    let at = get_or-set_same t p w Null pl in
    rw (bs, ws) (record {
      named = λ g q is. elim (cases_eq g f) [
        | inl e ↦ absurd (not_none (binding_at (set old f None) g)
            (uid, q) (rw e (get_or-set_same old f None None fl)) is)
        | inr n ↦
            (let named = h.named g q (rw (get_or-set_other old f g None None n) at is) in
            let other : q ≢ p = λ e. n (frame_same (frame_of (ptw_at t q)) g f named (rw e word)) in
            rw (get_or-set_other t p q w Null other) named)
      ];
      back = λ g q is. elim (cases_eq q p) [
        | inl e ↦ absurd (not_none (frame_of (ptw_at (set t p w) q)) g (rw (e, at) none) is)
        | inr n ↦
            (let was = h.back g q (rw (get_or-set_other t p q w Null n) at is) in
            let other : g ≢ f = λ e. n (page_same was (rw e (h.back f p word))) in
            rw (get_or-set_other old f g None None other) was)
      ];
    })

-- the word of page p changes, and names what it named
pub table_word : {old : List (Option (ℕ × ℕ))} {uid : ℕ} {t : List Ptw} (u : List Ptw) (p : ℕ) (w : Ptw)
    → IsTableOf old uid t → u ≡ set t p w → frame_of w ≡ frame_of (ptw_at t p) → p < length t → IsTableOf old uid u
table_word {t} u p w h ws same pl =
    let frames : (q : ℕ) → frame_of (ptw_at (set t p w) q) ≡ frame_of (ptw_at t q) = λ q. elim (cases_eq q p) [
      | inl e ↦ rw (e, get_or-set_same t p w Null pl) same
      | inr n ↦ ap frame_of (get_or-set_other t p q w Null n)
    ] in
    rw ws (record { named = λ g q is. frames q ∙ h.named g q is; back = λ g q is. h.back g q (sym (frames q) ∙ is) })

-- page p has a record as before, and its word says so; where the word is `Out`, it names that record
pub map_word : {places : List (Option ℕ)} {t : List Ptw} {u : List Ptw} {p : ℕ} {w : Ptw} → IsMapOf places t
    → u ≡ set t p w → has_record w ≡ has_record (ptw_at t p) → ((r : ℕ) → w ≡ Out r → get_or places p None ≡ Some r)
    → p < length t → IsMapOf places u
map_word {t} {p = p} {w = w} h ws same out pl =
    let at : ptw_at (set t p w) p ≡ w = get_or-set_same t p w Null pl in
    rw ws (record {
      stored = λ q. elim (cases_eq q p) [
        | inl e ↦ rw e (h.stored p ∙ sym same ∙ ap has_record (sym at))
        | inr n ↦ h.stored q ∙ ap has_record (sym (get_or-set_other t p q w Null n))
      ];
      out = λ q r is. elim (cases_eq q p) [
        | inl e ↦ rw e (out r (rw (e, at) at is))
        | inr n ↦ h.out q r (sym (get_or-set_other t p q w Null n) ∙ is)
      ];
    })

-- page p gets a record, or loses it, and its word says so
pub map_place : {places : List (Option ℕ)} {now : List (Option ℕ)} {t : List Ptw} {u : List Ptw} {p : ℕ} {w : Ptw}
    {place : Option ℕ} → IsMapOf places t → now ≡ set places p place → u ≡ set t p w → is_some place ≡ has_record w
    → ((r : ℕ) → w ≢ Out r) → p < length t → get_or (set places p place) p None ≡ place → IsMapOf now u
map_place {places} {t} {p = p} {w = w} {place = place} h ps ws same out pl on =
    let at : ptw_at (set t p w) p ≡ w = get_or-set_same t p w Null pl in
    rw (ps, ws) (record {
      stored = λ q. elim (cases_eq q p) [
        | inl e ↦ rw e (ap is_some on ∙ same ∙ ap has_record (sym at))
        | inr n ↦ ap is_some (get_or-set_other places p q place None n) ∙ h.stored q
            ∙ ap has_record (sym (get_or-set_other t p q w Null n))
      ];
      out = λ q r is. elim (cases_eq q p) [
        | inl e ↦ absurd (out r (rw (e, at) at is))
        | inr n ↦ get_or-set_other places p q place None n ∙ h.out q r (sym (get_or-set_other t p q w Null n) ∙ is)
      ];
    })

-- the same for the words and frames of each call

pub table_taken : {bound : List (Option (ℕ × ℕ))} {uid : ℕ} {t u : List Ptw} (p : ℕ) {f : ℕ} → IsTableOf bound uid t
    → ptw_at t p ≡ Here f → u ≡ set t p (Leaving f) → IsTableOf bound uid u
table_taken {t = t} {u = u} p {f = f} h word ws = table_word u p (Leaving f) h ws (cc) (here_within t p f word)

pub table_back : {bound : List (Option (ℕ × ℕ))} {uid : ℕ} {t u : List Ptw} (p : ℕ) {f : ℕ} → IsTableOf bound uid t
    → ptw_at t p ≡ Leaving f → u ≡ set t p (Here f) → IsTableOf bound uid u
table_back {t = t} {u = u} p {f = f} h word ws = table_word u p (Here f) h ws (cc) (leaving_within t p f word)

pub frame_within : (core : Core) {f : ℕ} → (frame_at core f ≡ Free → ⊥) → f < length (bindings core)
frame_within core {f = f} other = rw (length-map core.frames bound_page) (within_from core.frames f Free other)

pub bound_within : (bound : List (Option (ℕ × ℕ))) (f uid p : ℕ) → binding_at bound f ≡ Some (uid, p) → f < length bound
bound_within bound f uid p is = within_from bound f None (λ none. not_none (binding_at bound f) (uid, p) none is)

pub table_read : (core new : Core) (uid : ℕ) (t u : List Ptw) (p f r : ℕ) → IsTableOf (bindings core) uid t
    → frame_at core f ≡ Started uid p → ptw_at t p ≡ Out r
    → new ≡ with_frame core f (Bound uid p false false) → u ≡ set t p (Here f) → IsTableOf (bindings new) uid u
table_read core new uid t u p f r h started word is ws = table_in h (cc (bindings_with core f (Bound uid p false
    false))) ws (ap frame_of word) (cc (binding_is core f)) (out_within t p r word) (frame_within core (λ e. cc))

pub table_lost : (core new : Core) (uid : ℕ) (t : List Ptw) (p f : ℕ) → IsTableOf (bindings core) uid t
    → frame_at core f ≡ Started uid p → new ≡ with_frame core f Free → IsTableOf (bindings new) uid t
table_lost core new uid t p f h started is = rw (ap bindings is ∙ seen_same bound_page core f Free (cc)) h

pub table_left : (core : Core) {new : Core} {uid : ℕ} {t u : List Ptw} (p : ℕ) {f : ℕ} (w : Ptw)
    → IsTableOf (bindings core) uid t → ptw_at t p ≡ Leaving f
    → frame_of w ≡ None → new ≡ with_frame core f Free → u ≡ set t p w → IsTableOf (bindings new) uid u
table_left core {new = new} {uid = uid} {t = t} {u = u} p {f = f} w h word none is ws =
    table_out (bindings new) u p f w h (cc (bindings_with core f Free)) ws (ap frame_of word) none
    (leaving_within t p f word) (bound_within (bindings core) f uid p (h.back f p (ap frame_of word)))

pub table_created : (core new : Core) (uid : ℕ) (t u : List Ptw) (p f : ℕ) → IsTableOf (bindings core) uid t → frame_at
    core f ≡ Free → f < length core.frames → ptw_at t p ≡ Null → p < length t → new ≡ with_frame core f (Bound uid p
    true true) → u ≡ set t p (Here f) → IsTableOf (bindings new) uid u
table_created core new uid t u p f h free within word pl is ws =
    table_in h (cc (bindings_with core f (Bound uid p true true))) ws
    (ap frame_of word) (cc (binding_is core f)) pl (rw (length-map core.frames bound_page) within)

pub map_taken : {places : List (Option ℕ)} {t u : List Ptw} (p : ℕ) {f : ℕ} → IsMapOf places t → ptw_at t p ≡ Here f → u
    ≡ set t p (Leaving f) → IsMapOf places u
map_taken {t = t} {u = u} p {f = f} h word ws = map_word h ws (cc) (λ r i. cc) (here_within t p f word)

pub map_back : {places : List (Option ℕ)} {t u : List Ptw} (p : ℕ) {f : ℕ}
    → IsMapOf places t → ptw_at t p ≡ Leaving f → u ≡ set t p (Here f) → IsMapOf places u
map_back {t = t} {u = u} p {f = f} h word ws = map_word h ws (cc) (λ r i. cc) (leaving_within t p f word)

pub map_read : {places : List (Option ℕ)} {now : List (Option ℕ)} {t : List Ptw} {u : List Ptw} (p f : ℕ) {r : ℕ}
    → IsMapOf places t → now ≡ places → ptw_at t p ≡ Out r → u ≡ set t p (Here f) → IsMapOf now u
map_read {t} {u = u} p f {r = r} h is word ws = rw is (map_word h ws (cc) (λ q i. cc) (out_within t p r word))
